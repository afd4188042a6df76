-- `wls::valid::fix_settings_pass` meets its contract. Assumes nothing.
use Rattle.wls.specs.Valid.{fix_settings_pass}
use Rattle.wls.proofs.valid.fix_settings_pass.Goals as goal

pub returns : goal.returns
unfolding fix_settings_pass
returns c = cc
