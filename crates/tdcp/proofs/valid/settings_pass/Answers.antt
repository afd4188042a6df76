-- `tdcp::valid::settings_pass` meets its contract. Assumes nothing.
use Rattle.tdcp.specs.Valid.{settings_pass}
use Rattle.tdcp.proofs.valid.settings_pass.Goals as goal

pub returns : goal.returns
unfolding settings_pass
returns c = cc
