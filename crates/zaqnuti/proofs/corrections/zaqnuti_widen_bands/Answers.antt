-- `zaqnuti::corrections::zaqnuti_widen_bands` meets its contract. Assumes nothing.
use mathlib.Core.Path.{refl}
use Rattle.zaqnuti.proofs.CorrectionLaws.{widens-number}
use Rattle.zaqnuti.proofs.corrections.zaqnuti_widen_bands.Goals as goal

pub returns : goal.returns
returns c = let w = c.widen_bands.ensures in
    widens-number _ _ _ _ _ w.0 w.1 _ _ refl c.answer_number.ensures
