-- `zaqnuti::estimates::zaqnuti_position` meets its contract. Assumes nothing.
use Rattle.wls_columns.proofs.FixLaws.{position-answers}
use Rattle.zaqnuti.proofs.estimates.zaqnuti_position.Goals as goal

pub returns : goal.returns
returns c = position-answers _ _ _ _ c.columns_fix-answer.ensures c.position_into.ensures
