-- `zaqnuti::estimates::zaqnuti_fix` meets its contract. Assumes nothing.
use Rattle.wls_columns.proofs.FixLaws.{fix-answers}
use Rattle.zaqnuti.proofs.estimates.zaqnuti_fix.Goals as goal

pub returns : goal.returns
returns c = fix-answers _ _ _ _ c.columns_fix-answer.ensures c.fix_into.ensures
