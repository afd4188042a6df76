-- `zaqnuti::round::zaqnuti_round` meets its contract. Assumes nothing.
use Rattle.wls_columns.proofs.StepLaws.{step-answers}
use Rattle.zaqnuti.proofs.round.zaqnuti_round.Goals as goal

pub returns : goal.returns
returns c = step-answers c.columns_step.ensures c.step_into.ensures
