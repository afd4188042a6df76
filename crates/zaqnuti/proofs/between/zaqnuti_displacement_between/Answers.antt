-- `zaqnuti::between::zaqnuti_displacement_between` meets its contract. Assumes nothing.
use Rattle.tdcp_columns.proofs.AnswerLaws.{answers}
use Rattle.zaqnuti.proofs.between.zaqnuti_displacement_between.Goals as goal

pub returns : goal.returns
returns c = let a = answers _ c.columns_displaced-answer.ensures c.answer_into.ensures in
    record { leaves = record { number_is = a.leaves.number_is; delta-is = a.leaves.delta-is; counts-are = a.leaves.counts-are }; accepted = a.accepted }
