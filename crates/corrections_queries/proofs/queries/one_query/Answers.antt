-- `corrections_queries::queries::one_query` meets its contract. Assumes nothing.
use Rattle.corrections_queries.proofs.CallLaws.{one-refused, one-answered}
use Rattle.corrections_queries.proofs.queries.one_query.Goals as goal

pub returns-in-Err : goal.returns-in-Err
returns-in-Err c = one-refused _ _ _ _ _ _ _ _ _ _ _ _ _ c.in-Err.is c.number.ensures c.queries-answer.ensures.0

pub returns-in-Ok : goal.returns-in-Ok
returns-in-Ok c = one-answered _ _ _ _ _ _ _ _ _ _ _ _ _ c.in-Ok.is c.queries-answer.ensures
