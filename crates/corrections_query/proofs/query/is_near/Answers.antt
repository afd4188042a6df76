-- `corrections_query::query::is_near` meets its contract. Assumes nothing.
use Rattle.corrections_query.specs.Query.{near}
use Rattle.corrections_query.proofs.query.is_near.Goals as goal

pub returns : goal.returns
unfolding near
returns c = rw c.abs.ensures
