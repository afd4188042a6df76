-- `corrections_query::query::line_of` meets its contract. Assumes nothing.
use mathlib.Core.Path.{refl}
use Rattle.corrections_query.specs.Query.{through}
use Rattle.corrections_query.proofs.query.line_of.Goals as goal

pub returns : goal.returns
unfolding through
returns c = refl
