-- `corrections_queries::queries::is_short` meets its contract. Assumes nothing.
use mathlib.Core.Path.{refl}
use Rattle.corrections_queries.specs.Queries.{places_short}
use Rattle.corrections_queries.proofs.queries.is_short.Goals as goal

pub returns : goal.returns
unfolding places_short
returns c = refl
