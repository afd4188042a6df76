-- `tdcp::displacement::delta_between` meets its contract. Assumes nothing.
use mathlib.Core.Path.{◌∙◌}
use borrow.Author.Rules.{rules}
use Rattle.tdcp.proofs.DisplacementSound.{promised}
use Rattle.tdcp.proofs.RatedLaws.{plain-is, plain-map}
use Rattle.tdcp.proofs.displacement.delta_between.Goals as goal

pub returns : goal.returns
returns c = promised _ _ (plain-map _ _ (λ d v q. search rules) c.map.ensures.cases ∙ plain-is _ c.displaced_by.ensures.answer)
