-- `tdcp::valid::is_uncertified` meets its contract. Assumes nothing.
use mathlib.Core.Path.{ap₂, ◌∙◌}
use mathlib.Core.Bool.{Bool, not, ◌&&◌}
use Rattle.tdcp.proofs.FrontLaws.{has-any}
use Rattle.tdcp.proofs.valid.is_uncertified.Goals as goal

pub returns-in-City : goal.returns-in-City
returns-in-City c = rw c.in-City.is (ap₂ (λ (p q : Bool). not (p && q)) (c.contains.ensures.value ∙ has-any 1 _) (c.contains-in-City.ensures.value ∙ has-any 6 _))
