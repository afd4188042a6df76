-- `numeric::sight::geometry` meets its contract. Assumes nothing.
use mathlib.Core.Path.{sym, ◌∙◌}
use Rattle.numeric.proofs.SightLaws.{not_given_lem, given}
use Rattle.numeric.proofs.sight.geometry.Goals as goal

pub returns-then-is_on_receiver : goal.returns-then-is_on_receiver
returns-then-is_on_receiver c = not_given_lem _ _ c.sight_of-s.ensures (sym c.is_on_receiver.ensures ∙ c.if-is_on_receiver.true)

pub returns : goal.returns
returns c = given _ _ c.sight_of-s.ensures (sym c.is_on_receiver.ensures ∙ c.if-is_on_receiver.false)
