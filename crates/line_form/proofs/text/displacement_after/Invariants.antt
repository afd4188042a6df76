-- `line_form::text::displacement_after` meets its contract. Assumes nothing.
use Prim.Native.Nat.{◌-◌}
use lib.ListN.{length}
use Rattle.line_form.proofs.TextLaws.{Going}
use Rattle.line_form.proofs.text.displacement_after.Given as goal

abbrev pub invariant-loop-at : goal.invariant-loop-at
invariant-loop-at l = Going l.text l.from l.at l.m l.n l.then.signals l.then.states l.then.floats l.now.signals l.now.states l.now.floats

abbrev pub decreases-loop-at : goal.decreases-loop-at
decreases-loop-at l = length l.text - l.at
