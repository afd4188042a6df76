-- `corrections_forget::retain::move_down` meets its contract. Assumes nothing.
use Rattle.corrections_forget.proofs.MoveLaws.{Moving}
use Rattle.corrections_forget.proofs.retain.move_down.Given as goal

abbrev pub invariant-loop-i : goal.invariant-loop-i
invariant-loop-i l = Moving l.to l.from l.initial.column l.column l.i
