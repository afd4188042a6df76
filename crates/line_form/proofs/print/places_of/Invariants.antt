-- `line_form::print::places_of` meets its contract. Assumes nothing.
use Rattle.line_form.proofs.PrintLaws.{Placing}
use Rattle.line_form.proofs.print.places_of.Given as goal

abbrev pub invariant-loop-rest : goal.invariant-loop-rest
invariant-loop-rest l = Placing l.n l.j l.rest

abbrev pub decreases-loop-rest : goal.decreases-loop-rest
decreases-loop-rest l = l.rest
