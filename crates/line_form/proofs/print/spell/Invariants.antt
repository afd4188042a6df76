-- `line_form::print::spell` meets its contract. Assumes nothing.
use Rattle.line_form.proofs.PrintLaws.{Spelling}
use Rattle.line_form.proofs.print.spell.Given as goal

abbrev pub invariant-loop-i : goal.invariant-loop-i
invariant-loop-i l = Spelling l.initial.out l.at l.k l.base l.n l.out l.i l.rest

abbrev pub decreases-loop-i : goal.decreases-loop-i
decreases-loop-i l = l.i
