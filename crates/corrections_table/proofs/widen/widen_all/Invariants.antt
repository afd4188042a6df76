-- `corrections_table::widen::widen_all` meets its contract. Assumes nothing.
use Rattle.corrections_table.proofs.WidenLaws.{Widening-so-far}
use Rattle.corrections_table.proofs.widen.widen_all.Given as goal

abbrev pub invariant-loop-i : goal.invariant-loop-i
invariant-loop-i l = Widening-so-far l.n l.narrow l.initial.wide l.wide l.i
