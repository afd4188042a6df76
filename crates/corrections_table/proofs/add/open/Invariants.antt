-- `corrections_table::add::open` meets its contract. Assumes nothing.
use Rattle.corrections_table.proofs.ColumnLaws.{Opening}
use Rattle.corrections_table.proofs.add.open.Given as goal

abbrev pub invariant-loop-i : goal.invariant-loop-i
invariant-loop-i g l = Opening l.p l.n l.initial.d l.d l.i
