-- `corrections_table::add::insert_all` meets its contract. Assumes nothing.
use Rattle.corrections_table.proofs.InsertLaws.{Inserting}
use Rattle.corrections_table.specs.Table.{lent_samples}
use Rattle.corrections_table.proofs.add.insert_all.Given as goal

abbrev pub invariant-loop-i : goal.invariant-loop-i
invariant-loop-i l = Inserting l.n l.m l.new (lent_samples l.initial.cs l.initial.vs l.initial.bs l.initial.ts l.initial.xs) (lent_samples l.cs l.vs l.bs l.ts l.xs) l.i
