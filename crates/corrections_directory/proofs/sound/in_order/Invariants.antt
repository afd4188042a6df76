-- `corrections_directory::sound::in_order` meets its contract. Assumes nothing.
use Rattle.corrections_directory.proofs.OrderLaws.{Ordering}
use Rattle.corrections_directory.proofs.sound.in_order.Given as goal

abbrev pub invariant-loop-i : goal.invariant-loop-i
invariant-loop-i g l = Ordering l.table.block_first.now l.table.block_samples.now (g.T.Element.floats l.table.table_time.now) l.table.blocks l.i
