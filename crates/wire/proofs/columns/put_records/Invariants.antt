-- `wire::columns::put_records` meets its contract: its loop writes one record after the other. Assumes nothing.
use Prim.Native.Nat.{◌-◌}
use Rattle.wire.specs.Lent.{columns_of}
use Rattle.wire.proofs.ColumnLaws.{Emitting}
use Rattle.wire.proofs.columns.put_records.Given as goal

abbrev pub invariant-loop-i : goal.invariant-loop-i
invariant-loop-i l = Emitting (columns_of l.columns) l.columns.count l.initial.out l.out l.i
