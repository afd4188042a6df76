-- `wire::columns::fill` meets its contract: its loop stores one record after the other. Assumes nothing.
use Prim.Native.Nat.{◌-◌}
use Rattle.wire.specs.Columns.{record_columns}
use Rattle.wire.proofs.ColumnLaws.{Filling}
use Rattle.wire.proofs.columns.fill.Given as goal

abbrev pub invariant-loop-i : goal.invariant-loop-i
invariant-loop-i l = Filling l.s l.n (record_columns l.initial.constellation l.initial.svid l.initial.band l.initial.state l.initial.floats) (record_columns l.constellation l.svid l.band l.state l.floats) l.i
