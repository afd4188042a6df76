-- `line_form::field::pattern_of` meets its contract. Assumes nothing.
use Prim.Native.Nat.{◌-◌}
use lib.ListN.{length}
use Rattle.line_form.proofs.FieldLaws.{Hexing}
use Rattle.line_form.proofs.field.pattern_of.Given as goal

abbrev pub invariant-loop-b : goal.invariant-loop-b
invariant-loop-b l = Hexing l.s l.n l.b-index
