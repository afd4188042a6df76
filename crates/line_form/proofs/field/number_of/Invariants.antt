-- `line_form::field::number_of` meets its contract. Assumes nothing.
use Prim.Native.Nat.{◌-◌}
use lib.ListN.{length}
use Rattle.line_form.proofs.FieldLaws.{Reading}
use Rattle.line_form.proofs.field.number_of.Given as goal

abbrev pub invariant-loop-b : goal.invariant-loop-b
invariant-loop-b l = Reading l.limit l.s l.n l.b-index
