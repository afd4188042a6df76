-- `line_form::split::fields_of` meets its contract. Assumes nothing.
use Prim.Native.Nat.{◌-◌}
use Rattle.line_form.proofs.PartLaws.{Parting}
use Rattle.line_form.proofs.split.fields_of.Given as goal

abbrev pub invariant-loop-k : goal.invariant-loop-k
invariant-loop-k l = Parting l.line l.from l.at l.k
