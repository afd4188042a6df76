-- `line_form::split::find` meets its contract. Assumes nothing.
use Prim.Native.Nat.{◌+◌, ◌-◌, ◌≤◌}
use mathlib.Core.Path.{◌≡◌}
use lib.ListN.{length, drop}
use Rattle.line_form.specs.Steps.{count_before}
use Rattle.line_form.proofs.split.find.Given as goal

abbrev pub invariant-loop-i : goal.invariant-loop-i
invariant-loop-i l = (l.at ≤ l.i) × (l.i ≤ length l.s) × (l.i + count_before l.c (drop l.i l.s) ≡ l.at + count_before l.c (drop l.at l.s))
