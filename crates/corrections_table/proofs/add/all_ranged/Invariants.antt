-- `corrections_table::add::all_ranged` meets its contract. Assumes nothing.
use mathlib.Core.Path.{◌≡◌}
use Prim.Native.Nat.{◌≤◌}
use lib.ListN.{drop, take}
use Rattle.lists.specs.Walk.{every}
use Rattle.corrections_table.specs.Table.{ranged}
use Rattle.corrections_table.proofs.add.all_ranged.Given as goal

abbrev pub invariant-loop-i : goal.invariant-loop-i
invariant-loop-i l = (l.i ≤ l.m) × (every ranged (drop l.i (take l.m l.new.samples)) ≡ every ranged (take l.m l.new.samples))
