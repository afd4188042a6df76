-- `corrections_directory::element::U64Element::all_in_reach` meets its contract. Assumes nothing.
use mathlib.Core.Path.{◌≡◌}
use mathlib.Core.Bool.{◌&&◌}
use Prim.Native.Nat.{◌≤◌, ◌^◌}
use lib.Dec.{ltb}
use lib.ListN.{take, drop}
use Rattle.lists.specs.Walk.{every}
use Rattle.corrections_directory.specs.Directory.{floats, in_reach, reading_rows}
use Rattle.corrections_directory.proofs.element.U64Element.all_in_reach.Given as goal

abbrev pub invariant-loop-i : goal.invariant-loop-i
invariant-loop-i l = (l.i ≤ l.count) × ((ltb l.sums (2 ^ 63) && every in_reach (drop l.i (take l.count (reading_rows (floats l.times) (floats l.metres))))) ≡ every in_reach (take l.count (reading_rows (floats l.times) (floats l.metres))))
