-- `records::screen::keep_into` meets its contract: the first loop puts the detectors' patterns into an array, and the second gathers the columns of the pairs
-- that it keeps. Assumes nothing.
use mathlib.Core.Path.{◌≡◌}
use Prim.Native.Nat.{◌≤◌, ◌-◌}
use lib.ListN.{take, length}
use Rattle.records.specs.Screen.{detectors}
use Rattle.records.proofs.ScreenLaws.{Gathered}
use Rattle.records.proofs.screen.keep_into.Given as goal

abbrev pub invariant-loop-i : goal.invariant-loop-i
invariant-loop-i l = (l.i ≤ l.n) × (length l.d ≡ 64) × (take l.i l.d ≡ detectors (take l.i l.p.pair))

abbrev pub invariant-loop-j : goal.invariant-loop-j
invariant-loop-j l = Gathered l.screen l.c l.p.pair l.n l.x l.y l.z l.constellation l.elevation l.observed l.k l.j
