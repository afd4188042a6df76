-- `records::screen::clocks_of` meets its contract: its loop gives the constellations one after the other. Assumes nothing.
use mathlib.Core.Path.{◌≡◌}
use Prim.Native.Nat.{◌≤◌, ◌-◌}
use lib.ListN.{length, drop, take}
use Rattle.lists.specs.Walk.{fold}
use Rattle.clocks.specs.Clocks.{given, clocks_of}
use Rattle.records.proofs.screen.clocks_of.Given as goal

abbrev pub invariant-loop-c : goal.invariant-loop-c
invariant-loop-c l = fold given l.k (drop l.c-index (take (length l.constellation) l.constellation)) ≡ clocks_of l.constellation
