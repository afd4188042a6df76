-- `records::mask::clocks_of` meets its contract: its loop gives the constellations one after the other. Assumes nothing.
use mathlib.Core.Path.{◌≡◌}
use Prim.Native.Nat.{◌≤◌, ◌-◌}
use lib.ListN.{drop, take}
use Rattle.lists.specs.Walk.{fold}
use Rattle.clocks.specs.Clocks.{given, clocks_of}
use Rattle.records.specs.Mask.{constellations}
use Rattle.records.proofs.mask.clocks_of.Given as goal

abbrev pub invariant-loop-i : goal.invariant-loop-i
invariant-loop-i l = (l.i ≤ l.n) × (fold (λ s x. given s x.constellation) l.k (drop l.i (take l.n l.o.observation)) ≡ clocks_of (constellations (take l.n l.o.observation)))
