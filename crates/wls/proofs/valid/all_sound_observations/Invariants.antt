-- `wls::valid::all_sound_observations` meets its contract. Assumes nothing.
use mathlib.Core.Path.{◌≡◌}
use Prim.Native.Nat.{◌≤◌}
use lib.ListN.{drop, take}
use Rattle.lists.specs.Walk.{every}
use Rattle.records.specs.Record.{sound_observation}
use Rattle.wls.proofs.valid.all_sound_observations.Given as goal

abbrev pub invariant-loop-i : goal.invariant-loop-i
invariant-loop-i l = (l.i ≤ l.o.count) × (every sound_observation (drop l.i (take l.o.count l.o.observation)) ≡ every sound_observation (take l.o.count l.o.observation))
