-- `records::carriers::Carriers::is_sound` meets its contract. Assumes nothing.
use mathlib.Core.Path.{◌≡◌}
use Prim.Native.Nat.{◌≤◌, ◌-◌}
use lib.ListN.{length, take, drop}
use Rattle.lists.specs.Walk.{every}
use Rattle.records.specs.Record.{sound_carrier}
use Rattle.records.specs.Lent.{lent_carriers}
use Rattle.records.proofs.carriers.Carriers.is_sound.Given as goal

abbrev pub invariant-loop-i : goal.invariant-loop-i
invariant-loop-i l = let cs = lent_carriers l.self in (l.i ≤ length l.self.signals.now) × (every sound_carrier (drop l.i (take (length l.self.signals.now) cs)) ≡ every sound_carrier cs)
