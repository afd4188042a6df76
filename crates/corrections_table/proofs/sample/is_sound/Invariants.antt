-- `corrections_table::sample::is_sound` meets its contract. Assumes nothing.
use mathlib.Core.Path.{◌≡◌}
use Prim.Native.Nat.{◌≤◌, ◌+◌, ◌*◌, ◌^◌}
use lib.ListN.{take, drop}
use Rattle.corrections_table.specs.Table.{lent_samples, rows, sound_table}
use Rattle.corrections_table.proofs.Places.{time_key}
use Rattle.corrections_table.proofs.TableLaws.{sound_from}
use Rattle.corrections_table.proofs.sample.is_sound.Given as goal

abbrev pub invariant-loop-i : goal.invariant-loop-i
invariant-loop-i l = (l.i ≤ l.n) × (sound_from (l.signal * 2 ^ 64 + time_key l.time) (drop l.i (take l.n (rows (lent_samples l.cs l.vs l.bs l.ts l.xs)))) ≡ sound_table (take l.n (rows (lent_samples l.cs l.vs l.bs l.ts l.xs))))
