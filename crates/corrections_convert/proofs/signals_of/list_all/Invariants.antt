-- `corrections_convert::signals_of::list_all` meets its contract. Assumes nothing.
use mathlib.Core.Path.{◌≡◌}
use Prim.Native.Nat.{◌≤◌}
use Rattle.corrections_convert.specs.Steps.{Laid, start_of}
use Rattle.corrections_convert.proofs.signals_of.list_all.Given as goal

abbrev pub invariant-loop-i : goal.invariant-loop-i
invariant-loop-i l = (l.i ≤ l.blocks) × ((l.place ≡ start_of l.block_samples l.i) × (Laid l.block_constellation l.block_samples l.i l.initial.constellation l.constellation × (Laid l.block_svid l.block_samples l.i l.initial.svid l.svid × Laid l.block_band l.block_samples l.i l.initial.band l.band)))
