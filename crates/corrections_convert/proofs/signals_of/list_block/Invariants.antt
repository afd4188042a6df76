-- `corrections_convert::signals_of::list_block` meets its contract. Assumes nothing.
use Prim.Native.Nat.{◌≤◌}
use Rattle.corrections_convert.specs.Steps.{Spread}
use Rattle.corrections_convert.proofs.signals_of.list_block.Given as goal

abbrev pub invariant-loop-i : goal.invariant-loop-i
invariant-loop-i l = (l.first ≤ l.i) × ((l.i ≤ l.end) × (Spread l.c l.first l.i l.initial.constellation l.constellation × (Spread l.v l.first l.i l.initial.svid l.svid × Spread l.b l.first l.i l.initial.band l.band)))
