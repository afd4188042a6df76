-- `corrections_query::search::entry_within` meets its contract. Assumes nothing.
use Prim.Native.Nat.{◌+◌, ◌^◌, ◌<◌, ◌≤◌}
use Rattle.corrections_query.specs.Steps.{Halving, is_up_to}
use Rattle.corrections_query.proofs.search.entry_within.Given as goal

abbrev pub invariant-loop-left : goal.invariant-loop-left
invariant-loop-left l = Halving (is_up_to l.block_constellation l.block_svid l.block_band l.signal) (l.from + 1) (l.from + l.size) (l.lo + 1) (l.lo + l.len) × ((0 < l.len) × (l.len ≤ 2 ^ l._left))
