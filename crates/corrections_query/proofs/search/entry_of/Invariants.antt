-- `corrections_query::search::entry_of` meets its contract. Assumes nothing.
use Prim.Native.Nat.{◌+◌, ◌<◌}
use Rattle.corrections_query.specs.Steps.{Halving, is_up_to}
use Rattle.corrections_query.proofs.search.entry_of.Given as goal

abbrev pub invariant-loop-len : goal.invariant-loop-len
invariant-loop-len l = Halving (is_up_to l.block_constellation l.block_svid l.block_band l.signal) 1 l.blocks (l.lo + 1) (l.lo + l.len) × (0 < l.len)

abbrev pub decreases-loop-len : goal.decreases-loop-len
decreases-loop-len l = l.len
