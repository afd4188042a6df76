-- `corrections_query::search::front_of` meets its contract. Assumes nothing.
use Prim.Native.Nat.{◌+◌, ◌<◌}
use Rattle.corrections_query.specs.Steps.{Halving, is_before}
use Rattle.corrections_query.proofs.search.front_of.Given as goal

abbrev pub invariant-loop-len : goal.invariant-loop-len
invariant-loop-len l = Halving (is_before l.table_time l.time) l.first l.end l.lo (l.lo + l.len) × (0 < l.len)

abbrev pub decreases-loop-len : goal.decreases-loop-len
decreases-loop-len l = l.len
