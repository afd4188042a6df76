-- `corrections_query::search::front_within` meets its contract. Assumes nothing.
use Prim.Native.Nat.{◌+◌, ◌^◌, ◌<◌, ◌≤◌}
use Rattle.corrections_query.specs.Steps.{Halving, is_before}
use Rattle.corrections_query.proofs.search.front_within.Given as goal

abbrev pub invariant-loop-left : goal.invariant-loop-left
invariant-loop-left l = Halving (is_before l.table_time l.time) l.from (l.from + l.size) l.lo (l.lo + l.len) × ((0 < l.len) × (l.len ≤ 2 ^ l._left))
