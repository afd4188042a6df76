-- A query of an old table whose bands were widened answers as it did. Assumes nothing.
use mathlib.Core.Path.{◌≡◌}
use mathlib.Core.List.{List}
use Prim.Native.Nat.{ℕ}
use lib.Ieee.{Float}
use Rattle.numeric.specs.Rules.{ruled}
use Rattle.corrections_table.specs.Table.{lent_samples, capacity, table_of}
use Rattle.corrections_table.specs.Widen.{widened}
use Rattle.corrections_table.proofs.WidenLaws.{Roomy, table-widened, fits-widened}
use Rattle.corrections_query.specs.Query.{guarded, query_of}

-- whatever the new column's length, as it has room for the bands
pub query_widened : (n : ℕ) (cs vs narrow wide : List ℕ) (ts xs : List Float) → Roomy n narrow wide → (gap : Float) (c v b : ℕ) (t : Float)
    → query_of n (capacity (lent_samples cs vs (widened n narrow wide) ts xs)) (table_of n (lent_samples cs vs (widened n narrow wide) ts xs)) gap c v b t
    ≡ query_of n (capacity (lent_samples cs vs narrow ts xs)) (table_of n (lent_samples cs vs narrow ts xs)) gap c v b t
unfolding query_of guarded ruled
query_widened n cs vs narrow wide ts xs r gap c v b t = rw (fits-widened n cs vs narrow wide ts xs r, table-widened n cs vs narrow wide ts xs r)
