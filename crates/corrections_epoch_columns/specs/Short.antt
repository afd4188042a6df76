-- Columns that are shorter than their records need. Definitions only.
use Rattle.std.specs.Prelude.{ℕ, ◌*◌, Bool, ◌||◌, List, ltb, length, Float}

-- more than 64 ranges, or a column is shorter than they need
unfoldable pub ranges_short : ℕ → List ℕ → List ℕ → List ℕ → List Float → Bool
ranges_short k rc rv rb rp = ltb 64 k || ltb (length rc) k || ltb (length rv) k || ltb (length rb) k || ltb (length rp) k

-- more than 64 states, or a column is shorter than they need
unfoldable pub states_short : ℕ → List ℕ → List ℕ → List ℕ → List Float → Bool
states_short m sc sv sb sf = ltb 64 m || ltb (length sc) m || ltb (length sv) m || ltb (length sb) m || ltb (length sf) (m * 8)
