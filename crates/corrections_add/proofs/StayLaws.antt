-- How many old samples of the last block stay before a new one. Assumes nothing.
use mathlib.Core.Path.{◌≡◌}
use mathlib.Core.Bool.{true}
use mathlib.Core.List.{List}
use Prim.Native.Nat.{ℕ, ◌≤◌, ◌<◌}
use lib.Ieee.{Float}
use Rattle.exact.specs.Float.{bits}
use lib.ListN.{get_or}
use Rattle.corrections_table.specs.Table.{time_before}

-- of the first i times those from p on come after the time t
pub record Staying (ts : List ℕ) (first i : ℕ) (t : Float) (p : ℕ) : Type 0 where
  pub from : first ≤ p
  pub few : p ≤ i
  pub later : (x : ℕ) → p ≤ x → x < i → time_before t (bits (get_or ts x 0)) ≡ true
