-- Rows of nine patterns in a lent list, and what a step leaves of a list, place by place. Definitions only.
use Rattle.std.specs.Prelude.{◌≡◌, List, Bool, true, ◌&&◌, ℕ, ◌+◌, ◌*◌, ◌≤◌, ◌<◌, get_or, Float}
use Rattle.exact.specs.Float.{bits}
use Rattle.track_tridiagonal.specs.Tridiagonal.{Equations, solution, axis_solved}

-- the float whose pattern is at a place
abbrev pub float_at : List ℕ → ℕ → Float
float_at w k = bits (get_or w k 0)

-- the float at place s of the nine of row k
abbrev pub row_cell : List ℕ → ℕ → ℕ → Float
row_cell w s k = float_at w (k * 9 + s)

-- The equations of axis t (0 is x, 1 is y, 2 is z): each row holds three diagonals, then three upper diagonals, then three right sides.
abbrev pub axis_in : List ℕ → ℕ → Equations
axis_in w t = record { diagonal = row_cell w t; upper = row_cell w (3 + t); right = row_cell w (6 + t) }

-- P holds of x, y and z
pub record Axes (P : ℕ → Type 0) : Type 0 where
  pub x : P 0
  pub y : P 1
  pub z : P 2

-- the test holds of x, y and z
abbrev pub on_axes : (ℕ → Bool) → Bool
on_axes f = f 0 && (f 1 && f 2)

-- w' is w but for the places from lo up to hi
pub record SameOutside (lo hi : ℕ) (w w' : List ℕ) : Type 0 where
  pub low : (k : ℕ) → k < lo → get_or w' k 0 ≡ get_or w k 0
  pub high : (k : ℕ) → hi ≤ k → get_or w' k 0 ≡ get_or w k 0

-- ---- the three axes solved

-- each of them is solved
abbrev pub all_solved : List ℕ → ℕ → Bool
all_solved w n = on_axes (λ t. axis_solved (axis_in w t) n)

-- The elimination and the back substitution: true where each axis is solved, and then the solutions replace the right sides.
pub record Solved (w : List ℕ) (n : ℕ) (ok : Bool) (w' : List ℕ) : Type 0 where
  pub kept : SameOutside 0 (n * 9) w w'
  pub answer : ok ≡ all_solved w n
  pub solutions : ok ≡ true → Axes (λ t. (k : ℕ) → k < n → row_cell w' (6 + t) k ≡ solution (axis_in w t) n k)
