-- What each step of the solution leaves in the lent list. Definitions only.
use Rattle.std.specs.Prelude.{◌≡◌, Bool, true, false, cond, not, ◌&&◌, List, ℕ, ◌+◌, ◌-◌, ◌*◌, ◌≤◌, ◌<◌, get_or, set, Float}
use Rattle.std.specs.Float.Ieee.{is_nan, le}
use Rattle.std.specs.Float.Ieee.Scale.{finite}
use Rattle.exact.specs.Float.{◌⊖◌, ◌⊗◌, ◌⊘◌, +0}
use Rattle.numeric.specs.Order.{pattern_of}
use Rattle.track_tridiagonal.specs.Rows.{float_at, row_cell, axis_in, Axes, on_axes, SameOutside, all_solved}
use Rattle.track_tridiagonal.specs.Tridiagonal.{Equations, each_below, eliminated, back, pivot, reduced, vanishing}
use Rattle.track_tridiagonal.specs.declared.solve.Row.{Row}

-- w' is w, with v at each place from lo up to hi
pub record Filled (lo hi v : ℕ) (w w' : List ℕ) : Type 0 where
  pub kept : SameOutside lo hi w w'
  pub filled : (k : ℕ) → lo ≤ k → k < hi → get_or w' k 0 ≡ v

-- The elimination goes on from a row of diagonal d, pivot p and right side q: the row is held, its pivot does not vanish, and neither float that would be stored is a NaN.
abbrev pub goes_on : (d p q : Float) → Bool
goes_on d p q = not (le d +0) && (not (vanishing p) && (not (is_nan p) && not (is_nan q)))

abbrev pub good_row : Equations → ℕ → Bool
good_row e k = goes_on (e.diagonal k) (pivot e k) (reduced e k)

-- the first n equations of e' are those of e
pub record Alike (e e' : Equations) (n : ℕ) : Type 0 where
  pub diagonal : (k : ℕ) → k < n → e'.diagonal k ≡ e.diagonal k
  pub upper : (k : ℕ) → k < n → e'.upper k ≡ e.upper k
  pub right : (k : ℕ) → k < n → e'.right k ≡ e.right k

-- ---- one row of one axis, by the place of its diagonal

-- the floats at three places are no NaNs
pub record NumbersAt (w : List ℕ) (a b c : ℕ) : Type 0 where
  pub first : is_nan (float_at w a) ≡ false
  pub second : is_nan (float_at w b) ≡ false
  pub third : is_nan (float_at w c) ≡ false

pub record FirstRow (w : List ℕ) (at : ℕ) (r : Row) : Type 0 where
  pub pivot : r.pivot ≡ float_at w at
  pub right : r.right ≡ float_at w (at + 6)
  pub good : r.good ≡ goes_on (float_at w at) r.pivot r.right

-- the row below with the unknown of the row `above` eliminated, which is stored unless the elimination ends with it
pub record RowEliminated (w : List ℕ) (at : ℕ) (above r : Row) (w' : List ℕ) : Type 0 where
  pub pivot : r.pivot ≡ float_at w (at + 9) ⊖ (float_at w (at + 3) ⊘ above.pivot) ⊗ float_at w (at + 3)
  pub right : r.right ≡ float_at w (at + 15) ⊖ (float_at w (at + 3) ⊘ above.pivot) ⊗ above.right
  pub good : r.good ≡ goes_on (float_at w (at + 9)) r.pivot r.right
  pub stored : w' ≡ cond r.good (set (set w (at + 9) (pattern_of r.pivot)) (at + 15) (pattern_of r.right)) w

-- the unknown v of a row, from x of the next row where there is one, in place of the right side if it is finite
pub record RowSolved (w : List ℕ) (at : ℕ) (last : Bool) (x v : Float) (w' : List ℕ) : Type 0 where
  pub unknown : v ≡ cond last (float_at w (at + 6)) (float_at w (at + 6) ⊖ float_at w (at + 3) ⊗ x) ⊘ float_at w at
  pub stored : w' ≡ cond (finite v) (set w (at + 6) (pattern_of v)) w

-- ---- the three axes

-- the equations that the elimination leaves of e, all of whose rows let it go on
pub record Left (e : Equations) (n : ℕ) (e' : Equations) : Type 0 where
  pub good : each_below (good_row e) n ≡ true
  pub same : Alike (eliminated e) e' n

-- The elimination: it ends early only where an axis is not solved.
pub record Eliminated (w : List ℕ) (n : ℕ) (ok : Bool) (w' : List ℕ) : Type 0 where
  pub kept : SameOutside 0 (n * 9) w w'
  pub left : ok ≡ true → Axes (λ t. Left (axis_in w t) n (axis_in w' t))
  pub ends : ok ≡ false → all_solved w n ≡ false

-- The back substitution: true where each unknown is finite, and then they replace the right sides.
pub record Substituted (w : List ℕ) (n : ℕ) (ok : Bool) (w' : List ℕ) : Type 0 where
  pub kept : SameOutside 0 (n * 9) w w'
  pub answer : ok ≡ on_axes (λ t. each_below (λ k. finite (back (axis_in w t) (n - 1) (n - 1 - k))) n)
  pub unknowns : ok ≡ true → Axes (λ t. (k : ℕ) → k < n → row_cell w' (6 + t) k ≡ back (axis_in w t) (n - 1) (n - 1 - k))
