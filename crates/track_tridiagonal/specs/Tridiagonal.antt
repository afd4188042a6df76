-- Symmetric tridiagonal equations and their solution, in the order of operations of the reference (smooth.rs, `thomas`). Definitions only.
-- A column is a function of the row, and rows count from 0.
use Rattle.std.specs.Prelude.{◌≡◌, Bool, true, false, not, ◌&&◌, ◌⊎◌, ℕ, zero, suc, ◌-◌, ◌<◌, Float}
use Rattle.std.specs.Float.Ieee.{is_nan, lt, le}
use Rattle.std.specs.Float.Ieee.Scale.{finite}
use Rattle.exact.specs.Float.{◌⊖◌, ◌⊗◌, ◌⊘◌, +0, bits}
use Rattle.numeric.specs.Real.{abs}

-- the test holds of each of the first n
unfoldable pub each_below : (ℕ → Bool) → ℕ → Bool
each_below f zero = true
each_below f (suc k) = each_below f k && f k

-- The equations: row i is upper (i − 1) · x (i − 1) + diagonal i · x i + upper i · x (i + 1) = right i.
pub record Equations : Type 0 where
  pub diagonal : ℕ → Float
  pub upper : ℕ → Float
  pub right : ℕ → Float

-- ---- the elimination, from the first row to the last

-- the pivot of a row: its diagonal, once the rows above are eliminated
unfoldable pub pivot : Equations → ℕ → Float
pivot e zero = e.diagonal 0
pivot e (suc i) = e.diagonal (suc i) ⊖ (e.upper i ⊘ pivot e i) ⊗ e.upper i

-- how much of row i is taken from row i + 1
abbrev pub factor : Equations → ℕ → Float
factor e i = e.upper i ⊘ pivot e i

-- the right side of a row, once the rows above are eliminated
unfoldable pub reduced : Equations → ℕ → Float
reduced e zero = e.right 0
reduced e (suc i) = e.right (suc i) ⊖ factor e i ⊗ reduced e i

-- the equations that are left: row i is pivot i · x i + upper i · x (i + 1) = reduced i
abbrev pub eliminated : Equations → Equations
eliminated e = record { diagonal = pivot e; upper = e.upper; right = reduced e }

-- `f64::MIN_POSITIVE`, 2 ^ -1022
abbrev pub smallest_normal : Float
smallest_normal = bits 0x0010_0000_0000_0000

-- a pivot vanishes where its magnitude is below the smallest normal number; a NaN does not
unfoldable pub vanishing : Float → Bool
vanishing p = lt (abs p) smallest_normal

-- none of the first n pivots vanishes
abbrev pub solvable : Equations → ℕ → Bool
solvable e n = each_below (λ k. not (vanishing (pivot e k))) n

-- ---- the back substitution, from the last row to the first

-- The unknown of the row that is j rows above the last row, m, of equations with nothing below the diagonal.
unfoldable pub back : Equations → ℕ → ℕ → Float
back e m zero = e.right m ⊘ e.diagonal m
back e m (suc j) = (e.right (m - suc j) ⊖ e.upper (m - suc j) ⊗ back e m j) ⊘ e.diagonal (m - suc j)

-- the unknown of row i of n rows
unfoldable pub solution : Equations → ℕ → ℕ → Float
solution e n i = back (eliminated e) (n - 1) (n - 1 - i)

-- ---- when the equations are solved

-- every row is held by what is known: no diagonal is at or below 0
abbrev pub held : Equations → ℕ → Bool
held e n = each_below (λ k. not (le (e.diagonal k) +0)) n

abbrev pub finite_solution : Equations → ℕ → Bool
finite_solution e n = each_below (λ k. finite (solution e n k)) n

-- an axis is not solved where a row is not held, a pivot vanishes or an unknown is not finite
abbrev pub axis_solved : Equations → ℕ → Bool
axis_solved e n = held e n && (solvable e n && finite_solution e n)

-- ---- floats that are no numbers

-- no float of the first n equations is a NaN
pub record NoNan (e : Equations) (n : ℕ) : Type 0 where
  pub diagonal : (k : ℕ) → k < n → is_nan (e.diagonal k) ≡ false
  pub upper : (k : ℕ) → k < n → is_nan (e.upper k) ≡ false
  pub right : (k : ℕ) → k < n → is_nan (e.right k) ≡ false

-- a float of the n equations is a NaN, beside the diagonal only where a row follows
pub record Spoilt (e : Equations) (n : ℕ) : Type 0 where
  pub row : ℕ
  pub inside : row < n
  pub spoilt : (is_nan (e.diagonal row) ≡ true) ⊎ ((is_nan (e.right row) ≡ true) ⊎ ((suc row < n) × (is_nan (e.upper row) ≡ true)))
