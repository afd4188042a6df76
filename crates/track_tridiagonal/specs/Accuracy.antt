-- How far a solution of tridiagonal equations may miss them, row by row (docs/SCOPE.md, "Track"). All numbers are exact. Definitions only.
-- The equations are those before the elimination; `pivot` and `factor` are what the elimination makes of them.
use Rattle.std.specs.Prelude.{ℕ, zero, suc, ◌<◌, cond, T, ltb, Float}
use Rattle.std.specs.Float.Ieee.Scale.{finite}
use Rattle.exact.specs.Number.{Number, ◌+ₑ◌, ◌-ₑ◌, ◌*ₑ◌, ∣◌∣, ◌≤ₑ◌, 0ₑ, 1ₑ, 2^-◌, exactly}
use Rattle.track_tridiagonal.specs.Tridiagonal.{Equations, pivot, factor, solution}

-- what a column holds one row above row i, and 0 where i is the first row
abbrev pub above : (ℕ → Float) → ℕ → Number
above x zero = 0ₑ
above x (suc i) = exactly (x i)

-- x, and 0 where i is the last of n rows: what joins row i to the next
abbrev pub joined_rows : (n i : ℕ) → Float → Number
joined_rows n i x = cond (ltb (suc i) n) (exactly x) 0ₑ

-- The bound, in the letters of docs/SCOPE.md: f is the elimination factor, d the pivot, c the pivot above, e and g are the off-diagonal entries left and right, w, v and u the solution at i - 1, i and i + 1.
abbrev pub row_bound : (f d c e g w v u : Number) → Number
row_bound f d c e g w v u =
    2^- 50 *ₑ (∣ f *ₑ c *ₑ w ∣ +ₑ ∣ f *ₑ e *ₑ v ∣ +ₑ ∣ d *ₑ v ∣ +ₑ ∣ g *ₑ u ∣)
    +ₑ 2^- 1070 *ₑ (1ₑ +ₑ ∣ f ∣) *ₑ (1ₑ +ₑ ∣ c ∣ +ₑ ∣ d ∣) *ₑ (1ₑ +ₑ ∣ w ∣ +ₑ ∣ v ∣)

-- Row i of n equations, e w + diagonal v + g u = right: the gap between its two sides, at the solution x, is at most its bound. Each letter is 0 where absent.
abbrev pub RowAccurate : Equations → (n : ℕ) → (ℕ → Float) → (i : ℕ) → Type 0
RowAccurate q n x i =
    let f = above (factor q) i in
    let d = exactly (pivot q i) in
    let c = above (pivot q) i in
    let e = above q.upper i in
    let g = joined_rows n i (q.upper i) in
    let w = above x i in
    let v = exactly (x i) in
    let u = joined_rows n i (x (suc i)) in
    ∣ e *ₑ w +ₑ exactly (q.diagonal i) *ₑ v +ₑ g *ₑ u -ₑ exactly (q.right i) ∣ ≤ₑ row_bound f d c e g w v u

-- the condition: the diagonal sums, the pivots and the solution of n equations are all finite
pub record AxisFinite (q : Equations) (n : ℕ) : Type 0 where
  pub diagonal-finite : (i : ℕ) → i < n → T (finite (q.diagonal i))
  pub pivot-finite : (i : ℕ) → i < n → T (finite (pivot q i))
  pub solution-finite : (i : ℕ) → i < n → T (finite (solution q n i))

-- The other numbers of the rows are finite too, so that each letter is the number that it names, and the solution meets each row.
pub record RowsMet (q : Equations) (n : ℕ) : Type 0 where
  pub upper-finite : (i : ℕ) → suc i < n → T (finite (q.upper i))
  pub factor-finite : (i : ℕ) → suc i < n → T (finite (factor q i))
  pub right-finite : (i : ℕ) → i < n → T (finite (q.right i))
  pub accurate : (i : ℕ) → i < n → RowAccurate q n (solution q n) i

-- what is claimed of n equations
abbrev pub RowsAccurate : Equations → ℕ → Type 0
RowsAccurate q n = AxisFinite q n → RowsMet q n
