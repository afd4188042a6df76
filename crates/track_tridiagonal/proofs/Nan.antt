-- THE LAW: a NaN anywhere in n equations, or where the elimination leaves one, makes the last unknown a NaN, so that the equations are not solved. Assumes nothing.
-- A NaN beside the diagonal counts only where a row follows. So a pass that ends where it would store a NaN ends where it fails.
use mathlib.Core.Path.{◌≡◌, refl, sym}
use mathlib.Core.Bool.{Bool, true, false, not, ◌&&◌}
use mathlib.Core.Logic.{◌⊎◌, inl, inr, ⊎_elim}
use Prim.Native.Nat.{ℕ, zero, suc, ◌+◌, ◌-◌, ◌<◌}
use native.Mathlib.Nat.{add-zero, add-suc}
use native.Mathlib.Omega.{arith}
use lib.Dec.{T}
use lib.Ieee.{Float, nan, inf, fin, is_nan, le, add, sub, mul, div}
use lib.Ieee.Scale.{finite}
use Rattle.exact.specs.Float.{◌⊕◌, ◌⊖◌, ◌⊗◌, ◌⊘◌, +0}
use Rattle.track_tridiagonal.specs.Tridiagonal.{Equations, pivot, factor, reduced, vanishing, solvable, back, solution, held, finite_solution, axis_solved, Spoilt}
use Rattle.track_tridiagonal.specs.Steps.{good_row}
use Rattle.track_tridiagonal.proofs.EachBelow.{each-fails, first-fails, second-fails, third-fails, who-fails}

-- ---- a NaN operand gives a NaN

abbrev pub IsNan : Float → Type 0
IsNan x = is_nan x ≡ true

pub is-nan : (x : Float) → IsNan x → x ≡ nan
unfolding is_nan
is-nan nan h = refl
is-nan (inf s) h = cc
is-nan (fin s m e) h = cc

pub add-nan : (x y : Float) → IsNan x → IsNan (x ⊕ y)
unfolding add is_nan
add-nan x y h = rw (is-nan x h)

pub sub-nan : (x y : Float) → IsNan x → IsNan (x ⊖ y)
unfolding sub add is_nan
sub-nan x y h = rw (is-nan x h)

less-nan : (x y : Float) → IsNan y → IsNan (x ⊖ y)
unfolding sub add is_nan
less-nan nan y h = refl
less-nan (inf s) y h = rw (is-nan y h)
less-nan (fin s m e) y h = rw (is-nan y h)

times-nan : (x y : Float) → IsNan y → IsNan (x ⊗ y)
unfolding mul is_nan
times-nan nan y h = refl
times-nan (inf s) y h = rw (is-nan y h)
times-nan (fin s m e) y h = rw (is-nan y h)

nan-over : (x y : Float) → IsNan x → IsNan (x ⊘ y)
unfolding div is_nan
nan-over x y h = rw (is-nan x h)

over-nan : (x y : Float) → IsNan y → IsNan (x ⊘ y)
unfolding div is_nan
over-nan nan y h = refl
over-nan (inf s) y h = rw (is-nan y h)
over-nan (fin s m e) y h = rw (is-nan y h)

nan-times : (x y : Float) → IsNan x → IsNan (x ⊗ y)
unfolding mul is_nan
nan-times x y h = rw (is-nan x h)

not_finite : (x : Float) → IsNan x → finite x ≡ false
not_finite x h = rw (is-nan x h)

pub finite_number : (x : Float) → finite x ≡ true → is_nan x ≡ false
unfolding is_nan
finite_number nan h = sym h
finite_number (inf s) h = refl
finite_number (fin s m e) h = refl

pub finite-writable : (x : Float) → finite x ≡ true → T (not (is_nan x))
finite-writable x h = rw (finite_number x h) tt

-- ---- down the rows

module _ (e : Equations) where
  pub pivot-of-diagonal : (i : ℕ) → IsNan (e.diagonal i) → IsNan (pivot e i)
  unfolding pivot
  pivot-of-diagonal zero h = h
  pivot-of-diagonal (suc i) h = sub-nan (e.diagonal (suc i)) _ h

  pub reduced-of-right : (i : ℕ) → IsNan (e.right i) → IsNan (reduced e i)
  unfolding reduced
  reduced-of-right zero h = h
  reduced-of-right (suc i) h = sub-nan (e.right (suc i)) _ h

  pub pivot-of-upper : (i : ℕ) → IsNan (e.upper i) → IsNan (pivot e (suc i))
  unfolding pivot
  pivot-of-upper i h = less-nan (e.diagonal (suc i)) _ (times-nan (factor e i) (e.upper i) h)

  pivot-down : (i : ℕ) → IsNan (pivot e i) → IsNan (pivot e (suc i))
  unfolding pivot
  pivot-down i h = less-nan (e.diagonal (suc i)) _ (nan-times (factor e i) (e.upper i) (over-nan (e.upper i) (pivot e i) h))

  reduced-down : (i : ℕ) → IsNan (reduced e i) → IsNan (reduced e (suc i))
  unfolding reduced
  reduced-down i h = less-nan (e.right (suc i)) _ (times-nan (factor e i) (reduced e i) h)

  pivots-down : (i j : ℕ) → IsNan (pivot e i) → IsNan (pivot e (i + j))
  pivots-down i zero h = rw add-zero h
  pivots-down i (suc j) h = rw add-suc (pivot-down (i + j) (pivots-down i j h))

  reduceds_down : (i j : ℕ) → IsNan (reduced e i) → IsNan (reduced e (i + j))
  reduceds_down i zero h = rw add-zero h
  reduceds_down i (suc j) h = rw add-suc (reduced-down (i + j) (reduceds_down i j h))

  module _ (n i : ℕ) (inside : i < n) where
    -- THE LAW, of a pivot and of a reduced right side
    pub last-of-pivot : IsNan (pivot e i) → IsNan (solution e n (n - 1))
    unfolding solution back
    last-of-pivot h =
        let z : n - 1 - (n - 1) ≡ 0 = omega arith in
        let g : i + (n - 1 - i) ≡ n - 1 = omega arith in
        rw z (over-nan (reduced e (n - 1)) (pivot e (n - 1)) (rw g at (pivots-down i (n - 1 - i) h)))

    pub last-of-reduced : IsNan (reduced e i) → IsNan (solution e n (n - 1))
    unfolding solution back
    last-of-reduced h =
        let z : n - 1 - (n - 1) ≡ 0 = omega arith in
        let g : i + (n - 1 - i) ≡ n - 1 = omega arith in
        rw z (nan-over (reduced e (n - 1)) (pivot e (n - 1)) (rw g at (reduceds_down i (n - 1 - i) h)))

    pub unsolved : IsNan (solution e n (n - 1)) → axis_solved e n ≡ false
    unsolved h = third-fails (held e n) (solvable e n) (finite_solution e n) (each-fails (λ k. finite (solution e n k)) (n - 1) n (omega arith) (not_finite (solution e n (n - 1)) h))

-- THE LAW, of the equations
pub spoilt-last : (e : Equations) (n : ℕ) → Spoilt e n → IsNan (solution e n (n - 1))
spoilt-last e n s = ⊎_elim
    (λ h. last-of-pivot e n s.row s.inside (pivot-of-diagonal e s.row h))
    (λ g. ⊎_elim
    (λ h. last-of-reduced e n s.row s.inside (reduced-of-right e s.row h))
    (λ h. last-of-pivot e n (suc s.row) h.0 (pivot-of-upper e s.row h.1)) g)
    s.spoilt

pub spoilt-fails : (e : Equations) (n : ℕ) → Spoilt e n → axis_solved e n ≡ false
spoilt-fails e n s = unsolved e n s.row s.inside (spoilt-last e n s)

-- ---- a row with which the elimination ends

pub un_not : (b : Bool) → not b ≡ false → b ≡ true
un_not true h = refl
un_not false h = cc

pub which-fails : (a b : Bool) → (a && b) ≡ false → (a ≡ false) ⊎ (b ≡ false)
which-fails true b h = inr h
which-fails false b h = inl refl

pub bad-fails : (e : Equations) (n k : ℕ) → k < n → good_row e k ≡ false → axis_solved e n ≡ false
bad-fails e n k h g =
    let A = held e n in
    let B = solvable e n in
    let C = finite_solution e n in
    let p = not (is_nan (pivot e k)) in
    let q = not (is_nan (reduced e k)) in
    ⊎_elim
    (λ a. first-fails A B C (each-fails (λ k. not (le (e.diagonal k) +0)) k n h a))
    (λ b. ⊎_elim
    (λ a. second-fails A B C (each-fails (λ k. not (vanishing (pivot e k))) k n h a))
    (λ a. ⊎_elim
    (λ x. unsolved e n k h (last-of-pivot e n k h (un_not (is_nan (pivot e k)) x)))
    (λ x. unsolved e n k h (last-of-reduced e n k h (un_not (is_nan (reduced e k)) x)))
    (which-fails p q a))
    b)
    (who-fails (not (le (e.diagonal k) +0)) (not (vanishing (pivot e k))) (p && q) g)
