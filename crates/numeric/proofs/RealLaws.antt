-- The laws of `abs`, `max`, `finite` and `inRange`, for every float. Assumes nothing.
use mathlib.Core.Path.{◌≡◌, refl, sym, ap, ◌∙◌, subst, ap₂}
use Prim.Native.Nat.{ℕ, zero, suc, ◌+◌, ◌*◌, ◌^◌, ◌≤◌, ◌<◌}
use native.Mathlib.Nat.{mul-one, one-mul, zero-mul, mul-pos, pow-suc, zero-lt-suc}
use native.Mathlib.Omega.{arith}
use native.Mathlib.Decide.{dec_lt, ℕ_discrete}
use mathlib.Core.Bool.{and-true, Bool, true, false, cond, ◌&&◌, ◌||◌}
use lib.Dec.{T, eqb, ltb, eqb→eq}
use borrow.Author.Tests.{lt-ltb, le-ltb, eq-eqb, ne_eqb}
use lib.IntN.{ℤ, pos, negsuc}
use lib.Ieee.{Float, nan, inf, fin, up, down, binary64, fits, add, sub, neg, lt, le, ne, is_nan, of_bits, round}
use lib.Ieee.Fits.{up_pos}
use lib.Ieee.Compare.{differs_from_itself, nan_differs}
use lib.Ieee.Scale.{finite}
use Rattle.exact.specs.Float.{◌⊕◌, ◌⊖◌, +0}
use Rattle.exact.proofs.Ops.{add-finite}
use Rattle.root.proofs.RoundExact.{round-own}
use Rattle.numeric.specs.Real.{abs, max, in_range}

-- a test that fails does not pass
never : {A : Type 0} → false ≡ true → A
never e = absurd (let z : ◌≡◌ {A = ℕ} 0 1 = cc in omega arith)

-- a ≤ b, as `le` tests it of numbers of one sign
pub from-least : (a b : ℕ) → a ≤ b → (ltb a b || (eqb a b && true)) ≡ true
from-least a b h = go (dec_lt a b)
  where
    go : Dec (a < b) → (ltb a b || (eqb a b && true)) ≡ true
    go (yes l) = rw (lt-ltb a b l)
    go (no f) = let e : a ≡ b = omega arith in rw (le-ltb a b (omega arith), eq-eqb a b e)

-- ---- how `abs` is worked out

-- a zero that fits is written with the exponent 0
twice : (p : ℕ) → p * 2 ≡ 1 → ⊥
twice p h = omega arith

zero_exponent : (e : ℤ) → up e * down e ≡ 1 → e ≡ pos 0
zero_exponent (pos zero) h = refl
zero_exponent (pos (suc k)) h = absurd (twice (2 ^ k) (sym (pow-suc 2 k) ∙ sym (mul-one (2 ^ suc k)) ∙ h))
zero_exponent (negsuc k) h = absurd (twice (2 ^ k) (sym (pow-suc 2 k) ∙ sym (one-mul (2 ^ suc k)) ∙ h))

-- what is above 0 is not at most 0
not_least : (a z : ℕ) → 0 < a → (ltb (a * 1) (0 * 1 * z) || (eqb (a * 1) (0 * 1 * z) && true)) ≡ false
not_least a z h = rw (le-ltb (a * 1) (0 * 1 * z) (omega (arith, zero-mul z)), ne_eqb (a * 1) (0 * 1 * z) (λ (e : a * 1 ≡ 0 * 1 * z). omega (arith, zero-mul z)))

from_zero : (a z : ℕ) → 0 * z + a * 1 ≡ a
from_zero a z = omega (arith, zero-mul z)

-- x at most 0 is taken from +0, which is exact
pub abs-least : (x : Float) → T (fits binary64 x) → le x +0 ≡ true → +0 ⊖ x ≡ abs x
unfolding le of_bits sub add neg abs fits
abs-least nan f h = never h
abs-least (inf true) f h = refl
abs-least (inf false) f h = never h
abs-least (fin true zero e) f h = subst (λ (z : ℤ). +0 ⊖ fin true 0 z ≡ fin false 0 z) (sym (zero_exponent e (eqb→eq (up e * down e) 1 f))) refl
abs-least (fin false zero e) f h = subst (λ (z : ℤ). +0 ⊖ fin false 0 z ≡ fin false 0 z) (sym (zero_exponent e (eqb→eq (up e * down e) 1 f))) refl
abs-least (fin true (suc m) e) f h = ap₂ (round binary64 false) (from_zero (suc m * up e) (down e)) (one-mul (down e)) ∙ round-own false m e f
abs-least (fin false (suc m) e) f h = never (sym (not_least (suc m * up e) (down e) (mul-pos (zero-lt-suc m) (up_pos e))) ∙ h)

-- −a ≤ b, for a and b without a sign
minus_plus : (a b : ℕ) → (ltb 0 (a + b) || (eqb a b && (false || eqb a 0))) ≡ true
minus_plus zero zero = refl
minus_plus zero (suc b) = rw (lt-ltb 0 (0 + suc b) (omega arith))
minus_plus (suc a) b = rw (lt-ltb 0 (suc a + b) (omega arith))

pub abs-above : (x : Float) → le x +0 ≡ false → x ≡ abs x
unfolding le of_bits abs
abs-above nan h = refl
abs-above (inf true) h = never (sym h)
abs-above (inf false) h = refl
abs-above (fin false m e) h = refl
abs-above (fin true m e) h = never (sym h ∙ minus_plus (m * up e * 1) (0 * 1 * down e))

-- ---- max

pub max-nan-left : (b : Float) → max nan b ≡ b
unfolding max is_nan
max-nan-left b = refl

same : {A : Type 0} (t : Bool) (x : A) → cond t x x ≡ x
same true x = refl
same false x = refl

-- ---- how `max` is worked out

pub max-second : (a b : Float) → lt a b ≡ true → b ≡ max a b
unfolding max is_nan lt
max-second nan b h = never h
max-second (inf s) nan h = never h
max-second (inf s) (inf t) h = rw h
max-second (inf s) (fin t n d) h = rw h
max-second (fin s m e) nan h = never h
max-second (fin s m e) (inf t) h = rw h
max-second (fin s m e) (fin t n d) h = rw h

pub max-no-first : (a b : Float) → ne a a ≡ true → b ≡ max a b
max-no-first a b h = rw (differs_from_itself a (subst T (sym h) tt)) (sym (max-nan-left b))

pub max-first : (a b : Float) → lt a b ≡ false → ne a a ≡ false → a ≡ max a b
unfolding max is_nan
max-first nan b h k = never (sym k ∙ nan_differs)
max-first (inf s) b h k = rw h (sym (same (is_nan b) (inf s)))
max-first (fin s m e) b h k = rw h (sym (same (is_nan b) (fin s m e)))

-- ---- finite

pub finite-between : (x : Float) → (lt (inf true) x && lt x (inf false)) ≡ finite x
unfolding lt
finite-between nan = refl
finite-between (inf true) = refl
finite-between (inf false) = refl
finite-between (fin s m e) = refl

holds : (t : Bool) → t ≡ true → T t
holds t h = subst T (sym h) tt

passes : (t : Bool) → T t → t ≡ true
passes true h = refl
passes false h = absurd h

-- a sum is finite only where both its parts are: what is not finite stays so, whatever is added to it
pub sum-finite-left : (a b : Float) → finite (a ⊕ b) ≡ true → finite a ≡ true
sum-finite-left a b h = passes (finite a) (add-finite a b (holds (finite (a ⊕ b)) h)).0

pub sum-finite-right : (a b : Float) → finite (a ⊕ b) ≡ true → finite b ≡ true
sum-finite-right a b h = passes (finite b) (add-finite a b (holds (finite (a ⊕ b)) h)).1

-- ---- inRange

pub in-range-finite : (x : Float) → in_range x ≡ true → finite x ≡ true
unfolding in_range
in-range-finite nan h = never h
in-range-finite (inf s) h = never h
in-range-finite (fin s m e) h = refl

-- −b ≤ −a is a ≤ b
minus_minus : (a b : ℕ) → (ltb a b || (eqb b a && true)) ≡ (ltb a b || (eqb a b && true))
minus_minus a b = go (ℕ_discrete a b)
  where
    go : Dec (a ≡ b) → (ltb a b || (eqb b a && true)) ≡ (ltb a b || (eqb a b && true))
    go (yes e) = rw (eq-eqb b a (sym e), eq-eqb a b e)
    go (no f) = rw (ne_eqb b a (λ (e : b ≡ a). f (sym e)), ne_eqb a b f)

-- the two comparisons with the ends of the range tell both that x is finite and that it is not above the limit in magnitude
pub between : (n : ℕ) (d : ℤ) (x : Float) → (le (fin true n d) x && le x (fin false n d)) ≡ (finite x && le (abs x) (fin false n d))
unfolding abs le
between n d nan = refl
between n d (inf true) = refl
between n d (inf false) = refl
between n d (fin true m e) =
    let a = m * up e * down d in
    let b = n * up d * down e in
    ap₂ ◌&&◌ (minus_minus a b) (minus_plus a b) ∙ and-true (ltb a b || (eqb a b && true))
between n d (fin false m e) =
    let a = m * up e * down d in
    let b = n * up d * down e in
    ap (λ (t : Bool). t && (ltb a b || (eqb a b && true))) (minus_plus b a)
