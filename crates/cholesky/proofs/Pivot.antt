-- A float is a pivot exactly where it is above 0 and at most the largest finite one. Assumes nothing.
use Prim.Native.Nat.{ℕ, zero, suc, ◌+◌, ◌-◌, ◌*◌, ◌^◌, ◌≤◌, ◌<◌, zero-le}
use native.Mathlib.Nat.{le_refl, le_of_suc-le-suc, mul-le-mul, mul-le-mul_right, lt_of_mul-lt-mul_right, mul_assoc, mul-one, zero-mul}
use native.Mathlib.Omega.{arith}
use native.Mathlib.Decide.{dec_lt}
use mathlib.Core.Path.{◌≡◌, refl, sym, ap, ◌∙◌, subst}
use mathlib.Core.Bool.{Bool, true, false, ◌&&◌}
use lib.Dec.{T, ltb→lt}
use lib.IntN.{ℤ, pos, negsuc}
use lib.Pow.{pow-add, pow_pos, pow_mono}
use lib.Ieee.{Float, nan, inf, fin, binary64, up, down, lt, le, eq, fits, of_bits}
use lib.Ieee.Fits.{and_l, and_r}
use lib.Ieee.Order.{le_of_values}
use Rattle.exact.specs.Float.{+0}
use Rattle.cholesky.specs.Factor.{is_pivot}

-- the largest finite float, (2 ^ 53 - 1) * 2 ^ 971
abbrev pub largest : Float
largest = of_bits binary64 9218868437227405311

-- digits below 2 ^ p, times a power of two, and below 2 ^ (p + j)
at_most : (p j m k : ℕ) → m < 2 ^ p → m * 2 ^ k < 2 ^ (p + j) → m * 2 ^ k ≤ (2 ^ p - 1) * 2 ^ j
at_most p j m k a b = go (dec_lt j k)
  where
    go : Dec (j < k) → m * 2 ^ k ≤ (2 ^ p - 1) * 2 ^ j
    go (no f) = mul-le-mul (let h : m ≤ 2 ^ p - 1 = omega arith in h) (pow_mono (omega arith))
    go (yes f) =
        let t = k - j in
        let e : k ≡ t + j = omega arith in
        let q : m * 2 ^ k ≡ m * 2 ^ t * 2 ^ j = ap (λ (z : ℕ). m * 2 ^ z) e ∙ ap (λ (z : ℕ). m * z) (pow-add 2 t j) ∙ sym (mul_assoc m (2 ^ t) (2 ^ j)) in
        let l : m * 2 ^ t * 2 ^ j < 2 ^ p * 2 ^ j = subst (λ (z : ℕ). z < 2 ^ p * 2 ^ j) q (subst (λ (z : ℕ). m * 2 ^ k < z) (pow-add 2 p j) b) in
        let h : m * 2 ^ t < 2 ^ p = lt_of_mul-lt-mul_right (2 ^ j) l in
        subst (λ (z : ℕ). z ≤ (2 ^ p - 1) * 2 ^ j) (sym q) (mul-le-mul_right (2 ^ j) (let g : m * 2 ^ t ≤ 2 ^ p - 1 = omega arith in g))

le-largest : (m : ℕ) (e : ℤ) → T (fits binary64 (fin false m e)) → T (le (fin false m e) largest)
unfolding fits of_bits
le-largest zero e f = le_of_values (fin false 0 e) largest 0 1 ((2 ^ 53 - 1) * 2 ^ 971) 1 (le_refl 1) (le_refl 1) (refl, ap (λ (z : ℕ). z * 1) (zero-mul (up e)) ∙ sym (zero-mul (down e))) (refl, refl) zero-le
le-largest (suc m) (pos k) f =
    let a = ltb→lt (suc m) (2 ^ 53) (search (and_l, and_r)) in
    let b = ltb→lt (suc m * 2 ^ k) (2 ^ 1024 * 1) (search (and_l, and_r)) in
    le_of_values (fin false (suc m) (pos k)) largest (suc m * 2 ^ k) 1 ((2 ^ 53 - 1) * 2 ^ 971) 1 (le_refl 1) (le_refl 1) (refl, refl) (refl, refl) (mul-le-mul_right 1 (at_most 53 971 (suc m) k a (subst (λ (z : ℕ). suc m * 2 ^ k < z) (mul-one (2 ^ 1024)) b)))
le-largest (suc m) (negsuc k) f =
    let a : suc m ≤ 2 ^ 53 - 1 = le_of_suc-le-suc (ltb→lt (suc m) (2 ^ 53) (search (and_l, and_r))) in
    le_of_values (fin false (suc m) (negsuc k)) largest (suc m * 1) (2 ^ suc k) ((2 ^ 53 - 1) * 2 ^ 971) 1 (pow_pos (suc k)) (le_refl 1) (refl, refl) (refl, refl) (mul-le-mul (mul-le-mul a (pow_pos 971)) (pow_pos (suc k)))

both : (a b : Bool) → T b → (a && b) ≡ a
both true true h = refl
both true false h = elim h [ ]
both false b h = refl

pub pivot-is : (p : Float) → T (fits binary64 p) → (lt +0 p && le p largest) ≡ is_pivot p
unfolding is_pivot lt le eq of_bits
pivot-is nan f = refl
pivot-is (inf true) f = refl
pivot-is (inf false) f = refl
pivot-is (fin true m e) f = refl
pivot-is (fin false m e) f = both (lt +0 (fin false m e)) (le (fin false m e) largest) (le-largest m e f)
