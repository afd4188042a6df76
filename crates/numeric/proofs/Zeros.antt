-- Zeros among the operands: where nothing is infinite or NaN they change nothing. A zero is written one way, `fin s 0 (pos 0)`. Assumes nothing.
use mathlib.Core.Path.{◌≡◌, refl, sym, ap, ap₂, ◌∙◌, subst}
use Prim.Native.Nat.{ℕ, zero, suc, ◌+◌, ◌*◌, ◌^◌, ◌≤◌, ◌<◌, zero-le}
use native.Mathlib.Nat.{add-zero, add-suc, sub-zero, zero-mul, mul-one, one-mul, mul-pos, zero-lt-suc, lt_irrefl, le_refl, le_step, pow-suc}
use native.Mathlib.Omega.{arith}
use mathlib.Core.Bool.{Bool, true, false, not, cond}
use lib.Dec.{T, eqb→eq, eqb-suc-zero}
use lib.IntN.{ℤ, pos, negsuc}
use borrow.Author.Tests.{le-ltb}
use lib.Ieee.{Float, nan, inf, fin, binary64, up, down, unlike, size, span, climb, odd, units, round, neg, sum, add, sub, mul, div, of_bits, fits}
use lib.Ieee.Fits.{down_pos, up_pos}
use lib.Ieee.Exact.{HasValue}
use lib.Ieee.Scale.{finite, round_same}
use Rattle.exact.specs.Float.{◌⊖◌, ◌⊗◌, ◌⊘◌, +0, 1·0}
use Rattle.exact.specs.Products.{less_products}
use Rattle.root.proofs.RoundExact.{round-own}

-- a zero of either sign
abbrev pub is_zero : Float → Bool
is_zero nan = false
is_zero (inf s) = false
is_zero (fin s zero e) = true
is_zero (fin s (suc m) e) = false

pub +0-is-zero : T (is_zero +0)
unfolding of_bits
+0-is-zero = tt

-- ---- 0 rounds to 0
pub none-at : (s : Bool) → round binary64 s 0 1 ≡ fin s 0 (pos 0)
unfolding round size span climb units odd
none-at s = refl

pub round-none : (s : Bool) (c : ℕ) → 0 < c → round binary64 s 0 c ≡ fin s 0 (pos 0)
round-none s c C = round_same binary64 s 0 c 0 1 C (zero-lt-suc 0) (sym (zero-mul c)) ∙ none-at s

-- ---- a zero times a finite number is a zero
pub zero-times : (x y : Float) → T (is_zero x) → T (finite y) → T (is_zero (x ⊗ y))
unfolding mul
zero-times nan y z f = absurd z
zero-times (inf s) y z f = absurd z
zero-times (fin s (suc m) e) y z f = absurd z
zero-times (fin s zero e) nan z f = absurd f
zero-times (fin s zero e) (inf t) z f = absurd f
zero-times (fin s zero e) (fin t n d) z f =
    let a : 0 * up e * (n * up d) ≡ 0 = ap (λ (k : ℕ). k * (n * up d)) (zero-mul (up e)) ∙ zero-mul (n * up d) in
    subst (λ (r : Float). T (is_zero r)) (sym (ap (λ (k : ℕ). round binary64 (unlike s t) k (down e * down d)) a ∙ round-none (unlike s t) (down e * down d) (mul-pos (down_pos e) (down_pos d)))) tt

zeros-times : +0 ⊗ +0 ≡ +0
unfolding mul of_bits round size span climb units odd
zeros-times = refl

-- ---- a zero over a number above 0 is that zero
zero-over-at : (m : ℕ) (e : ℤ) → +0 ⊘ fin false (suc m) e ≡ +0
unfolding div of_bits
zero-over-at m e =
    let a : 0 * 1 * down e ≡ 0 = zero-mul (down e) in
    ap (λ (b : Bool). cond b nan (round binary64 false (0 * 1 * down e) (suc m * up e * 1))) (eqb-suc-zero m)
    ∙ ap (λ (k : ℕ). round binary64 false k (suc m * up e * 1)) a
    ∙ round-none false (suc m * up e * 1) (mul-pos (mul-pos (zero-lt-suc m) (up_pos e)) (zero-lt-suc 0))

pub zero-over : (x : Float) (a c : ℕ) → HasValue x false a c → 0 < a → +0 ⊘ x ≡ +0
zero-over nan a c h l = absurd h
zero-over (inf s) a c h l = absurd h
zero-over (fin true m e) a c h l = absurd (let z : ◌≡◌ {A = ℕ} 0 1 = cc h.0 in omega arith)
zero-over (fin false (suc m) e) a c h l = zero-over-at m e
zero-over (fin false zero e) a c h l =
    absurd (lt_irrefl 0 (subst (λ (z : ℕ). 0 < z) (sym h.1 ∙ ap (λ (z : ℕ). z * c) (zero-mul (up e)) ∙ zero-mul c) (mul-pos l (down_pos e))))

-- ---- less a zero
sum-none : (t : Bool) (c : ℕ) → 0 < c → sum binary64 false 0 t 0 c ≡ fin false 0 (pos 0)
unfolding sum
sum-none true c C = rw (le-ltb 0 0 zero-le) (round-none false c C)
sum-none false c C = round-none false c C

-- +0 less a zero of either sign
pub zero_minus : (y : Float) → T (is_zero y) → +0 ⊖ y ≡ +0
unfolding sub add neg of_bits
zero_minus nan z = absurd z
zero_minus (inf t) z = absurd z
zero_minus (fin t (suc n) d) z = absurd z
zero_minus (fin t zero d) z =
    let a : 0 * 1 * down d ≡ 0 = zero-mul (down d) in
    let b : 0 * up d * 1 ≡ 0 = ap (λ (k : ℕ). k * 1) (zero-mul (up d)) in
    ap₂ (λ (j k : ℕ). sum binary64 false j (not t) k (1 * down d)) a b ∙ sum-none (not t) (1 * down d) (mul-pos (zero-lt-suc 0) (down_pos d))

twice : (p : ℕ) → p * 2 ≡ 1 → ⊥
twice p h = omega arith

zero_exponent : (e : ℤ) → up e * down e ≡ 1 → e ≡ pos 0
zero_exponent (pos zero) h = refl
zero_exponent (pos (suc k)) h = absurd (twice (2 ^ k) (sym (pow-suc 2 k) ∙ sym (mul-one (2 ^ suc k)) ∙ h))
zero_exponent (negsuc k) h = absurd (twice (2 ^ k) (sym (pow-suc 2 k) ∙ sym (one-mul (2 ^ suc k)) ∙ h))

zero-own : (s : Bool) (e : ℤ) → T (fits binary64 (fin s 0 e)) → fin s 0 (pos 0) ≡ fin s 0 e
unfolding fits
zero-own s e f = ap (λ (z : ℤ). fin s 0 z) (sym (zero_exponent e (eqb→eq (up e * down e) 1 f)))

-- the number of x, written a / c, rounds to x
own : (s : Bool) (m : ℕ) (e : ℤ) → T (fits binary64 (fin s m e)) → (a c : ℕ) → 0 < c → a * down e ≡ m * up e * c → round binary64 s a c ≡ fin s m e
own s zero e f a c C h =
    round_same binary64 s a c 0 1 C (zero-lt-suc 0) (none a c (down e) (up e) (down_pos e) h) ∙ none-at s ∙ zero-own s e f
  where
    none : (a c d u : ℕ) → 0 < d → a * d ≡ 0 * u * c → a * 1 ≡ 0 * c
    none zero c d u D h = sym (zero-mul c)
    none (suc a) c d u D h = absurd (lt_irrefl 0 (subst (λ (z : ℕ). 0 < z) (h ∙ ap (λ (z : ℕ). z * c) (zero-mul u) ∙ zero-mul c) (mul-pos (zero-lt-suc a) D)))
own s (suc m) e f a c C h = round_same binary64 s a c (suc m * up e) (down e) C (down_pos e) h ∙ round-own s m e f

less_none : (s : Bool) (m : ℕ) (e : ℤ) (a c : ℕ) → T (fits binary64 (fin s m e)) → 0 < c → a * down e ≡ m * up e * c → sum binary64 s a true 0 c ≡ fin s m e
unfolding sum
less_none true m e a c f C h = ap (λ (k : ℕ). round binary64 true k c) (add-zero a) ∙ own true m e f a c C h
less_none false m e a c f C h = rw (le-ltb a 0 zero-le, sub-zero a) (own false m e f a c C h)

-- a binary64 less +0 is itself, -0 too
pub minus-zero : (x : Float) → T (fits binary64 x) → x ⊖ +0 ≡ x
unfolding sub add neg of_bits
minus-zero nan f = refl
minus-zero (inf s) f = refl
minus-zero (fin s m e) f =
    let b : 0 * 1 * down e ≡ 0 = zero-mul (down e) in
    ap (λ (k : ℕ). sum binary64 s (m * up e * 1) true k (down e * 1)) b
    ∙ less_none s m e (m * up e * 1) (down e * 1) f (mul-pos (down_pos e) (zero-lt-suc 0)) (regroup (m * up e) (down e))
  where
    regroup : (a d : ℕ) → a * 1 * d ≡ a * (d * 1)
    regroup a d = omega arith

-- ---- the running difference

-- +0 less products of +0 with finite numbers
pub less-zeros : (p q : ℕ → Float) (n : ℕ) → ((k : ℕ) → k < n → p k ≡ +0) → ((k : ℕ) → k < n → T (finite (q k))) → less_products +0 p q n ≡ +0
unfolding less_products
less-zeros p q zero z f = refl
less-zeros p q (suc n) z f =
    ap₂ (λ (s x : Float). s ⊖ x ⊗ q n) (less-zeros p q n (λ k kb. z k (le_step kb)) (λ k kb. f k (le_step kb))) (z n (le_refl (suc n)))
    ∙ zero_minus (+0 ⊗ q n) (zero-times +0 (q n) +0-is-zero (f n (le_refl (suc n))))

one_more : (s : Float) (p q : ℕ → Float) (k : ℕ) → less_products s p q (suc k) ≡ less_products s p q k ⊖ p k ⊗ q k
unfolding less_products
one_more s p q k = refl

-- products of +0 with +0 after the first m change nothing
pub less-nothing : (s : Float) (p q : ℕ → Float) (m d : ℕ) → T (fits binary64 (less_products s p q m)) → ((k : ℕ) → m ≤ k → k < m + d → (p k ≡ +0) × (q k ≡ +0))
    → less_products s p q (m + d) ≡ less_products s p q m
less-nothing s p q m zero f z = ap (less_products s p q) (add-zero m)
less-nothing s p q m (suc d) f z =
    let h = z (m + d) (omega arith) (omega arith) in
    ap (less_products s p q) (add-suc m d)
    ∙ one_more s p q (m + d)
    ∙ ap₂ (λ (x y : Float). x ⊖ y) (less-nothing s p q m d f (λ k kb kc. z k kb (omega arith))) (ap₂ (λ (x y : Float). x ⊗ y) h.0 h.1 ∙ zeros-times)
    ∙ minus-zero (less_products s p q m) f

-- ---- the diagonal of an unused unknown

pub one-fits : T (fits binary64 1·0)
unfolding fits of_bits
one-fits = tt

pub one-finite : T (finite 1·0)
unfolding of_bits
one-finite = tt

pub zero-over-one : +0 ⊘ 1·0 ≡ +0
unfolding of_bits
zero-over-one = zero-over-at 0 (pos 0)
