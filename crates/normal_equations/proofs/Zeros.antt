-- Zeros among the operands of sums and products: where nothing is infinite or NaN they add nothing. Assumes nothing.
use mathlib.Core.Path.{◌≡◌, refl, sym, ap, ◌∙◌, subst}
use Prim.Native.Nat.{ℕ, zero, suc, ◌+◌, ◌-◌, ◌*◌, ◌/◌, ◌^◌, ◌<◌, zero-le}
use native.Mathlib.Nat.{add-zero, zero-mul, mul-zero, mul-one, mul-pos, mul-sub, zero-div, zero-lt-suc, lt_irrefl}
use native.Mathlib.Omega.{arith}
use mathlib.Core.Bool.{Bool, true, false, beq, cond}
use lib.Dec.{T, ltb, ltb→lt}
use lib.IntN.{ℤ, pos}
use borrow.Author.Tests.{lt-ltb, le-ltb}
use lib.Ieee.{Float, nan, inf, fin, binary64, up, down, unlike, odd, units, round, sum, add, mul, of_bits, fits}
use lib.Ieee.Fits.{down_pos, up_pos, round_is}
use lib.Ieee.Scale.{finite, round_same}
use Rattle.exact.specs.Float.{◌⊕◌, ◌⊗◌, 1·0}
use Rattle.exact.specs.Value.{scale, magnitude}
use Rattle.exact.proofs.Num.{Num, num}
use Rattle.exact.proofs.Ops.{scale-pos, val, exact, round-at, over-left, over-right}
use Rattle.exact.proofs.Rounding.{close-whole}
use Rattle.root.proofs.Reading.{value-unique}
use Rattle.root.proofs.RoundExact.{round-own}
use Rattle.numeric.proofs.Zeros.{is_zero, none-at, round-none}

-- -0
abbrev pub is_minus_zero : Float → Bool
is_minus_zero nan = false
is_minus_zero (inf s) = false
is_minus_zero (fin false m e) = false
is_minus_zero (fin true zero e) = true
is_minus_zero (fin true (suc m) e) = false

-- ---- a finite number times a zero is a zero
pub times_zero : (x y : Float) → T (finite x) → T (is_zero y) → T (is_zero (x ⊗ y))
unfolding mul
times_zero nan y f z = absurd f
times_zero (inf s) y f z = absurd f
times_zero (fin s m e) nan f z = absurd z
times_zero (fin s m e) (inf t) f z = absurd z
times_zero (fin s m e) (fin t (suc n) d) f z = absurd z
times_zero (fin s m e) (fin t zero d) f z =
    let a : m * up e * (0 * up d) ≡ 0 = ap (λ (k : ℕ). m * up e * k) (zero-mul (up d)) ∙ mul-zero (m * up e) in
    subst (λ (r : Float). T (is_zero r)) (sym (ap (λ (k : ℕ). round binary64 (unlike s t) k (down e * down d)) a ∙ round-none (unlike s t) (down e * down d) (mul-pos (down_pos e) (down_pos d)))) tt

-- ---- a binary64 rounds to itself
zero-own : (s : Bool) (e : ℤ) → T (fits binary64 (fin s 0 e)) → fin s 0 (pos 0) ≡ fin s 0 e
zero-own s e f = value-unique (fin s 0 (pos 0)) (fin s 0 e) s 0 (unfold fits in tt) f (refl, none (up (pos 0)) (down (pos 0))) (refl, none (up e) (down e))
  where
    none : (u d : ℕ) → 0 * u * 2 ^ 1074 ≡ 0 * d
    none u d = ap (λ (z : ℕ). z * 2 ^ 1074) (zero-mul u) ∙ zero-mul (2 ^ 1074) ∙ sym (zero-mul d)

-- the number of x, written a / c, rounds to x
own : (s : Bool) (m : ℕ) (e : ℤ) → T (fits binary64 (fin s m e)) → (a c : ℕ) → 0 < c → a * down e ≡ m * up e * c → round binary64 s a c ≡ fin s m e
own s zero e f a c C h =
    round_same binary64 s a c 0 1 C (zero-lt-suc 0) (none a c (down e) (up e) (down_pos e) h) ∙ none-at s ∙ zero-own s e f
  where
    none : (a c d u : ℕ) → 0 < d → a * d ≡ 0 * u * c → a * 1 ≡ 0 * c
    none zero c d u D h = sym (zero-mul c)
    none (suc a) c d u D h = absurd (lt_irrefl 0 (subst (λ (z : ℕ). 0 < z) (h ∙ ap (λ (z : ℕ). z * c) (zero-mul u) ∙ zero-mul c) (mul-pos (zero-lt-suc a) D)))
own s (suc m) e f a c C h = round_same binary64 s a c (suc m * up e) (down e) C (down_pos e) h ∙ round-own s m e f

-- a binary64 times 1 is itself
regroup : (a d : ℕ) → a * 1 * d ≡ a * (d * 1)
regroup a d = omega arith

pub times-one : (x : Float) → T (fits binary64 x) → x ⊗ 1·0 ≡ x
unfolding mul of_bits
times-one nan f = refl
times-one (inf true) f = refl
times-one (inf false) f = refl
times-one (fin true m e) f = own true m e f (m * up e * 1) (down e * 1) (mul-pos (down_pos e) (zero-lt-suc 0)) (regroup (m * up e) (down e))
times-one (fin false m e) f = own false m e f (m * up e * 1) (down e * 1) (mul-pos (down_pos e) (zero-lt-suc 0)) (regroup (m * up e) (down e))

-- ---- a binary64 other than -0 plus a zero is itself
regroup-sum : (a d e : ℕ) → a * d * e ≡ a * (e * d)
regroup-sum a d e = omega arith

-- a sum with b = 0
with_none : (s t : Bool) (m : ℕ) (e : ℤ) (a c : ℕ) → T (fits binary64 (fin s m e)) → is_minus_zero (fin s m e) ≡ false → 0 < c → a * down e ≡ m * up e * c → sum binary64 s a t 0 c ≡ fin s m e
unfolding sum
with_none true true m e a c f z C h = ap (λ (k : ℕ). round binary64 true k c) (add-zero a) ∙ own true m e f a c C h
with_none false false m e a c f z C h = ap (λ (k : ℕ). round binary64 false k c) (add-zero a) ∙ own false m e f a c C h
with_none false true m e a c f z C h = let n : a - 0 ≡ a = omega arith in rw (le-ltb a 0 zero-le) (ap (λ (k : ℕ). round binary64 false k c) n ∙ own false m e f a c C h)
with_none true false zero e a c f z C h = absurd (let q : true ≡ false = z in let n : ◌≡◌ {A = ℕ} 0 1 = cc in omega arith)
with_none true false (suc m) e a c f z C h = let n : a - 0 ≡ a = omega arith in rw (le-ltb a 0 zero-le, lt-ltb 0 a (above a C h)) (ap (λ (k : ℕ). round binary64 true k c) n ∙ own true (suc m) e f a c C h)
  where
    above : (a : ℕ) → 0 < c → a * down e ≡ suc m * up e * c → 0 < a
    above zero C h = absurd (lt_irrefl 0 (subst (λ (z : ℕ). 0 < z) (sym h ∙ zero-mul (down e)) (mul-pos (mul-pos (zero-lt-suc m) (up_pos e)) C)))
    above (suc a) C h = zero-lt-suc a

pub plus-zero : (x y : Float) → T (fits binary64 x) → is_minus_zero x ≡ false → T (is_zero y) → x ⊕ y ≡ x
unfolding add
plus-zero x nan f z o = absurd o
plus-zero x (inf t) f z o = absurd o
plus-zero x (fin t (suc n) d) f z o = absurd o
plus-zero nan (fin t zero d) f z o = refl
plus-zero (inf s) (fin t zero d) f z o = refl
plus-zero (fin s m e) (fin t zero d) f z o =
    let b : 0 * up d * down e ≡ 0 = ap (λ (k : ℕ). k * down e) (zero-mul (up d)) ∙ zero-mul (down e) in
    ap (λ (k : ℕ). sum binary64 s (m * up e * down d) t k (down e * down d)) b
    ∙ with_none s t m e (m * up e * down d) (down e * down d) f z (mul-pos (down_pos e) (down_pos d)) (regroup-sum (m * up e) (down d) (down e))

-- ---- a sum is -0 only where both operands are
odd-signed : (d q k l : ℕ) → is_minus_zero (odd d false q k l) ≡ false
unfolding odd
odd-signed d zero k l = refl
odd-signed d (suc q) k l = refl

units-signed : (q k : ℕ) → is_minus_zero (units binary64 false q k) ≡ false
unfolding units
units-signed q k = go (ltb (q * 2 ^ k) (2 ^ 2098))
  where
    go : (b : Bool) → is_minus_zero (cond b (odd 54 false q k 1074) (inf false)) ≡ false
    go true = odd-signed 54 q k 1074
    go false = refl

plus-signed : (n c : ℕ) → is_minus_zero (round binary64 false n c) ≡ false
plus-signed n c = ap is_minus_zero (round_is binary64 false n c) ∙ units-signed _ _

-- a number above 0 that is a whole number of units does not round to 0
round-some : (n c t : ℕ) → 0 < c → 0 < n → n * scale ≡ t * c → is_minus_zero (round binary64 true n c) ≡ false
unfolding val magnitude
round-some n c t C N h = go (round binary64 true n c) refl
  where
    none : (t c : ℕ) → 0 < n * scale → n * scale ≡ t * c → t ≡ 0 → ⊥
    none t c P h z = lt_irrefl 0 (subst (λ (k : ℕ). 0 < k) (h ∙ ap (λ (k : ℕ). k * c) z ∙ zero-mul c) P)

    go : (r : Float) → round binary64 true n c ≡ r → is_minus_zero r ≡ false
    go nan e = refl
    go (inf s) e = refl
    go (fin false m d) e = refl
    go (fin true (suc m) d) e = refl
    go (fin true zero d) e =
        let r = round-at true n c t 1 C (mul-one (n * scale) ∙ h) (subst (λ (x : Float). T (finite x)) (sym e) tt) in
        let w = close-whole r.rounds in
        let v : num 0 (magnitude (fin true 0 d)) ≡ num 0 r.g = ap val (sym e) ∙ r.is in
        let g : magnitude (fin true 0 d) ≡ r.g = ap (λ (x : Num). x.n) v in
        let u : magnitude (fin true 0 d) ≡ 0 = ap (λ (k : ℕ). k * scale / down d) (zero-mul (up d)) ∙ ap (λ (k : ℕ). k / down d) (zero-mul scale) ∙ zero-div (down d) in
        let i : r.g ≡ 0 = sym g ∙ u in
        absurd (none t c (mul-pos N scale-pos) h (omega (arith, w.1, i)))

module _ (a b c x y : ℕ) (C : 0 < c) (p : x * c ≡ a * scale) (q : y * c ≡ b * scale) where
  plus-units : (a + b) * scale ≡ (x + y) * c
  plus-units = omega arith

  minus-units : (b - a) * scale ≡ (y - x) * c
  minus-units = omega (arith, mul-sub scale b a, mul-sub c y x)

module _ (a b c x y : ℕ) (C : 0 < c) (p : x * c ≡ a * scale) (q : y * c ≡ b * scale) where
  sum-signed : (s t : Bool) → (s ≡ true → 0 < a) → is_minus_zero (sum binary64 s a t b c) ≡ false
  unfolding sum
  sum-signed false false h = plus-signed (a + b) c
  sum-signed true true h = let A = h refl in round-some (a + b) c (x + y) C (omega arith) (plus-units a b c x y C p q)
  sum-signed false true h = go (ltb a b) (ltb→lt a b)
    where
      go : (o : Bool) → (T o → a < b) → is_minus_zero (cond o (round binary64 true (b - a) c) (round binary64 false (a - b) c)) ≡ false
      go true l = let k = l tt in round-some (b - a) c (y - x) C (omega arith) (minus-units a b c x y C p q)
      go false l = plus-signed (a - b) c
  sum-signed true false h = go (ltb a b) (ltb b a) (ltb→lt b a)
    where
      go : (o w : Bool) → (T w → b < a) → is_minus_zero (cond o (round binary64 false (b - a) c) (round binary64 w (a - b) c)) ≡ false
      go true w l = plus-signed (b - a) c
      go false true l = let k = l tt in round-some (a - b) c (x - y) C (omega arith) (minus-units b a c y x C q p)
      go false false l = plus-signed (a - b) c

pub plus_not_minus : (x y : Float) → T (fits binary64 x) → T (fits binary64 y) → is_minus_zero x ≡ false → is_minus_zero (x ⊕ y) ≡ false
unfolding add
plus_not_minus nan y F G z = refl
plus_not_minus (inf s) nan F G z = refl
plus_not_minus (inf s) (inf t) F G z = go (beq s t)
  where
    go : (b : Bool) → is_minus_zero (cond b (inf s) nan) ≡ false
    go true = refl
    go false = refl
plus_not_minus (inf s) (fin t n d) F G z = refl
plus_not_minus (fin s m e) nan F G z = refl
plus_not_minus (fin s m e) (inf t) F G z = refl
plus_not_minus (fin s m e) (fin t n d) F G z =
    sum-signed (m * up e * down d) (n * up d * down e) (down e * down d) (magnitude (fin s m e)) (magnitude (fin t n d)) (mul-pos (down_pos e) (down_pos d))
    (over-left (m * up e) (magnitude (fin s m e)) (down e) (down d) scale (exact s m e F)) (over-right (n * up d) (magnitude (fin t n d)) (down d) (down e) scale (exact t n d G)) s t (some s m z)
  where
    some : (s : Bool) (m : ℕ) → is_minus_zero (fin s m e) ≡ false → s ≡ true → 0 < m * up e * down d
    some false m z q = absurd (let n : ◌≡◌ {A = ℕ} 0 1 = cc in omega arith)
    some true zero z q = absurd (let n : ◌≡◌ {A = ℕ} 0 1 = cc in omega arith)
    some true (suc m) z q = mul-pos (mul-pos (zero-lt-suc m) (up_pos e)) (down_pos d)
