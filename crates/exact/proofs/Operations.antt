-- THE THEOREMS: ⊕ ⊖ ⊗ ⊘ give what IEEE 754 says, of all operands that fit binary64, and nothing else meets what it says. Assumes nothing.
use mathlib.Core.Path.{◌≡◌, refl, sym, ◌∙◌, subst, subst₂}
use mathlib.Core.Logic.Iff
use mathlib.Core.Logic.{◌↔◌}
use Prim.Native.Nat.{ℕ, zero, suc, ◌+◌, ◌-◌, ◌*◌, ◌≤◌, ◌<◌, zero-le}
use native.Mathlib.Nat.{mul_assoc, le_of_lt, mul-pos, mul-sub, mul-lt-mul_of_pos_right, lt_of_mul-lt-mul_right, eq_of_mul-eq-mul_right, zero-lt-suc}
use native.Mathlib.Omega.{arith}
use mathlib.Core.Bool.{Bool, true, false, not, ◌&&◌, ◌||◌, cond}
use lib.Dec.{T, eqb, ltb, ltb→lt, nltb→le, eqb-suc-zero}
use lib.IntN.{ℤ}
use lib.Ieee.{Float, nan, inf, fin, binary64, up, down, unlike, round, neg, sum, add, sub, mul, div, fits}
use lib.Ieee.Fits.{down_pos, up_pos, neg-fits}
use lib.Ieee.Scale.{round_same}
use Rattle.exact.specs.Float.{◌⊕◌, ◌⊖◌, ◌⊗◌, ◌⊘◌}
use Rattle.exact.specs.Value.{scale, magnitude}
use Rattle.exact.specs.Number.{Number, ◌+ₑ◌, ◌*ₑ◌, negative, 1ₑ, exactly}
use Rattle.exact.specs.Rounded.{Rounded, IsSum, IsDifference, IsProduct, IsQuotient}
use Rattle.exact.proofs.Ops.{scale-pos, exact, val, sgn, mul-num, div-num, order, over-left, over-right}
use Rattle.exact.proofs.Number.{Is, is-1, is-exactly, is-sgn-*, is-sgn-+, is-first, is-second, negative-no, negative-yes}
use Rattle.exact.proofs.Rounded.{round_iff}

-- a finite float, in units
finite-is : (s : Bool) (m : ℕ) (e : ℤ) → Is (exactly (fin s m e)) (sgn s (magnitude (fin s m e))) scale
unfolding val
finite-is s m e = is-exactly (fin s m e)

-- a result that is no fraction but a whole number of 1 / E
whole_iff : (s : Bool) (A E : ℕ) {a : Number} → 0 < E → Is a (sgn s A) E → (r : Float) → r ≡ round binary64 s A E → (z : Float) → Rounded s a 1ₑ z ↔ (z ≡ r)
whole_iff true A E P h r e z = round_iff true false A E E P P h (is-1 E) r e z
whole_iff false A E P h r e z = round_iff false false A E E P P h (is-1 E) r e z

-- ---- products: x and y are the magnitudes
product_iff : (s t : Bool) (m n : ℕ) (e d : ℤ) → T (fits binary64 (fin s m e)) → T (fits binary64 (fin t n d)) → (z : Float)
    → Rounded (unlike s t) (exactly (fin s m e) *ₑ exactly (fin t n d)) 1ₑ z ↔ (z ≡ fin s m e ⊗ fin t n d)
unfolding mul
product_iff s t m n e d F G z =
    let x = magnitude (fin s m e) in
    let y = magnitude (fin t n d) in
    whole_iff (unlike s t) (x * y) (scale * scale) (mul-pos scale-pos scale-pos) (is-sgn-* s t x y (finite-is s m e) (finite-is t n d)) (fin s m e ⊗ fin t n d)
    (round_same binary64 (unlike s t) (m * up e * (n * up d)) (down e * down d) (x * y) (scale * scale) (mul-pos (down_pos e) (down_pos d)) (mul-pos scale-pos scale-pos)
    (sym (mul_assoc (m * up e * (n * up d)) scale scale) ∙ mul-num (m * up e) (n * up d) (down e) (down d) x y scale (exact s m e F) (exact t n d G))) z

-- a test for 0 that fails
other : (n : ℕ) (x y z : Float) → (z ≡ y) ↔ (z ≡ cond (eqb (suc n) 0) x y)
other n x y z = subst (λ (b : Bool). (z ≡ y) ↔ (z ≡ cond b x y)) (sym (eqb-suc-zero n)) Iff.rfl

pub mul_is : (x y : Float) → T (fits binary64 x) → T (fits binary64 y) → (z : Float) → IsProduct x y z ↔ (z ≡ x ⊗ y)
unfolding mul
mul_is nan y F G z = Iff.rfl
mul_is (inf s) nan F G z = Iff.rfl
mul_is (inf s) (inf t) F G z = Iff.rfl
mul_is (inf s) (fin t zero d) F G z = Iff.rfl
mul_is (inf s) (fin t (suc n) d) F G z = other n nan (inf (unlike s t)) z
mul_is (fin s m e) nan F G z = Iff.rfl
mul_is (fin s zero e) (inf t) F G z = Iff.rfl
mul_is (fin s (suc m) e) (inf t) F G z = other m nan (inf (unlike s t)) z
mul_is (fin s m e) (fin t n d) F G z = product_iff s t m n e d F G z

-- ---- quotients
same-quotient : (a b c d x y S : ℕ) → 0 < S → x * c ≡ a * S → y * d ≡ b * S → a * d * y ≡ x * (b * c)
same-quotient a b c d x y S P p q = eq_of_mul-eq-mul_right S P (a * d * y) (x * (b * c)) (omega (arith, div-num a b c d x y S p q))

-- a divisor that is not 0 has a magnitude
not_none : (b d y S : ℕ) → 0 < b → 0 < S → y * d ≡ b * S → 0 < y
not_none b d zero S B P q = absurd (omega (arith, mul-pos B P))
not_none b d (suc y) S B P q = zero-lt-suc y

quotient_iff : (s t : Bool) (m n : ℕ) (e d : ℤ) → 0 < n → T (fits binary64 (fin s m e)) → T (fits binary64 (fin t n d)) → (z : Float)
    → Rounded (unlike s t) (exactly (fin s m e)) (exactly (fin t n d)) z ↔ (z ≡ round binary64 (unlike s t) (m * up e * down d) (n * up d * down e))
quotient_iff s t m n e d N F G z =
    let x = magnitude (fin s m e) in
    let y = magnitude (fin t n d) in
    let Y : 0 < y = not_none (n * up d) (down d) y scale (mul-pos N (up_pos d)) scale-pos (exact t n d G) in
    round_iff (unlike s t) t x y scale scale-pos Y (twice s t x (finite-is s m e)) (finite-is t n d) (round binary64 (unlike s t) (m * up e * down d) (n * up d * down e))
    (round_same binary64 (unlike s t) (m * up e * down d) (n * up d * down e) x y (mul-pos (mul-pos N (up_pos d)) (down_pos e)) Y
    (same-quotient (m * up e) (n * up d) (down e) (down d) x y scale scale-pos (exact s m e F) (exact t n d G))) z
  where
    twice : (s t : Bool) (x : ℕ) {a : Number} → Is a (sgn s x) scale → Is a (sgn (unlike (unlike s t) t) x) scale
    twice true true x h = h
    twice true false x h = h
    twice false true x h = h
    twice false false x h = h

pub div_is : (x y : Float) → T (fits binary64 x) → T (fits binary64 y) → (z : Float) → IsQuotient x y z ↔ (z ≡ x ⊘ y)
unfolding div
div_is nan y F G z = Iff.rfl
div_is (inf s) nan F G z = Iff.rfl
div_is (inf s) (inf t) F G z = Iff.rfl
div_is (inf s) (fin t n d) F G z = Iff.rfl
div_is (fin s m e) nan F G z = Iff.rfl
div_is (fin s m e) (inf t) F G z = Iff.rfl
div_is (fin s zero e) (fin t zero d) F G z = Iff.rfl
div_is (fin s (suc m) e) (fin t zero d) F G z = other m nan (inf (unlike s t)) z
div_is (fin s m e) (fin t (suc n) d) F G z =
    subst (λ (b : Bool). Rounded (unlike s t) (exactly (fin s m e)) (exactly (fin t (suc n) d)) z ↔ (z ≡ cond b (cond (eqb m 0) nan (inf (unlike s t))) (round binary64 (unlike s t) (m * up e * down d) (suc n * up d * down e)))) (sym (eqb-suc-zero n))
    (quotient_iff s t m (suc n) e d (zero-lt-suc n) F G z)

-- ---- sums: x and y are the magnitudes, and a / c and b / c the same numbers
module _ (a b c x y : ℕ) (C : 0 < c) (p : x * c ≡ a * scale) (q : y * c ≡ b * scale) where
  less : a < b → x < y
  less l = lt_of_mul-lt-mul_right c (subst₂ (λ (m n : ℕ). m < n) (sym p) (sym q) (mul-lt-mul_of_pos_right l scale-pos))

  plus-same : (s : Bool) → round binary64 s (a + b) c ≡ round binary64 s (x + y) scale
  plus-same s = round_same binary64 s (a + b) c (x + y) scale C scale-pos (omega arith)

  minus-same : (s : Bool) → round binary64 s (b - a) c ≡ round binary64 s (y - x) scale
  minus-same s = round_same binary64 s (b - a) c (y - x) scale C scale-pos (omega (arith, mul-sub scale b a, mul-sub c y x))

some : {m n : ℕ} → m < n → 0 < n - m
some {m} {n} h = omega arith

module _ (a b c x y : ℕ) (C : 0 < c) (p : x * c ≡ a * scale) (q : y * c ≡ b * scale) (X Y : Number) (z : Float) where
  signed : (r : Bool) (A : ℕ) {s : Bool} → s ≡ r → Is (X +ₑ Y) (sgn r A) scale → (w : Float) → w ≡ round binary64 r A scale → Rounded s (X +ₑ Y) 1ₑ z ↔ (z ≡ w)
  signed r A e h w k = subst (λ (t : Bool). Rounded t (X +ₑ Y) 1ₑ z ↔ (z ≡ w)) (sym e) (whole_iff r A scale scale-pos h w k z)

  plus : {A : ℕ} → Is (X +ₑ Y) (sgn false A) scale → negative (X +ₑ Y) ≡ false
  plus h = negative-no scale-pos h zero-le

  minus : {A : ℕ} → 0 < A → Is (X +ₑ Y) (sgn true A) scale → negative (X +ₑ Y) ≡ true
  minus l h = negative-yes scale-pos h l

  sum_iff : (s t : Bool) → Is X (sgn s x) scale → Is Y (sgn t y) scale → Rounded (s && t || negative (X +ₑ Y)) (X +ₑ Y) 1ₑ z ↔ (z ≡ sum binary64 s a t b c)
  unfolding sum
  sum_iff true true h k = signed true (x + y) refl (is-sgn-+ true x y h k) (round binary64 true (a + b) c) (plus-same a b c x y C p q true)
  sum_iff false false h k = let i = is-sgn-+ false x y h k in signed false (x + y) (plus i) i (round binary64 false (a + b) c) (plus-same a b c x y C p q false)
  sum_iff false true h k = go (ltb a b) (ltb→lt a b) (nltb→le a b)
    where
      go : (o : Bool) → (T o → a < b) → (T (not o) → b ≤ a) → Rounded (negative (X +ₑ Y)) (X +ₑ Y) 1ₑ z ↔ (z ≡ cond o (round binary64 true (b - a) c) (round binary64 false (a - b) c))
      go true l m = let i = is-second false x y (le_of_lt (less a b c x y C p q (l tt))) h k in signed true (y - x) (minus (some (less a b c x y C p q (l tt))) i) i (round binary64 true (b - a) c) (minus-same a b c x y C p q true)
      go false l m = let i = is-first false x y (order b a c y x scale C q p (m tt)) h k in signed false (x - y) (plus i) i (round binary64 false (a - b) c) (minus-same b a c y x C q p false)
  sum_iff true false h k = go (ltb a b) (ltb→lt a b) (nltb→le a b) (ltb b a) (ltb→lt b a) (nltb→le b a)
    where
      go : (o : Bool) → (T o → a < b) → (T (not o) → b ≤ a) → (w : Bool) → (T w → b < a) → (T (not w) → a ≤ b)
          → Rounded (negative (X +ₑ Y)) (X +ₑ Y) 1ₑ z ↔ (z ≡ cond o (round binary64 false (b - a) c) (round binary64 w (a - b) c))
      go true l m w u v = let i = is-second true x y (le_of_lt (less a b c x y C p q (l tt))) h k in signed false (y - x) (plus i) i (round binary64 false (b - a) c) (minus-same a b c x y C p q false)
      go false l m true u v = let i = is-first true x y (order b a c y x scale C q p (m tt)) h k in signed true (x - y) (minus (some (less b a c y x C q p (u tt))) i) i (round binary64 true (a - b) c) (minus-same b a c y x C q p true)
      go false l m false u v =
          let i = is-first true x y (order b a c y x scale C q p (m tt)) h k in
          let e : x - y ≡ 0 = none x y (order a b c x y scale C p q (v tt)) in
          let j = subst (λ (n : ℕ). Is (X +ₑ Y) (sgn false n) scale) (sym e) (subst (λ (n : ℕ). Is (X +ₑ Y) (sgn true n) scale) e i) in
          signed false (x - y) (plus j) j (round binary64 false (a - b) c) (minus-same b a c y x C q p false)
        where
          none : (x y : ℕ) → x ≤ y → x - y ≡ 0
          none x y h = omega arith

pub add_is : (x y : Float) → T (fits binary64 x) → T (fits binary64 y) → (z : Float) → IsSum x y z ↔ (z ≡ x ⊕ y)
unfolding add
add_is nan y F G z = Iff.rfl
add_is (inf s) nan F G z = Iff.rfl
add_is (inf s) (inf t) F G z = Iff.rfl
add_is (inf s) (fin t n d) F G z = Iff.rfl
add_is (fin s m e) nan F G z = Iff.rfl
add_is (fin s m e) (inf t) F G z = Iff.rfl
add_is (fin s m e) (fin t n d) F G z =
    let x = magnitude (fin s m e) in
    let y = magnitude (fin t n d) in
    sum_iff (m * up e * down d) (n * up d * down e) (down e * down d) x y (mul-pos (down_pos e) (down_pos d))
    (over-left (m * up e) x (down e) (down d) scale (exact s m e F)) (over-right (n * up d) y (down d) (down e) scale (exact t n d G)) (exactly (fin s m e)) (exactly (fin t n d)) z s t (finite-is s m e) (finite-is t n d)

pub sub_is : (x y : Float) → T (fits binary64 x) → T (fits binary64 y) → (z : Float) → IsDifference x y z ↔ (z ≡ x ⊖ y)
unfolding sub
sub_is x y F G z = add_is x (neg y) F (neg-fits binary64 y G) z
