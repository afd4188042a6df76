-- The laws of exact numbers: what a sum, a product, a magnitude and an order are, of numbers that are known as fractions. Assumes nothing.
use mathlib.Core.Path.{◌≡◌, refl, sym, ap, ap₂, ◌∙◌, subst}
use mathlib.Core.Logic.{inl, inr}
use Prim.Native.Nat.{ℕ, zero, suc, ◌+◌, ◌-◌, ◌*◌, ◌^◌, ◌≤◌, ◌<◌}
use native.Mathlib.Nat.{add-zero, mul-le-mul_right, le_of_mul-le-mul_right, mul-lt-mul_of_pos_right, lt_of_mul-lt-mul_right, mul-pos, mul-sub}
use native.Mathlib.Omega.{arith}
use lib.Dec.{leb→le, le→leb, ltb→lt, lt→ltb}
use lib.Pow.{pow-add, pow_pos}
use lib.IntN.{ℤ, pos, negsuc, ◌*ℤ◌, nat_abs}
use lib.Signed.{◌≤ℤ◌, ◌<ℤ◌, non_neg}
use mathlib.Core.Bool.{Bool, true, false, not}
use lib.Ieee.{Float, unlike}
use Rattle.exact.specs.Value.{scale, magnitude}
use Rattle.exact.specs.Number.{Number, ◌+ₑ◌, ◌-ₑ◌, ◌*ₑ◌, ∣◌∣, ◌≤ₑ◌, ◌<ₑ◌, negative, 0ₑ, 1ₑ, 2^-◌, Σ, exactly}
use Rattle.exact.proofs.Sharper.{sum}
use Rattle.exact.proofs.Num.{Num, num, none, ◌∔◌, ◌∸◌, ◌⊙◌, ◌·◌, abs, apart, Plain, plain-⊙}
use Rattle.exact.proofs.Ops.{val, sgn, val-plain}
use Rattle.exact.proofs.Products.{dot}
use Rattle.exact.proofs.Bridge.{Stands, stands-+, stands-minus, stands-*, stands-val, abs-val}

-- x is the fraction u / d
pub record Is (x : Number) (u : Num) (d : ℕ) : Type 0 where
  pub v : Num
  pub stands : Stands x.whole v
  pub is : v.p * d + u.n * 2 ^ x.places ≡ u.p * 2 ^ x.places + v.n * d

-- a pair's difference, whichever part is the larger
abbrev pub gap : Num → ℕ
gap u = apart u.p u.n

-- a whole number of 2 ^ -places
times : (z : ℤ) (v : Num) (k : ℕ) → Stands z v → Stands (z *ℤ pos k) (v ⊙ num k 0)
times z v k h = stands-* z (pos k) v (num k 0) h (add-zero k)

-- ---- sums, differences and products
plus-is : (v w u t : Num) (P Q d : ℕ) → v.p * d + u.n * P ≡ u.p * P + v.n * d → w.p * d + t.n * Q ≡ t.p * Q + w.n * d
    → ((v ⊙ num Q 0) ∔ (w ⊙ num P 0)).p * d + (u ∔ t).n * (P * Q) ≡ (u ∔ t).p * (P * Q) + ((v ⊙ num Q 0) ∔ (w ⊙ num P 0)).n * d
plus-is v w u t P Q d h k = omega (arith, ap (λ (z : ℕ). z * Q) h, ap (λ (z : ℕ). z * P) k)

pub is-+ : {x y : Number} {u t : Num} {d : ℕ} → Is x u d → Is y t d → Is (x +ₑ y) (u ∔ t) d
unfolding ◌+ₑ◌
is-+ {x} {y} {u} {t} {d} h k =
    let P = 2 ^ x.places in
    let Q = 2 ^ y.places in
    record {
      v = (h.v ⊙ num Q 0) ∔ (k.v ⊙ num P 0);
      stands = stands-+ (x.whole *ℤ pos Q) (y.whole *ℤ pos P) (h.v ⊙ num Q 0) (k.v ⊙ num P 0) (times x.whole h.v Q h.stands) (times y.whole k.v P k.stands);
      is = rw (pow-add 2 x.places y.places) (plus-is h.v k.v u t P Q d h.is k.is);
    }

minus_is : (v w u t : Num) (P Q d : ℕ) → v.p * d + u.n * P ≡ u.p * P + v.n * d → w.p * d + t.n * Q ≡ t.p * Q + w.n * d
    → ((v ⊙ num Q 0) ∸ (w ⊙ num P 0)).p * d + (u ∸ t).n * (P * Q) ≡ (u ∸ t).p * (P * Q) + ((v ⊙ num Q 0) ∸ (w ⊙ num P 0)).n * d
minus_is v w u t P Q d h k = omega (arith, ap (λ (z : ℕ). z * Q) h, ap (λ (z : ℕ). z * P) k)

pub is-minus : {x y : Number} {u t : Num} {d : ℕ} → Is x u d → Is y t d → Is (x -ₑ y) (u ∸ t) d
unfolding ◌-ₑ◌
is-minus {x} {y} {u} {t} {d} h k =
    let P = 2 ^ x.places in
    let Q = 2 ^ y.places in
    record {
      v = (h.v ⊙ num Q 0) ∸ (k.v ⊙ num P 0);
      stands = stands-minus (x.whole *ℤ pos Q) (y.whole *ℤ pos P) (h.v ⊙ num Q 0) (k.v ⊙ num P 0) (times x.whole h.v Q h.stands) (times y.whole k.v P k.stands);
      is = rw (pow-add 2 x.places y.places) (minus_is h.v k.v u t P Q d h.is k.is);
    }

cross_product : (a b c d a' b' c' d' : ℕ) → a + d ≡ c + b → a' + d' ≡ c' + b' → a * a' + b * b' + (c * d' + d * c') ≡ c * c' + d * d' + (a * b' + b * a')
cross_product a b c d a' b' c' d' h k = omega (arith, ap (λ (z : ℕ). z * a') h, ap (λ (z : ℕ). z * b') h, ap (λ (z : ℕ). c * z) k, ap (λ (z : ℕ). d * z) k)

regroup : (p n q m d e : ℕ) → (p * q + n * m) * (d * e) ≡ p * d * (q * e) + n * d * (m * e)
regroup p n q m d e = omega arith

times-is : (v w u t : Num) (P Q d e : ℕ) → v.p * d + u.n * P ≡ u.p * P + v.n * d → w.p * e + t.n * Q ≡ t.p * Q + w.n * e
    → (v ⊙ w).p * (d * e) + (u ⊙ t).n * (P * Q) ≡ (u ⊙ t).p * (P * Q) + (v ⊙ w).n * (d * e)
times-is v w u t P Q d e h k =
    ap₂ ◌+◌ (regroup v.p v.n w.p w.n d e) (regroup u.p u.n t.n t.p P Q)
    ∙ cross_product (v.p * d) (v.n * d) (u.p * P) (u.n * P) (w.p * e) (w.n * e) (t.p * Q) (t.n * Q) h k
    ∙ sym (ap₂ ◌+◌ (regroup u.p u.n t.p t.n P Q) (regroup v.p v.n w.n w.p d e))

pub is-* : {x y : Number} {u t : Num} {d e : ℕ} → Is x u d → Is y t e → Is (x *ₑ y) (u ⊙ t) (d * e)
unfolding ◌*ₑ◌
is-* {x} {y} {u} {t} {d} {e} h k =
    record {
      v = h.v ⊙ k.v;
      stands = stands-* x.whole y.whole h.v k.v h.stands k.stands;
      is = rw (pow-add 2 x.places y.places) (times-is h.v k.v u t (2 ^ x.places) (2 ^ y.places) d e h.is k.is);
    }

-- ---- magnitudes
pub nat_abs-gap : (z : ℤ) (v : Num) → Stands z v → nat_abs z + 0 ≡ gap v
nat_abs-gap (pos a) v h = omega arith
nat_abs-gap (negsuc a) v h = omega arith

gap_is : (v u : Num) (P d : ℕ) → v.p * d + u.n * P ≡ u.p * P + v.n * d → gap v * d + 0 * P ≡ gap u * P + 0 * d
gap_is v u P d h = omega (arith, mul-sub d v.p v.n, mul-sub d v.n v.p, mul-sub P u.p u.n, mul-sub P u.n u.p)

pub is-∣∣ : {x : Number} {u : Num} {d : ℕ} → Is x u d → Is ∣ x ∣ (num (gap u) 0) d
unfolding ∣◌∣
is-∣∣ {x} {u} {d} h = record { v = num (gap h.v) 0; stands = nat_abs-gap x.whole h.v h.stands; is = gap_is h.v u (2 ^ x.places) d h.is }

-- ---- the same fraction otherwise written
scale-is : (v u : Num) (P d k : ℕ) → v.p * d + u.n * P ≡ u.p * P + v.n * d → v.p * (k * d) + (k · u).n * P ≡ (k · u).p * P + v.n * (k * d)
scale-is v u P d k h = omega (arith, ap (λ (z : ℕ). k * z) h)

pub is-scaled : {x : Number} {u : Num} {d : ℕ} (k : ℕ) → Is x u d → Is x (k · u) (k * d)
is-scaled {x} {u} {d} k h = record { v = h.v; stands = h.stands; is = scale-is h.v u (2 ^ x.places) d k h.is }

same-is : (v u t : Num) (P d : ℕ) → v.p * d + u.n * P ≡ u.p * P + v.n * d → u.p + t.n ≡ t.p + u.n → v.p * d + t.n * P ≡ t.p * P + v.n * d
same-is v u t P d h e = omega (arith, ap (λ (z : ℕ). z * P) e)

pub is_same : {x : Number} {u : Num} {d : ℕ} (t : Num) → Is x u d → u.p + t.n ≡ t.p + u.n → Is x t d
is_same {x} {u} {d} t h e = record { v = h.v; stands = h.stands; is = same-is h.v u t (2 ^ x.places) d h.is e }

pub is-over : {x : Number} {u : Num} {d e : ℕ} → Is x u d → d ≡ e → Is x u e
is-over {x} {u} h q = subst (λ (z : ℕ). Is x u z) q h

-- ---- constants, sums, floats
pub is-0 : (d : ℕ) → Is 0ₑ none d
unfolding 0ₑ
is-0 d = record { v = none; stands = refl; is = omega arith }

pub is-1 : (d : ℕ) → Is 1ₑ (num d 0) d
unfolding 1ₑ
is-1 d = record { v = num 1 0; stands = refl; is = omega arith }

pub is-2^- : (k : ℕ) → Is (2^- k) (num 1 0) (2 ^ k)
unfolding 2^-◌
is-2^- k = record { v = num 1 0; stands = refl; is = omega arith }

pub is-exactly : (x : Float) → Is (exactly x) (val x) scale
unfolding exactly scale
is-exactly x = record { v = val x; stands = stands-val x; is = refl }

-- ---- the order
ordered : (z w : ℤ) (v t : Num) → Stands z v → Stands w t → v.p + t.n ≤ t.p + v.n → z ≤ℤ w
ordered (pos a) (pos b) v t h k l = record { le = le→leb a b (omega arith) }
ordered (pos a) (negsuc b) v t h k l = absurd (omega arith)
ordered (negsuc a) (pos b) v t h k l = record { le = tt }
ordered (negsuc a) (negsuc b) v t h k l = record { le = le→leb b a (omega arith) }

order : (z w : ℤ) (v t : Num) → Stands z v → Stands w t → z ≤ℤ w → v.p + t.n ≤ t.p + v.n
order (pos a) (pos b) v t h k l = omega (arith, leb→le a b l.le)
order (pos a) (negsuc b) v t h k l = absurd l.le
order (negsuc a) (pos b) v t h k l = omega arith
order (negsuc a) (negsuc b) v t h k l = omega (arith, leb→le b a l.le)

cross : (v w u t : Num) (P Q d : ℕ) → 0 < d → v.p * d + u.n * P ≡ u.p * P + v.n * d → w.p * d + t.n * Q ≡ t.p * Q + w.n * d
    → u.p + t.n ≤ t.p + u.n → (v ⊙ num Q 0).p + (w ⊙ num P 0).n ≤ (w ⊙ num P 0).p + (v ⊙ num Q 0).n
cross v w u t P Q d D h k l =
    le_of_mul-le-mul_right {k = d} (omega (arith, mul-le-mul_right (P * Q) l, ap (λ (z : ℕ). z * Q) h, ap (λ (z : ℕ). z * P) k)) D

uncross : (v w u t : Num) (P Q d : ℕ) → 0 < P * Q → v.p * d + u.n * P ≡ u.p * P + v.n * d → w.p * d + t.n * Q ≡ t.p * Q + w.n * d
    → (v ⊙ num Q 0).p + (w ⊙ num P 0).n ≤ (w ⊙ num P 0).p + (v ⊙ num Q 0).n → u.p + t.n ≤ t.p + u.n
uncross v w u t P Q d D h k l =
    le_of_mul-le-mul_right {k = P * Q} (omega (arith, mul-le-mul_right d l, ap (λ (z : ℕ). z * Q) h, ap (λ (z : ℕ). z * P) k)) D

ordered-lt : (z w : ℤ) (v t : Num) → Stands z v → Stands w t → v.p + t.n < t.p + v.n → z <ℤ w
ordered-lt (pos a) (pos b) v t h k l = record { lt = lt→ltb a b (omega arith) }
ordered-lt (pos a) (negsuc b) v t h k l = absurd (omega arith)
ordered-lt (negsuc a) (pos b) v t h k l = record { lt = tt }
ordered-lt (negsuc a) (negsuc b) v t h k l = record { lt = lt→ltb b a (omega arith) }

order_lt : (z w : ℤ) (v t : Num) → Stands z v → Stands w t → z <ℤ w → v.p + t.n < t.p + v.n
order_lt (pos a) (pos b) v t h k l = omega (arith, ltb→lt a b l.lt)
order_lt (pos a) (negsuc b) v t h k l = absurd l.lt
order_lt (negsuc a) (pos b) v t h k l = omega arith
order_lt (negsuc a) (negsuc b) v t h k l = omega (arith, ltb→lt b a l.lt)

cross-lt : (v w u t : Num) (P Q d : ℕ) → 0 < P * Q → v.p * d + u.n * P ≡ u.p * P + v.n * d → w.p * d + t.n * Q ≡ t.p * Q + w.n * d
    → u.p + t.n < t.p + u.n → (v ⊙ num Q 0).p + (w ⊙ num P 0).n < (w ⊙ num P 0).p + (v ⊙ num Q 0).n
cross-lt v w u t P Q d D h k l =
    lt_of_mul-lt-mul_right d (omega (arith, mul-lt-mul_of_pos_right l D, ap (λ (z : ℕ). z * Q) h, ap (λ (z : ℕ). z * P) k))

uncross-lt : (v w u t : Num) (P Q d : ℕ) → 0 < d → v.p * d + u.n * P ≡ u.p * P + v.n * d → w.p * d + t.n * Q ≡ t.p * Q + w.n * d
    → (v ⊙ num Q 0).p + (w ⊙ num P 0).n < (w ⊙ num P 0).p + (v ⊙ num Q 0).n → u.p + t.n < t.p + u.n
uncross-lt v w u t P Q d D h k l =
    lt_of_mul-lt-mul_right (P * Q) (omega (arith, mul-lt-mul_of_pos_right l D, ap (λ (z : ℕ). z * Q) h, ap (λ (z : ℕ). z * P) k))

module _ {x y : Number} {u t : Num} {d : ℕ} (D : 0 < d) (h : Is x u d) (k : Is y t d) where
  P : ℕ
  P = 2 ^ x.places

  Q : ℕ
  Q = 2 ^ y.places

  pub le-of-is : u.p + t.n ≤ t.p + u.n → x ≤ₑ y
  unfolding ◌≤ₑ◌ P Q
  le-of-is l =
      ordered (x.whole *ℤ pos Q) (y.whole *ℤ pos P) (h.v ⊙ num Q 0) (k.v ⊙ num P 0) (times x.whole h.v Q h.stands) (times y.whole k.v P k.stands)
      (cross h.v k.v u t P Q d D h.is k.is l)

  pub is-of-le : x ≤ₑ y → u.p + t.n ≤ t.p + u.n
  unfolding ◌≤ₑ◌ P Q
  is-of-le l = uncross h.v k.v u t P Q d (mul-pos (pow_pos x.places) (pow_pos y.places)) h.is k.is
      (order (x.whole *ℤ pos Q) (y.whole *ℤ pos P) (h.v ⊙ num Q 0) (k.v ⊙ num P 0) (times x.whole h.v Q h.stands) (times y.whole k.v P k.stands) l)

  pub lt-of-is : u.p + t.n < t.p + u.n → x <ₑ y
  unfolding ◌<ₑ◌ P Q
  lt-of-is l = ordered-lt (x.whole *ℤ pos Q) (y.whole *ℤ pos P) (h.v ⊙ num Q 0) (k.v ⊙ num P 0) (times x.whole h.v Q h.stands) (times y.whole k.v P k.stands)
      (cross-lt h.v k.v u t P Q d (mul-pos (pow_pos x.places) (pow_pos y.places)) h.is k.is l)

  pub is-of-lt : x <ₑ y → u.p + t.n < t.p + u.n
  unfolding ◌<ₑ◌ P Q
  is-of-lt l = uncross-lt h.v k.v u t P Q d D h.is k.is
      (order_lt (x.whole *ℤ pos Q) (y.whole *ℤ pos P) (h.v ⊙ num Q 0) (k.v ⊙ num P 0) (times x.whole h.v Q h.stands) (times y.whole k.v P k.stands) l)

-- ---- the sign
negative-no' : (z : ℤ) (v u : Num) (P d : ℕ) → 0 < d → Stands z v → v.p * d + u.n * P ≡ u.p * P + v.n * d → u.n ≤ u.p → not (non_neg z) ≡ false
negative-no' (pos a) v u P d D h e l = refl
negative-no' (negsuc a) v u P d D h e l = absurd (omega (arith, ap (λ (z : ℕ). z * d) h, mul-le-mul_right P l))

negative-yes' : (z : ℤ) (v u : Num) (P d : ℕ) → 0 < P → Stands z v → v.p * d + u.n * P ≡ u.p * P + v.n * d → u.p < u.n → not (non_neg z) ≡ true
negative-yes' (negsuc a) v u P d D h e l = refl
negative-yes' (pos a) v u P d D h e l = absurd (omega (arith, ap (λ (z : ℕ). z * d) h, mul-lt-mul_of_pos_right l D))

module _ {x : Number} {u : Num} {d : ℕ} (D : 0 < d) (h : Is x u d) where
  pub negative-no : u.n ≤ u.p → negative x ≡ false
  unfolding negative
  negative-no l = negative-no' x.whole h.v u (2 ^ x.places) d D h.stands h.is l

  pub negative-yes : u.p < u.n → negative x ≡ true
  unfolding negative
  negative-yes l = negative-yes' x.whole h.v u (2 ^ x.places) d (pow_pos x.places) h.stands h.is l

-- ---- numbers that are not negative, and sums of many
pub is-*ℕ : {x y : Number} {a b d e : ℕ} → Is x (num a 0) d → Is y (num b 0) e → Is (x *ₑ y) (num (a * b) 0) (d * e)
is-*ℕ {a = a} {b = b} h k = is_same (num (a * b) 0) (is-* h k) (omega arith)

pub is_scaledℕ : {x : Number} {a d : ℕ} (k : ℕ) → Is x (num a 0) d → Is x (num (k * a) 0) (k * d)
is_scaledℕ {a = a} k h = is_same (num (k * a) 0) (is-scaled k h) (omega arith)

pub is-Σ : (f : ℕ → Number) (g : ℕ → ℕ) (d n : ℕ) → ((k : ℕ) → Is (f k) (num (g k) 0) d) → Is (Σ n f) (num (sum g n) 0) d
unfolding Σ sum
is-Σ f g d zero h = is-0 d
is-Σ f g d (suc n) h = is-+ (is-Σ f g d n h) (h n)

pub is-dot : (f g : ℕ → Number) (x y : ℕ → Num) (d e n : ℕ) → ((k : ℕ) → Is (f k) (x k) d) → ((k : ℕ) → Is (g k) (y k) e) → Is (Σ n (λ k. f k *ₑ g k)) (dot x y n) (d * e)
unfolding Σ dot
is-dot f g x y d e zero h k = is-0 (d * e)
is-dot f g x y d e (suc n) h k = is-+ (is-dot f g x y d e n h k) (is-* (h n) (k n))

-- x is the fraction u / d, and one part of u is 0
pub record Sized (x : Number) (u : Num) (d : ℕ) : Type 0 where
  pub is : Is x u d
  pub plain : Plain u

pub sized-0 : (d : ℕ) → Sized 0ₑ none d
sized-0 d = record { is = is-0 d; plain = inl refl }

pub sized-exactly : (x : Float) → Sized (exactly x) (val x) scale
sized-exactly x = record { is = is-exactly x; plain = val-plain x }

pub sized-* : {x y : Number} {u t : Num} {d e : ℕ} → Sized x u d → Sized y t e → Sized (x *ₑ y) (u ⊙ t) (d * e)
sized-* {u = u} {t = t} h k = record { is = is-* h.is k.is; plain = plain-⊙ u t h.plain k.plain }

-- its magnitude
pub is-size : {x : Number} {u : Num} {d : ℕ} → Sized x u d → Is ∣ x ∣ (num (abs u) 0) d
is-size {x} {u} {d} h = is_same (num (abs u) 0) (is-∣∣ h.is) (only u h.plain)
  where
    only : (u : Num) → Plain u → gap u + 0 ≡ abs u + 0
    only u (inl z) = omega arith
    only u (inr z) = omega arith

pub is-∣exactly∣ : (x : Float) → Is ∣ exactly x ∣ (num (magnitude x) 0) scale
is-∣exactly∣ x = subst (λ (m : ℕ). Is ∣ exactly x ∣ (num m 0) scale) (abs-val x) (is-size (sized-exactly x))

-- ---- numbers by their sign and their magnitude
pub is-sgn-* : {x y : Number} {d e : ℕ} (s t : Bool) (a b : ℕ) → Is x (sgn s a) d → Is y (sgn t b) e → Is (x *ₑ y) (sgn (unlike s t) (a * b)) (d * e)
is-sgn-* true true a b h k = is_same (num (a * b) 0) (is-* h k) (omega arith)
is-sgn-* true false a b h k = is_same (num 0 (a * b)) (is-* h k) (omega arith)
is-sgn-* false true a b h k = is_same (num 0 (a * b)) (is-* h k) (omega arith)
is-sgn-* false false a b h k = is_same (num (a * b) 0) (is-* h k) (omega arith)

pub is-sgn-+ : {x y : Number} {d : ℕ} (s : Bool) (a b : ℕ) → Is x (sgn s a) d → Is y (sgn s b) d → Is (x +ₑ y) (sgn s (a + b)) d
is-sgn-+ true a b h k = is-+ h k
is-sgn-+ false a b h k = is-+ h k

-- of unlike signs: the larger one's sign counts
pub is-first : {x y : Number} {d : ℕ} (s : Bool) (a b : ℕ) → b ≤ a → Is x (sgn s a) d → Is y (sgn (not s) b) d → Is (x +ₑ y) (sgn s (a - b)) d
is-first true a b l h k = is_same (num 0 (a - b)) (is-+ h k) (omega arith)
is-first false a b l h k = is_same (num (a - b) 0) (is-+ h k) (omega arith)

pub is-second : {x y : Number} {d : ℕ} (s : Bool) (a b : ℕ) → a ≤ b → Is x (sgn s a) d → Is y (sgn (not s) b) d → Is (x +ₑ y) (sgn (not s) (b - a)) d
is-second true a b l h k = is_same (num (b - a) 0) (is-+ h k) (omega arith)
is-second false a b l h k = is_same (num 0 (b - a)) (is-+ h k) (omega arith)
