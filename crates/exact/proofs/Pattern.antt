-- THE THEOREMS: `bits` reads a pattern as IEEE 754 says, and nothing else is what it says; `to_bits` writes the one pattern that is read as the float. Assumes nothing.
use mathlib.Core.Path.{◌≡◌, refl, sym, ap, ◌∙◌, subst}
use mathlib.Core.Logic.{◌↔◌}
use Prim.Native.Nat.{ℕ, zero, suc, ◌+◌, ◌*◌, ◌/◌, ◌%◌, ◌^◌, ◌≤◌, ◌<◌}
use native.Mathlib.Nat.{le_of_eq, mul-pos, mul-div_cancel, eq_of_mul-eq-mul_right, pow-succ'}
use native.Mathlib.Omega.{arith}
use mathlib.Core.Bool.{Bool, true, false, not}
use lib.Dec.{T, leb, eqb, lit≤}
use borrow.Author.Tests.{eq-eqb, ne_eqb, eqb-true, eqb-false}
use lib.Ieee.{Float, nan, inf, fin, binary64, down, odd, of_fields, of_bits, to_bits, is_nan, fits}
use lib.Ieee.Bits.{of_bits-fits, of_bits-to_bits, to_bits-of_bits}
use lib.Ieee.Exact.{HasValue, odd_sign}
use lib.Ieee.Fits.{down_pos}
use lib.Ieee.Scale.{finite}
use Rattle.exact.specs.Float.{bits}
use Rattle.exact.specs.Value.{scale, magnitude}
use Rattle.exact.specs.Number.{Number, ◌+ₑ◌, ◌*ₑ◌, ∣◌∣, ◌=ₑ◌, 1ₑ, natₑ, 2^-◌, exactly}
use Rattle.exact.specs.Rounded.{is_sign_minus}
use Rattle.exact.specs.Pattern.{sign, exponent, digits, Signed, IsRead}
use Rattle.exact.proofs.Num.{num}
use Rattle.exact.proofs.Ops.{scale-pos}
use Rattle.exact.proofs.Number.{Is, is-+, is-*ℕ, is_same, is-over, is-1, is-2^-, is_scaledℕ, is-∣exactly∣, le-of-is, is-of-le}
use Rattle.exact.proofs.Units.{has-finite, has-sign, same_float}

-- ---- a number with a sign, in units
pub is_nat : (n d : ℕ) → Is (natₑ n) (num (n * d) 0) d
unfolding natₑ
is_nat n d = record { v = num n 0; stands = omega arith; is = omega arith }

same : {a b : ℕ} → a + 0 ≤ b + 0 → b + 0 ≤ a + 0 → a ≡ b
same {a} {b} h k = omega arith

module _ (s : Bool) {v : Number} (k A : ℕ) (K : 0 < k) (i : Is v (num (k * A) 0) (k * scale)) (x : Float) where
  size_is : Is ∣ exactly x ∣ (num (k * magnitude x) 0) (k * scale)
  size_is = is_scaledℕ k (is-∣exactly∣ x)

  signed_of : T (finite x) → is_sign_minus x ≡ s → magnitude x ≡ A → Signed s v x
  unfolding ◌=ₑ◌
  signed_of f e m =
      let P = mul-pos K scale-pos in
      let q : k * magnitude x + 0 ≡ k * A + 0 = ap (λ (z : ℕ). k * z + 0) m in
      record { is_finite = f; signed = e; size = (le-of-is P size_is i (le_of_eq q), le-of-is P i size_is (le_of_eq (sym q))) }

  of-signed : Signed s v x → magnitude x ≡ A
  unfolding ◌=ₑ◌
  of-signed h =
      let P = mul-pos K scale-pos in
      let q : k * magnitude x ≡ k * A = same (is-of-le P size_is i h.size.0) (is-of-le P i size_is h.size.1) in
      eq_of_mul-eq-mul_right k K (magnitude x) A (omega arith)

has-magnitude : (x : Float) (s : Bool) (a : ℕ) → HasValue x s a scale → magnitude x ≡ a
unfolding magnitude
has-magnitude nan s a h = absurd h
has-magnitude (inf t) s a h = absurd h
has-magnitude (fin t m e) s a h = ap (λ (z : ℕ). z / down e) h.1 ∙ mul-div_cancel a (down_pos e)

-- ---- the two formulas, in units
normal-units : (Q P W T : ℕ) → Q ≡ 2 * P → Q * 1 * 1 * (W + 1 * (T * 1)) + 0 ≡ 2 * ((W + T) * P) + 0
normal-units Q P W T e = omega (arith, ap (λ (z : ℕ). z * (W + T)) e)

normal-is : (x T : ℕ) → Is (natₑ (2 ^ suc x) *ₑ 2^- 1023 *ₑ (1ₑ +ₑ 2^- 52 *ₑ natₑ T)) (num (2 * ((2 ^ 52 + T) * 2 ^ x)) 0) (2 * scale)
unfolding scale
normal-is x T =
    let one : Is (natₑ (2 ^ suc x) *ₑ 2^- 1023) (num (2 ^ suc x * 1 * 1) 0) (1 * 2 ^ 1023) = is-*ℕ (is_nat (2 ^ suc x) 1) (is-2^- 1023) in
    let two : Is (1ₑ +ₑ 2^- 52 *ₑ natₑ T) (num (2 ^ 52 + 1 * (T * 1)) 0) (2 ^ 52) = is-+ (is-1 (2 ^ 52)) (is-over (is-*ℕ (is-2^- 52) (is_nat T 1)) refl) in
    is-over (is_same (num (2 * ((2 ^ 52 + T) * 2 ^ x)) 0) (is-*ℕ one two) (normal-units (2 ^ suc x) (2 ^ x) (2 ^ 52) T (pow-succ' 2 x))) refl

subnormal-is : (T : ℕ) → Is (2^- 1022 *ₑ (2^- 52 *ₑ natₑ T)) (num (1 * (T * 2 ^ 0)) 0) (1 * scale)
unfolding scale
subnormal-is T = is-over (is_same (num (1 * (T * 2 ^ 0)) 0) (is-*ℕ (is-2^- 1022) (is-*ℕ (is-2^- 52) (is_nat T 1))) (omega arith)) refl

-- ---- the fields are read so
module _ (s : Bool) (t : ℕ) where
  fields_nan : (e : ℕ) → e ≡ 2047 → (t ≡ 0 → ⊥) → of_fields binary64 s e t ≡ nan
  unfolding of_fields
  fields_nan zero h n = absurd (omega arith)
  fields_nan (suc e) h n = rw (eq-eqb (suc e) 2047 h, ne_eqb t 0 n)

  fields-inf : (e : ℕ) → e ≡ 2047 → t ≡ 0 → of_fields binary64 s e t ≡ inf s
  unfolding of_fields
  fields-inf zero h n = absurd (omega arith)
  fields-inf (suc e) h n = rw (eq-eqb (suc e) 2047 h, eq-eqb t 0 n)

  signed_odd : {v : Number} (k q e : ℕ) → 0 < k → Is v (num (k * (q * 2 ^ e)) 0) (k * scale) → Signed s v (odd 53 s q e 1074)
  unfolding scale
  signed_odd k q e K i =
      let x = odd 53 s q e 1074 in
      let h = odd_sign 53 s q e 1074 in
      signed_of s k (q * 2 ^ e) K i x (has-finite x s (q * 2 ^ e) (2 ^ 1074) h) (has-sign x s (q * 2 ^ e) (2 ^ 1074) h) (has-magnitude x s (q * 2 ^ e) h)

  fields-normal : (e : ℕ) → 1 ≤ e → e ≤ 2046 → Signed s (natₑ (2 ^ e) *ₑ 2^- 1023 *ₑ (1ₑ +ₑ 2^- 52 *ₑ natₑ t)) (of_fields binary64 s e t)
  unfolding of_fields
  fields-normal zero h l = absurd (omega arith)
  fields-normal (suc e) h l = rw (ne_eqb (suc e) 2047 (omega arith)) (signed_odd 2 (2 ^ 52 + t) e (lit≤ tt) (normal-is e t))

  fields-subnormal : (e : ℕ) → e ≡ 0 → Signed s (2^- 1022 *ₑ (2^- 52 *ₑ natₑ t)) (of_fields binary64 s e t)
  unfolding of_fields
  fields-subnormal zero h = signed_odd 1 t 0 (lit≤ tt) (subnormal-is t)
  fields-subnormal (suc e) h = absurd (omega arith)

bits-read : (p : ℕ) → IsRead p (bits p)
unfolding of_bits sign exponent digits
bits-read p =
    let e : p / 2 ^ 52 % 2 ^ 11 ≡ p % 2 ^ 63 / 2 ^ 52 = omega arith in
    let s = leb (2 ^ 63) p in
    let t = p % 2 ^ 52 in
    record {
      fits_format = of_bits-fits binary64 p;
      not_a-number = rw e (fields_nan s t (p % 2 ^ 63 / 2 ^ 52));
      infinite = rw e (fields-inf s t (p % 2 ^ 63 / 2 ^ 52));
      normal = rw e (fields-normal s t (p % 2 ^ 63 / 2 ^ 52));
      subnormal = rw e (fields-subnormal s t (p % 2 ^ 63 / 2 ^ 52));
    }

-- ---- and in no other way
signed-only : (s : Bool) {v : Number} (k A : ℕ) → 0 < k → Is v (num (k * A) 0) (k * scale) → (x y : Float) → T (fits binary64 x) → T (fits binary64 y) → Signed s v x → Signed s v y → x ≡ y
signed-only s k A K i x y F G h j = same_float x y F G h.is_finite j.is_finite (h.signed ∙ sym j.signed) (of-signed s k A K i x h ∙ sym (of-signed s k A K i y j))

read_only : (p : ℕ) (x y : Float) → IsRead p x → IsRead p y → x ≡ y
read_only p x y h j = go (exponent p) refl (eqb (exponent p) 2047) refl (eqb (digits p) 0) refl
  where
    go : (e : ℕ) → exponent p ≡ e → (a : Bool) → eqb (exponent p) 2047 ≡ a → (z : Bool) → eqb (digits p) 0 ≡ z → x ≡ y
    go e q true a true z = let f = eqb-true _ _ a in let g = eqb-true _ _ z in h.infinite f g ∙ sym (j.infinite f g)
    go e q true a false z = let f = eqb-true _ _ a in let g = eqb-false _ _ z in h.not_a-number f g ∙ sym (j.not_a-number f g)
    go zero q false a c z = signed-only (sign p) 1 (digits p * 2 ^ 0) (lit≤ tt) (subnormal-is (digits p)) x y h.fits_format j.fits_format (h.subnormal q) (j.subnormal q)
    go (suc e) q false a c z =
        let n : exponent p ≡ 2047 → ⊥ = eqb-false _ _ a in
        let l : exponent p < 2048 = below in
        let f : 1 ≤ exponent p = omega arith in
        let g : exponent p ≤ 2046 = omega arith in
        signed-only (sign p) 2 ((2 ^ 52 + digits p) * 2 ^ e) (lit≤ tt) (rw q (normal-is e (digits p))) x y h.fits_format j.fits_format (h.normal f g) (j.normal f g)
      where
        below : exponent p < 2048
        below = unfold exponent in omega arith

-- ---- the theorems
pub bits_is : (p : ℕ) (x : Float) → IsRead p x ↔ (x ≡ bits p)
bits_is p x = (λ h. read_only p x (bits p) h (bits-read p), λ e. subst (λ (y : Float). IsRead p y) (sym e) (bits-read p))

-- the pattern of a float that is no NaN
pub to_bits_is : (p : ℕ) (x : Float) → p < 2 ^ 64 → T (not (is_nan x)) → T (fits binary64 x) → IsRead p x ↔ (p ≡ to_bits binary64 x)
to_bits_is p x l n F = (
  λ h. let e = (bits_is p x).0 h in sym (to_bits-of_bits binary64 p l (subst (λ (y : Float). T (not (is_nan y))) e n)) ∙ ap (to_bits binary64) (sym e),
  λ e. (bits_is p x).1 (sym (ap bits e ∙ of_bits-to_bits binary64 x F)),
)
