-- The whole part of k * x, from the bits of x. Assumes nothing.
use mathlib.Core.Path.{◌≡◌, refl, sym, ap, ◌∙◌, subst}
use Prim.Native.Nat.{ℕ, ◌+◌, ◌-◌, ◌*◌, ◌/◌, ◌%◌, ◌^◌, ◌≤◌, ◌<◌}
use native.Mathlib.Nat.{mul_assoc, mul-div_cancel, mul-div-mul_right, mul-le-mul_right, mul-lt-mul_of_pos_left, lt_of_le_of_lt, lt_of_lt_of_le, eq_of_mul-eq-mul_right, div-eq_of_lt, div-mul-le_self, mod-lt, div-add-mod', add-mul, one-mul, zero-mul, mul-zero, zero-div}
use native.Mathlib.Decide.{dec_lt}
use native.Mathlib.Omega.{arith}
use mathlib.Core.Bool.{Bool, true, false, not, false≢true}
use lib.Dec.{T, leb, eqb, eqb→eq, lit≤}
use borrow.Author.Tests.{ltb-true, ltb-false, leb-false}
use lib.Pow.{pow-add, pow_pos, pow_mono, shl_lt}
use lib.Ieee.{Float, nan, inf, fin, up, down, binary64, below, level, fits, lt, le, is_nan, of_bits, to_bits, of_int}
use lib.Ieee.Bits.{of_bits-to_bits, is_false}
use lib.Ieee.Exact.{HasValue}
use lib.Ieee.Fits.{down_pos, and_l}
use Rattle.exact.specs.Float.{bits, +0, whole}
use Rattle.exact.specs.Value.{scale, magnitude}
use Rattle.exact.proofs.Ops.{scale-pos}
use Rattle.root.proofs.Reading.{lt-number, subnormal-value}
use Rattle.root.proofs.Parts.{normal-parts}
use Rattle.exact.specs.Pattern.{sign}
use Rattle.numeric.specs.Whole.{whole_times}
use Rattle.numeric.proofs.OrderMagnitude.{unsigned, infinity, lt-bits, is_nan-bits}

-- ---- the pattern of a float that is above 0 and below 2 ^ 53

abbrev limit : ℕ
limit = 0x4340_0000_0000_0000

limit_is : bits limit ≡ whole (2 ^ 53)
unfolding of_bits of_int
limit_is = refl

number-unsigned : (b : ℕ) → T (not (is_nan (bits b))) → unsigned b ≤ infinity
number-unsigned b h = ltb-false infinity (unsigned b) (sym (is_nan-bits b) ∙ is_false (is_nan (bits b)) h)

pub record Between (b l : ℕ) : Type 0 where
  pub above : 0 < b
  pub under : b < l

-- a pattern between 0 and l, compared with its sign, has none
bare : (b l : ℕ) (s : Bool) → leb (2 ^ 63) b ≡ s → below false 0 s (unsigned b) ≡ true → below s (unsigned b) false l ≡ true → Between b l
bare b l true e p q = absurd (false≢true p)
bare b l false e p q =
    let h : b < 2 ^ 63 = leb-false (2 ^ 63) b e in
    let i : 0 < unsigned b = ltb-true 0 (unsigned b) p in
    let j : unsigned b < l = ltb-true (unsigned b) l q in
    record { above = omega arith; under = omega arith }

pub pattern_between : (x : Float) → T (fits binary64 x) → lt +0 x ≡ true → lt x (whole (2 ^ 53)) ≡ true → Between (to_bits binary64 x) limit
unfolding sign
pattern_between x f p q =
    let b = to_bits binary64 x in
    let is : bits b ≡ x = of_bits-to_bits binary64 x f in
    let u : unsigned b ≤ infinity = number-unsigned b (subst (λ (z : Float). T (not (is_nan z))) (sym is) (lt-number x (whole (2 ^ 53)) q)) in
    let p' : lt +0 (bits b) ≡ true = ap (λ (z : Float). lt +0 z) is ∙ p in
    let q' : lt (bits b) (bits limit) ≡ true = ap (λ (z : Float). lt z (bits limit)) is ∙ ap (λ (z : Float). lt x z) limit_is ∙ q in
    bare b limit (leb (2 ^ 63) b) refl (sym (lt-bits 0 b (lit≤ tt) u) ∙ p') (sym (lt-bits b limit u (lit≤ tt)) ∙ q')

-- ---- its magnitude

magnitude-is : (x : Float) (s : Bool) (a : ℕ) → HasValue x s a (2 ^ 1074) → magnitude x ≡ a
unfolding magnitude scale
magnitude-is nan s a v = absurd v
magnitude-is (inf t) s a v = absurd v
magnitude-is (fin t m e) s a v = ap (λ (z : ℕ). z / down e) v.1 ∙ mul-div_cancel a (down_pos e)

-- the digits, with the leading one
abbrev pub significand : ℕ → ℕ
significand b = b % 2 ^ 52 + 2 ^ 52

normal-magnitude : (b : ℕ) → 2 ^ 52 ≤ b → b < infinity → magnitude (bits b) ≡ significand b * 2 ^ (b / 2 ^ 52 - 1)
normal-magnitude b l h =
    let m = significand b in
    let e = b / 2 ^ 52 in
    let p = normal-parts b m l h refl in
    let j : e + 51 ≡ e - 1 + 52 = omega arith in
    let w : m * 2 ^ (e + 51) ≡ m * 2 ^ (e - 1) * 2 ^ 52 = ap (λ (z : ℕ). m * 2 ^ z) j ∙ ap (λ (z : ℕ). m * z) (pow-add 2 (e - 1) 52) ∙ sym (mul_assoc m (2 ^ (e - 1)) (2 ^ 52)) in
    magnitude-is (bits b) false p.a p.is ∙ eq_of_mul-eq-mul_right (2 ^ 52) (pow_pos 52) p.a (m * 2 ^ (e - 1)) (p.same ∙ w)

low-magnitude : (b : ℕ) → b / 2 ^ 52 < 1012 → magnitude (bits b) < 2 ^ 1063
low-magnitude b h = go (dec_lt b (2 ^ 52))
  where
    go : Dec (b < 2 ^ 52) → magnitude (bits b) < 2 ^ 1063
    go (yes l) = rw (magnitude-is (bits b) false b (subnormal-value b l)) (lt_of_lt_of_le l (pow_mono {i = 52} {j = 1063} (omega arith)))
    go (no f) =
        let l : 2 ^ 52 ≤ b = omega arith in
        let e = b / 2 ^ 52 in
        let m-lt : significand b < 2 ^ 53 = omega arith in
        rw (normal-magnitude b l (omega arith)) (lt_of_lt_of_le (shl_lt 53 (e - 1) m-lt) (pow_mono {i = 53 + (e - 1)} {j = 1063} (omega arith)))

-- ---- the whole part

product_small : (k a : ℕ) → k ≤ 2 ^ 11 → a < 2 ^ 1063 → k * a < 2 ^ 1074
product_small k a h l = lt_of_le_of_lt (mul-le-mul_right a h) (subst (λ (z : ℕ). 2 ^ 11 * a < z) (sym (pow-add 2 11 1063)) (mul-lt-mul_of_pos_left l (pow_pos 11)))

shifted : (k m i j : ℕ) → i + j ≡ 1074 → k * m / 2 ^ i ≡ k * (m * 2 ^ j) / 2 ^ 1074
shifted k m i j e =
    sym (mul-div-mul_right (k * m) (2 ^ i) (pow_pos j))
    ∙ ap (λ (z : ℕ). z / (2 ^ i * 2 ^ j)) (mul_assoc k m (2 ^ j))
    ∙ ap (λ (z : ℕ). k * (m * 2 ^ j) / z) (sym (pow-add 2 i j) ∙ ap (λ (z : ℕ). 2 ^ z) e)

module _ (k : ℕ) (x : Float) (f : T (fits binary64 x)) (p : lt +0 x ≡ true) (q : lt x (whole (2 ^ 53)) ≡ true) where
  own : bits (to_bits binary64 x) ≡ x
  own = of_bits-to_bits binary64 x f

  -- a low exponent
  pub whole-none : k ≤ 2 ^ 11 → to_bits binary64 x / 2 ^ 52 < 1012 → 0 ≡ whole_times k x
  unfolding whole_times scale
  whole-none h l = sym (div-eq_of_lt (product_small k (magnitude x) h (subst (λ (z : Float). magnitude z < 2 ^ 1063) own (low-magnitude (to_bits binary64 x) l))))

  -- any other
  pub whole-shifted : 1012 ≤ to_bits binary64 x / 2 ^ 52 → k * significand (to_bits binary64 x) / 2 ^ (1075 - to_bits binary64 x / 2 ^ 52) ≡ whole_times k x
  unfolding whole_times scale
  whole-shifted l =
      let b = to_bits binary64 x in
      let e = b / 2 ^ 52 in
      let u : Between b limit = pattern_between x f p q in
      let is : magnitude x ≡ significand b * 2 ^ (e - 1) = ap magnitude (sym own) ∙ normal-magnitude b (omega arith) (omega arith) in
      rw is (shifted k (significand b) (1075 - e) (e - 1) (omega arith))

-- either zero
zero-magnitude : (x : Float) → le +0 x ≡ true → lt +0 x ≡ false → magnitude x ≡ 0
unfolding le lt of_bits magnitude
zero-magnitude nan p q = refl
zero-magnitude (inf s) p q = refl
zero-magnitude (fin s m e) p q = nothing (level false (0 * 1 * down e) s (m * up e * 1)) refl (rw q at p)
  where
    nothing : (t : Bool) → level false (0 * 1 * down e) s (m * up e * 1) ≡ t → t ≡ true → m * up e * scale / down e ≡ 0
    nothing t i h =
        let z : 0 * 1 * down e ≡ m * up e * 1 = eqb→eq (0 * 1 * down e) (m * up e * 1) (and_l (eqb (0 * 1 * down e) (m * up e * 1)) _ (subst T (sym (i ∙ h)) tt)) in
        let y : m * up e ≡ 0 = omega (arith, zero-mul (down e)) in
        ap (λ (z : ℕ). z * scale / down e) y ∙ ap (λ (z : ℕ). z / down e) (zero-mul scale) ∙ zero-div (down e)

pub whole-zero : (k : ℕ) (x : Float) → le +0 x ≡ true → lt +0 x ≡ false → 0 ≡ whole_times k x
unfolding whole_times
whole-zero k x p q = sym (ap (λ (z : ℕ). k * z / scale) (zero-magnitude x p q) ∙ ap (λ (z : ℕ). z / scale) (mul-zero k) ∙ zero-div scale)

-- ---- what the name says: n is at most k * x, and n + 1 is above it

pub record Greatest (n k : ℕ) (x : Float) : Type 0 where
  pub not-above : n * scale ≤ k * magnitude x
  pub next-above : k * magnitude x < (n + 1) * scale

divided : (a s : ℕ) → 0 < s → a < (a / s + 1) * s
divided a s h = let m = mod-lt a h in let e = div-add-mod' a s in let f = add-mul (a / s) 1 s in omega (arith, one-mul s)

pub whole-greatest : (k : ℕ) (x : Float) → Greatest (whole_times k x) k x
unfolding whole_times
whole-greatest k x = record { not-above = div-mul-le_self (k * magnitude x) scale; next-above = divided (k * magnitude x) scale scale-pos }
