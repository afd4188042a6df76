-- A root that is seen to lie between two neighbouring whole numbers of units of 2 ^ -16 has their millimetres, where both have the same. Assumes nothing.
use mathlib.Core.Path.{◌≡◌, refl, sym, ap, ◌∙◌, subst}
use Prim.Native.Nat.{ℕ, zero, suc, ◌+◌, ◌-◌, ◌*◌, ◌/◌, ◌%◌, ◌^◌, ◌≤◌, ◌<◌}
use native.Mathlib.Nat.{le_trans, le_of_eq, lt_of_lt_of_le, lt_of_le_of_lt, mul_assoc, mul_comm, mul-mul-mul_comm, mul-le-mul, mul-le-mul_left, mul-le-mul_right, mul-lt-mul_of_pos_right, mul-div_cancel, div-mul-le_self, lt-mul-div-succ, div-eq_of_lt-le, add-mul}
use native.Mathlib.Decide.{dec_lt}
use native.Mathlib.Omega.{arith}
use mathlib.Core.Bool.{Bool, true, false, not, ◌&&◌, true≢false}
use lib.Dec.{T, leb, ltb, lit≤}
use borrow.Author.Tests.{leb-true, ltb-true, ltb-false, leb-false}
use lib.Pow.{pow-add, pow_pos}
use lib.Ieee.{Float, nan, inf, fin, up, down, binary64, below, fits, lt, le, is_nan, to_bits, of_int}
use lib.Ieee.Bits.{is_true, is_false, of_bits-to_bits}
use lib.Ieee.Exact.{HasValue, odd_sign}
use lib.Ieee.Fits.{down_pos}
use lib.Ieee.Order.{le_of_values}
use Rattle.exact.specs.Float.{bits, whole}
use Rattle.exact.specs.Pattern.{sign}
use Rattle.exact.specs.Value.{scale, magnitude}
use Rattle.root.specs.Digits.{isqrt, nearest_root}
use Rattle.root.specs.Root.{NearestWhole, root_of}
use Rattle.root.proofs.Parts.{normal-parts}
use Rattle.root.proofs.Reading.{read-normal, lt-number}
use Rattle.root.proofs.Squares.{square-next}
use Rattle.root.proofs.RootLaws.{wide, Result, result, isqrt-floor, nearest_root-is}
use Rattle.lists.proofs.Walk.{and_both}
use Rattle.numeric.specs.Whole.{whole_times}
use Rattle.numeric.proofs.OrderMagnitude.{unsigned, infinity, lt-bits, is_nan-bits}
use Rattle.trip.specs.Measure.{millimetres}
use Rattle.trip.specs.Steps.{way_of}

-- ---- whole numbers

-- a ^ 2 ≤ n < (a + 1) ^ 2 in units of u ^ 2: the whole number nearest to the root of n lies between a and a + 1 units
module _ (a n q u : ℕ) (h : NearestWhole n q) where
  root-from : a * u * (a * u) ≤ n → a * u ≤ q
  root-from l = go (dec_lt q (a * u))
    where
      go : Dec (q < a * u) → a * u ≤ q
      go (no f) = omega arith
      go (yes g) =
          let s : (2 * q + 1) * (2 * q + 1) ≤ (2 * (a * u)) * (2 * (a * u)) = mul-le-mul (omega arith) (omega arith) in
          absurd (omega (arith, s, h.below, mul-mul-mul_comm 2 (a * u) 2 (a * u), l))

  root-upto : n < a * u * (a * u) → q ≤ a * u
  root-upto l = go (dec_lt (a * u) q)
    where
      go : Dec (a * u < q) → q ≤ a * u
      go (no f) = omega arith
      go (yes g) =
          let s : (2 * (a * u)) * (2 * (a * u)) ≤ (2 * q - 1) * (2 * q - 1) = mul-le-mul (omega arith) (omega arith) in
          absurd (omega (arith, s, h.above, mul-mul-mul_comm 2 (a * u) 2 (a * u), l))

-- the digits m, shifted down by j, between a ^ 2 and (a + 1) ^ 2
module _ (m j a : ℕ) where
  digits_from : a * a ≤ m / 2 ^ j → a * a * 2 ^ j ≤ m
  digits_from h = le_trans (mul-le-mul_right (2 ^ j) h) (div-mul-le_self m (2 ^ j))

  digits-below : m / 2 ^ j ≤ a * a + 2 * a → m < (a + 1) * (a + 1) * 2 ^ j
  digits-below h =
      let s : m / 2 ^ j + 1 ≤ (a + 1) * (a + 1) = omega (arith, square-next a, h) in
      lt_of_lt_of_le (lt-mul-div-succ m (pow_pos j)) (le_trans (le_of_eq (mul_comm (2 ^ j) (m / 2 ^ j + 1))) (mul-le-mul_right (2 ^ j) s))

-- the same of n = m * w, where w * 2 ^ j is a square
module _ (m w j i a : ℕ) (e : 2 ^ j * w ≡ 2 ^ i * 2 ^ i) where
  squared : a * 2 ^ i * (a * 2 ^ i) ≡ a * a * 2 ^ j * w
  squared = mul-mul-mul_comm a (2 ^ i) a (2 ^ i) ∙ ap (λ (z : ℕ). a * a * z) (sym e) ∙ sym (mul_assoc (a * a) (2 ^ j) w)

  square-from : a * a * 2 ^ j ≤ m → a * 2 ^ i * (a * 2 ^ i) ≤ m * w
  square-from h = le_trans (le_of_eq squared) (mul-le-mul_right w h)

  square-below : 0 < w → m < a * a * 2 ^ j → m * w < a * 2 ^ i * (a * 2 ^ i)
  square-below p h = lt_of_lt_of_le (mul-lt-mul_of_pos_right h p) (le_of_eq (sym squared))

-- the scale of the digits of a root: y is the exponent of its square's
square-scale : (y : ℕ) → y ≤ 1093 → 2 ^ (1094 - y) * ((1 + y % 2) * 2 ^ 52) ≡ 2 ^ (573 - y / 2) * 2 ^ (573 - y / 2)
square-scale y h = go (y % 2) refl
  where
    i : ℕ
    i = 573 - y / 2

    two : (r : ℕ) → suc (suc r) ≡ y % 2 → ⊥
    two r e = omega arith

    go : (r : ℕ) → r ≡ y % 2 → 2 ^ (1094 - y) * ((1 + r) * 2 ^ 52) ≡ 2 ^ (573 - y / 2) * 2 ^ (573 - y / 2)
    go zero e =
        let k : 1094 - y + 52 ≡ 573 - y / 2 + (573 - y / 2) = omega arith in
        sym (pow-add 2 (1094 - y) 52) ∙ ap (λ (z : ℕ). 2 ^ z) k ∙ pow-add 2 (573 - y / 2) (573 - y / 2)
    go (suc zero) e =
        let k : 1094 - y + 53 ≡ 573 - y / 2 + (573 - y / 2) = omega arith in
        sym (pow-add 2 (1094 - y) 53) ∙ ap (λ (z : ℕ). 2 ^ z) k ∙ pow-add 2 (573 - y / 2) (573 - y / 2)
    go (suc (suc r)) e = absurd (two r e)

-- what lies from a units of z to a + 1 has the millimetres of a, where no whole millimetre lies above a units and up to a + 1
quotient : (v a z s : ℕ) → s ≡ 65536 * z → 0 < z → a * z ≤ v → v ≤ (a + 1) * z → a * 1000 % 65536 < 64536 → 1000 * v / s ≡ a * 1000 / 65536
quotient v a z s e p l h g =
    let t = a * 1000 / 65536 in
    let low : t * 65536 * z ≤ 1000 * a * z = mul-le-mul_right z (omega arith) in
    let high : (1000 * a + 1001) * z ≤ (t + 1) * 65536 * z = mul-le-mul_right z (omega arith) in
    div-eq_of_lt-le s (rw e (omega (arith, low, mul_assoc t 65536 z, mul_assoc 1000 a z, mul-le-mul_left 1000 l)))
    (rw e (omega (arith, high, mul_assoc (t + 1) 65536 z, add-mul (1000 * a) 1001 z, mul_assoc 1000 a z, add-mul a 1 z, mul-le-mul_left 1000 h)))

-- ---- floats

thousand-value : HasValue (whole 1000) false 1000 1
unfolding of_int
thousand-value = (refl, refl)

unit-scale : 2 ^ 1074 ≡ 65536 * 2 ^ 1058
unit-scale = pow-add 2 16 1058

-- a float of so many units
module _ (v a : ℕ) (l : a * 2 ^ 1058 ≤ v) (h : v ≤ (a + 1) * 2 ^ 1058) (few : a < 65536000) where
  is_within : (r : Float) → HasValue r false v (2 ^ 1074) → le r (whole 1000) ≡ true
  is_within r k =
      let n : a + 1 ≤ 65536000 = omega arith in
      let b : (a + 1) * 2 ^ 1058 ≤ 65536000 * 2 ^ 1058 = mul-le-mul_right (2 ^ 1058) n in
      is_true (le r (whole 1000)) (le_of_values r (whole 1000) v (2 ^ 1074) 1000 1 (pow_pos 1074) (omega arith) k thousand-value (subst (λ (z : ℕ). v * 1 ≤ 1000 * z) (sym unit-scale) (within (2 ^ 1058) v (le_trans h b))))
    where
      within : (z v : ℕ) → v ≤ 65536000 * z → v * 1 ≤ 1000 * (65536 * z)
      within z v h = omega arith

  is-millimetres : (r : Float) → HasValue r false v (2 ^ 1074) → a * 1000 % 65536 < 64536 → millimetres r ≡ a * 1000 / 65536
  unfolding whole_times magnitude scale
  is-millimetres nan k g = absurd k
  is-millimetres (inf s) k g = absurd k
  is-millimetres (fin s m e) k g =
      let u : m * up e * 2 ^ 1074 / down e ≡ v = ap (λ (z : ℕ). z / down e) k.1 ∙ mul-div_cancel v (down_pos e) in
      ap (λ (z : ℕ). 1000 * z / 2 ^ 1074) u ∙ quotient v a (2 ^ 1058) (2 ^ 1074) unit-scale (pow_pos 1058) l h g

  is-way : (r : Float) → HasValue r false v (2 ^ 1074) → a * 1000 % 65536 < 64536 → a * 1000 / 65536 ≡ way_of r
  unfolding way_of
  is-way r k g = rw (is_within r k, is-millimetres r k g)

-- ---- the root of the float whose bits are b, from 2 ^ -20 up and below 1,000,000

module _ (b : ℕ) (from : 0x3EB0_0000_0000_0000 ≤ b) (below : b < 0x412E_8480_0000_0000) where
  digits : ℕ
  digits = b % 2 ^ 52 + 2 ^ 52

  -- how many places its digits are shifted down to units of 2 ^ -32
  shift : ℕ
  shift = 1043 - b / 2 ^ 52

  exponent : ℕ
  exponent = b / 2 ^ 52 + 51

  -- what the digits of the root are the root of
  wide_by : ℕ
  wide_by = (1 + exponent % 2) * 2 ^ 52

  radicand : ℕ
  radicand = digits * (1 + exponent % 2) * 2 ^ 52

  nearest : ℕ
  nearest = nearest_root radicand (isqrt 53 radicand)

  place : ℕ
  place = 573 - exponent / 2

  top : ℕ
  top = exponent / 2 + 485

  is-nearest : NearestWhole radicand nearest
  unfolding radicand nearest digits exponent
  is-nearest =
      let w = wide digits (exponent % 2) (omega arith) (omega arith) (omega arith) in
      let h : radicand < 2 ^ 54 * 2 ^ 52 = mul-lt-mul_of_pos_right w.below (pow_pos 52) in
      let g : 2 ^ 52 * 2 ^ 52 ≤ radicand = mul-le-mul_right (2 ^ 52) w.from in
      nearest_root-is radicand (isqrt 53 radicand) (omega (arith, g)) (isqrt-floor 53 radicand (omega (arith, h)))

  root_is : Result (bits b) exponent nearest
  unfolding digits exponent radicand
  root_is = result (bits b) digits exponent nearest (normal-parts b digits (omega arith) (omega arith) refl) is-nearest

  root-value : HasValue (root_of (bits b)) false (nearest * 2 ^ top) (2 ^ 1074)
  unfolding top exponent
  root-value =
      subst (λ (r : Float). HasValue r false (nearest * 2 ^ top) (2 ^ 1074))
      (sym (read-normal (top * 2 ^ 52 + nearest) nearest top refl root_is.from root_is.below (omega arith)) ∙ root_is.is)
      (odd_sign 53 false nearest top 1074)

  scale-is : 2 ^ shift * wide_by ≡ 2 ^ place * 2 ^ place
  unfolding shift exponent wide_by place
  scale-is =
      let e : 1043 - b / 2 ^ 52 ≡ 1094 - (b / 2 ^ 52 + 51) = omega arith in
      ap (λ (z : ℕ). 2 ^ z * ((1 + exponent % 2) * 2 ^ 52)) e ∙ square-scale exponent (omega arith)

  units-is : 2 ^ place * 2 ^ top ≡ 2 ^ 1058
  unfolding place top exponent
  units-is = let e : place + top ≡ 1058 = omega arith in sym (pow-add 2 place top) ∙ ap (λ (z : ℕ). 2 ^ z) e

  -- a root of so many units is below 1,000
  few : (a : ℕ) → a * a * 2 ^ shift ≤ digits → a < 65536000
  unfolding shift digits
  few a h = go (dec_lt a 65536000)
    where
      shifted : Dec (b / 2 ^ 52 < 1042) → a * a * 2 ^ (1043 - b / 2 ^ 52) ≤ b % 2 ^ 52 + 2 ^ 52 → a * a < 65536000 * 65536000
      shifted (yes l) h =
          let e : 1043 - b / 2 ^ 52 ≡ 2 + (1041 - b / 2 ^ 52) = omega arith in
          let k : 2 ^ 2 ≤ 2 ^ (1043 - b / 2 ^ 52) = rw (e, pow-add 2 2 (1041 - b / 2 ^ 52)) (omega (arith, pow_pos (1041 - b / 2 ^ 52))) in
          omega (arith, le_trans (mul-le-mul_left (a * a) k) h)
      shifted (no l) h =
          let e : 1043 - b / 2 ^ 52 ≡ 1 = omega arith in
          let k : a * a * 2 ^ 1 ≤ b % 2 ^ 52 + 2 ^ 52 = subst (λ (z : ℕ). a * a * 2 ^ z ≤ b % 2 ^ 52 + 2 ^ 52) e h in
          omega (arith, k)

      go : Dec (a < 65536000) → a < 65536000
      go (yes l) = l
      go (no f) =
          let l : 65536000 ≤ a = omega arith in
          let m : 65536000 * 65536000 ≤ a * a = mul-le-mul l l in
          absurd (omega (arith, m, shifted (dec_lt (b / 2 ^ 52) 1042) h))

  seen : (a : ℕ) → a * a ≤ (b % 2 ^ 52 + 2 ^ 52) / 2 ^ (1043 - b / 2 ^ 52) → (b % 2 ^ 52 + 2 ^ 52) / 2 ^ (1043 - b / 2 ^ 52) ≤ a * a + 2 * a
      → a * 1000 % 65536 < 64536 → a * 1000 / 65536 ≡ way_of (root_of (bits b))
  unfolding digits shift radicand wide_by
  seen a l h g =
      let e : digits * wide_by ≡ radicand = sym (mul_assoc digits (1 + exponent % 2) (2 ^ 52)) in
      let p : 0 < wide_by = omega arith in
      let low : a * 2 ^ place ≤ nearest =
      root-from a radicand nearest (2 ^ place) is-nearest (le_trans (square-from digits wide_by shift place a scale-is (digits_from digits shift a l)) (le_of_eq e)) in
      let high : nearest ≤ (a + 1) * 2 ^ place =
      root-upto (a + 1) radicand nearest (2 ^ place) is-nearest (lt_of_le_of_lt (le_of_eq (sym e)) (square-below digits wide_by shift place (a + 1) scale-is p (digits-below digits shift a h))) in
      let at : (z : ℕ) → z * 2 ^ place * 2 ^ top ≡ z * 2 ^ 1058 = λ z. mul_assoc z (2 ^ place) (2 ^ top) ∙ ap (λ (u : ℕ). z * u) units-is in
      is-way (nearest * 2 ^ top) a (le_trans (le_of_eq (sym (at a))) (mul-le-mul_right (2 ^ top) low)) (le_trans (mul-le-mul_right (2 ^ top) high) (le_of_eq (at (a + 1)))) (few a (digits_from digits shift a l)) (root_of (bits b)) root-value g

  -- as the code tests it
  pub tested : (a : ℕ)
      → (let n = (b % 2 ^ 52 + 2 ^ 52) / 2 ^ (1043 - b / 2 ^ 52) in (leb (a * a) n && leb n (a * a + 2 * a) && ltb (a * 1000 % 65536) 64536) ≡ true)
      → a * 1000 / 65536 ≡ way_of (root_of (bits b))
  tested a e =
      let n = (b % 2 ^ 52 + 2 ^ 52) / 2 ^ (1043 - b / 2 ^ 52) in
      let p = and_both (leb (a * a) n && leb n (a * a + 2 * a)) (ltb (a * 1000 % 65536) 64536) e in
      let r = and_both (leb (a * a) n) (leb n (a * a + 2 * a)) p.0 in
      seen a (leb-true _ _ r.0) (leb-true _ _ r.1) (ltb-true _ _ p.1)

-- ---- which floats those are

bare : (b lo hi : ℕ) (s : Bool) → leb (2 ^ 63) b ≡ s → below false lo s (unsigned b) ≡ true → below s (unsigned b) false hi ≡ true → (lo ≤ b) × (b < hi)
bare b lo hi true e p q = absurd (true≢false (sym p))
bare b lo hi false e p q =
    let h : b < 2 ^ 63 = leb-false (2 ^ 63) b e in
    let i : lo < unsigned b = ltb-true lo (unsigned b) p in
    let j : unsigned b < hi = ltb-true (unsigned b) hi q in
    (omega arith, omega arith)

pub pattern_in_lem : (x : Float) → T (fits binary64 x) → lt (bits 0x3EB0_0000_0000_0000) x ≡ true → lt x (bits 0x412E_8480_0000_0000) ≡ true
    → (0x3EB0_0000_0000_0000 ≤ to_bits binary64 x) × (to_bits binary64 x < 0x412E_8480_0000_0000)
unfolding sign
pattern_in_lem x f p q =
    let b = to_bits binary64 x in
    let is : bits b ≡ x = of_bits-to_bits binary64 x f in
    let n : T (not (is_nan (bits b))) = subst (λ (z : Float). T (not (is_nan z))) (sym is) (lt-number x (bits 0x412E_8480_0000_0000) q) in
    let u : unsigned b ≤ infinity = ltb-false infinity (unsigned b) (sym (is_nan-bits b) ∙ is_false (is_nan (bits b)) n) in
    bare b 0x3EB0_0000_0000_0000 0x412E_8480_0000_0000 (leb (2 ^ 63) b) refl
    (sym (lt-bits 0x3EB0_0000_0000_0000 b (lit≤ tt) u) ∙ ap (λ (z : Float). lt (bits 0x3EB0_0000_0000_0000) z) is ∙ p)
    (sym (lt-bits b 0x412E_8480_0000_0000 u (lit≤ tt)) ∙ ap (λ (z : Float). lt z (bits 0x412E_8480_0000_0000)) is ∙ q)

-- ---- the way of a length

module _ (r : Float) where
  pub way-within : le r (whole 1000) ≡ true → millimetres r ≡ way_of r
  unfolding way_of
  way-within h = rw h

  pub way-beyond : le r (whole 1000) ≡ false → 1000001 ≡ way_of r
  unfolding way_of
  way-beyond h = rw h
