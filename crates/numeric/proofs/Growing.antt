-- Products, sums and whole parts of numbers that are not negative grow with the numbers: rounding keeps their order. Assumes nothing.
use mathlib.Core.Path.{◌≡◌, refl, sym, subst}
use Prim.Native.Nat.{ℕ, zero, suc, ◌+◌, ◌*◌, ◌^◌, ◌≤◌, ◌<◌}
use native.Mathlib.Nat.{le_trans, le_of_eq, le_of_lt, lt_of_le_of_lt, mul_right_comm, mul-mul-mul_comm, mul-le-mul_right, mul-le-mul_left, mul-lt-mul_of_pos_right, lt_of_mul-lt-mul_right, mul-pos, zero-mul, add-mul}
use native.Mathlib.Omega.{arith}
use mathlib.Core.Bool.{Bool, true, false, cond, ◌&&◌, ◌||◌, true≢false, false≢true}
use lib.Dec.{T, ltb, eqb, eqb→eq}
use borrow.Author.Tests.{ltb-true, lt-ltb}
use lib.IntN.{ℤ}
use lib.Ieee.{Float, nan, inf, fin, binary64, up, down, odd, units, round, sum, add, mul, lt, le, of_bits}
use lib.Ieee.Fits.{down_pos, and_l, round_is}
use lib.Ieee.Nearest.{div_mono}
use lib.Ieee.Order.{round_mono}
use lib.Ieee.Positive.{first_pos}
use lib.Ieee.Scale.{finite}
use Rattle.exact.specs.Float.{◌⊕◌, ◌⊗◌, +0}
use Rattle.exact.specs.Value.{scale, magnitude}
use Rattle.exact.proofs.Ops.{scale-pos}
use Rattle.numeric.specs.Whole.{whole_times}
use Rattle.numeric.proofs.RealLaws.{from-least}

infix 50 ◌≼◌
-- x and y are finite and bear no minus, and x is at most y
abbrev pub ◌≼◌ : Float → Float → Type 0
nan ≼ y = ⊥
inf s ≼ y = ⊥
fin true m e ≼ y = ⊥
fin false m e ≼ nan = ⊥
fin false m e ≼ inf t = ⊥
fin false m e ≼ fin true n d = ⊥
fin false m e ≼ fin false n d = m * up e * down d ≤ n * up d * down e

pub ≼-finite : (x y : Float) → x ≼ y → T (finite x)
≼-finite nan y h = absurd h
≼-finite (inf s) y h = absurd h
≼-finite (fin s m e) y h = tt

-- ---- rounding

-- no NaN, and no minus
abbrev Plain : Float → Type 0
Plain nan = ⊥
Plain (inf s) = s ≡ false
Plain (fin s m e) = s ≡ false

odd-plain : (d q k l : ℕ) → Plain (odd d false q k l)
unfolding odd
odd-plain d zero k l = refl
odd-plain d (suc q) k l = refl

units-plain : (q k : ℕ) → Plain (units binary64 false q k)
unfolding units
units-plain q k = go (ltb (q * 2 ^ k) (2 ^ 2098))
  where
    go : (x : Bool) → Plain (cond x (odd 54 false q k 1074) (inf false))
    go true = odd-plain 54 q k 1074
    go false = refl

round-plain : (a c : ℕ) → Plain (round binary64 false a c)
round-plain a c = rw (round_is binary64 false a c) (units-plain _ _)

pub at_most : (a b : ℕ) (z : Bool) → T (ltb a b || (eqb a b && z)) → a ≤ b
at_most a b z t = go (ltb a b) refl t
  where
    go : (x : Bool) → ltb a b ≡ x → T (x || (eqb a b && z)) → a ≤ b
    go true e u = le_of_lt (ltb-true a b e)
    go false e u = le_of_eq (eqb→eq a b (and_l (eqb a b) z u))

of_le : (x y : Float) → Plain x → Plain y → T (finite y) → T (le x y) → x ≼ y
unfolding le
of_le nan y p q f h = absurd p
of_le (inf true) y p q f h = absurd (true≢false p)
of_le (inf false) nan p q f h = absurd f
of_le (inf false) (inf t) p q f h = absurd f
of_le (inf false) (fin t n d) p q f h = absurd h
of_le (fin true m e) y p q f h = absurd (true≢false p)
of_le (fin false m e) nan p q f h = absurd f
of_le (fin false m e) (inf t) p q f h = absurd f
of_le (fin false m e) (fin true n d) p q f h = absurd (true≢false q)
of_le (fin false m e) (fin false n d) p q f h = at_most (m * up e * down d) (n * up d * down e) true h

round-grows : (a c b d : ℕ) → 0 < c → 0 < d → a * d ≤ b * c → T (finite (round binary64 false b d)) → round binary64 false a c ≼ round binary64 false b d
round-grows a c b d C D h f = of_le (round binary64 false a c) (round binary64 false b d) (round-plain a c) (round-plain b d) f (round_mono binary64 a c b d C D h)

-- ---- products and sums

-- a / c is at most b / d: so is a / c times n / k, and so is a / c plus n / k
times : (a c b d n k : ℕ) → a * d ≤ b * c → a * n * (d * k) ≤ b * n * (c * k)
times a c b d n k h = le_trans (le_of_eq (mul-mul-mul_comm a n d k)) (le_trans (mul-le-mul_right (n * k) h) (le_of_eq (mul-mul-mul_comm b c n k)))

plus : (a c b d n k : ℕ) → a * d ≤ b * c → (a * k + n * c) * (d * k) ≤ (b * k + n * d) * (c * k)
plus a c b d n k h =
    let l : a * k * (d * k) ≤ b * k * (c * k) = times a c b d k k h in
    let r : n * c * (d * k) ≡ n * d * (c * k) = mul-mul-mul_comm n c d k in
    let p = add-mul (a * k) (n * c) (d * k) in
    let q = add-mul (b * k) (n * d) (c * k) in
    omega arith

pub product-grows : (x y : Float) (n : ℕ) (d : ℤ) → x ≼ y → T (finite (y ⊗ fin false n d)) → x ⊗ fin false n d ≼ y ⊗ fin false n d
unfolding mul
product-grows nan y n d h f = absurd h
product-grows (inf s) y n d h f = absurd h
product-grows (fin true m e) y n d h f = absurd h
product-grows (fin false m e) nan n d h f = absurd h
product-grows (fin false m e) (inf t) n d h f = absurd h
product-grows (fin false m e) (fin true k j) n d h f = absurd h
product-grows (fin false m e) (fin false k j) n d h f = round-grows (m * up e * (n * up d)) (down e * down d) (k * up j * (n * up d)) (down j * down d) (mul-pos (down_pos e) (down_pos d)) (mul-pos (down_pos j) (down_pos d))
    (times (m * up e) (down e) (k * up j) (down j) (n * up d) (down d) h) f

pub sum-grows : (x y : Float) (n : ℕ) (d : ℤ) → x ≼ y → T (finite (y ⊕ fin false n d)) → x ⊕ fin false n d ≼ y ⊕ fin false n d
unfolding add sum
sum-grows nan y n d h f = absurd h
sum-grows (inf s) y n d h f = absurd h
sum-grows (fin true m e) y n d h f = absurd h
sum-grows (fin false m e) nan n d h f = absurd h
sum-grows (fin false m e) (inf t) n d h f = absurd h
sum-grows (fin false m e) (fin true k j) n d h f = absurd h
sum-grows (fin false m e) (fin false k j) n d h f =
    round-grows (m * up e * down d + n * up d * down e) (down e * down d) (k * up j * down d + n * up d * down j) (down j * down d) (mul-pos (down_pos e) (down_pos d)) (mul-pos (down_pos j) (down_pos d))
    (plus (m * up e) (down e) (k * up j) (down j) (n * up d) (down d) h) f

-- ---- what is at most y is below all that y is below

-- a / c is at most b / d, which is below n / k
under : (a c b d n k : ℕ) → 0 < c → 0 < d → a * d ≤ b * c → b * k < n * d → a * k < n * c
under a c b d n k C D h l =
    let i : a * k * d ≤ b * k * c = le_trans (le_of_eq (mul_right_comm a k d)) (le_trans (mul-le-mul_right k h) (le_of_eq (mul_right_comm b c k))) in
    let j : b * k * c < n * c * d = subst (λ (z : ℕ). b * k * c < z) (mul_right_comm n d c) (mul-lt-mul_of_pos_right l C) in
    lt_of_mul-lt-mul_right d (lt_of_le_of_lt i j)

pub below-grows : (x y z : Float) → x ≼ y → lt y z ≡ true → lt x z ≡ true
unfolding lt
below-grows nan y z h l = absurd h
below-grows (inf s) y z h l = absurd h
below-grows (fin true m e) y z h l = absurd h
below-grows (fin false m e) nan z h l = absurd h
below-grows (fin false m e) (inf t) z h l = absurd h
below-grows (fin false m e) (fin true k j) z h l = absurd h
below-grows (fin false m e) (fin false k j) nan h l = l
below-grows (fin false m e) (fin false k j) (inf t) h l = l
below-grows (fin false m e) (fin false k j) (fin true n d) h l = l
below-grows (fin false m e) (fin false k j) (fin false n d) h l =
    lt-ltb (m * up e * down d) (n * up d * down e) (under (m * up e) (down e) (k * up j) (down j) (n * up d) (down d) (down_pos e) (down_pos j) h (ltb-true (k * up j * down d) (n * up d * down j) l))

-- so is every float that `le` puts at or below y
pub le_below : (x : Float) (n : ℕ) (d : ℤ) (z : Float) → le x (fin false n d) ≡ true → lt (fin false n d) z ≡ true → lt x z ≡ true
unfolding le lt
le_below nan n d z p q = absurd (false≢true p)
le_below (inf true) n d nan p q = q
le_below (inf true) n d (inf t) p q = q
le_below (inf true) n d (fin t k j) p q = refl
le_below (inf false) n d z p q = absurd (false≢true p)
le_below (fin false m e) n d z p q = below-grows (fin false m e) (fin false n d) z (at_most (m * up e * down d) (n * up d * down e) true (subst T (sym p) tt)) q
le_below (fin true m e) n d nan p q = q
le_below (fin true m e) n d (inf t) p q = q
le_below (fin true m e) n d (fin true k j) p q = absurd (false≢true q)
le_below (fin true m e) n d (fin false k j) p q =
    let l : n * up d * down j < k * up j * down d = ltb-true (n * up d * down j) (k * up j * down d) q in
    let h : 0 < k * up j * down e = mul-pos (first_pos (k * up j) (down d) (omega arith)) (down_pos e) in
    lt-ltb 0 (m * up e * down j + k * up j * down e) (omega arith)

-- ---- and is not below 0

pub from_zero : (x y : Float) → x ≼ y → le +0 x ≡ true
unfolding le of_bits
from_zero nan y h = absurd h
from_zero (inf s) y h = absurd h
from_zero (fin true m e) y h = absurd h
from_zero (fin false m e) y h = from-least (0 * 1 * down e) (m * up e * 1) (omega (arith, zero-mul (down e)))

-- ---- whole parts

magnitude-grows : (m n : ℕ) (e d : ℤ) → m * up e * down d ≤ n * up d * down e → magnitude (fin false m e) ≤ magnitude (fin false n d)
unfolding magnitude
magnitude-grows m n e d h =
    div_mono (m * up e * scale) (down e) (n * up d * scale) (down d) (down_pos e) (down_pos d)
    (le_trans (le_of_eq (mul_right_comm (m * up e) scale (down d))) (le_trans (mul-le-mul_right scale h) (le_of_eq (mul_right_comm (n * up d) (down e) scale))))

pub whole-grows : (k : ℕ) (x y : Float) → x ≼ y → whole_times k x ≤ whole_times k y
unfolding whole_times
whole-grows k nan y h = absurd h
whole-grows k (inf s) y h = absurd h
whole-grows k (fin true m e) y h = absurd h
whole-grows k (fin false m e) nan h = absurd h
whole-grows k (fin false m e) (inf t) h = absurd h
whole-grows k (fin false m e) (fin true n d) h = absurd h
whole-grows k (fin false m e) (fin false n d) h =
    let l : k * magnitude (fin false m e) ≤ k * magnitude (fin false n d) = mul-le-mul_left k (magnitude-grows m n e d h) in
    div_mono (k * magnitude (fin false m e)) scale (k * magnitude (fin false n d)) scale scale-pos scale-pos (mul-le-mul_right scale l)
