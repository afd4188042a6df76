-- The two tests that a positive normal number passes, and what they say of its bits. Assumes nothing.
use Rattle.std.proofs.Common.{◌≡◌, ℕ, zero, suc, ◌+◌, ◌*◌, ◌/◌, ◌%◌, ◌^◌, ◌<◌, ◌≤◌, Bool, true, false, cond, not, ◌&&◌, T, eqb, ℤ, negsuc, sym, refl, ap, ◌∙◌, subst, lt_irrefl, mul-pos, mul-one, not-le_of_lt, le_of_mul-le-mul_right, arith, eqb→eq, pow_pos}
use native.Mathlib.Decide.{dec_lt}
use mathlib.Core.Bool.{false≢true}
use lib.Ieee.{Float, nan, inf, fin, up, down, binary64, odd, fits, is_nan, lt, eq, le, div, of_fields, of_bits, to_bits}
use lib.Ieee.Fits.{and_r, up_pos, down_pos}
use lib.Ieee.Exact.{HasValue, odd_sign}
use lib.Ieee.Positive.{positive_of_value, values_of_le}
use Rattle.root.specs.Root.{root_of}
use Rattle.root.proofs.Reading.{by_bits, read-normal, subnormal-value, read-nan, read-signed}

-- the code's 2.2250738585072014e-308, which is 2 ^ -1022, and its infinity, 1.0 / 0.0
abbrev pub least : Float
least = of_bits binary64 0x0010_0000_0000_0000

abbrev pub infinity : Float
infinity = div binary64 (of_bits binary64 0x3ff0_0000_0000_0000) (of_bits binary64 0)

least-is : least ≡ fin false 1 (negsuc 1021)
unfolding of_bits
least-is = refl

pub infinity-is : infinity ≡ inf false
unfolding div of_bits
infinity-is = refl

pub le-number : (y x : Float) → le y x ≡ true → T (not (is_nan x))
unfolding is_nan le lt eq
le-number nan nan h = absurd (false≢true h)
le-number (inf s) nan h = absurd (false≢true h)
le-number (fin s m e) nan h = absurd (false≢true h)
le-number y (inf s) h = tt
le-number y (fin s m e) h = tt

from-infinity : (x : Float) → le (inf false) x ≡ true → x ≡ root_of x
unfolding root_of le lt eq
from-infinity nan h = absurd (false≢true h)
from-infinity (inf false) h = refl
from-infinity (inf true) h = absurd (false≢true h)
from-infinity (fin s m e) h = absurd (false≢true h)

pub infinite-root : (x : Float) → le infinity x ≡ true → x ≡ root_of x
infinite-root x h = from-infinity x (subst (λ (y : Float). le y x ≡ true) infinity-is h)

-- ---- what has a sign, and what is no number, is not from a positive number up

module _ (m : ℕ) (e : ℤ) (some : 0 < m) where
  no-level : (d : ℤ) (b : ℕ) → T (eqb (m * up e * down d) b && eqb (m * up e * down d) 0) → ⊥
  no-level d b h = lt_irrefl 0 (subst (λ (z : ℕ). 0 < z) (eqb→eq (m * up e * down d) 0 (and_r (eqb (m * up e * down d) b) (eqb (m * up e * down d) 0) h)) (mul-pos (mul-pos some (up_pos e)) (down_pos d)))

  no_signed : (x : Float) (a c : ℕ) → HasValue x true a c → T (le (fin false m e) x) → ⊥
  unfolding le lt eq
  no_signed nan a c v h = absurd v
  no_signed (inf s) a c v h = absurd v
  no_signed (fin false n d) a c v h = absurd (false≢true v.0)
  no_signed (fin true n d) a c v h = no-level d (n * up d * down e) h

  picked : (b c : Bool) (v : Float) → (T (le (fin false m e) v) → ⊥) → T (le (fin false m e) (cond b (cond c (inf true) nan) v)) → ⊥
  unfolding le lt eq
  picked true true v f h = h
  picked true false v f h = h
  picked false c v f h = f h

  no-signed-fields : (x t : ℕ) → T (le (fin false m e) (of_fields binary64 true x t)) → ⊥
  unfolding of_fields
  no-signed-fields zero t h = no_signed (odd 53 true t 0 1074) (t * 2 ^ 0) (2 ^ 1074) (odd_sign 53 true t 0 1074) h
  no-signed-fields (suc x) t h = picked (eqb (suc x) 2047) (eqb t 0) (odd 53 true (2 ^ 52 + t) x 1074) (no_signed (odd 53 true (2 ^ 52 + t) x 1074) ((2 ^ 52 + t) * 2 ^ x) (2 ^ 1074) (odd_sign 53 true (2 ^ 52 + t) x 1074)) h

-- ---- what is below the least normal number is not from it up

units-of-least : HasValue least false (2 ^ 52) (2 ^ 1074)
units-of-least =
    subst (λ (x : Float). HasValue x false (2 ^ 52) (2 ^ 1074)) (sym (read-normal 0x0010_0000_0000_0000 (2 ^ 52) 0 refl (omega arith) (omega arith) (omega arith)))
    (subst (λ (z : ℕ). HasValue (odd 53 false (2 ^ 52) 0 1074) false z (2 ^ 1074)) (mul-one (2 ^ 52)) (odd_sign 53 false (2 ^ 52) 0 1074))

no_zero : T (le least (of_bits binary64 0)) → ⊥
unfolding le lt eq of_bits
no_zero h = h

no-subnormal : (b : ℕ) → b < 2 ^ 52 → T (le least (of_bits binary64 b)) → ⊥
no-subnormal zero h l = no_zero l
no-subnormal (suc b) h l =
    not-le_of_lt h
    (le_of_mul-le-mul_right
    (values_of_le least (of_bits binary64 (suc b)) (2 ^ 52) (2 ^ 1074) (suc b) (2 ^ 1074)
    (positive_of_value least (2 ^ 52) (2 ^ 1074) units-of-least (pow_pos 52))
    (positive_of_value (of_bits binary64 (suc b)) (suc b) (2 ^ 1074) (subnormal-value (suc b) h) (omega arith))
    units-of-least (subnormal-value (suc b) h) l)
    (pow_pos 1074))

-- ---- the bits

pub record Normal (b : ℕ) : Type 0 where
  pub from : 2 ^ 52 ≤ b
  pub below : b < 0x7ff0_0000_0000_0000

no-nan-from : T (le least nan) → ⊥
unfolding le lt eq of_bits
no-nan-from h = h

from_itself : le (inf false) (of_bits binary64 0x7ff0_0000_0000_0000) ≡ true
unfolding le lt eq of_bits
from_itself = refl

at_bits : (b : ℕ) → T (le least (of_bits binary64 b)) → le (inf false) (of_bits binary64 b) ≡ false → Normal b
at_bits b l n = record { from = low (dec_lt b (2 ^ 52)); below = high (dec_lt b 0x7ff0_0000_0000_0000) }
  where
    low : Dec (b < 2 ^ 52) → 2 ^ 52 ≤ b
    low (yes h) = absurd (no-subnormal b h l)
    low (no f) = omega arith

    signed : 2 ^ 63 ≤ b → ⊥
    signed h = no-signed-fields 1 (negsuc 1021) (omega arith) (b % 2 ^ 63 / 2 ^ 52) (b % 2 ^ 52) (subst (λ (y : Float). T (le y (of_fields binary64 true (b % 2 ^ 63 / 2 ^ 52) (b % 2 ^ 52)))) least-is (subst (λ (x : Float). T (le least x)) (read-signed b h) l))

    top : b ≡ 0x7ff0_0000_0000_0000 → ⊥
    top e = false≢true (sym n ∙ ap (λ (z : ℕ). le (inf false) (of_bits binary64 z)) e ∙ from_itself)

    plain : b < 2 ^ 63 → 0x7ff0_0000_0000_0000 ≤ b → Dec (0x7ff0_0000_0000_0000 < b) → ⊥
    plain h g (yes k) = no-nan-from (subst (λ (x : Float). T (le least x)) (read-nan b k h) l)
    plain h g (no f) = top (omega arith)

    over : 0x7ff0_0000_0000_0000 ≤ b → Dec (b < 2 ^ 63) → ⊥
    over g (yes h) = plain h g (dec_lt 0x7ff0_0000_0000_0000 b)
    over g (no f) = signed (omega arith)

    high : Dec (b < 0x7ff0_0000_0000_0000) → b < 0x7ff0_0000_0000_0000
    high (yes h) = h
    high (no f) = let g : 0x7ff0_0000_0000_0000 ≤ b = omega arith in absurd (over g (dec_lt b (2 ^ 63)))

-- the bits of a float that is from `least` up and not from infinity up
pub normal-bits : (x : Float) → T (fits binary64 x) → le least x ≡ true → le infinity x ≡ false → Normal (to_bits binary64 x)
normal-bits x f l n =
    let b = to_bits binary64 x in
    let e : x ≡ of_bits binary64 b = sym (by_bits x b f refl) in
    at_bits b (subst T (sym (ap (le least) (sym e) ∙ l)) tt) (ap (le (inf false)) (sym e) ∙ ap (λ (y : Float). le y x) (sym infinity-is) ∙ n)
