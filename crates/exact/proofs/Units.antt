-- Floats against the grid: what a float that fits is in units, its last digit, and when two floats are one. Assumes nothing.
use mathlib.Core.Path.{◌≡◌, refl, sym, ap, ap₂, ◌∙◌, subst}
use Prim.Native.Nat.{ℕ, zero, suc, ◌+◌, ◌-◌, ◌*◌, ◌/◌, ◌%◌, ◌^◌, ◌≤◌, ◌<◌}
use native.Mathlib.Nat.{le_of_suc-le-suc, lt_of_not-le, not-le_of_lt, mul-one, mul_assoc, zero-mul, zero-div, eq_of_mul-eq-mul_right}
use native.Mathlib.Omega.{arith}
use mathlib.Core.Bool.{Bool, true, false, not, cond}
use lib.IntN.{ℤ, pos, negsuc}
use lib.Dec.{T, ltb, leb→le, ltb→lt, nltb→le, lit≤}
use lib.Pow.{pow-add, pow_pos, pow-lt}
use lib.Ieee.{Float, nan, inf, fin, binary64, up, down, size, odd, units, round, to_bits, of_bits, fits}
use lib.Ieee.Digits.{back}
use lib.Ieee.Fits.{round_is, and_l, and_r}
use lib.Ieee.Bits.{of_bits-to_bits}
use lib.Ieee.Exact.{HasValue, units_val}
use lib.Ieee.Order.{drop, kept}
use lib.Ieee.Scale.{finite}
use Rattle.exact.specs.Value.{scale, magnitude}
use Rattle.exact.specs.Rounded.{is_sign_minus}
use Rattle.exact.proofs.Num.{abs}
use Rattle.exact.proofs.Ops.{exact, sgn, round_val}
use Rattle.exact.proofs.Bridge.{abs-val}
use Rattle.exact.proofs.Grid.{grid}

-- ---- a float that fits has at most 53 digits
pub record Representable (v : ℕ) : Type 0 where
  pub a : ℕ
  pub j : ℕ
  pub few : a < 2 ^ 53
  pub is : v ≡ a * 2 ^ j

shifted : (v m : ℕ) (e : ℤ) → down e ≤ 2 ^ 1074 → m < 2 ^ 53 → v * down e ≡ m * up e * 2 ^ 1074 → Representable v
shifted v m (pos k) h l q = record { a = m; j = k + 1074; few = l; is = sym (mul-one v) ∙ q ∙ mul_assoc m (2 ^ k) (2 ^ 1074) ∙ ap (λ (z : ℕ). m * z) (sym (pow-add 2 k 1074)) }
shifted v m (negsuc k) h l q =
    let b : suc k ≤ 1074 = le_of_suc-le-suc (lt_of_not-le (λ (g : 1074 < suc k). not-le_of_lt (pow-lt g) h)) in
    record {
      a = m;
      j = 1074 - suc k;
      few = l;
      is = eq_of_mul-eq-mul_right (2 ^ suc k) (pow_pos (suc k)) v (m * 2 ^ (1074 - suc k))
          (q ∙ ap (λ (z : ℕ). z * 2 ^ 1074) (mul-one m) ∙ ap (λ (z : ℕ). m * z) (ap (λ (z : ℕ). 2 ^ z) (sym (back 1074 (suc k) b)) ∙ pow-add 2 (1074 - suc k) (suc k)) ∙ sym (mul_assoc m (2 ^ (1074 - suc k)) (2 ^ suc k)));
    }

pub representable : (w : Float) → T (fits binary64 w) → T (finite w) → Representable (magnitude w)
unfolding fits scale
representable nan F f = absurd f
representable (inf s) F f = absurd f
representable (fin s zero e) F f = record { a = 0; j = 0; few = lit≤ tt; is = none e }
  where
    none : (e : ℤ) → magnitude (fin s zero e) ≡ 0
    none e = unfold magnitude scale in ap (λ (z : ℕ). z * 2 ^ 1074 / down e) (zero-mul (up e)) ∙ zero-div (down e)
representable (fin s (suc m) e) F f =
    shifted (magnitude (fin s (suc m) e)) (suc m) e (leb→le (down e) (2 ^ 1074) (search (and_l, and_r))) (ltb→lt (suc m) (2 ^ 53) (search (and_l, and_r))) (exact s (suc m) e F)

-- ---- the last bit of a pattern
parity : (s : Bool) (k w : ℕ) → (cond s (2 ^ 63) 0 + k * 2 ^ 52 + w) % 2 ≡ w % 2
parity true k w = omega arith
parity false k w = omega arith

pub last_bit : (z : Float) → T (finite z) → to_bits binary64 z % 2 ≡ magnitude z / 2 ^ (size (magnitude z) - 53) % 2
unfolding to_bits magnitude scale
last_bit nan f = absurd f
last_bit (inf s) f = absurd f
last_bit (fin s m e) f = let n = m * up e * 2 ^ 1074 / down e in parity s (size n - 53) (n / 2 ^ (size n - 53))

-- ---- the sign and the magnitude fix a float that fits
same_bits : (x y : Float) → T (finite x) → T (finite y) → is_sign_minus x ≡ is_sign_minus y → magnitude x ≡ magnitude y → to_bits binary64 x ≡ to_bits binary64 y
unfolding to_bits magnitude scale
same_bits nan y f g e h = absurd f
same_bits (inf s) y f g e h = absurd f
same_bits (fin s m d) nan f g e h = absurd g
same_bits (fin s m d) (inf t) f g e h = absurd g
same_bits (fin s m d) (fin t n c) f g e h = ap₂ (λ (s : Bool) (n : ℕ). cond s (2 ^ 63) 0 + (size n - 53) * 2 ^ 52 + n / 2 ^ (size n - 53)) e h

pub same_float : (x y : Float) → T (fits binary64 x) → T (fits binary64 y) → T (finite x) → T (finite y) → is_sign_minus x ≡ is_sign_minus y → magnitude x ≡ magnitude y → x ≡ y
same_float x y F G f g e h = sym (of_bits-to_bits binary64 x F) ∙ ap (λ (b : ℕ). of_bits binary64 b) (same_bits x y f g e h) ∙ of_bits-to_bits binary64 y G

-- ---- `round`: finite below 2 ^ 1024, which is 2 ^ 2098 units, and an infinity from there on
pub has-finite : (x : Float) (s : Bool) (a c : ℕ) → HasValue x s a c → T (finite x)
has-finite nan s a c h = absurd h
has-finite (inf t) s a c h = absurd h
has-finite (fin t m e) s a c h = tt

pub has-sign : (x : Float) (s : Bool) (a c : ℕ) → HasValue x s a c → is_sign_minus x ≡ s
has-sign nan s a c h = absurd h
has-sign (inf t) s a c h = absurd h
has-sign (fin t m e) s a c h = h.0

module _ (s : Bool) (num den : ℕ) where
  pub round-value : grid (num * scale) den < 2 ^ 2098 → HasValue (round binary64 s num den) s (grid (num * scale) den) (2 ^ 1074)
  unfolding scale
  round-value h = subst (λ (z : Float). HasValue z s (grid (num * 2 ^ 1074) den) (2 ^ 1074)) (sym (round_is binary64 s num den)) (units_val binary64 s (kept 53 (num * 2 ^ 1074) den) (drop 53 (num * 2 ^ 1074) den) h)

  pub round-finite : grid (num * scale) den < 2 ^ 2098 → T (finite (round binary64 s num den))
  round-finite h = has-finite (round binary64 s num den) s (grid (num * scale) den) (2 ^ 1074) (round-value h)

  pub round-magnitude : grid (num * scale) den < 2 ^ 2098 → magnitude (round binary64 s num den) ≡ grid (num * scale) den
  round-magnitude h = sym (abs-val (round binary64 s num den)) ∙ ap abs (round_val s num den (round-finite h)) ∙ plain s (grid (num * scale) den)
    where
      plain : (s : Bool) (g : ℕ) → abs (sgn s g) ≡ g
      plain true g = omega arith
      plain false g = omega arith

  infinite : (q k : ℕ) → 2 ^ 2098 ≤ q * 2 ^ k → units binary64 s q k ≡ inf s
  unfolding units
  infinite q k h = go (ltb (q * 2 ^ k) (2 ^ 2098)) (ltb→lt (q * 2 ^ k) (2 ^ 2098))
    where
      go : (b : Bool) → (T b → q * 2 ^ k < 2 ^ 2098) → cond b (odd 54 s q k 1074) (inf s) ≡ inf s
      go true l = absurd (not-le_of_lt (l tt) h)
      go false l = refl

  pub round-infinite : 2 ^ 2098 ≤ grid (num * scale) den → round binary64 s num den ≡ inf s
  unfolding scale
  round-infinite h = round_is binary64 s num den ∙ infinite (kept 53 (num * 2 ^ 1074) den) (drop 53 (num * 2 ^ 1074) den) h

  pub round-sign : is_sign_minus (round binary64 s num den) ≡ s
  unfolding scale
  round-sign = go (ltb (grid (num * scale) den) (2 ^ 2098)) (ltb→lt (grid (num * scale) den) (2 ^ 2098)) (nltb→le (grid (num * scale) den) (2 ^ 2098))
    where
      go : (b : Bool) → (T b → grid (num * scale) den < 2 ^ 2098) → (T (not b) → 2 ^ 2098 ≤ grid (num * scale) den) → is_sign_minus (round binary64 s num den) ≡ s
      go true l m = has-sign (round binary64 s num den) s (grid (num * scale) den) (2 ^ 1074) (round-value (l tt))
      go false l m = ap is_sign_minus (round-infinite (m tt))
