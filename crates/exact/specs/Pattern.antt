-- What 64 bits stand for at binary64: IEEE 754-2019, 3.4. A pattern is a natural number below 2 ^ 64. Definitions only.
use Rattle.std.specs.Prelude.{◌≡◌, ℕ, ◌/◌, ◌%◌, ◌^◌, ◌≤◌, Bool, T, leb, Float}
use Rattle.std.specs.Float.{nan, inf, binary64}
use Rattle.std.specs.Float.Ieee.{fits}
use Rattle.std.specs.Float.Ieee.Scale.{finite}
use Rattle.exact.specs.Number.{Number, ◌+ₑ◌, ◌*ₑ◌, ∣◌∣, ◌=ₑ◌, 1ₑ, natₑ, 2^-◌, exactly}
use Rattle.exact.specs.Rounded.{is_sign_minus}

-- S, the sign, bit 63: true for a minus
unfoldable pub sign : ℕ → Bool
sign b = leb (2 ^ 63) b

-- E, the biased exponent, bits 62 to 52
unfoldable pub exponent : ℕ → ℕ
exponent b = b / 2 ^ 52 % 2 ^ 11

-- T, the trailing significand, bits 51 to 0: the digits below the leading one
unfoldable pub digits : ℕ → ℕ
digits b = b % 2 ^ 52

-- x is finite, bears the sign s, and is v in magnitude
pub record Signed (s : Bool) (v : Number) (x : Float) : Type 0 where
  pub is_finite : T (finite x)
  pub signed : is_sign_minus x ≡ s
  pub size : ∣ exactly x ∣ =ₑ v

-- x is what the pattern p stands for, by the five cases of 3.4
pub record IsRead (p : ℕ) (x : Float) : Type 0 where
  pub fits_format : T (fits binary64 x)
  -- (a) all ones and some digits: a NaN, whatever the sign
  pub not_a-number : exponent p ≡ 2047 → (digits p ≡ 0 → ⊥) → x ≡ nan
  -- (b) all ones and no digits: an infinity
  pub infinite : exponent p ≡ 2047 → digits p ≡ 0 → x ≡ inf (sign p)
  -- (c) from 1 to 2046: 2 ^ (E - 1023) · (1 + 2 ^ -52 · T)
  pub normal : 1 ≤ exponent p → exponent p ≤ 2046 → Signed (sign p) (natₑ (2 ^ exponent p) *ₑ 2^- 1023 *ₑ (1ₑ +ₑ 2^- 52 *ₑ natₑ (digits p))) x
  -- (d) 0: 2 ^ -1022 · (0 + 2 ^ -52 · T), and (e) with no digits 0, which keeps its sign
  pub subnormal : exponent p ≡ 0 → Signed (sign p) (2^- 1022 *ₑ (2^- 52 *ₑ natₑ (digits p))) x
