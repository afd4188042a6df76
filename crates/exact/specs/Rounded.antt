-- What IEEE 754-2019 says of the results of ⊕ ⊖ ⊗ ⊘ on binary64 under roundTiesToEven. Definitions only.
-- A float is a binary64 where it fits the format: `fits binary64`. There is one NaN.
use Rattle.std.specs.Prelude.{◌≡◌, ◌⊎◌, zero, suc, ◌-◌, ◌%◌, ◌^◌, Bool, false, ◌&&◌, ◌||◌, cond, T, pos, Float}
use Rattle.std.specs.Bool.{beq}
use Rattle.std.specs.Float.{nan, inf, fin, binary64}
use Rattle.std.specs.Float.Ieee.{unlike, neg, to_bits, fits}
use Rattle.std.specs.Float.Ieee.Scale.{finite}
use Rattle.exact.specs.Number.{Number, ◌+ₑ◌, ◌-ₑ◌, ◌*ₑ◌, ∣◌∣, ◌≤ₑ◌, ◌<ₑ◌, negative, 1ₑ, exactly}

-- whether the sign is a minus (5.7.2); the one NaN has none
abbrev pub is_sign_minus : Float → Bool
is_sign_minus nan = false
is_sign_minus (inf s) = s
is_sign_minus (fin s m e) = s

-- The least significant digit is even: the last bit of the pattern is 0 (3.4).
abbrev pub Even : Float → Type 0
Even z = to_bits binary64 z % 2 ≡ 0

-- 2^1024 - 2^970: from this magnitude on an exact result is rounded to an infinity (4.3.1)
unfoldable pub limit : Number
limit = record { whole = pos (2 ^ 1024 - 2 ^ 970); places = 0 }

-- z is the binary64 nearest to a / b, and of two that are equally near the even one (4.3.1). Distances are multiplied by |b|.
pub record Nearest (a b : Number) (z : Float) : Type 0 where
  pub is_finite : T (finite z)
  pub nearest : (w : Float) → T (fits binary64 w) → T (finite w) → ∣ exactly z *ₑ b -ₑ a ∣ ≤ₑ ∣ exactly w *ₑ b -ₑ a ∣
  pub even : (w : Float) → T (fits binary64 w) → T (finite w) → ∣ exactly w *ₑ b -ₑ a ∣ ≤ₑ ∣ exactly z *ₑ b -ₑ a ∣ → (exactly w ≡ exactly z) ⊎ Even z

-- z is the exact result a / b, where b is not 0, rounded; s is its sign
pub record Rounded (s : Bool) (a b : Number) (z : Float) : Type 0 where
  pub fits_format : T (fits binary64 z)
  pub signed : is_sign_minus z ≡ s
  pub within : ∣ a ∣ <ₑ limit *ₑ ∣ b ∣ → Nearest a b z
  pub beyond : limit *ₑ ∣ b ∣ ≤ₑ ∣ a ∣ → z ≡ inf s

-- A sum's sign is the exact sum's. An exact sum of 0 gives -0 where both operands bear a minus, and +0 otherwise (6.3).
abbrev pub sum_sign : Float → Float → Bool
sum_sign x y = is_sign_minus x && is_sign_minus y || negative (exactly x +ₑ exactly y)

-- x ⊕ y is z (5.4.1): NaNs by 6.2, infinities by 6.1, infinities of unlike signs by 7.2
abbrev pub IsSum : Float → Float → Float → Type 0
IsSum nan y z = z ≡ nan
IsSum (inf s) nan z = z ≡ nan
IsSum (inf s) (inf t) z = z ≡ cond (beq s t) (inf s) nan
IsSum (inf s) (fin t n d) z = z ≡ inf s
IsSum (fin s m e) nan z = z ≡ nan
IsSum (fin s m e) (inf t) z = z ≡ inf t
IsSum (fin s m e) (fin t n d) z = Rounded (sum_sign (fin s m e) (fin t n d)) (exactly (fin s m e) +ₑ exactly (fin t n d)) 1ₑ z

-- x ⊖ y is z: a difference is the sum with the negated operand (6.3)
abbrev pub IsDifference : Float → Float → Float → Type 0
IsDifference x y z = IsSum x (neg y) z

-- x ⊗ y is z: 0 times an infinity is a NaN (7.2), and the sign is a minus where the operands' signs differ (6.3)
abbrev pub IsProduct : Float → Float → Float → Type 0
IsProduct nan y z = z ≡ nan
IsProduct (inf s) nan z = z ≡ nan
IsProduct (inf s) (inf t) z = z ≡ inf (unlike s t)
IsProduct (inf s) (fin t zero d) z = z ≡ nan
IsProduct (inf s) (fin t (suc n) d) z = z ≡ inf (unlike s t)
IsProduct (fin s m e) nan z = z ≡ nan
IsProduct (fin s zero e) (inf t) z = z ≡ nan
IsProduct (fin s (suc m) e) (inf t) z = z ≡ inf (unlike s t)
IsProduct (fin s m e) (fin t n d) z = Rounded (unlike s t) (exactly (fin s m e) *ₑ exactly (fin t n d)) 1ₑ z

-- x ⊘ y is z: 0 by 0 and an infinity by an infinity are NaNs (7.2), a finite number that is not 0 by 0 is an infinity (7.3)
abbrev pub IsQuotient : Float → Float → Float → Type 0
IsQuotient nan y z = z ≡ nan
IsQuotient (inf s) nan z = z ≡ nan
IsQuotient (inf s) (inf t) z = z ≡ nan
IsQuotient (inf s) (fin t n d) z = z ≡ inf (unlike s t)
IsQuotient (fin s m e) nan z = z ≡ nan
IsQuotient (fin s m e) (inf t) z = z ≡ fin (unlike s t) 0 (pos 0)
IsQuotient (fin s zero e) (fin t zero d) z = z ≡ nan
IsQuotient (fin s (suc m) e) (fin t zero d) z = z ≡ inf (unlike s t)
IsQuotient (fin s m e) (fin t (suc n) d) z = Rounded (unlike s t) (exactly (fin s m e)) (exactly (fin t (suc n) d)) z
