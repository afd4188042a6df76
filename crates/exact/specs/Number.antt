-- Exact binary fractions: what the results of binary64's operations are compared with. Definitions only.
use Rattle.std.specs.Prelude.{ℕ, zero, suc, ◌+◌, ◌^◌, ℤ, pos, ◌+ℤ◌, ◌-ℤ◌, ◌*ℤ◌, nat_abs, ◌≤ℤ◌, ◌<ℤ◌, Bool, not, Float}
use Rattle.std.specs.Int.Signed.{non_neg}
use Rattle.exact.specs.Value.{value}

infixl 60 ◌+ₑ◌ ◌-ₑ◌
infixl 70 ◌*ₑ◌
infix 50 ◌≤ₑ◌ ◌<ₑ◌ ◌=ₑ◌
infix 80 2^-◌
-- the number whole / 2 ^ places
pub record Number : Type 0 where
  pub whole : ℤ
  pub places : ℕ

-- the sum, the difference and the product of two fractions
unfoldable pub ◌+ₑ◌ : Number → Number → Number
x +ₑ y = record { whole = x.whole *ℤ pos (2 ^ y.places) +ℤ y.whole *ℤ pos (2 ^ x.places); places = x.places + y.places }

unfoldable pub ◌-ₑ◌ : Number → Number → Number
x -ₑ y = record { whole = x.whole *ℤ pos (2 ^ y.places) -ℤ y.whole *ℤ pos (2 ^ x.places); places = x.places + y.places }

unfoldable pub ◌*ₑ◌ : Number → Number → Number
x *ₑ y = record { whole = x.whole *ℤ y.whole; places = x.places + y.places }

-- the magnitude
unfoldable pub ∣◌∣ : Number → Number
∣ x ∣ = record { whole = pos (nat_abs x.whole); places = x.places }

-- the order of two fractions, by their wholes over one denominator
unfoldable pub ◌≤ₑ◌ : Number → Number → Type 0
x ≤ₑ y = (x.whole *ℤ pos (2 ^ y.places)) ≤ℤ (y.whole *ℤ pos (2 ^ x.places))

unfoldable pub ◌<ₑ◌ : Number → Number → Type 0
x <ₑ y = (x.whole *ℤ pos (2 ^ y.places)) <ℤ (y.whole *ℤ pos (2 ^ x.places))

-- the same number: neither is above the other
unfoldable pub ◌=ₑ◌ : Number → Number → Type 0
x =ₑ y = (x ≤ₑ y) × (y ≤ₑ x)

-- whether it is below 0
unfoldable pub negative : Number → Bool
negative x = not (non_neg x.whole)

-- 0 and 1
unfoldable pub 0ₑ : Number
0ₑ = record { whole = pos 0; places = 0 }

unfoldable pub 1ₑ : Number
1ₑ = record { whole = pos 1; places = 0 }

-- the natural number n
unfoldable pub natₑ : ℕ → Number
natₑ n = record { whole = pos n; places = 0 }

-- 2 to the power of -k
unfoldable pub 2^-◌ : ℕ → Number
2^- k = record { whole = pos 1; places = k }

-- f 0 + .. + f (n - 1)
unfoldable pub Σ : ℕ → (ℕ → Number) → Number
Σ zero f = 0ₑ
Σ (suc n) f = Σ n f +ₑ f n

-- A finite binary64 as a number: `value x` units of 2 ^ -1074. A NaN and an infinity have no value, and count as 0: no statement here is of them.
unfoldable pub exactly : Float → Number
exactly x = record { whole = value x; places = 1074 }
