-- The vocabulary of binary64 arithmetic that every definition here uses. Definitions only.
-- Each operation is IEEE 754-2019's, 5.4.1: the exact result, rounded once to the nearest binary64, a tie to the even one (4.3.1). Rounded.antt says what that means.
use Rattle.std.specs.Prelude.{ℕ, ◌^◌, pos, Float}
use Rattle.std.specs.Float.{binary64}
use Rattle.std.specs.Float.Ieee.{add, sub, mul, div, of_bits, of_int}

infixl 60 ◌⊕◌ ◌⊖◌
infixl 70 ◌⊗◌ ◌⊘◌
abbrev pub ◌⊕◌ : Float → Float → Float
a ⊕ b = add binary64 a b

abbrev pub ◌⊖◌ : Float → Float → Float
a ⊖ b = sub binary64 a b

abbrev pub ◌⊗◌ : Float → Float → Float
a ⊗ b = mul binary64 a b

abbrev pub ◌⊘◌ : Float → Float → Float
a ⊘ b = div binary64 a b

-- the binary64 whose 64 bits are b
abbrev pub bits : ℕ → Float
bits b = of_bits binary64 b

abbrev pub +0 : Float
+0 = bits 0

abbrev pub 1·0 : Float
1·0 = bits 0x3FF0_0000_0000_0000

-- the whole number n, exact up to 2 ^ 53
abbrev pub whole : ℕ → Float
whole n = of_int binary64 (pos n)

-- The decimal fraction n / 10 ^ k, rounded once: n and 10 ^ k are exact up to 2 ^ 53 and 10 ^ 22.
abbrev pub decimal : ℕ → ℕ → Float
decimal n k = whole n ⊘ whole (10 ^ k)
