-- Worked values of the order: sixteen patterns in their order, and patterns of floats. Assumes nothing.
use Prim.Native.Nat.{ℕ}
use mathlib.Core.Path.{◌≡◌, refl}
use mathlib.Core.Bool.{Bool, true, not, ◌&&◌}
use mathlib.Core.List.{List, [], ◌∷◌, map}
use lib.Ieee.{nan, lt, eq, of_bits, to_bits, is_nan}
use Rattle.exact.specs.Float.{1·0}
use Rattle.exact.specs.Pattern.{sign, exponent, digits}
use Rattle.numeric.specs.Order.{is_nan_pattern, is_quiet, payload, payload_order, unordered, total_order, pattern_of}

chain : List ℕ
chain =
    0xFFFF_FFFF_FFFF_FFFF  -- the negative quiet NaN of the greatest payload
    ∷ 0xFFF8_0000_0000_0001  -- the negative quiet NaN of payload 1
    ∷ 0xFFF8_0000_0000_0000  -- the negative quiet NaN of payload 0
    ∷ 0xFFF0_0000_0000_0001  -- a negative signaling NaN
    ∷ 0xFFF0_0000_0000_0000  -- -∞
    ∷ 0xBFF0_0000_0000_0000  -- -1
    ∷ 0x8000_0000_0000_0001  -- -2 ^ -1074
    ∷ 0x8000_0000_0000_0000  -- -0
    ∷ 0x0000_0000_0000_0000  -- +0
    ∷ 0x0000_0000_0000_0001  -- 2 ^ -1074
    ∷ 0x3FF0_0000_0000_0000  -- 1
    ∷ 0x3FF0_0000_0000_0001  -- the next number after 1
    ∷ 0x7FF0_0000_0000_0000  -- +∞
    ∷ 0x7FF0_0000_0000_0001  -- a positive signaling NaN
    ∷ 0x7FF8_0000_0000_0000  -- the positive quiet NaN of payload 0
    ∷ 0x7FF8_0000_0000_0001  -- the positive quiet NaN of payload 1
    ∷ []

-- x is before every element of l, and none of them is before x
first : ℕ → List ℕ → Bool
first x [] = true
first x (y ∷ l) = total_order x y && not (total_order y x) && first x l

ascending : List ℕ → Bool
ascending [] = true
ascending (x ∷ l) = first x l && ascending l

chain-ascends : ascending chain ≡ true
unfolding chain ascending first total_order unordered payload_order sign is_nan_pattern is_quiet payload exponent digits lt eq of_bits
chain-ascends = refl

-- each is in order with itself
chain-reflexive : map (λ (x : ℕ). total_order x x) chain ≡ map (λ (x : ℕ). true) chain
unfolding chain total_order unordered payload_order sign is_nan_pattern is_quiet payload exponent digits lt eq of_bits
chain-reflexive = refl

pattern_one : pattern_of 1·0 ≡ 0x3FF0_0000_0000_0000
unfolding pattern_of is_nan to_bits of_bits
pattern_one = refl

pattern_nan : pattern_of nan ≡ 0x7FF8_0000_0000_0000
unfolding pattern_of is_nan
pattern_nan = refl
