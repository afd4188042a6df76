-- The total order of IEEE 754-2019, 5.10, at binary64, on patterns: a pattern is 64 bits, as a natural number below 2 ^ 64. Definitions only.
-- The order speaks of patterns, since it tells NaNs apart by sign and payload, and the one NaN of a float here has neither.
use Rattle.std.specs.Prelude.{ℕ, ◌%◌, ◌^◌, Bool, true, false, not, ◌&&◌, cond, leb, eqb, Float}
use Rattle.std.specs.Bool.{beq}
use Rattle.std.specs.Float.{binary64}
use Rattle.std.specs.Float.Ieee.{to_bits, is_nan, lt, eq}
use Rattle.exact.specs.Float.{bits}
use Rattle.exact.specs.Pattern.{sign, exponent, digits}
use Rattle.numeric.specs.declared.order.Sign.{Sign}
use Rattle.numeric.specs.declared.order.Sign.TheVariants.{Minus, Plus}
use Rattle.numeric.specs.declared.order.Class.{Class}
use Rattle.numeric.specs.declared.order.Class.TheVariants.{Zero, Number, Infinity, Signaling, Quiet}

-- ---- NaNs, by the fields of a pattern

-- a NaN: the exponent field is all ones, and the digits are not 0 (3.4 a)
unfoldable pub is_nan_pattern : ℕ → Bool
is_nan_pattern b = eqb (exponent b) 0x7FF && not (eqb (digits b) 0)

-- a quiet NaN: the first of its digits, bit 51, is 1; of a signaling NaN it is 0 (6.2.1)
unfoldable pub is_quiet : ℕ → Bool
is_quiet b = leb (2 ^ 51) (digits b)

-- the payload of a NaN: its other digits, bits 50 to 0 (6.2.1)
unfoldable pub payload : ℕ → ℕ
payload b = b % 2 ^ 51

-- ---- the cases of a pattern: its sign, and what it stands for without it

unfoldable pub sign_of : ℕ → Sign
sign_of b = cond (sign b) Minus Plus

-- a number here is finite and not 0
unfoldable pub class_of : ℕ → Class
class_of b =
    cond (eqb (exponent b) 0) (cond (eqb (digits b) 0) Zero Number)
    (cond (eqb (exponent b) 0x7FF) (cond (eqb (digits b) 0) Infinity (cond (is_quiet b) Quiet Signaling))
    Number)

-- ---- the order

-- (c) equal numbers, by the signs of x and y. Those of unlike sign are the two zeros: -0 comes before +0 (c 1, c 2).
-- Those of like sign are one datum, and in a binary format a datum has one exponent: they are in order (c 3).
abbrev pub equal_order : Bool → Bool → Bool
equal_order true false = true
equal_order false true = false
equal_order true true = true
equal_order false false = true

-- Positive NaNs: signaling before quiet (d 3 ii), and then the lesser payload first (d 3 iii, which leaves this to the implementation:
-- Rust's `total_cmp` takes the same order).
unfoldable pub payload_order : ℕ → ℕ → Bool
payload_order x y = cond (beq (is_quiet x) (is_quiet y)) (leb (payload x) (payload y)) (is_quiet y)

-- (d 3) two NaNs, by the signs of x and y: negative before positive (d 3 i), and negative NaNs in the reverse of the order of positive ones
abbrev pub nan_order : Bool → Bool → ℕ → ℕ → Bool
nan_order true false x y = true
nan_order false true x y = false
nan_order false false x y = payload_order x y
nan_order true true x y = payload_order y x

-- (d) x or y is a NaN: a negative NaN comes before every number (d 1), and every number before a positive NaN (d 2), and neither the other way round
unfoldable pub unordered : ℕ → ℕ → Bool
unordered x y = cond (is_nan_pattern x && is_nan_pattern y) (nan_order (sign x) (sign y) x y) (cond (is_nan_pattern x) (sign x) (not (sign y)))

-- whether x comes before y or is y: (a) the numbers have x < y, (b) they have x > y, (c) they are equal, (d) they are unordered
unfoldable pub total_order : ℕ → ℕ → Bool
total_order x y =
    cond (lt (bits x) (bits y)) true
    (cond (lt (bits y) (bits x)) false
    (cond (eq (bits x) (bits y)) (equal_order (sign x) (sign y))
    (unordered x y)))

-- ---- patterns and floats

-- The pattern of a float. IEEE 754 leaves the sign and the payload of a computed NaN open (6.2.3, 6.3): here it is the positive quiet NaN of payload 0.
unfoldable pub pattern_of : Float → ℕ
pattern_of x = cond (is_nan x) 0x7FF8_0000_0000_0000 (to_bits binary64 x)
