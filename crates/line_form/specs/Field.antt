-- The fields of a line (docs/SCOPE.md, "The line form and its program"): which bytes are of the form, and what they say. Definitions only.
-- A field that breaks the form says 0: its text is refused, whatever the field would say.
use Rattle.std.specs.Prelude.{ℕ, ◌+◌, ◌*◌, ◌-◌, ◌^◌, Bool, true, false, cond, not, ◌&&◌, ◌||◌, List, [], ◌∷◌, eqb, ltb, leb, length, ℤ, pos, neg_ℤ, Float}
use Rattle.exact.specs.Float.{bits}
use Rattle.lists.specs.Walk.{every}

-- ---- numbers: decimal, without plus sign or leading zeros, within the field's width

-- 0 to 9
abbrev pub is_digit : ℕ → Bool
is_digit b = leb 48 b && leb b 57

-- the value of decimal digits, read after the number n
unfoldable pub decimal_value : ℕ → List ℕ → ℕ
decimal_value n [] = n
decimal_value n (b ∷ s) = decimal_value (n * 10 + (b - 48)) s

-- not empty, and no 0 (48) in front of another byte
unfoldable pub plain : List ℕ → Bool
plain [] = false
plain (b ∷ []) = true
plain (b ∷ (c ∷ s)) = not (eqb b 48)

-- a number below the limit
unfoldable pub is_number : ℕ → List ℕ → Bool
is_number limit s = plain s && every is_digit s && ltb (decimal_value 0 s) limit

unfoldable pub number : ℕ → List ℕ → ℕ
number limit s = cond (is_number limit s) (decimal_value 0 s) 0

-- a signed number of 32 bits: it may bear a minus sign (45), never before 0
unfoldable pub is_state : List ℕ → Bool
is_state [] = false
is_state (b ∷ s) = cond (eqb b 45) (is_number (2 ^ 31 + 1) s && not (eqb (number (2 ^ 31 + 1) s) 0)) (is_number (2 ^ 31) (b ∷ s))

unfoldable pub state : List ℕ → ℤ
state [] = pos 0
state (b ∷ s) = cond (eqb b 45) (neg_ℤ (pos (number (2 ^ 31 + 1) s))) (pos (number (2 ^ 31) (b ∷ s)))

-- ---- floats: 64 bits as sixteen upper-case hexadecimal digits

-- 0 to 9 and A to F
abbrev pub is_hex_digit : ℕ → Bool
is_hex_digit b = is_digit b || (leb 65 b && leb b 70)

abbrev pub hex_value : ℕ → ℕ
hex_value b = cond (leb b 57) (b - 48) (b - 55)

-- the value of hexadecimal digits, read after the number n
unfoldable pub hex : ℕ → List ℕ → ℕ
hex n [] = n
hex n (b ∷ s) = hex (n * 16 + hex_value b) s

unfoldable pub is_float : List ℕ → Bool
is_float s = eqb (length s) 16 && every is_hex_digit s

-- the 64 bits
unfoldable pub pattern_in : List ℕ → ℕ
pattern_in s = cond (is_float s) (hex 0 s) 0

-- the float; every pattern of a NaN is one value
abbrev pub float_in : List ℕ → Float
float_in s = bits (pattern_in s)
