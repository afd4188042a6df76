-- The output line (docs/SCOPE.md, "The line form and its program"). Definitions only.
use Rattle.std.specs.Prelude.{Result, Ok, Err}
use Rattle.numeric.specs.declared.refusal.Refusal.{Refusal}
use Rattle.tdcp.specs.declared.displacement.Delta.{Delta}
use Rattle.std.specs.Prelude.{ℕ, zero, suc, ◌+◌, ◌/◌, ◌%◌, cond, List, [], ◌∷◌, ◌++◌, ltb, Float}
use Rattle.std.specs.Float.{binary64}
use Rattle.std.specs.Float.Ieee.{to_bits}
use Rattle.numeric.specs.Refusal.{number_of}

-- the digits below 16: 0 to 9 and A to F
abbrev pub glyph : ℕ → ℕ
glyph d = cond (ltb d 10) (48 + d) (55 + d)

-- the last k digits of n in base b, the most significant first
unfoldable pub digits_text : ℕ → ℕ → ℕ → List ℕ
digits_text b zero n = []
digits_text b (suc k) n = digits_text b k (n / b) ++ (glyph (n % b) ∷ [])

-- how many decimal digits n has, if it is below 10 ^ (f + 1)
unfoldable pub digit_count : ℕ → ℕ → ℕ
digit_count zero n = 1
digit_count (suc f) n = cond (ltb n 10) 1 (suc (digit_count f (n / 10)))

-- a number of 64 bits in decimal
abbrev pub decimal_text : ℕ → List ℕ
decimal_text n = digits_text 10 (digit_count 20 n) n

-- 64 bits as sixteen hexadecimal digits
abbrev pub hex_text : ℕ → List ℕ
hex_text p = digits_text 16 16 p

abbrev pub float_text : Float → List ℕ
float_text x = hex_text (to_bits binary64 x)

-- fields separated by commas (44), and an LF (10)
abbrev pub line_text : List ℕ → List (List ℕ) → List ℕ
line_text f [] = f ++ (10 ∷ [])
line_text f (g ∷ fs) = (f ++ (44 ∷ [])) ++ line_text g fs

-- R,number (R is 82) and A,used,screened,dx,dy,dz (A is 65)
abbrev pub answer_text : Result Delta Refusal → List ℕ
answer_text (Err r) = line_text (82 ∷ []) (decimal_text (number_of r) ∷ [])
answer_text (Ok d) =
    line_text (65 ∷ [])
    (decimal_text d.used ∷ decimal_text d.screened ∷ float_text d.delta.x ∷ float_text d.delta.y ∷ float_text d.delta.z ∷ [])
