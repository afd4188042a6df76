-- One line of the form (docs/SCOPE.md, "The line form and its program"). Definitions only.
use Rattle.std.specs.Prelude.{ℕ, ◌+◌, ◌^◌, Bool, cond, ◌&&◌, List, [], ◌∷◌, eqb, length}
use Rattle.exact.specs.Float.{+0}
use Rattle.numeric.specs.declared.vec3.Vec3.{Vec3}
use Rattle.records.specs.declared.record.Carrier.{Carrier}
use Rattle.line_form.specs.Split.{fields, field}
use Rattle.line_form.specs.Field.{is_number, number, is_state, state, is_float, float_in}
use Rattle.line_form.specs.declared.line.Given.{Given}
use Rattle.line_form.specs.declared.line.Line.{Line}
use Rattle.line_form.specs.declared.line.Line.TheVariants.{Previous, Current, Broken}

-- eleven fields: a letter, and ten more
abbrev pub eleven : List ℕ → Bool
eleven l = eqb (length (fields l)) 11

-- the byte of a field of one byte; 0 for any other field
abbrev pub letter : List ℕ → ℕ
letter [] = 0
letter (b ∷ []) = b
letter (b ∷ (c ∷ s)) = 0

-- the letter that a line begins with
abbrev pub tag : List ℕ → ℕ
tag l = letter (field l 0)

-- x,y,z: the fields k, k + 1 and k + 2
unfoldable pub is_vector : List ℕ → ℕ → Bool
is_vector l k = is_float (field l k) && is_float (field l (k + 1)) && is_float (field l (k + 2))

unfoldable pub vector_in : List ℕ → ℕ → Vec3
vector_in l k = record { x = float_in (field l k); y = float_in (field l (k + 1)); z = float_in (field l (k + 2)) }

-- ---- S,dt,x,y,z,screen,sigma_a,sigma_b,huber,mask,rounds

unfoldable pub settings_form : List ℕ → Bool
settings_form l =
    is_float (field l 1) && is_vector l 2 && is_float (field l 5) && is_float (field l 6) && is_float (field l 7) && is_float (field l 8)
    && is_float (field l 9) && is_number (2 ^ 32) (field l 10)

-- S (83), and the fields after it
unfoldable pub is_settings : List ℕ → Bool
is_settings l = eleven l && eqb (tag l) 83 && settings_form l

-- `agreement` has no field, and nothing reads it
unfoldable pub given_in : List ℕ → Given
given_in l =
    record {
      dt = float_in (field l 1);
      receiver = vector_in l 2;
      settings = record {
        screen = float_in (field l 5);
        sigma_a = float_in (field l 6);
        sigma_b = float_in (field l 7);
        huber = float_in (field l 8);
        mask = float_in (field l 9);
        rounds = number (2 ^ 32) (field l 10);
        agreement = +0;
      };
    }

-- ---- P or C, and constellation,svid,band,adr,state,x,y,z,elevation,rate

unfoldable pub carrier_form : List ℕ → Bool
carrier_form l =
    is_number (2 ^ 8) (field l 1) && is_number (2 ^ 16) (field l 2) && is_number (2 ^ 32) (field l 3) && is_float (field l 4) && is_state (field l 5)
    && is_vector l 6 && is_float (field l 9) && is_float (field l 10)

unfoldable pub carrier : List ℕ → Carrier
carrier l =
    record {
      constellation = number (2 ^ 8) (field l 1);
      svid = number (2 ^ 16) (field l 2);
      band = number (2 ^ 32) (field l 3);
      adr = float_in (field l 4);
      state = state (field l 5);
      satellite = vector_in l 6;
      elevation = float_in (field l 9);
      rate = float_in (field l 10);
    }

-- P (80) is of the previous epoch, C (67) of the current one
abbrev pub named : ℕ → Carrier → Line
named t c = cond (eqb t 80) (Previous c) (cond (eqb t 67) (Current c) Broken)

-- a line after the first
unfoldable pub line_of : List ℕ → Line
line_of l = cond (eleven l && carrier_form l) (named (tag l) (carrier l)) Broken
