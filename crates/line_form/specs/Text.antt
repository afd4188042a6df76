-- A whole text of the form, and the displacement that it asks for (docs/SCOPE.md, "The line form and its program"). Definitions only.
use Rattle.std.specs.Prelude.{Result, Err}
use Rattle.numeric.specs.declared.refusal.Refusal.{Refusal}
use Rattle.tdcp.specs.declared.displacement.Delta.{Delta}
use Rattle.std.specs.Prelude.{ℕ, ◌+◌, Bool, true, false, cond, not, ◌&&◌, List, [], ◌∷◌, ltb, length, get_or, drop, set, replicate, pos}
use Rattle.exact.specs.Float.{+0}
use Rattle.lists.specs.Walk.{fold}
use Rattle.numeric.specs.declared.refusal.Refusal.TheVariants.{BrokenForm}
use Rattle.tdcp.specs.Displacement.{Input, general, displacement_of}
use Rattle.records.specs.declared.record.Carrier.{Carrier}
use Rattle.records.specs.declared.record.Epoch.{Epoch}
use Rattle.line_form.specs.Split.{split}
use Rattle.line_form.specs.Line.{is_settings, given_in, line_of}
use Rattle.line_form.specs.declared.line.Line.{Line}
use Rattle.line_form.specs.declared.line.Line.TheVariants.{Previous, Current, Broken}

-- ---- the form

abbrev pub is_record : Line → Bool
is_record (Previous c) = true
is_record (Current c) = true
is_record Broken = false

-- what stands between the LFs (10) after the first line: lines, and nothing after the last LF
unfoldable pub records_form : List (List ℕ) → Bool
records_form [] = false
records_form ([] ∷ []) = true
records_form ((b ∷ s) ∷ []) = false
records_form (l ∷ (m ∷ ls)) = is_record (line_of l) && records_form (m ∷ ls)

-- the settings come once and first
abbrev pub lines_form : List (List ℕ) → Bool
lines_form [] = false
lines_form (l ∷ ls) = is_settings l && records_form ls

-- at most 32,768 bytes
unfoldable pub is_text : List ℕ → Bool
is_text s = not (ltb 32768 (length s)) && lines_form (split 10 s)

-- ---- what it says

-- no carrier: none is counted
unfoldable pub no_carriers : Epoch
no_carriers =
    record {
      count = 0;
      carriers = replicate 64 (record {
        constellation = 0;
        svid = 0;
        band = 0;
        adr = +0;
        state = pos 0;
        satellite = record { x = +0; y = +0; z = +0 };
        elevation = +0;
        rate = +0;
      });
    }

-- one carrier more; past the 64th it is only counted
unfoldable pub with_carrier : Epoch → Carrier → Epoch
with_carrier e c = record { count = e.count + 1; carriers = set e.carriers e.count c }

-- an epoch after one line more
abbrev pub previous_after : Epoch → Line → Epoch
previous_after e (Previous c) = with_carrier e c
previous_after e (Current c) = e
previous_after e Broken = e

abbrev pub current_after : Epoch → Line → Epoch
current_after e (Previous c) = e
current_after e (Current c) = with_carrier e c
current_after e Broken = e

-- the epochs that the lines make, each in its own order
abbrev pub previous_from : Epoch → List (List ℕ) → Epoch
previous_from e ls = fold (λ e l. previous_after e (line_of l)) e ls

abbrev pub current_from : Epoch → List (List ℕ) → Epoch
current_from e ls = fold (λ e l. current_after e (line_of l)) e ls

abbrev pub input_in : List ℕ → List (List ℕ) → Input
input_in l ls = general (previous_from no_carriers ls) (current_from no_carriers ls) (given_in l).dt (given_in l).receiver (given_in l).settings

unfoldable pub text_input : List ℕ → Input
text_input s = input_in (get_or (split 10 s) 0 []) (drop 1 (split 10 s))

-- the displacement that the text asks for; 1 comes before every other number
unfoldable pub displacement_in : List ℕ → Result Delta Refusal
displacement_in s = cond (is_text s) (displacement_of (text_input s)) (Err BrokenForm)
