-- The line that answers a text, and the promise of the public call (docs/SCOPE.md, "The line form and its program"). Definitions only.
use Rattle.std.specs.Prelude.{Result, Ok, Err}
use Rattle.numeric.specs.declared.refusal.Refusal.{Refusal}
use Rattle.std.specs.Prelude.{ℕ, ◌≡◌, cond, List, ◌++◌, ltb, length, drop}
use Rattle.numeric.specs.Refusal.{answer_number, value_after}
use Rattle.numeric.specs.declared.refusal.Refusal.TheVariants.{TooMany}
use Rattle.tdcp.specs.Displacement.{Accepted}
use Rattle.tdcp.specs.declared.displacement.Delta.{Delta}
use Rattle.line_form.specs.Text.{text_input, displacement_in}
use Rattle.line_form.specs.Print.{answer_text}

-- the line that answers a text
unfoldable pub answer_line : List ℕ → List ℕ
answer_line text = answer_text (displacement_in text)

-- Writing the line to a buffer: its length. 2: the buffer is shorter than the line.
unfoldable pub printed_of : List ℕ → List ℕ → Result ℕ Refusal
printed_of line buffer = cond (ltb (length buffer) (length line)) (Err TooMany) (Ok (length line))

-- the buffer afterwards; a refusal does not change it
abbrev pub line_after : Result ℕ Refusal → List ℕ → List ℕ → List ℕ
line_after (Err r) line buffer = buffer
line_after (Ok n) line buffer = line ++ drop n buffer

-- The answer and the buffer are those of the text's line. An accepted text has all that an accepted displacement has, including demand 3 of every round.
pub record LineAnswered (text buffer after : List ℕ) (r : Result ℕ Refusal) : Type 0 where
  pub answer : r ≡ printed_of (answer_line text) buffer
  pub bytes : after ≡ line_after r (answer_line text) buffer
  pub accepted : (d : Delta) → displacement_in text ≡ Ok d → Accepted (text_input text) d

-- the same with the number and the count in lent memory
pub record LineAnswers (text : List ℕ) (number : ℕ) (buffer after : List ℕ) (written₀ written : ℕ) : Type 0 where
  pub number_is : number ≡ answer_number (printed_of (answer_line text) buffer)
  pub bytes-are : after ≡ line_after (printed_of (answer_line text) buffer) (answer_line text) buffer
  pub written_is : written ≡ value_after (printed_of (answer_line text) buffer) written₀
  pub accepted : (d : Delta) → displacement_in text ≡ Ok d → Accepted (text_input text) d
