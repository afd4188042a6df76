-- The line in a lent buffer: written where it fits. Assumes nothing.
use Rattle.std.specs.Prelude.{Result, Ok, Err}
use Rattle.numeric.specs.declared.refusal.Refusal.{Refusal}
use mathlib.Core.Path.{◌≡◌, refl, sym, ap, ◌∙◌}
use mathlib.Core.Bool.{Bool, true, false, cond}
use mathlib.Core.List.{List, ◌++◌}
use Prim.Native.Nat.{ℕ, ◌+◌, ◌≤◌, ◌<◌}
use native.Mathlib.Omega.{arith}
use lib.Dec.{ltb}
use borrow.Author.Tests.{lt-ltb, le-ltb, ltb-false}
use lib.ListN.{length, take, drop}
use lib.Seq.{take_at, take-length}
use Rattle.numeric.specs.declared.refusal.Refusal.TheVariants.{BrokenForm, TooMany}
use Rattle.tdcp.specs.Displacement.{displacement_of, Accepted}
use Rattle.tdcp.specs.declared.displacement.Delta.{Delta}
use Rattle.tdcp.proofs.DisplacementSound.{displacement-accepted}
use Rattle.line_form.specs.Text.{is_text, text_input, displacement_in}
use Rattle.line_form.specs.Print.{answer_text}
use Rattle.line_form.specs.Steps.{PutBytes, Displaces}
use Rattle.line_form.specs.Answer.{answer_line, printed_of, line_after, LineAnswered, LineAnswers}
use Rattle.numeric.specs.Refusal.{answer_number, value_after}

-- an accepted text has what an accepted displacement has
text-accepted : (text : List ℕ) (d : Delta) → displacement_in text ≡ Ok d → Accepted (text_input text) d
unfolding displacement_in
text-accepted text d e = go (is_text text) e
  where
    go : (b : Bool) → cond b (displacement_of (text_input text)) (Err BrokenForm) ≡ Ok d → Accepted (text_input text) d
    go true q = displacement-accepted (text_input text) d q
    go false q = absurd (let z : ◌≡◌ {A = ℕ} 0 1 = cc in omega arith)

module _ (text buffer before after : List ℕ) (d : Result Delta Refusal) (n : ℕ) (is : Displaces text d) (put : PutBytes before after 0 (answer_text d) n) where
  line : answer_text d ≡ answer_line text
  unfolding answer_line
  line = ap answer_text is.answer

  size : n ≡ length (answer_text d)
  size = omega (arith, put.next)

  long : n ≡ length (answer_line text)
  long = size ∙ ap length line

  pub answered-short : length buffer < n → LineAnswered text buffer buffer (Err TooMany)
  unfolding printed_of
  answered-short l = record { answer = rw (lt-ltb (length buffer) (length (answer_line text)) (omega (arith, long))); bytes = refl; accepted = text-accepted text }

  first : take n after ≡ answer_line text
  first =
      ap (take n) put.bytes ∙ take_at (answer_text d) (drop (0 + length (answer_text d)) before) n (sym size) ∙ line

  -- the first n bytes were copied
  pub answered-whole : (r : ℕ) (out : List ℕ) → n ≤ length buffer → r ≡ length (take n after) → out ≡ take (length (take n after)) (take n after) ++ drop (length (take n after)) buffer
      → LineAnswered text buffer out (Ok r)
  unfolding printed_of
  answered-whole r out l q o =
      let e = le-ltb (length buffer) (length (answer_line text)) (omega (arith, long)) in
      record {
        answer = rw e (ap (λ z. Ok z) (q ∙ ap length first));
        bytes =
            o ∙ ap (λ (t : List ℕ). t ++ drop (length (take n after)) buffer) (take-length (take n after))
            ∙ ap (λ (t : List ℕ). t ++ drop (length (take n after)) buffer) first
            ∙ ap (λ (k : ℕ). answer_line text ++ drop k buffer) (sym q);
        accepted = text-accepted text;
      }

-- a line that was written is within the buffer
pub answered-room : (text buffer after : List ℕ) (n : ℕ) (r : Result ℕ Refusal) → r ≡ Ok n → LineAnswered text buffer after r → n ≤ length buffer
unfolding printed_of
answered-room text buffer after n r is a = go (ltb (length buffer) (length (answer_line text))) refl (sym is ∙ a.answer)
  where
    go : (t : Bool) → ltb (length buffer) (length (answer_line text)) ≡ t → Ok n ≡ cond t (Err TooMany) (Ok (length (answer_line text))) → n ≤ length buffer
    go true e q = absurd (let z : ◌≡◌ {A = ℕ} 0 1 = cc in omega arith)
    go false e q = let same : n ≡ length (answer_line text) = cc in omega (arith, same, ltb-false (length buffer) (length (answer_line text)) e)

-- the answer with its number and count in lent memory
pub line-answers : (text buffer after : List ℕ) (number written₀ written : ℕ) (r : Result ℕ Refusal) → LineAnswered text buffer after r → number ≡ answer_number r → written ≡ value_after r written₀ → LineAnswers text number buffer after written₀ written
line-answers text buffer after number written₀ written r a n w =
    record {
      number_is = n ∙ ap answer_number a.answer;
      bytes-are = a.bytes ∙ ap (λ (p : Result ℕ Refusal). line_after p (answer_line text) buffer) a.answer;
      written_is = w ∙ ap (λ (p : Result ℕ Refusal). value_after p written₀) a.answer;
      accepted = a.accepted;
    }
