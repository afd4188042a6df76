-- The round called by itself (docs/SCOPE.md, "The reference" and "Round"). It takes every float, and refuses only by 2, 4 and 10. Definitions only.
use Rattle.std.specs.Prelude.{Result, Ok, Err, ⊤}
use Rattle.std.specs.Prelude.{◌≡◌, ℕ, Bool, not, cond, ◌||◌, List, ltb, leb, take, Float}
use Rattle.lists.specs.Walk.{every}
use Rattle.exact.specs.Float.{+0}
use Rattle.cholesky.specs.Factor.{at}
use Rattle.numeric.specs.Refusal.{answer_number, value_after}
use Rattle.numeric.specs.declared.refusal.Refusal.{Refusal}
use Rattle.numeric.specs.declared.refusal.Refusal.TheVariants.{TooMany, RecordOutOfRange}
use Rattle.normal_equations.specs.Nine.{nine}
use Rattle.robust.specs.Round.{RoundOutcome, Refused, Solved, round_of}
use Rattle.normal_equations.specs.declared.row.Row.{Row}
use Rattle.normal_equations.specs.declared.row.Rows.{Rows}

-- the counted rows
abbrev pub counted_rows : Rows → List Row
counted_rows rows = take rows.count rows.row

-- a clock index is at most 8
unfoldable pub indexed : Row → Bool
indexed r = leb r.clock 8

-- the first n elements of a step, and zeros beyond the unknowns
unfoldable pub padded_step : ℕ → List Float → List Float
padded_step n x = nine (λ i. cond (ltb i n) (at x i) +0)

-- the answer of a round called by itself: its step, with zeros beyond the unknowns, or the refusal
abbrev pub outcome : ℕ → RoundOutcome → Result (List Float) Refusal
outcome n (Refused r) = Err r
outcome n (Solved r) = Ok (padded_step n r.step)

unfoldable pub step_of : Rows → ℕ → Float → Result (List Float) Refusal
step_of rows n huber =
    cond (ltb 64 rows.count) (Err TooMany)
    (cond (ltb 9 n || not (every indexed (counted_rows rows))) (Err RecordOutOfRange)
    (outcome n (round_of (counted_rows rows) n huber)))

-- what is answered beside the lent step: that it was written, or the refusal
abbrev pub stepping : Result (List Float) Refusal → Result ⊤ Refusal
stepping (Ok x) = Ok tt
stepping (Err r) = Err r

-- the answer, its number and the lent dx, which is dx₀ before and dx afterwards, are those of the step s; a refusal leaves dx unchanged
pub record StepPromised (s : Result (List Float) Refusal) (r : Result ⊤ Refusal) (dx₀ dx : List Float) : Type 0 where
  pub answer : r ≡ stepping s
  pub number_is : answer_number r ≡ answer_number s
  pub dx-is : dx ≡ value_after s dx₀
