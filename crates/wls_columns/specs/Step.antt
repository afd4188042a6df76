-- The round of a caller's columns: its number, and the lent step afterwards. Definitions only.
use Rattle.numeric.specs.Refusal.{answer_number}
use Rattle.std.specs.Prelude.{Result, Ok, Err}
use Rattle.numeric.specs.declared.refusal.Refusal.{Refusal}
use Rattle.std.specs.Prelude.{ℕ, ◌≡◌, cond, List, map, Float}
use Rattle.numeric.specs.Order.{pattern_of}
use Rattle.numeric.specs.declared.refusal.Refusal.TheVariants.{TooMany}
use Rattle.robust.specs.Step.{step_of}
use Rattle.wls_columns.specs.Columns.{RowColumns, rows_from, rows_fit}

-- the round of the first n rows of the columns: refused by 2 where there are more than 64 or a column is too short
unfoldable pub column_step_of : RowColumns → ℕ → ℕ → Float → Result (List Float) Refusal
column_step_of c n unknowns huber = cond (rows_fit c n) (step_of (rows_from c n) unknowns huber) (Err TooMany)

-- the lent dx afterwards: the patterns of the step, or unchanged to the last bit
abbrev pub step_after : Result (List Float) Refusal → List ℕ → List ℕ
step_after (Err r) before = before
step_after (Ok x) before = map pattern_of x

-- the number and the lent dx afterwards are those of the step s
pub record StepAnswers (s : Result (List Float) Refusal) (number : ℕ) (dx₀ dx : List ℕ) : Type 0 where
  pub number_is : number ≡ answer_number s
  pub dx-is : dx ≡ step_after s dx₀
