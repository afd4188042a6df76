-- The round of a caller's columns, from the rows that the code makes of them. Assumes nothing.
use Rattle.std.specs.Prelude.{Result, Err}
use Rattle.numeric.specs.declared.refusal.Refusal.{Refusal}
use mathlib.Core.Path.{◌≡◌, subst}
use mathlib.Core.Bool.{Bool, true, false}
use mathlib.Core.List.{List}
use Prim.Native.Nat.{ℕ}
use lib.Ieee.{Float}
use Rattle.lists.specs.Walk.{places, Holds}
use Rattle.numeric.specs.declared.refusal.Refusal.TheVariants.{TooMany}
use Rattle.robust.specs.Step.{counted_rows, step_of}
use Rattle.normal_equations.specs.declared.row.Rows.{Rows}
use Rattle.wls_columns.specs.Columns.{RowColumns, row_from, rows_from, rows_fit}
use Rattle.wls_columns.specs.Step.{StepAnswers, column_step_of}
use Rattle.wls_columns.proofs.ColumnLaws.{held-count, held_all}

module _ (unknowns : ℕ) (huber : Float) where
  -- a step looks at the counted rows alone
  step-counted : (p q : Rows) → p.count ≡ q.count → counted_rows p ≡ counted_rows q → step_of p unknowns huber ≡ step_of q unknowns huber
  unfolding step_of
  step-counted p q e h = rw (h, e)

  module _ (c : RowColumns) (n : ℕ) where
    pub step-short : {b : Bool} → b ≡ rows_fit c n → b ≡ false → Err TooMany ≡ column_step_of c n unknowns huber
    unfolding column_step_of
    step-short is t = rw (← is, t)

    pub step-fit : (rows : Rows) {b : Bool} → b ≡ rows_fit c n → b ≡ true → Holds rows.count rows.row (places (row_from c) n) → step_of rows unknowns huber ≡ column_step_of c n unknowns huber
    unfolding column_step_of
    step-fit rows is t h = rw (← is, t) (step-counted rows (rows_from c n) (held-count (row_from c) n h) (held_all (row_from c) n h))

-- the entry point's promise, from the step and what is written
pub step-answers : {s r : Result (List Float) Refusal} {number : ℕ} {dx₀ dx : List ℕ} → r ≡ s → StepAnswers r number dx₀ dx → StepAnswers s number dx₀ dx
step-answers {number = number} {dx₀} {dx} e h = subst (λ (z : Result (List Float) Refusal). StepAnswers z number dx₀ dx) e h
