-- The round called by itself, by what its parts answer. Assumes nothing.
use Rattle.std.specs.Prelude.{Result, Ok, Err, ⊤}
use mathlib.Core.Path.{◌≡◌, refl, sym, ap, ◌∙◌, subst}
use Prim.Native.Nat.{ℕ, ◌≤◌, ◌<◌}
use native.Mathlib.Omega.{arith}
use mathlib.Core.Bool.{Bool, true, false}
use mathlib.Core.List.{List}
use borrow.Author.Tests.{lt-ltb, le-ltb}
use lib.ListN.{length}
use lib.Ieee.{Float}
use Rattle.lists.specs.Walk.{every}
use Rattle.numeric.specs.Refusal.{value_after}
use Rattle.numeric.specs.declared.refusal.Refusal.{Refusal}
use Rattle.numeric.specs.declared.refusal.Refusal.TheVariants.{TooMany, RecordOutOfRange}
use Rattle.median.specs.Centre.{centre_and_scale_of, centre_scale_of}
use Rattle.median.specs.declared.centre.CentreScale.{CentreScale}
use Rattle.normal_equations.specs.Weight.{weight}
use Rattle.robust.specs.Round.{RoundOutcome, Refused, Solved, round_by, round_of}
use Rattle.robust.specs.Steps.{stepping_of}
use Rattle.robust.specs.Step.{counted_rows, indexed, padded_step, outcome, step_of, stepping, StepPromised}
use Rattle.normal_equations.specs.Steps.{RoundColumns, rows_in}
use Rattle.normal_equations.specs.declared.row.Rows.{Rows}
use Rattle.normal_equations.proofs.ColumnLaws.{residuals-of}

-- at most 64 residuals have a centre
centre-of : (p : List ℕ) → length p ≤ 64 → centre_scale_of p ≡ Ok (centre_and_scale_of p)
unfolding centre_scale_of
centre-of p few = rw (le-ltb 64 (length p) few)

-- what the code has of the centre of the columns' residuals
module _ (columns : RoundColumns) (few : length columns.residual ≤ 64) where
  pub never-refused : {A : Type 0} (r : Refusal) → Err r ≡ centre_scale_of columns.residual → A
  never-refused r e = absurd (let h = e ∙ centre-of columns.residual few in let z : ◌≡◌ {A = ℕ} 0 1 = cc in omega arith)

  pub round-solving : (n : ℕ) (huber : Float) (c : CentreScale) {a : Result (List Float) Refusal} → Ok c ≡ centre_scale_of columns.residual → a ≡ stepping_of (round_by (weight c huber) (rows_in columns) n) → a ≡ stepping_of (round_of (rows_in columns) n huber)
  unfolding round_of
  round-solving n huber c {a} e s =
      let h = e ∙ centre-of columns.residual few in
      let q : c ≡ centre_and_scale_of columns.residual = cc in
      subst (λ z. a ≡ stepping_of (round_by (weight z huber) (rows_in columns) n)) (q ∙ ap centre_and_scale_of (sym (residuals-of columns))) s

module _ (rows : Rows) (n : ℕ) (huber : Float) where
  pub step-many : 64 < rows.count → Err TooMany ≡ step_of rows n huber
  unfolding step_of
  step-many h = rw (lt-ltb 64 rows.count h)

  module _ (few : rows.count ≤ 64) where
    pub step-wide : 9 < n → Err RecordOutOfRange ≡ step_of rows n huber
    unfolding step_of
    step-wide h = rw (le-ltb 64 rows.count few, lt-ltb 9 n h)

    module _ (nine : n ≤ 9) (b : Bool) (is : b ≡ every indexed (counted_rows rows)) where
      pub step-index : b ≡ false → Err RecordOutOfRange ≡ step_of rows n huber
      unfolding step_of
      step-index e = rw (le-ltb 64 rows.count few, le-ltb 9 n nine, ← is, e)

      module _ (t : b ≡ true) where
        step-round : outcome n (round_of (counted_rows rows) n huber) ≡ step_of rows n huber
        unfolding step_of
        step-round = rw (le-ltb 64 rows.count few, le-ltb 9 n nine, ← is, t)

        -- what the round answers
        module _ (a : Result (List Float) Refusal) (s : a ≡ stepping_of (round_of (counted_rows rows) n huber)) where
          pub step-done : (y z : List Float) → a ≡ Ok y → z ≡ padded_step n y → Ok z ≡ step_of rows n huber
          step-done y z e h = go (round_of (counted_rows rows) n huber) s ∙ step-round
            where
              go : (o : RoundOutcome) → a ≡ stepping_of o → Ok z ≡ outcome n o
              go (Refused r) s = absurd (let z : ◌≡◌ {A = ℕ} 0 1 = cc in omega arith)
              go (Solved r) s = let q : y ≡ r.step = cc in ap Ok (h ∙ ap (padded_step n) q)

          pub step-refused : (r : Refusal) → a ≡ Err r → Err r ≡ step_of rows n huber
          step-refused r e = go (round_of (counted_rows rows) n huber) s ∙ step-round
            where
              go : (o : RoundOutcome) → a ≡ stepping_of o → Err r ≡ outcome n o
              go (Refused q) s = cc
              go (Solved q) s = absurd (let z : ◌≡◌ {A = ℕ} 0 1 = cc in omega arith)

-- a step that is written, and a refusal that leaves dx unchanged
pub step-written : {s : Result (List Float) Refusal} {z : List Float} (dx₀ : List Float) → Ok z ≡ s → StepPromised s (Ok tt) dx₀ z
step-written {z = z} dx₀ e = subst (λ q. StepPromised q (Ok tt) dx₀ z) e (record { answer = refl; number_is = refl; dx-is = refl })

pub step-kept : {s : Result (List Float) Refusal} {r : Refusal} (dx : List Float) → Err r ≡ s → StepPromised s (Err r) dx dx
step-kept {r = r} dx e = subst (λ q. StepPromised q (Err r) dx dx) e (record { answer = refl; number_is = refl; dx-is = refl })

-- the step by value, from what is written
pub written-step : {s : Result (List Float) Refusal} {a : Result ⊤ Refusal} {u : ⊤} {dx₀ dx : List Float} → StepPromised s a dx₀ dx → a ≡ Ok u → Ok dx ≡ s
written-step {s} {a} {u} {dx₀} {dx} p e = go s (sym e ∙ p.answer) p.dx-is
  where
    go : (q : Result (List Float) Refusal) → Ok u ≡ stepping q → dx ≡ value_after q dx₀ → Ok dx ≡ q
    go (Ok x) t h = ap Ok h
    go (Err r) t h = absurd (let z : ◌≡◌ {A = ℕ} 0 1 = cc in omega arith)

pub refused-step : {s : Result (List Float) Refusal} {a : Result ⊤ Refusal} {r : Refusal} {dx₀ dx : List Float} → StepPromised s a dx₀ dx → a ≡ Err r → Err r ≡ s
refused-step {s} {a} {r} p e = go s (sym e ∙ p.answer)
  where
    go : (q : Result (List Float) Refusal) → Err r ≡ stepping q → Err r ≡ q
    go (Ok x) t = absurd (let z : ◌≡◌ {A = ℕ} 0 1 = cc in omega arith)
    go (Err r') t = cc
