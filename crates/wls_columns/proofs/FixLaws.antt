-- The fix of a caller's columns, from the records and settings that the code makes of them. Assumes nothing.
use Rattle.std.specs.Prelude.{Result, Ok, Err}
use Rattle.numeric.specs.declared.refusal.Refusal.{Refusal}
use mathlib.Core.Path.{◌≡◌, ◌∙◌, subst}
use mathlib.Core.Bool.{Bool, true, false, cond}
use mathlib.Core.List.{List}
use Prim.Native.Nat.{ℕ, min}
use native.Mathlib.Omega.{arith}
use lib.Ieee.{Float}
use Rattle.lists.specs.Walk.{places, Holds}
use Rattle.numeric.specs.declared.refusal.Refusal.TheVariants.{TooMany}
use Rattle.numeric.specs.declared.vec3.Vec3.{Vec3}
use Rattle.records.specs.declared.record.Observations.{Observations}
use Rattle.wls.specs.Fix as fix
use Rattle.wls.specs.Fix.{fix_of}
use Rattle.wls.specs.declared.fix.Solution.{Solution}
use Rattle.wls.specs.declared.fix.Settings.{Settings}
use Rattle.wls.proofs.FixSound.{fix-accepted}
use Rattle.wls.proofs.CountedLaws.{fix-counted, fix-many-rounds}
use Rattle.estimate_rounds.proofs.RoundsLaws.{capped}
use Rattle.wls_columns.specs.Columns.{ObservationColumns, observation_at, observations_of, observations_fit}
use Rattle.wls_columns.specs.Fix.{fix_settings, fix_input, column_fix_of, FixLeaves, FixAnswers, PositionLeaves, PositionAnswers}
use Rattle.wls_columns.proofs.ColumnLaws.{held-count, held_all}

module _ (c : ObservationColumns) (n : ℕ) (guess : Vec3) (s : List Float) (rounds : ℕ) where
  abbrev given : ℕ → fix.Input
  given k = fix_input c n guess (fix_settings s k)

  module _ {b : Bool} (is : b ≡ observations_fit c n) where
    pub fix-short : b ≡ false → Err TooMany ≡ column_fix_of c n guess (fix_settings s rounds)
    unfolding column_fix_of
    fix-short f = rw (← is, f)

    pub fix-fit : (o : Observations) → b ≡ true → Holds o.count o.observation (places (observation_at c) n)
        → fix_of (record { observations = o; guess = guess; settings = fix_settings s (min rounds 51) }) ≡ column_fix_of c n guess (fix_settings s rounds)
    unfolding column_fix_of
    fix-fit o t h =
        rw (← is, t)
        (fix-counted o (observations_of c n) guess (fix_settings s (min rounds 51)) (held-count (observation_at c) n h) (held_all (observation_at c) n h)
        ∙ capped (λ (k : ℕ). fix_of (given k)) (λ k h. fix-many-rounds (given k) h) rounds)

not_at : (v : Solution) → Err TooMany ≡ Ok v → ⊥
not_at v e = let z : ◌≡◌ {A = ℕ} 0 1 = cc in omega arith

module _ (c : ObservationColumns) (n : ℕ) (guess : Vec3) (settings : Settings) where
  -- what an accepted fix of columns has
  at-accepted : (v : Solution) → column_fix_of c n guess settings ≡ Ok v → fix.Accepted (fix_input c n guess settings) v
  unfolding column_fix_of
  at-accepted v = go (observations_fit c n)
    where
      go : (b : Bool) → cond b (fix_of (fix_input c n guess settings)) (Err TooMany) ≡ Ok v → fix.Accepted (fix_input c n guess settings) v
      go true e = fix-accepted (fix_input c n guess settings) v e
      go false e = absurd (not_at v e)

  pub fix-answers : {f : Result Solution Refusal} {number : ℕ} {solution₀ solution : List ℕ} {used₀ used : ℕ} → f ≡ column_fix_of c n guess settings → FixLeaves f number solution₀ solution used₀ used
      → FixAnswers c n guess settings number solution₀ solution used₀ used
  fix-answers {number = number} {solution₀} {solution} {used₀} {used} e h = record { leaves = subst (λ (z : Result Solution Refusal). FixLeaves z number solution₀ solution used₀ used) e h; accepted = at-accepted }

  pub position-answers : {f : Result Solution Refusal} {number : ℕ} {position₀ position : List ℕ} → f ≡ column_fix_of c n guess settings → PositionLeaves f number position₀ position
      → PositionAnswers c n guess settings number position₀ position
  position-answers {number = number} {position₀} {position} e h = record { leaves = subst (λ (z : Result Solution Refusal). PositionLeaves z number position₀ position) e h; accepted = at-accepted }
