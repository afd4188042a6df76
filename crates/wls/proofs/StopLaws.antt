-- The rounds of a fix end by 15 exactly where one begins at a state with a range that is zero or not finite, and otherwise only by 10. Assumes nothing.
use mathlib.Core.Logic.{◌⊎◌, inl, inr}
use mathlib.Core.Path.{◌≡◌, refl, sym, ap, ◌∙◌, subst}
use mathlib.Core.Bool.{Bool, true, false, cond, ◌&&◌}
use mathlib.Core.List.{List, [], ◌∷◌, map}
use Prim.Native.Nat.{ℕ, zero, suc, ◌+◌}
use native.Mathlib.Omega.{arith}
use lib.Ieee.{Float}
use Rattle.lists.specs.Walk.{every}
use Rattle.cholesky.specs.Factor.{Factored, Refused as NoFactor, Lower, factor_of}
use Rattle.numeric.specs.Refusal.{number_of}
use Rattle.numeric.specs.declared.refusal.Refusal.{Refusal}
use Rattle.numeric.specs.declared.refusal.Refusal.TheVariants.{FitFailed, OnReceiver}
use Rattle.robust.specs.Round.{Round, RoundOutcome, Refused as NoRound, Solved, solved, round_by, round_of}
use Rattle.median.specs.Centre.{centre_and_scale_of}
use Rattle.normal_equations.specs.Weight.{weight}
use Rattle.normal_equations.specs.Equations.{matrix_of, right_of}
use Rattle.normal_equations.specs.declared.row.Row.{Row}
use Rattle.clocks.specs.declared.clocks.Clocks.{Clocks}
use Rattle.records.specs.declared.record.Observation.{Observation}
use Rattle.estimate_rounds.specs.Rounds.{End, Stopped, Reached, Fit, moved, short_step, reached_at, after_round, fit_from}
use Rattle.wls.specs.Fix.{row_at, round_at, fix_stop}
use Rattle.wls.specs.Before.{bare, seen_at}
use Rattle.wls.specs.declared.fix.Settings.{Settings}
use Rattle.wls.proofs.BeforeLaws.{round-seen, round_not}

-- the states that the rounds of n unknowns begin at, from x on: those of the rounds that are solved, and that of a round that is refused
unfoldable pub begins : ℕ → List Float → List Round → End → List (List Float)
begins n x [] (Stopped r) = x ∷ []
begins n x [] (Reached y) = []
begins n x (r ∷ rs) e = x ∷ begins n (moved n x r.step) rs e

module _ (settings : Settings) (k : Clocks) (os : List Observation) where
  abbrev n : ℕ
  n = 3 + k.count

  abbrev from : ℕ → List Float → Fit
  from count x = fit_from (round_at settings k os) n fix_stop count x

  -- a round by itself is refused by 10 alone
  bare-refused : (x : List Float) (r : Refusal) → bare settings k os x ≡ NoRound r → r ≡ FitFailed
  unfolding round_of round_by
  bare-refused x r e =
      let rows = map (row_at settings k x) os in
      let w = weight (centre_and_scale_of (map (λ (q : Row). q.residual) rows)) settings.huber in
      go rows (matrix_of w rows n) (right_of w rows n) (factor_of (matrix_of w rows n)) e
    where
      go : (rows : List Row) (a : List (List Float)) (b : List Float) (w : Factored) → solved rows a b w ≡ NoRound r → r ≡ FitFailed
      go rows a b NoFactor e = cc
      go rows a b (Lower l) e = absurd (let z : ◌≡◌ {A = ℕ} 0 1 = cc in omega arith)

  -- the rounds end by 15 exactly where one begins at a state with a range that is zero or not finite
  abbrev all_seen : List Float → Fit → Bool
  all_seen x f = every (seen_at os) (begins n x f.rounds f.end)

  pub unseen-stops : (count : ℕ) (x : List Float) → all_seen x (from count x) ≡ false → (from count x).end ≡ Stopped OnReceiver
  unfolding fit_from begins every
  unseen-stops zero x h = absurd (let z : ◌≡◌ {A = ℕ} 0 1 = cc in omega arith)
  unseen-stops (suc count) x h = go (seen_at os x) refl (unseen-stops count) h
    where
      short : (b : Bool) (r : Round) → ((y : List Float) → all_seen y (from count y) ≡ false → (from count y).end ≡ Stopped OnReceiver)
          → all_seen (moved n x r.step) (cond b (reached_at (moved n x r.step)) (from count (moved n x r.step))) ≡ false
          → (cond b (reached_at (moved n x r.step)) (from count (moved n x r.step))).end ≡ Stopped OnReceiver
      short true r ih h = absurd (let z : ◌≡◌ {A = ℕ} 0 1 = cc in omega arith)
      short false r ih h = ih (moved n x r.step) h

      on : (o : RoundOutcome) → seen_at os x ≡ true → ((y : List Float) → all_seen y (from count y) ≡ false → (from count y).end ≡ Stopped OnReceiver)
          → all_seen x (after_round n fix_stop x (from count) o) ≡ false → (after_round n fix_stop x (from count) o).end ≡ Stopped OnReceiver
      on (NoRound r) e ih h = let t : (seen_at os x && true) ≡ false = h in absurd (let z : ◌≡◌ {A = ℕ} 0 1 = subst (λ (b : Bool). ◌≡◌ {A = ℕ} 0 (cond b 0 1)) t (rw e) in omega arith)
      on (Solved r) e ih h = short (short_step fix_stop r.step) r ih (rw e at h)

      go : (b : Bool) → seen_at os x ≡ b → ((y : List Float) → all_seen y (from count y) ≡ false → (from count y).end ≡ Stopped OnReceiver)
          → all_seen x (after_round n fix_stop x (from count) (round_at settings k os x)) ≡ false → (after_round n fix_stop x (from count) (round_at settings k os x)).end ≡ Stopped OnReceiver
      go true e ih h = subst (λ (o : RoundOutcome). all_seen x (after_round n fix_stop x (from count) o) ≡ false → (after_round n fix_stop x (from count) o).end ≡ Stopped OnReceiver) (sym (round-seen settings k os x e)) (on (bare settings k os x) e ih) h
      go false e ih h = ap (λ (o : RoundOutcome). (after_round n fix_stop x (from count) o).end) (round_not settings k os x e)

  pub stops-unseen : (count : ℕ) (x : List Float) → (from count x).end ≡ Stopped OnReceiver → all_seen x (from count x) ≡ false
  unfolding fit_from begins every
  stops-unseen zero x h = absurd (let z : ◌≡◌ {A = ℕ} 0 1 = cc in omega arith)
  stops-unseen (suc count) x h = go (seen_at os x) refl (stops-unseen count) h
    where
      short : (b : Bool) (r : Round) → ((y : List Float) → (from count y).end ≡ Stopped OnReceiver → all_seen y (from count y) ≡ false)
          → (cond b (reached_at (moved n x r.step)) (from count (moved n x r.step))).end ≡ Stopped OnReceiver
          → all_seen (moved n x r.step) (cond b (reached_at (moved n x r.step)) (from count (moved n x r.step))) ≡ false
      short true r ih h = absurd (let z : ◌≡◌ {A = ℕ} 0 1 = cc in omega arith)
      short false r ih h = ih (moved n x r.step) h

      other : (r : Refusal) → r ≡ FitFailed → Stopped r ≡ Stopped OnReceiver → ⊥
      other r f h = let e : r ≡ OnReceiver = cc in let z : ◌≡◌ {A = ℕ} 10 15 = ap number_of (sym f ∙ e) in omega arith

      on : (o : RoundOutcome) → bare settings k os x ≡ o → seen_at os x ≡ true → ((y : List Float) → (from count y).end ≡ Stopped OnReceiver → all_seen y (from count y) ≡ false)
          → (after_round n fix_stop x (from count) o).end ≡ Stopped OnReceiver → all_seen x (after_round n fix_stop x (from count) o) ≡ false
      on (NoRound r) f e ih h = absurd (other r (bare-refused x r f) h)
      on (Solved r) f e ih h = rw e (short (short_step fix_stop r.step) r ih h)

      go : (b : Bool) → seen_at os x ≡ b → ((y : List Float) → (from count y).end ≡ Stopped OnReceiver → all_seen y (from count y) ≡ false)
          → (after_round n fix_stop x (from count) (round_at settings k os x)).end ≡ Stopped OnReceiver → all_seen x (after_round n fix_stop x (from count) (round_at settings k os x)) ≡ false
      go true e ih h = subst (λ (o : RoundOutcome). (after_round n fix_stop x (from count) o).end ≡ Stopped OnReceiver → all_seen x (after_round n fix_stop x (from count) o) ≡ false) (sym (round-seen settings k os x e)) (on (bare settings k os x) refl e ih) h
      go false e ih h = ap (λ (o : RoundOutcome). all_seen x (after_round n fix_stop x (from count) o)) (round_not settings k os x e) ∙ ap (λ (b : Bool). b && true) e

  -- and no round is refused by another number than 10 and 15
  pub stopped_by : (count : ℕ) (x : List Float) (r : Refusal) → (from count x).end ≡ Stopped r → (r ≡ OnReceiver) ⊎ (r ≡ FitFailed)
  unfolding fit_from
  stopped_by zero x r h = absurd (let z : ◌≡◌ {A = ℕ} 0 1 = cc in omega arith)
  stopped_by (suc count) x r h = go (seen_at os x) refl (λ y. stopped_by count y r) h
    where
      short : (b : Bool) (q : Round) → ((y : List Float) → (from count y).end ≡ Stopped r → (r ≡ OnReceiver) ⊎ (r ≡ FitFailed))
          → (cond b (reached_at (moved n x q.step)) (from count (moved n x q.step))).end ≡ Stopped r → (r ≡ OnReceiver) ⊎ (r ≡ FitFailed)
      short true q ih h = absurd (let z : ◌≡◌ {A = ℕ} 0 1 = cc in omega arith)
      short false q ih h = ih (moved n x q.step) h

      on : (o : RoundOutcome) → bare settings k os x ≡ o → ((y : List Float) → (from count y).end ≡ Stopped r → (r ≡ OnReceiver) ⊎ (r ≡ FitFailed))
          → (after_round n fix_stop x (from count) o).end ≡ Stopped r → (r ≡ OnReceiver) ⊎ (r ≡ FitFailed)
      on (NoRound q) f ih h = let e : q ≡ r = cc in inr (sym e ∙ bare-refused x q f)
      on (Solved q) f ih h = short (short_step fix_stop q.step) q ih h

      not_seen : (after_round n fix_stop x (from count) (NoRound OnReceiver)).end ≡ Stopped r → (r ≡ OnReceiver) ⊎ (r ≡ FitFailed)
      not_seen h = let e : OnReceiver ≡ r = cc in inl (sym e)

      go : (b : Bool) → seen_at os x ≡ b → ((y : List Float) → (from count y).end ≡ Stopped r → (r ≡ OnReceiver) ⊎ (r ≡ FitFailed))
          → (after_round n fix_stop x (from count) (round_at settings k os x)).end ≡ Stopped r → (r ≡ OnReceiver) ⊎ (r ≡ FitFailed)
      go true e ih h = on (bare settings k os x) refl ih (sym (ap (λ (o : RoundOutcome). (after_round n fix_stop x (from count) o).end) (round-seen settings k os x e)) ∙ h)
      go false e ih h = not_seen (sym (ap (λ (o : RoundOutcome). (after_round n fix_stop x (from count) o).end) (round_not settings k os x e)) ∙ h)
