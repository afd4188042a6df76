-- Numbers that a displacement never gives: 1, and in the general profile 20. Assumes nothing.
use Rattle.numeric.specs.Refusal.{answer_number}
use Rattle.std.specs.Prelude.{Result, Ok, Err}
use Rattle.numeric.specs.declared.refusal.Refusal.{Refusal}
use Rattle.tdcp.specs.declared.displacement.Delta.{Delta}
use mathlib.Core.Logic.{◌⊎◌, inl, inr}
use mathlib.Core.Path.{◌≡◌, refl, sym, ap, ◌∙◌}
use mathlib.Core.Bool.{Bool, true, false, cond}
use mathlib.Core.List.{List, [], ◌∷◌, ◌++◌}
use Prim.Native.Nat.{ℕ, zero, suc}
use native.Mathlib.Omega.{arith}
use lib.Dec.{eqb}
use lib.Ieee.{Float}
use Rattle.lists.specs.Walk.{collect}
use Rattle.lists.proofs.Walk.{and_both}
use Rattle.numeric.specs.Refusal.{number_of}
use Rattle.numeric.specs.declared.refusal.Refusal.TheVariants.{FitFailed}
use Rattle.cholesky.specs.Factor.{Factored, Refused as NoFactor, Lower, factor_of}
use Rattle.clocks.specs.declared.clocks.Clocks.{Clocks}
use Rattle.normal_equations.specs.declared.row.Row.{Row}
use Rattle.robust.specs.Round.{RoundOutcome, Refused as Fails, Solved, solved, round_by, round_of}
use Rattle.numeric.specs.Rules.{Rule, ruled}
use Rattle.estimate_rounds.specs.Rules.{row_rules}
use Rattle.estimate_rounds.specs.Rounds.{End, Stopped, Reached, moved, short_step, reached_at, after_round, fit_from, concluded}
use Rattle.records.specs.City.{is_city}
use Rattle.records.specs.Screen.{kept_of}
use Rattle.records.specs.declared.pair.Pair.{Pair}
use Rattle.tdcp.specs.Valid.{epoch_rules, interval_rules, few_rules}
use Rattle.tdcp.specs.Front.{sight_rules, count_rules, city_rules, pair_rules}
use Rattle.tdcp.specs.Displacement.{Input, pairs, round_at, fit_over, fit_by, delta_at, end_rules, moved_by, displacement_of}
use Rattle.tdcp.specs.declared.displacement.Settings.{Settings}

-- ---- rounds fail by 10 alone

abbrev RoundFails : RoundOutcome → Type 0
RoundFails (Fails r) = r ≡ FitFailed
RoundFails (Solved r) = Unit {0}

abbrev EndFails : End → Type 0
EndFails (Stopped r) = r ≡ FitFailed
EndFails (Reached x) = Unit {0}

fit-fails : (round : List Float → RoundOutcome) → ((x : List Float) → RoundFails (round x)) → (n : ℕ) (limit : Float) (count : ℕ) (x : List Float) → EndFails (fit_from round n limit count x).end
unfolding fit_from
fit-fails round h n limit zero x = tt
fit-fails round h n limit (suc count) x = go (λ y. fit-fails round h n limit count y) (round x) (h x)
  where
    on : ((y : List Float) → EndFails (fit_from round n limit count y).end) → (y : List Float) (b : Bool) → EndFails (cond b (reached_at y) (fit_from round n limit count y)).end
    on ih y true = tt
    on ih y false = ih y

    go : ((y : List Float) → EndFails (fit_from round n limit count y).end) → (o : RoundOutcome) → RoundFails o → EndFails (after_round n limit x (fit_from round n limit count) o).end
    go ih (Fails r) e = e
    go ih (Solved r) e = on ih (moved n x r.step) (short_step limit r.step)

round-fails : (settings : Settings) (k : Clocks) (ps : List Pair) (x : List Float) → RoundFails (round_at settings k ps x)
unfolding round_at round_of round_by
round-fails settings k ps x = go _ _ _ (factor_of _)
  where
    go : (rows : List Row) (a : List (List Float)) (b : List Float) (f : Factored) → RoundFails (solved rows a b f)
    go rows a b NoFactor = refl
    go rows a b (Lower l) = tt

over-fails : (settings : Settings) (k : Clocks) (ps : List Pair) → EndFails (fit_over settings k ps).end
unfolding fit_over
over-fails settings k ps = fit-fails (round_at settings k ps) (round-fails settings k ps) _ _ _ _

-- ---- the rules

module _ (k : ℕ) (far : (k ≡ 1) ⊎ (k ≡ 20)) where
  -- a number that is neither 1 nor 20
  other : (n : ℕ) → eqb n 1 ≡ false → eqb n 20 ≡ false → n ≡ k → ⊥
  other n a b e = go far
    where
      go : (k ≡ 1) ⊎ (k ≡ 20) → ⊥
      go (inl h) = let q : eqb n 1 ≡ true = rw (e, h) in let z : ◌≡◌ {A = ℕ} 0 1 = cc in omega arith
      go (inr h) = let q : eqb n 20 ≡ true = rw (e, h) in let z : ◌≡◌ {A = ℕ} 0 1 = cc in omega arith

  -- no rule that applies has this number
  abbrev Avoids : List Rule → Type 0
  Avoids [] = Unit {0}
  Avoids (r ∷ rs) = (r.applies ≡ true → number_of r.refusal ≡ k → ⊥) × Avoids rs

  both_avoid : (rs ss : List Rule) → Avoids rs → Avoids ss → Avoids (rs ++ ss)
  both_avoid [] ss a b = b
  both_avoid (r ∷ rs) ss a b = (a.0, both_avoid rs ss a.1 b)

  ruled-avoids : (rs : List Rule) (d : Result Delta Refusal) → Avoids rs → (answer_number d ≡ k → ⊥) → answer_number (ruled Err rs d) ≡ k → ⊥
  unfolding ruled
  ruled-avoids [] d a h = h
  ruled-avoids (r ∷ rs) d a h = go r.applies a.0 (ruled-avoids rs d a.1 h)
    where
      go : (b : Bool) → (b ≡ true → number_of r.refusal ≡ k → ⊥) → (answer_number (ruled Err rs d) ≡ k → ⊥) → answer_number (cond b (Err r.refusal) (ruled Err rs d)) ≡ k → ⊥
      go true q ih = q refl
      go false q ih = ih

  sight-avoids : (ps : List Pair) → Avoids (sight_rules ps)
  unfolding sight_rules collect
  sight-avoids [] = tt
  sight-avoids (p ∷ ps) = ((λ a. other 15 refl refl), ((λ a. other 15 refl refl), sight-avoids ps))

  count-avoids : (settings : Settings) (ps : List Pair) → Avoids (count_rules settings ps)
  unfolding count_rules few_rules row_rules
  count-avoids settings ps = ((λ a. other 7 refl refl), ((λ a. other 8 refl refl), ((λ a. other 9 refl refl), tt)))

  city-avoids : (city : Bool) (ps : List Pair) → (city ≡ true → 20 ≡ k → ⊥) → Avoids (city_rules city ps)
  unfolding city_rules
  city-avoids city ps h = ((λ a. h (and_both city _ a).0), tt)

  end-avoids : (used screened : ℕ) (e : End) → EndFails e → answer_number (concluded Err end_rules (λ x. Ok (delta_at used screened x)) e) ≡ k → ⊥
  unfolding end_rules
  end-avoids used screened (Stopped r) e = λ q. other 10 refl refl (sym (ap number_of e) ∙ q)
  end-avoids used screened (Reached x) e = ruled-avoids (end_rules x) (Ok (delta_at used screened x)) ((λ a. other 10 refl refl), tt) (other 0 refl refl)

  moved-avoids : (city : Bool) (settings : Settings) (ps : List Pair) → (city ≡ true → 20 ≡ k → ⊥) → answer_number (moved_by city settings ps) ≡ k → ⊥
  unfolding moved_by pair_rules fit_by
  moved-avoids city settings ps h =
      ruled-avoids (pair_rules city settings ps) _
      (both_avoid (sight_rules ps) _ (sight-avoids ps) (both_avoid (count_rules settings ps) _ (count-avoids settings ps) (city-avoids city (kept_of settings.screen ps) h)))
      (end-avoids _ _ (fit_by settings ps).end (over-fails settings _ (kept_of settings.screen ps)))

  given-avoids : (i : Input) → Avoids (epoch_rules i.previous i.current i.receiver i.settings ++ interval_rules i.since)
  unfolding epoch_rules interval_rules
  given-avoids i = ((λ a. other 2 refl refl), ((λ a. other 3 refl refl), ((λ a. other 4 refl refl), ((λ a. other 13 refl refl), ((λ a. other 5 refl refl), tt)))))

  pub never : (i : Input) → (is_city i.profile ≡ true → 20 ≡ k → ⊥) → answer_number (displacement_of i) ≡ k → ⊥
  unfolding displacement_of
  never i h = ruled-avoids _ _ (given-avoids i) (moved-avoids (is_city i.profile) i.settings (pairs i) h)

-- no displacement is refused by 1
pub never-one : (i : Input) → answer_number (displacement_of i) ≡ 1 → ⊥
never-one i = never 1 (inl refl) i (λ a e. omega (arith, e))

-- none of the general profile is refused by 20
pub never_twenty : (i : Input) → is_city i.profile ≡ false → answer_number (displacement_of i) ≡ 20 → ⊥
never_twenty i g = never 20 (inr refl) i (λ a e. let z : ◌≡◌ {A = ℕ} 0 1 = cc in omega arith)
