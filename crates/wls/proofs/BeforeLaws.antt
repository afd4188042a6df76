-- THE LAW of request (v) for a fix: it is refused by 15, or it is the one from before the request; and where no range met is zero or not finite it is that one. Assumes nothing.
use Rattle.std.specs.Prelude.{Result, Ok, Err, ⊤}
use Rattle.wls.specs.declared.fix.Solution.{Solution}
use mathlib.Core.Logic.{◌⊎◌, inl, inr}
use mathlib.Core.Path.{◌≡◌, refl, sym, ap, ◌∙◌}
use mathlib.Core.Bool.{Bool, true, false, not, cond, ◌&&◌}
use mathlib.Core.List.{List, [], ◌∷◌}
use Prim.Native.Nat.{ℕ, zero, suc, ◌+◌}
use native.Mathlib.Omega.{arith}
use lib.Ieee.{Float}
use lib.Ieee.Scale.{finite}
use Rattle.lists.specs.Walk.{every}
use Rattle.lists.proofs.Walk.{and_both}
use Rattle.cholesky.specs.Factor.{factor_of}
use Rattle.cholesky.specs.Answer as factor
use Rattle.numeric.specs.Sight.{on_receiver}
use Rattle.numeric.specs.declared.vec3.Vec3.{Vec3}
use Rattle.numeric.specs.declared.refusal.Refusal.{Refusal}
use Rattle.numeric.specs.declared.refusal.Refusal.TheVariants.{FitFailed, QualityNotFinite, OnReceiver}
use Rattle.robust.specs.Round.{Round, RoundOutcome, Refused as NoRound, Solved}
use Rattle.normal_equations.specs.declared.row.Row.{Row}
use Rattle.clocks.specs.declared.clocks.Clocks.{Clocks}
use Rattle.records.specs.declared.record.Observation.{Observation}
use Rattle.numeric.specs.Rules.{Rule, rule, ruled}
use Rattle.estimate_rounds.specs.Rounds.{End, Stopped, Reached, Fit, moved, short_step, reached_at, begun, after_round, fit_from, last_rows, finite_at, concluded}
use Rattle.numeric.proofs.RulesLaws.{ruled-append}
use Rattle.estimate_rounds.proofs.RulesLaws.{checked, refused-by, passed-by}
use Rattle.wls.specs.Front.{fix_rules}
use Rattle.wls.specs.Fix.{Input, sight_at, sight_rules, round_at, fix_stop, start, fit_over, kept_observations, clocks, chi_at, quality_rules, end_rules, found_over, fix_of}
use Rattle.quality.specs.Quality.{unweighted_matrix, dilution_of}
use Rattle.wls.specs.Before.{bare, fit_before, rules_before, solution_before, found_before, fix_before, seen_at}
use Rattle.wls.specs.declared.fix.Settings.{Settings}

-- the states that rounds of n unknowns begin at, from x on, and the one that they leave
pub met : ℕ → List Float → List Round → List (List Float)
met n x [] = x ∷ []
met n x (r ∷ rs) = x ∷ met n (moved n x r.step) rs

module _ {A : Type 0} (f : Refusal → A) (a : A) where
  pub sights-are : (os : List Observation) (x : List Float) → ruled f (sight_rules os x) a ≡ cond (seen_at os x) a (f OnReceiver)
  unfolding sight_rules every ruled
  sights-are [] x = refl
  sights-are (o ∷ os) x = go (on_receiver (sight_at x o).range) (sights-are os x)
    where
      go : (b : Bool) → ruled f (sight_rules os x) a ≡ cond (seen_at os x) a (f OnReceiver) → cond b (f OnReceiver) (ruled f (sight_rules os x) a) ≡ cond (not b && seen_at os x) a (f OnReceiver)
      go true e = refl
      go false e = e

-- ---- the rounds
module _ (settings : Settings) (k : Clocks) (os : List Observation) where
  abbrev n : ℕ
  n = 3 + k.count

  abbrev now : ℕ → List Float → Fit
  now count x = fit_from (round_at settings k os) n fix_stop count x

  abbrev old : ℕ → List Float → Fit
  old count x = fit_from (bare settings k os) n fix_stop count x

  pub round_is : (x : List Float) → round_at settings k os x ≡ cond (seen_at os x) (bare settings k os x) (NoRound OnReceiver)
  unfolding round_at
  round_is x = sights-are NoRound (bare settings k os x) os x

  pub round-seen : (x : List Float) → seen_at os x ≡ true → round_at settings k os x ≡ bare settings k os x
  round-seen x e = round_is x ∙ ap (λ (b : Bool). cond b (bare settings k os x) (NoRound OnReceiver)) e

  pub round_not : (x : List Float) → seen_at os x ≡ false → round_at settings k os x ≡ NoRound OnReceiver
  round_not x e = round_is x ∙ ap (λ (b : Bool). cond b (bare settings k os x) (NoRound OnReceiver)) e

  -- 15, or the rounds from before
  abbrev Either : Fit → Fit → Type 0
  Either f g = (f.end ≡ Stopped OnReceiver) ⊎ (f ≡ g)

  begun-either : (r : Round) (f g : Fit) → Either f g → Either (begun r f) (begun r g)
  begun-either r f g (inl e) = inl e
  begun-either r f g (inr e) = inr (ap (begun r) e)

  after-either : (x : List Float) (next before : List Float → Fit) → ((y : List Float) → Either (next y) (before y)) → (o : RoundOutcome) → Either (after_round n fix_stop x next o) (after_round n fix_stop x before o)
  after-either x next before h (NoRound r) = inr refl
  after-either x next before h (Solved r) = begun-either r _ _ (pick (short_step fix_stop r.step))
    where
      pick : (b : Bool) → Either (cond b (reached_at (moved n x r.step)) (next (moved n x r.step))) (cond b (reached_at (moved n x r.step)) (before (moved n x r.step)))
      pick true = inr refl
      pick false = h (moved n x r.step)

  fit-either : (count : ℕ) (x : List Float) → Either (now count x) (old count x)
  unfolding fit_from
  fit-either zero x = inr refl
  fit-either (suc count) x = go (seen_at os x) refl (fit-either count)
    where
      go : (b : Bool) → seen_at os x ≡ b → ((y : List Float) → Either (now count y) (old count y)) → Either (after_round n fix_stop x (now count) (round_at settings k os x)) (after_round n fix_stop x (old count) (bare settings k os x))
      go true e h = rw (round-seen x e) (after-either x (now count) (old count) h (bare settings k os x))
      go false e h = inl (rw (round_not x e))

  -- no range met in them, nor at the state that they leave
  abbrev Clear : List Float → Fit → Type 0
  Clear x f = every (seen_at os) (met n x f.rounds) ≡ true

  clear-head : (x : List Float) (rs : List Round) → every (seen_at os) (met n x rs) ≡ true → seen_at os x ≡ true
  unfolding every met
  clear-head x [] e = (and_both (seen_at os x) _ e).0
  clear-head x (r ∷ rs) e = (and_both (seen_at os x) _ e).0

  clear-tail : (x : List Float) (r : Round) (rs : List Round) → every (seen_at os) (met n x (r ∷ rs)) ≡ true → every (seen_at os) (met n (moved n x r.step) rs) ≡ true
  unfolding every met
  clear-tail x r rs e = (and_both (seen_at os x) _ e).1

  after_same : (x : List Float) (next before : List Float → Fit) → ((y : List Float) → Clear y (before y) → next y ≡ before y) → (o : RoundOutcome) → Clear x (after_round n fix_stop x before o) → after_round n fix_stop x next o ≡ after_round n fix_stop x before o
  after_same x next before h (NoRound r) e = refl
  after_same x next before h (Solved r) e = pick (short_step fix_stop r.step) (clear-tail x r _ e)
    where
      y : List Float
      y = moved n x r.step

      pick : (b : Bool) → every (seen_at os) (met n (moved n x r.step) (cond b (reached_at (moved n x r.step)) (before (moved n x r.step))).rounds) ≡ true
          → begun r (cond b (reached_at (moved n x r.step)) (next (moved n x r.step))) ≡ begun r (cond b (reached_at (moved n x r.step)) (before (moved n x r.step)))
      pick true q = refl
      pick false q = ap (begun r) (h (moved n x r.step) q)

  fit_same : (count : ℕ) (x : List Float) → Clear x (old count x) → now count x ≡ old count x
  unfolding fit_from
  fit_same zero x e = refl
  fit_same (suc count) x e =
      ap (after_round n fix_stop x (now count)) (round-seen x (clear-head x _ e))
      ∙ after_same x (now count) (old count) (fit_same count) (bare settings k os x) e

  after-left : (x y : List Float) (before : List Float → Fit) → ((z : List Float) → Clear z (before z) → (before z).end ≡ Reached y → seen_at os y ≡ true) → (o : RoundOutcome) → Clear x (after_round n fix_stop x before o) → (after_round n fix_stop x before o).end ≡ Reached y → seen_at os y ≡ true
  after-left x y before h (NoRound r) e q = absurd (let z : ◌≡◌ {A = ℕ} 0 1 = cc in omega arith)
  after-left x y before h (Solved r) e q = pick (short_step fix_stop r.step) (clear-tail x r _ e) q
    where
      pick : (b : Bool) → every (seen_at os) (met n (moved n x r.step) (cond b (reached_at (moved n x r.step)) (before (moved n x r.step))).rounds) ≡ true
          → (cond b (reached_at (moved n x r.step)) (before (moved n x r.step))).end ≡ Reached y → seen_at os y ≡ true
      pick true c q = let e : moved n x r.step ≡ y = cc in rw e at (clear-head (moved n x r.step) [] c)
      pick false c q = h (moved n x r.step) c q

  left-seen : (count : ℕ) (x y : List Float) → Clear x (old count x) → (old count x).end ≡ Reached y → seen_at os y ≡ true
  unfolding fit_from
  left-seen zero x y e q = let same : x ≡ y = cc in rw same at (clear-head x [] e)
  left-seen (suc count) x y e q = after-left x y (old count) (λ z. left-seen count z y) (bare settings k os x) e q

  -- ---- the answer
  module _ (guess : Vec3) where
    abbrev f : Fit
    f = fit_before settings k os guess

    abbrev rows : List Row
    rows = last_rows [] f.rounds

    abbrev rules_now : List Float → List Rule
    rules_now x = end_rules n rows (sight_rules os x) (chi_at settings k os x) x

    -- at a state that the rounds reach: 10, and then 15 or what was before
    end_is : (x : List Float) → ruled Err (rules_now x) (solution_before settings k os rows x)
        ≡ cond (not (finite_at x)) (Err FitFailed) (cond (not (factor.accepted (factor_of (unweighted_matrix n rows)))) (Err FitFailed)
        (cond (seen_at os x) (ruled Err (rule QualityNotFinite (not (finite (chi_at settings k os x) && finite (dilution_of n rows))) ∷ []) (solution_before settings k os rows x)) (Err OnReceiver)))
    unfolding end_rules quality_rules ruled
    end_is x =
        ap (λ (a : Result Solution Refusal). cond (not (finite_at x)) (Err FitFailed) (cond (not (factor.accepted (factor_of (unweighted_matrix n rows)))) (Err FitFailed) a))
        (ruled-append Err _ (sight_rules os x) _ ∙ sights-are Err _ os x)

    end-either : (e : End) → let was = concluded Err (rules_before settings k os rows) (solution_before settings k os rows) e in let is = concluded Err rules_now (solution_before settings k os rows) e in (is ≡ Err OnReceiver) ⊎ (is ≡ was)
    unfolding ruled
    end-either (Stopped r) = inr refl
    end-either (Reached x) = go (not (finite_at x)) (not (factor.accepted (factor_of (unweighted_matrix n rows)))) (seen_at os x) _ _ (end_is x)
      where
        go : (a b c : Bool) (is quality : Result Solution Refusal) → is ≡ cond a (Err FitFailed) (cond b (Err FitFailed) (cond c quality (Err OnReceiver)))
            → (is ≡ Err OnReceiver) ⊎ (is ≡ cond a (Err FitFailed) (cond b (Err FitFailed) quality))
        go true b c is quality e = inr e
        go false true c is quality e = inr e
        go false false true is quality e = inr e
        go false false false is quality e = inl e

    end_same : (e : End) → ((x : List Float) → e ≡ Reached x → seen_at os x ≡ true) → concluded Err rules_now (solution_before settings k os rows) e ≡ concluded Err (rules_before settings k os rows) (solution_before settings k os rows) e
    unfolding ruled
    end_same (Stopped r) h = refl
    end_same (Reached x) h = end_is x ∙ (rw (h x refl))

    found-either : (found_over settings k os guess ≡ Err OnReceiver) ⊎ (found_over settings k os guess ≡ found_before settings k os guess)
    unfolding found_over fit_over
    found-either = go (fit-either settings.rounds (start guess))
      where
        go : Either (now settings.rounds (start guess)) f → (found_over settings k os guess ≡ Err OnReceiver) ⊎ (found_over settings k os guess ≡ found_before settings k os guess)
        go (inl e) = inl (rw e)
        go (inr e) = rw e (end-either f.end)

    found-same : Clear (start guess) f → found_over settings k os guess ≡ found_before settings k os guess
    unfolding found_over fit_over
    found-same e = rw (fit_same settings.rounds (start guess) e) (end_same f.end (λ x q. left-seen settings.rounds (start guess) x e q))

-- ---- the call

-- no range that the fit meets is zero or not finite: of the rows at the start of each round, and at the state that the rounds leave
pub Seen : Input → Type 0
Seen i = Clear i.settings (clocks i) (kept_observations i) (start i.guess) (fit_before i.settings (clocks i) (kept_observations i) i.guess)

pub as_before : (i : Input) → Seen i → fix_of i ≡ fix_before i
unfolding fix_of Seen
as_before i e = ap (ruled Err (fix_rules i.observations i.guess i.settings)) (found-same i.settings (clocks i) (kept_observations i) i.guess e)

pub fifteen-or-before : (i : Input) → (fix_of i ≡ Err OnReceiver) ⊎ (fix_of i ≡ fix_before i)
unfolding fix_of
fifteen-or-before i = go (checked rules) refl (found-either i.settings (clocks i) (kept_observations i) i.guess)
  where
    rules : List Rule
    rules = fix_rules i.observations i.guess i.settings

    go : (v : Result ⊤ Refusal) → checked (fix_rules i.observations i.guess i.settings) ≡ v
        → (found_over i.settings (clocks i) (kept_observations i) i.guess ≡ Err OnReceiver) ⊎ (found_over i.settings (clocks i) (kept_observations i) i.guess ≡ found_before i.settings (clocks i) (kept_observations i) i.guess)
        → (fix_of i ≡ Err OnReceiver) ⊎ (fix_of i ≡ fix_before i)
    go (Err r) e h = inr (sym (refused-by Err _ _ (sym e)) ∙ refused-by Err _ _ (sym e))
    go (Ok tt) e (inl h) = inl (passed-by Err _ _ (sym e) ∙ h)
    go (Ok tt) e (inr h) = inr (ap (ruled Err (fix_rules i.observations i.guess i.settings)) h)
