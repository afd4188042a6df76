-- The displacement as the public call works it out: the rules on what is handed over, and what its pairs come to. Assumes nothing.
use Rattle.std.specs.Prelude.{Result, Ok, Err, ⊤}
use Rattle.tdcp.specs.declared.displacement.Delta.{Delta}
use mathlib.Core.Path.{◌≡◌, sym, ap, ap₂, ◌∙◌, subst}
use Prim.Native.Nat.{ℕ, ◌-◌, ◌≤◌}
use native.Mathlib.Omega.{arith}
use mathlib.Core.Bool.{Bool, true, false, not, cond, ◌&&◌, ◌||◌}
use mathlib.Core.List.{List, [], ◌∷◌, ◌++◌}
use lib.Dec.{ltb}
use lib.ListN.{length, take}
use lib.Seq.{length-take-le}
use lib.Ieee.{Float}
use Rattle.lists.proofs.Walk.{places-length}
use Rattle.numeric.specs.declared.refusal.Refusal.{Refusal}
use Rattle.numeric.specs.declared.refusal.Refusal.TheVariants.{TooMany, NotCertified}
use Rattle.lists.specs.Walk.{every}
use Rattle.numeric.specs.Vec3.{vector_in_range}
use Rattle.records.specs.Record.{counted_carriers, sound_carrier}
use Rattle.records.specs.City.{is_city, looked}
use Rattle.records.specs.Pair.{pairs_of, Paired}
use Rattle.clocks.specs.Clocks.{has, clocks_of}
use Rattle.records.specs.Screen.{kept_of, constellations}
use Rattle.records.specs.Kept.{Kept}
use Rattle.records.specs.Steps.{pair_in, pairs_in}
use Rattle.numeric.specs.Rules.{Rule, rule, ruled}
use Rattle.tdcp.specs.Valid.{dt_of, epoch_rules, few_rules}
use Rattle.tdcp.specs.Front.{sight_rules, count_rules, city_rules, pair_rules}
use Rattle.estimate_rounds.specs.Rounds.{End, Stopped, Reached, Fit, concluded, state_after}
use Rattle.estimate_rounds.specs.Steps.{Ended}
use Rattle.tdcp.specs.Displacement.{Input, fit_over, fit_by, call_fit, pairs, delta_at, end_rules, moved_by, displacement_of}
use Rattle.tdcp.specs.Rated.{quality_at, quality, answered_by, answered_of}
use Rattle.tdcp.specs.Steps.{moved_over, quality_over, quality_by, given_rules, concluded_at}
use Rattle.tdcp.proofs.RatedLaws.{refused_as, quality-rows}
use Rattle.cholesky.specs.Factor.{zeros}
use Rattle.clocks.specs.declared.clocks.Clocks.{Clocks}
use Rattle.records.specs.declared.pair.Pair.{Pair}
use Rattle.records.specs.declared.pair.Pairs.{Pairs}
use Rattle.tdcp.specs.declared.displacement.Settings.{Settings}
use Rattle.numeric.proofs.RulesLaws.{ruled-append, ruled-map}
use Rattle.estimate_rounds.proofs.RulesLaws.{checked, append-first, refused-by, passed-by}
use Rattle.tdcp.proofs.DisplacementLaws.{fit_same, rows_same}
use Rattle.tdcp.proofs.FrontLaws.{counts-passed, kept-few}
use Rattle.tdcp.proofs.FilterLaws.{looked-alone}

-- what a fit comes to, by its end and what the code has of it
ended-refused : {A : Type 0} (f : Refusal → A) (rules : List Float → List Rule) (answer : List Float → A) (e : End) {r : Refusal} {x y : List Float} → Ended e (Err r) x y → f r ≡ concluded f rules answer e
ended-refused f rules answer (Stopped q) {r} h = let w = h.answer-is in let same : r ≡ q = cc in ap f same
ended-refused f rules answer (Reached z) h = absurd (let q = h.answer-is in let z : ◌≡◌ {A = ℕ} 0 1 = cc in omega arith)

ended-reached : {A : Type 0} (f : Refusal → A) (rules : List Float → List Rule) (answer : List Float → A) (e : End) {x y : List Float} → Ended e (Ok tt) x y → ruled f (rules y) (answer y) ≡ concluded f rules answer e
ended-reached f rules answer (Stopped r) h = absurd (let q = h.answer-is in let z : ◌≡◌ {A = ℕ} 0 1 = cc in omega arith)
ended-reached f rules answer (Reached z) h = ap (λ (w : List Float). ruled f (rules w) (answer w)) h.state-is

-- what the rounds over the pairs ps come to, by the code's check of them
module _ (settings : Settings) (k : Clocks) (ps : List Pair) (screened : ℕ) {c : Result ⊤ Refusal} {a b : List Float} (h : Ended (fit_over settings k ps).end c a b) where
  abbrev at-end : List Float → Result Delta Refusal
  at-end x = Ok (delta_at (length ps) screened x)

  pub over-refused : {r : Refusal} → c ≡ Err r → Err r ≡ moved_over settings k ps screened
  over-refused e = ended-refused Err end_rules at-end (fit_over settings k ps).end (subst (λ (d : Result ⊤ Refusal). Ended (fit_over settings k ps).end d a b) e h)

  pub over-reached : c ≡ (Ok tt) → {used : ℕ} → used ≡ length ps → {r : Result Delta Refusal} → r ≡ concluded_at used screened b → r ≡ moved_over settings k ps screened
  over-reached e many {r} is = is ∙ ap (λ (u : ℕ). concluded_at u screened b) many ∙ ended-reached Err end_rules at-end (fit_over settings k ps).end (subst (λ (d : Result ⊤ Refusal). Ended (fit_over settings k ps).end d a b) e h)

pub refused-sights : (city : Bool) (settings : Settings) (ps : List Pair) {r : Refusal} → Err r ≡ checked (sight_rules ps) → Err r ≡ moved_by city settings ps
unfolding moved_by pair_rules
refused-sights city settings ps e = refused-by Err _ (sight_rules ps) e ∙ sym (ruled-append Err _ (sight_rules ps) _)

-- ---- what n pairs ps come to that 15 lets pass: what the code has once it has screened
module _ (city : Bool) (settings : Settings) (ps : List Pair) (n : ℕ) (all : n ≡ length ps) (seen : (Ok tt) ≡ checked (sight_rules ps)) (k : Clocks) {used : ℕ} {x y z : List Float} {constellation : List ℕ} {elevation observed : List Float}
    (h : Kept (kept_of settings.screen ps) used x y z constellation elevation observed) (clocks : k ≡ clocks_of (take used constellation)) {uncertified : Bool}
    (twenty : uncertified ≡ (city && not (has (take used constellation) 1 && has (take used constellation) 6))) where
  abbrev kept : List Pair
  kept = kept_of settings.screen ps

  clocks-are : k ≡ clocks_of (constellations kept)
  clocks-are = clocks ∙ ap clocks_of h.constellations

  slots : k.count ≡ (clocks_of (constellations kept)).count
  slots = ap (λ (c : Clocks). c.count) clocks-are

  pub no_more : used ≤ n
  no_more = omega (arith, h.count, kept-few settings.screen ps)

  abbrev counts : List Rule
  counts = few_rules n used k.count ++ (rule NotCertified uncertified ∷ [])

  counts-are : counts ≡ count_rules settings ps ++ city_rules city kept
  unfolding count_rules city_rules
  counts-are = rw (twenty, h.constellations, all, h.count, slots)

  abbrev answer : List Float → Result Delta Refusal
  answer x = Ok (delta_at (length kept) (length ps - length kept) x)

  tested : ruled Err counts (concluded Err end_rules answer (fit_by settings ps).end) ≡ moved_by city settings ps
  unfolding moved_by pair_rules
  tested =
      ap (λ (rs : List Rule). ruled Err rs (concluded Err end_rules answer (fit_by settings ps).end)) counts-are
      ∙ sym (ruled-append Err _ (sight_rules ps) _ ∙ passed-by Err _ (sight_rules ps) seen)

  pub refused-counts : {r : Refusal} → Err r ≡ checked counts → Err r ≡ moved_by city settings ps
  refused-counts e = refused-by Err _ counts e ∙ tested

  -- rules 7 to 9 leave a fit of at most nine unknowns
  module _ (enough : (Ok tt) ≡ checked counts) where
    pub few-clocks : k.count ≤ 6
    few-clocks = (counts-passed _ _ _ (append-first (few_rules n used k.count) _ enough)).1.few-slots

    fit_is : fit_over settings k (pairs_in x y z constellation elevation (take used observed)) ≡ fit_by settings ps
    unfolding fit_by
    fit_is = fit_same settings k h ∙ ap (λ (c : Clocks). fit_over settings c kept) clocks-are

    answered : concluded Err end_rules answer (fit_by settings ps).end ≡ moved_by city settings ps
    answered = sym (passed-by Err _ counts enough) ∙ tested

    pub over : {r : Result Delta Refusal} → r ≡ moved_over settings k (pairs_in x y z constellation elevation (take used observed)) (n - used) → r ≡ moved_by city settings ps
    over e =
        let many = places-length (pair_in x y z constellation elevation (take used observed)) (length (take used observed)) ∙ length-take-le used observed (omega (arith, h.room, h.observed-long)) ∙ h.count in
        e ∙ ap₂ (λ (u s : ℕ). concluded Err end_rules (λ x. Ok (delta_at u s x)) (fit_over settings k (pairs_in x y z constellation elevation (take used observed))).end) many (ap₂ ◌-◌ all h.count)
        ∙ ap (λ (f : Fit). concluded Err end_rules answer f.end) fit_is ∙ answered

    -- and the quality of the fit is that of the kept pairs
    pub quality-over : quality_over settings k (pairs_in x y z constellation elevation (take used observed)) ≡ quality_by settings ps
    quality-over =
        quality-rows settings k (pairs_in x y z constellation elevation (take used observed)) kept _ (rows_same settings k h _)
        ∙ ap₂ (λ (c : Clocks) (f : Fit). quality_at settings c kept (state_after f.end zeros)) clocks-are fit_is

-- ---- the call

-- a refusal, or else m
abbrev moved_since : Result Delta Refusal → Result Float Refusal → Result Delta Refusal
moved_since m (Err r) = Err r
moved_since m (Ok dt) = m

-- the seconds are those of the interval
pub since-is : (rs : List Rule) {dt x : Float} → Ok dt ≡ ruled Err rs (Ok x) → dt ≡ x
unfolding ruled
since-is [] e = cc
since-is (r ∷ rs) {dt} {x} e = go r.applies e (since-is rs)
  where
    go : (b : Bool) → Ok dt ≡ cond b (Err r.refusal) (ruled Err rs (Ok x)) → (Ok dt ≡ ruled Err rs (Ok x) → dt ≡ x) → dt ≡ x
    go true q h = absurd (let z : ◌≡◌ {A = ℕ} 0 1 = cc in omega arith)
    go false q h = h q

-- the code's pairs are those of the call
pub paired : (i : Input) {all : Pairs} {dt : Float} → dt ≡ dt_of i.since
    → Paired all (pairs_of i.receiver i.settings.mask dt (counted_carriers i.previous) (looked i.profile (counted_carriers i.current))) → take all.count all.pair ≡ pairs i
paired i {dt = dt} e h =
    let p = counted_carriers i.previous in
    let c = counted_carriers i.current in
    h.held.all
    ∙ looked-alone i.profile i.receiver i.settings.mask dt p c
    ∙ ap (λ (x : Float). pairs_of i.receiver i.settings.mask x (looked i.profile p) (looked i.profile c)) e

-- and so is their answer
pub answered-pairs : (i : Input) (wanted : Bool) {ps : List Pair} → ps ≡ pairs i → moved_by (is_city i.profile) i.settings (pairs i) ≡ displacement_of i
    → answered_by wanted (quality_by i.settings ps) (moved_by (is_city i.profile) i.settings ps) ≡ answered_of wanted i
unfolding answered_of quality call_fit
answered-pairs i wanted e m =
    ap (λ (ps : List Pair). answered_by wanted (quality_by i.settings ps) (moved_by (is_city i.profile) i.settings ps)) e
    ∙ ap (answered_by wanted (quality_by i.settings (pairs i))) m

pub answered-refused : (i : Input) (wanted : Bool) {r : Refusal} → Err r ≡ displacement_of i → Err r ≡ answered_of wanted i
unfolding answered_of
answered-refused i wanted e = refused_as wanted (quality i) e

module _ (i : Input) where
  pub too_many : (ltb 64 i.previous.count || ltb 64 i.current.count) ≡ true → Err TooMany ≡ displacement_of i
  unfolding displacement_of epoch_rules ruled
  too_many e = rw e

  -- where 2 does not apply the rules are those on what is given
  module _ (few : ltb 64 i.previous.count ≡ false) (few' : ltb 64 i.current.count ≡ false) {sound : Bool}
      (is : sound ≡ (every sound_carrier (counted_carriers i.previous) && every sound_carrier (counted_carriers i.current) && vector_in_range i.receiver)) where
    abbrev rules : List Rule
    rules = given_rules i.settings sound i.since

    abbrev moved : Result Delta Refusal
    moved = moved_by (is_city i.profile) i.settings (pairs i)

    given_is : ruled Err rules moved ≡ displacement_of i
    unfolding displacement_of epoch_rules given_rules ruled
    given_is = rw (is, few, few')

    pub answer-since : {s : Result Float Refusal} → s ≡ ruled Err rules (Ok (dt_of i.since)) → moved_since moved s ≡ displacement_of i
    answer-since e = ap (moved_since moved) e ∙ ruled-map (moved_since moved) Err (Ok (dt_of i.since)) rules ∙ given_is

    pub refused-given : {r : Refusal} → Err r ≡ ruled Err rules (Ok (dt_of i.since)) → Err r ≡ displacement_of i
    refused-given e = answer-since e

    pub passed-given : {dt : Float} → Ok dt ≡ ruled Err rules (Ok (dt_of i.since)) → moved ≡ displacement_of i
    passed-given e = answer-since e
