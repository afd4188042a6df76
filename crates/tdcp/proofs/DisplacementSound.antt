-- What an accepted displacement has, DEMAND 3 over all of its rounds among it. Assumes nothing.
use Rattle.numeric.specs.Refusal.{answer_number}
use Rattle.std.specs.Prelude.{Result, Ok, Err}
use mathlib.Core.Path.{◌≡◌, refl, sym, ap, ◌∙◌, subst}
use mathlib.Core.Bool.{Bool, true}
use Prim.Native.Nat.{ℕ, ◌+◌, ◌-◌, ◌<◌}
use native.Mathlib.Omega.{arith}
use mathlib.Core.List.{List, ◌++◌, map}
use lib.Dec.{T}
use lib.ListN.{length}
use lib.Ieee.{Float}
use lib.Ieee.Scale.{finite}
use Rattle.lists.specs.Walk.{every}
use Rattle.cholesky.specs.Factor.{at, zeros}
use Rattle.numeric.specs.declared.refusal.Refusal.{Refusal}
use Rattle.robust.specs.Round.{Round, Solved, SoundRound, FiniteResiduals}
use Rattle.robust.proofs.RoundSound.{round-sound}
use Rattle.robust.proofs.ResidualsFinite.{round-residuals}
use Rattle.clocks.specs.Clocks.{clocks_of}
use Rattle.tdcp.specs.Front.{pair_rules}
use Rattle.tdcp.specs.Valid.{epoch_rules, interval_rules}
use Rattle.records.specs.City.{is_city}
use Rattle.records.specs.Screen.{kept_of, constellations}
use Rattle.clocks.specs.declared.clocks.Clocks.{Clocks}
use Rattle.records.specs.declared.pair.Pair.{Pair}
use Rattle.tdcp.specs.declared.displacement.Settings.{Settings}
use Rattle.estimate_rounds.specs.Rounds.{concluded}
use Rattle.median.specs.Sorted.{Each}
use Rattle.tdcp.specs.Displacement.{Input, row_at, round_at, stop_limit, fit_over, fit_by, pairs, kept_pairs, call_fit, rounds_of, delta_at, end_rules, moved_by, displacement_of, displacement_floats, displacement_counts, Accepted, Promised}
use Rattle.tdcp.specs.declared.displacement.Delta.{Delta}
use Rattle.estimate_rounds.proofs.RulesLaws.{checked, passed-of, passed-by, head_passed}
use Rattle.estimate_rounds.proofs.RoundsSound.{rounds-each, Finished, finished, Placed, placed, three-finite}
use Rattle.tdcp.proofs.FrontLaws.{kept-few, pairs-enough}

pub never : (d : Delta) (r : Refusal) → Err r ≡ Ok d → ⊥
never d r e = let z : ◌≡◌ {A = ℕ} 0 1 = cc in omega arith

one-sound : (settings : Settings) (k : Clocks) (ps : List Pair) (x : List Float) (r : Round) → round_at settings k ps x ≡ Solved r → T (finite (at r.step 0)) → SoundRound r
unfolding round_at
one-sound settings k ps x = round-sound (map (row_at settings k x) ps) (3 + k.count) settings.huber

one-finite : (settings : Settings) (k : Clocks) (ps : List Pair) (x : List Float) (r : Round) → round_at settings k ps x ≡ Solved r → T (finite (at r.step 0)) → FiniteResiduals r
unfolding round_at
one-finite settings k ps x = round-residuals (map (row_at settings k x) ps) (3 + k.count) settings.huber (omega arith)

-- what an accepted displacement of the pairs ps came from
module _ (city : Bool) (settings : Settings) (ps : List Pair) (d : Delta) (e : moved_by city settings ps ≡ Ok d) where
  abbrev used : ℕ
  used = length (kept_of settings.screen ps)

  abbrev answer : List Float → Result Delta Refusal
  answer x = Ok (delta_at used (length ps - used) x)

  abbrev fitted : Result Delta Refusal
  fitted = concluded Err end_rules answer (fit_by settings ps).end

  counted : (Ok tt) ≡ checked (pair_rules city settings ps)
  unfolding moved_by
  counted = passed-of Err fitted (pair_rules city settings ps) e (never d)

  ended : Finished end_rules answer (Ok d) (fit_by settings ps).end
  unfolding moved_by
  ended = finished Err end_rules answer (Ok d) (never d) (fit_by settings ps).end (sym (passed-by Err fitted (pair_rules city settings ps) counted) ∙ e)

  same : delta_at used (length ps - used) ended.x ≡ d
  same = let h = ended.answer-is in cc

  place : Placed ended.x
  unfolding end_rules
  place = placed ended.x (head_passed _ _ ended.passed).0

  -- what each of its rounds has
  module _ (P : Round → Type 0) (one : (k : Clocks) (qs : List Pair) (x : List Float) (r : Round) → round_at settings k qs x ≡ Solved r → T (finite (at r.step 0)) → P r) where
    moved-each : Each P (fit_by settings ps).rounds
    unfolding fit_by fit_over
    moved-each =
        let kept = kept_of settings.screen ps in
        let k = clocks_of (constellations kept) in
        rounds-each P (round_at settings k kept) (3 + k.count) stop_limit (omega arith) (one k kept) settings.rounds zeros ended.x ended.end_is place.first

-- all that a displacement has which its pairs and its rounds let pass, in the city profile or not
by-accepted : (city : Bool) (i : Input) (d : Delta) → moved_by city i.settings (pairs i) ≡ Ok d → Accepted i d
unfolding rounds_of call_fit
by-accepted city i d m =
    let s = i.settings in
    let ps = pairs i in
    let p = place city s ps d m in
    let is = same city s ps d m in
    let many = pairs-enough city s ps (counted city s ps d m) in
    record {
      x-finite = subst (λ (z : Delta). T (finite z.delta.x)) is p.first;
      y-finite = subst (λ (z : Delta). T (finite z.delta.y)) is p.second;
      z-finite = subst (λ (z : Delta). T (finite z.delta.z)) is p.third;
      pairs-counted = subst (λ (z : Delta). z.used + z.screened ≡ length (pairs i)) is (omega (arith, kept-few i.settings.screen (pairs i)));
      redundant = subst (λ (z : Delta). 3 + (clocks_of (constellations (kept_pairs i))).count < z.used) is (omega (arith, many.redundant));
      sound-rounds = moved-each city s ps d m SoundRound (one-sound s);
      finite-residuals = moved-each city s ps d m FiniteResiduals (one-finite s);
    }

-- and which 2 to 5 let pass before them
pub displacement-accepted : (i : Input) (d : Delta) → displacement_of i ≡ Ok d → Accepted i d
unfolding displacement_of
displacement-accepted i d e =
    let rules = epoch_rules i.previous i.current i.receiver i.settings ++ interval_rules i.since in
    let m = moved_by (is_city i.profile) i.settings (pairs i) in
    let moved = sym (passed-by Err m rules (passed-of Err m rules e (never d))) ∙ e in by-accepted (is_city i.profile) i d moved

-- what it gives out is finite
pub given-finite : (i : Input) (r : Result Delta Refusal) → ((d : Delta) → r ≡ Ok d → Accepted i d) → every finite (displacement_floats r) ≡ true
unfolding every
given-finite i (Err r) h = refl
given-finite i (Ok d) h = let a = h d refl in three-finite d.delta.x d.delta.y d.delta.z a.x-finite a.y-finite a.z-finite

-- the promise of every call follows from its answer
pub promised : (i : Input) (r : Result Delta Refusal) → r ≡ displacement_of i → Promised i r
promised i r e =
    let accepted : (d : Delta) → r ≡ Ok d → Accepted i d = λ d q. displacement-accepted i d (sym e ∙ q) in
    record {
      answer = e;
      number_is = ap answer_number e;
      floats-are = ap displacement_floats e;
      counts-are = ap displacement_counts e;
      given-finite = given-finite i r accepted;
      accepted = accepted;
    }
