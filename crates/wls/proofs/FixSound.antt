-- What an accepted fix has, DEMAND 3 over all of its rounds among it. Assumes nothing.
use Rattle.numeric.specs.Refusal.{answer_number}
use Rattle.std.specs.Prelude.{Result, Ok, Err}
use Rattle.numeric.specs.declared.vec3.Vec3.{Vec3}
use mathlib.Core.Path.{◌≡◌, refl, sym, ap, ◌∙◌, subst}
use mathlib.Core.Bool.{true, ◌&&◌}
use Prim.Native.Nat.{ℕ, ◌+◌}
use native.Mathlib.Omega.{arith}
use mathlib.Core.List.{List, [], map}
use lib.Dec.{T}
use lib.ListN.{length, length-map}
use lib.Ieee.{Float}
use lib.Ieee.Scale.{finite}
use lib.Ieee.Bits.{is_true}
use lib.Ieee.Fits.{and_l, and_r}
use borrow.Author.Tests.{not-false}
use Rattle.numeric.specs.Rules.{Rule}
use Rattle.lists.specs.Walk.{every}
use Rattle.cholesky.specs.Factor.{at}
use Rattle.normal_equations.specs.declared.row.Row.{Row}
use Rattle.numeric.specs.declared.refusal.Refusal.{Refusal}
use Rattle.robust.specs.Round.{Round, Solved, SoundRound, FiniteResiduals}
use Rattle.robust.proofs.RoundSound.{round-sound, round-rows}
use Rattle.robust.proofs.ResidualsFinite.{round-residuals}
use Rattle.wls.specs.Front.{fix_rules}
use Rattle.clocks.specs.declared.clocks.Clocks.{Clocks}
use Rattle.records.specs.declared.record.Observation.{Observation}
use Rattle.wls.specs.declared.fix.Settings.{Settings}
use Rattle.estimate_rounds.specs.Rounds.{last_rows}
use Rattle.median.specs.Sorted.{Each}
use Rattle.quality.specs.Quality.{dilution_of}
use Rattle.wls.specs.Fix.{Input, row_at, round_at, fix_stop, start, fit_over, kept_observations, clocks, fit_of, rounds_of, sight_rules, chi_at, quality_rules, end_rules, solution_at, found_over, fix_of, position_of, fix_floats, position_floats, Accepted, Promised, PositionPromised, fix_counts}
use Rattle.wls.specs.declared.fix.Solution.{Solution}
use Rattle.estimate_rounds.proofs.RulesLaws.{passed-of, passed-by, head_passed, append-passed}
use Rattle.wls.proofs.SightLaws.{round-solved}
use Rattle.estimate_rounds.proofs.RoundsSound.{rounds-each, rows_long, Finished, finished, Placed, placed, three-finite}
use Rattle.wls.proofs.FrontLaws.{fix-enough, fix-rounds}

never : (s : Solution) (r : Refusal) → Err r ≡ Ok s → ⊥
never s r e = let z : ◌≡◌ {A = ℕ} 0 1 = cc in omega arith

one-sound : (settings : Settings) (k : Clocks) (os : List Observation) (x : List Float) (r : Round) → round_at settings k os x ≡ Solved r → T (finite (at r.step 0)) → SoundRound r
one-sound settings k os x r e = round-sound (map (row_at settings k x) os) (3 + k.count) settings.huber r (round-solved settings k os x r e)

one-finite : (settings : Settings) (k : Clocks) (os : List Observation) (x : List Float) (r : Round) → round_at settings k os x ≡ Solved r → T (finite (at r.step 0)) → FiniteResiduals r
one-finite settings k os x r e = round-residuals (map (row_at settings k x) os) (3 + k.count) settings.huber (omega arith) r (round-solved settings k os x r e)

-- what an accepted fix came from
abbrev unknowns : Input → ℕ
unknowns i = 3 + (clocks i).count

abbrev rows : Input → List Row
rows i = last_rows [] (rounds_of i)

abbrev fitted : Input → Result Solution Refusal
fitted i = found_over i.settings (clocks i) (kept_observations i) i.guess

-- the rules at the state that its rounds reach, and the answer there
abbrev rules_at : Input → List Float → List Rule
rules_at i x = end_rules (unknowns i) (rows i) (sight_rules (kept_observations i) x) (chi_at i.settings (clocks i) (kept_observations i) x) x

abbrev answer_at : Input → List Float → Result Solution Refusal
answer_at i x = Ok (solution_at (unknowns i) (rows i) (chi_at i.settings (clocks i) (kept_observations i) x) x)

pub ended : (i : Input) (s : Solution) → fix_of i ≡ Ok s → Finished (rules_at i) (answer_at i) (Ok s) (fit_of i).end
unfolding fix_of found_over rounds_of fit_of
ended i s e =
    let rules = fix_rules i.observations i.guess i.settings in
    finished Err (rules_at i) (answer_at i) (Ok s) (never s) (fit_of i).end
    (sym (passed-by Err (fitted i) rules (passed-of Err (fitted i) rules e (never s))) ∙ e)

place : (i : Input) (s : Solution) (e : fix_of i ≡ Ok s) → Placed (ended i s e).x
unfolding end_rules
place i s e = placed (ended i s e).x (head_passed _ _ (ended i s e).passed).0

-- its figures are finite
record Figured (i : Input) (x : List Float) : Type 0 where
  chi : T (finite (chi_at i.settings (clocks i) (kept_observations i) x))
  pdop : T (finite (dilution_of (unknowns i) (rows i)))

figured : (i : Input) (s : Solution) (e : fix_of i ≡ Ok s) → Figured i (ended i s e).x
unfolding end_rules quality_rules
figured i s e =
    let x = (ended i s e).x in
    let c = finite (chi_at i.settings (clocks i) (kept_observations i) x) in
    let d = finite (dilution_of (unknowns i) (rows i)) in
    let last = (head_passed _ _ (append-passed (sight_rules (kept_observations i) x) _ (head_passed _ _ (head_passed _ _ (ended i s e).passed).1).1)).0 in
    let both : T (c && d) = subst T (sym (not-false (c && d) last)) tt in
    record { chi = and_l c d both; pdop = and_r c d both }

-- what each of its rounds has
fix-each : (P : Round → Type 0) → ((settings : Settings) (k : Clocks) (os : List Observation) (x : List Float) (r : Round) → round_at settings k os x ≡ Solved r → T (finite (at r.step 0)) → P r)
    → (i : Input) (s : Solution) → fix_of i ≡ Ok s → Each P (rounds_of i)
unfolding rounds_of fit_of fit_over
fix-each P one i s e =
    rounds-each P (round_at i.settings (clocks i) (kept_observations i)) (unknowns i) fix_stop (omega arith) (one i.settings (clocks i) (kept_observations i)) i.settings.rounds (start i.guess) (ended i s e).x (ended i s e).end_is (place i s e).first

one-long : (settings : Settings) (k : Clocks) (os : List Observation) (x : List Float) (r : Round) → round_at settings k os x ≡ Solved r → length r.rows ≡ length os
one-long settings k os x r e = ap length (round-rows (map (row_at settings k x) os) (3 + k.count) settings.huber r (round-solved settings k os x r e)) ∙ length-map os (row_at settings k x)

used-rows : (i : Input) (s : Solution) → fix_of i ≡ Ok s → length (rows i) ≡ length (kept_observations i)
unfolding rounds_of fit_of fit_over fix_of
used-rows i s e =
    rows_long (round_at i.settings (clocks i) (kept_observations i)) (unknowns i) fix_stop (length (kept_observations i)) (one-long i.settings (clocks i) (kept_observations i)) i.settings.rounds
    (fix-rounds Err (fitted i) i.observations i.guess i.settings e (never s))
    (start i.guess) (ended i s e).x (ended i s e).end_is

-- all that an accepted fix has
pub fix-accepted : (i : Input) (s : Solution) → fix_of i ≡ Ok s → Accepted i s
unfolding fix_of
fix-accepted i s e =
    let p = place i s e in
    let g = figured i s e in
    let is = solved (ended i s e).answer-is in
    let many = fix-enough Err (fitted i) i.observations i.guess i.settings e (never s) in
    let used : s.used ≡ length (kept_observations i) = ap (λ (z : Solution). z.used) (sym is) ∙ used-rows i s e in
    record {
      x-finite = subst (λ (z : Solution). T (finite z.position.x)) is p.first;
      y-finite = subst (λ (z : Solution). T (finite z.position.y)) is p.second;
      z-finite = subst (λ (z : Solution). T (finite z.position.z)) is p.third;
      chi-finite = subst (λ (z : Solution). T (finite z.chi)) is g.chi;
      pdop-finite = subst (λ (z : Solution). T (finite z.pdop)) is g.pdop;
      used-counted = used;
      redundant = omega (arith, used, many.redundant);
      sound-rounds = fix-each SoundRound one-sound i s e;
      finite-residuals = fix-each FiniteResiduals one-finite i s e;
    }
  where
    solved : {a b : Solution} → ◌≡◌ {A = Result Solution Refusal} (Ok a) (Ok b) → a ≡ b
    solved h = cc

-- what it gives out is finite, and so is the position alone
given-finite : (i : Input) (r : Result Solution Refusal) → ((s : Solution) → r ≡ Ok s → Accepted i s) → every finite (fix_floats r) ≡ true
unfolding every
given-finite i (Err r) h = refl
given-finite i (Ok s) h =
    let a = h s refl in
    rw (is_true (finite s.position.x) a.x-finite, is_true (finite s.position.y) a.y-finite, is_true (finite s.position.z) a.z-finite, is_true (finite s.chi) a.chi-finite, is_true (finite s.pdop) a.pdop-finite)

position-finite : (i : Input) (r : Result Solution Refusal) → ((s : Solution) → r ≡ Ok s → Accepted i s) → every finite (position_floats (position_of r)) ≡ true
unfolding every
position-finite i (Err r) h = refl
position-finite i (Ok s) h = let a = h s refl in three-finite s.position.x s.position.y s.position.z a.x-finite a.y-finite a.z-finite

-- the public calls' promises follow from their answers
pub promised : (i : Input) (r : Result Solution Refusal) → r ≡ fix_of i → Promised i r
promised i r e =
    let accepted : (s : Solution) → r ≡ Ok s → Accepted i s = λ s q. fix-accepted i s (sym e ∙ q) in
    record {
      answer = e;
      number_is = ap answer_number e;
      floats-are = ap fix_floats e;
      counts-are = ap fix_counts e;
      given-finite = given-finite i r accepted;
      accepted = accepted;
    }

pub position-promised : (i : Input) (f : Result Solution Refusal) (r : Result Vec3 Refusal) → Promised i f → r ≡ position_of f → PositionPromised i r
position-promised i f r p e =
    record {
      answer = e ∙ ap position_of p.answer;
      number_is = ap answer_number (e ∙ ap position_of p.answer);
      floats-are = ap position_floats (e ∙ ap position_of p.answer);
      given-finite = subst (λ (q : Result Vec3 Refusal). every finite (position_floats q) ≡ true) (sym e) (position-finite i f p.accepted);
      accepted = λ s q. p.accepted s (p.answer ∙ q);
    }
