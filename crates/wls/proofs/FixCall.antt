-- The fix as the public call works it out: the rules in two parts, the fit, and what it comes to. Assumes nothing.
use Rattle.std.specs.Prelude.{Result, Ok, Err}
use Rattle.wls.specs.declared.fix.Solution.{Solution}
use mathlib.Core.Path.{◌≡◌, sym, ap, ap₂, ◌∙◌}
use Prim.Native.Nat.{ℕ, ◌≤◌}
use mathlib.Core.Bool.{Bool, true, false, ◌&&◌}
use mathlib.Core.List.{List}
use lib.ListN.{length, take}
use lib.Ieee.{Float}
use lib.Ieee.Scale.{finite}
use Rattle.lists.specs.Walk.{Holds}
use Rattle.cholesky.specs.Factor.{at}
use Rattle.numeric.specs.declared.refusal.Refusal.{Refusal}
use Rattle.numeric.specs.declared.refusal.Refusal.TheVariants.{FitFailed, QualityNotFinite}
use Rattle.normal_equations.specs.declared.row.Row.{Row}
use Rattle.numeric.specs.Rules.{Rule, ruled}
use Rattle.estimate_rounds.specs.Rules.{row_rules}
use Rattle.records.specs.Record.{counted_observations}
use Rattle.clocks.specs.Clocks.{clocks_of}
use Rattle.records.specs.Mask.{constellations}
use Rattle.wls.specs.Valid.{fix_input_rules}
use Rattle.estimate_rounds.specs.Rounds.{vector, finite_at}
use Rattle.quality.specs.Quality.{dilution_of}
use Rattle.quality.specs.Steps.{dilution_found}
use Rattle.quality.proofs.QualityLaws.{dilution_no, dilution_yes}
use Rattle.wls.specs.Fix.{Input, kept_observations, clocks, quality_rules, end_rules, solution_at, found_over, fix_of}
use Rattle.wls.specs.Steps.{concluded_at, rated_fix}
use Rattle.clocks.specs.declared.clocks.Clocks.{Clocks}
use Rattle.records.specs.declared.record.Observation.{Observation}
use Rattle.records.specs.declared.record.Observations.{Observations}
use Rattle.numeric.specs.declared.vec3.Vec3.{Vec3}
use Rattle.numeric.proofs.RulesLaws.{ruled-append, ruled-map}
use Rattle.estimate_rounds.proofs.RulesLaws.{checked, rows-passed}
use Rattle.wls.proofs.FrontLaws.{fix-input-refused, fix-clocks, fix-counts-refused, fix-counts-kept}

-- the code's three ways of what chi and pdop come to
module _ (position : Vec3) (used : ℕ) (pdop : Float) {v : Result Float Refusal} where
  pub rated-no : {r : Refusal} → v ≡ Err r → Err r ≡ rated_fix position used pdop v
  rated-no e = sym (ap (rated_fix position used pdop) e)

  module _ {c : Float} (e : v ≡ Ok c) {p q : Bool} (p-is : p ≡ finite c) (q-is : q ≡ finite pdop) where
    pub rated-yes : (p && q) ≡ true → Ok (record { position = position; used = used; chi = c; pdop = pdop }) ≡ rated_fix position used pdop v
    unfolding ruled
    rated-yes t = rw (e, sym (ap₂ ◌&&◌ p-is q-is) ∙ t)

    pub rated_unfit : (p && q) ≡ false → Err QualityNotFinite ≡ rated_fix position used pdop v
    unfolding ruled
    rated_unfit t = rw (e, sym (ap₂ ◌&&◌ p-is q-is) ∙ t)

-- what is left of the rules once 10 has let a fit pass, as the code has it of chi
rated-is : (position : Vec3) (used : ℕ) (pdop : Float) (sights : List Rule) (chi : Float) {v : Result Float Refusal} → v ≡ ruled Err sights (Ok chi)
    → rated_fix position used pdop v ≡ ruled Err (quality_rules sights chi pdop) (Ok (record { position = position; used = used; chi = chi; pdop = pdop }))
unfolding quality_rules
rated-is position used pdop sights chi e =
    ap (rated_fix position used pdop) e ∙ ruled-map (rated_fix position used pdop) Err (Ok chi) sights ∙ sym (ruled-append Err _ sights _)

-- ---- the answer at the state x of the rows, with 15 and chi there, by the tests a, b and d of its position
module _ (n : ℕ) (rows : List Row) (sights : List Rule) (chi : Float) (x : List Float) (a b d : Bool) (a-is : a ≡ finite (at x 0)) (b-is : b ≡ finite (at x 1)) (d-is : d ≡ finite (at x 2)) where
  pub found-no : (a && b && d) ≡ false → Err FitFailed ≡ concluded_at n rows sights chi x
  unfolding end_rules finite_at ruled
  found-no e = rw (rw (a-is, b-is, d-is) at e)

  -- with the code's answer on the dilution
  module _ (tests : (a && b && d) ≡ true) where
    pub found-refused : (r : Refusal) → Err r ≡ dilution_found n rows → Err FitFailed ≡ concluded_at n rows sights chi x
    unfolding end_rules finite_at ruled
    found-refused r e = rw (rw (a-is, b-is, d-is) at tests, dilution_no n rows r e)

    module _ (pdop : Float) (e : Ok pdop ≡ dilution_found n rows) where
      passed-ten : (answer : Result Solution Refusal) → ruled Err (quality_rules sights chi (dilution_of n rows)) answer ≡ ruled Err (end_rules n rows sights chi x) answer
      unfolding end_rules finite_at ruled
      passed-ten answer = rw (rw (a-is, b-is, d-is) at tests, (dilution_yes n rows pdop e).0)

      pub found-rated : (count : ℕ) → count ≡ length rows → {v : Result Float Refusal} → v ≡ ruled Err sights (Ok chi) → rated_fix (vector x) count pdop v ≡ concluded_at n rows sights chi x
      found-rated count count-is {v} v-is =
          ap₂ (λ (u : ℕ) (p : Float). rated_fix (vector x) u p v) count-is (dilution_yes n rows pdop e).1
          ∙ rated-is (vector x) (length rows) (dilution_of n rows) sights chi v-is
          ∙ passed-ten (Ok (solution_at n rows chi x))

-- ---- the call
module _ (i : Input) where
  abbrev fitted : Result Solution Refusal
  fitted = found_over i.settings (clocks i) (kept_observations i) i.guess

  pub refused-input : {r : Refusal} → Err r ≡ checked (fix_input_rules i.observations i.guess i.settings) → Err r ≡ fix_of i
  unfolding fix_of
  refused-input e = fix-input-refused Err fitted i.observations i.guess i.settings e

  -- what the code has once it has masked
  module _ (passed : (Ok tt) ≡ checked (fix_input_rules i.observations i.guess i.settings)) (q : Observations) (k : Clocks) (left : Holds q.count q.observation (kept_observations i))
      (clocked : k ≡ clocks_of (constellations (counted_observations q))) where
    pub refused-counts : {r : Refusal} → Err r ≡ checked (row_rules q.count k.count) → Err r ≡ fix_of i
    unfolding fix_of
    refused-counts e = fix-counts-refused Err fitted i.observations i.guess i.settings passed q k left clocked e

    clocks-are : k ≡ clocks i
    clocks-are = fix-clocks Err fitted i.observations i.guess i.settings passed q k left clocked

    -- rules 8 and 9 leave a fit of at most nine unknowns
    module _ (enough : (Ok tt) ≡ checked (row_rules q.count k.count)) where
      pub few-clocks : k.count ≤ 6
      few-clocks = (rows-passed _ _ enough).few-slots

      pub found : found_over i.settings k (take q.count q.observation) i.guess ≡ fix_of i
      unfolding fix_of
      found =
          ap₂ (λ (c : Clocks) (os : List Observation). found_over i.settings c os i.guess) clocks-are left.all
          ∙ fix-counts-kept Err fitted i.observations i.guess i.settings passed q k left clocked enough
