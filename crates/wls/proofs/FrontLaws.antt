-- The rules of a fix before its rounds, tested in parts. Assumes nothing.
use Rattle.std.specs.Prelude.{Ok, Err}
use mathlib.Core.Path.{◌≡◌, sym, ap, ◌∙◌, subst}
use mathlib.Core.List.{List}
use mathlib.Core.Bool.{true, not, ◌&&◌}
use Prim.Native.Nat.{ℕ, zero, suc, ◌≤◌, ◌<◌}
use native.Mathlib.Omega.{arith}
use lib.Dec.{T, ltb, eqb}
use borrow.Author.Tests.{ltb-false, not-false}
use lib.Ieee.Fits.{and_r}
use Rattle.lists.specs.Walk.{Holds}
use Rattle.numeric.specs.Real.{in_range}
use Rattle.numeric.specs.declared.vec3.Vec3.{Vec3}
use Rattle.numeric.specs.declared.refusal.Refusal.{Refusal}
use Rattle.numeric.specs.Rules.{ruled}
use Rattle.estimate_rounds.specs.Rules.{row_rules}
use Rattle.wls.specs.Valid.{fix_settings_pass, fix_input_rules}
use Rattle.records.specs.declared.record.Observations.{Observations}
use Rattle.wls.specs.declared.fix.Settings.{Settings as FixSettings}
use lib.ListN.{length}
use Rattle.records.specs.Record.{counted_observations}
use Rattle.clocks.specs.Clocks.{clocks_of}
use Rattle.records.specs.Mask.{constellations as observedConstellations}
use Rattle.wls.specs.Front.{fix_rows, fix_rules}
use Rattle.clocks.specs.declared.clocks.Clocks.{Clocks}
use Rattle.records.specs.declared.record.Observation.{Observation}
use Rattle.numeric.proofs.RulesLaws.{ruled-append}
use Rattle.estimate_rounds.proofs.RulesLaws.{checked, refused-by, passed-by, passed-of, append-passed, append-first, head_passed, Enough, rows-passed}

pub observations-fit : (observations : Observations) (guess : Vec3) (settings : FixSettings) → (Ok tt) ≡ checked (fix_input_rules observations guess settings)
    → observations.count ≤ 64
unfolding fix_input_rules
observations-fit observations guess settings e = ltb-false 64 observations.count (head_passed _ _ e).0

-- rule 3 refuses a fix of 0 rounds
above_zero : (n : ℕ) → T (not (eqb n 0)) → 0 < n
above_zero zero h = absurd h
above_zero (suc n) h = omega arith

pub some-rounds : (observations : Observations) (guess : Vec3) (settings : FixSettings) → (Ok tt) ≡ checked (fix_input_rules observations guess settings) → 0 < settings.rounds
unfolding fix_input_rules fix_settings_pass
some-rounds observations guess settings e =
    let pass : fix_settings_pass settings ≡ true = not-false (fix_settings_pass settings) (head_passed _ _ (head_passed _ _ e).1).0 in
    let others = in_range settings.sigma_a && in_range settings.sigma_b && in_range settings.huber && in_range settings.mask && not (ltb 50 settings.rounds) in
    above_zero settings.rounds (and_r others (not (eqb settings.rounds 0)) (subst T (sym pass) tt))

module _ {A : Type 0} (f : Refusal → A) (a : A) (observations : Observations) (guess : Vec3) (settings : FixSettings) where
  abbrev fix : A
  fix = ruled f (fix_rules observations guess settings) a

  pub fix-input-refused : {r : Refusal} → Err r ≡ checked (fix_input_rules observations guess settings) → f r ≡ fix
  unfolding fix_rules
  fix-input-refused e = refused-by f _ _ e ∙ sym (ruled-append f _ _ _)

  abbrev rows : List Observation
  rows = fix_rows observations settings

  module _ (passed : (Ok tt) ≡ checked (fix_input_rules observations guess settings)) (q : Observations) (k : Clocks) (left : Holds q.count q.observation rows)
      (clocks : k ≡ clocks_of (observedConstellations (counted_observations q))) where
    pub fix-clocks : k ≡ clocks_of (observedConstellations rows)
    fix-clocks = clocks ∙ ap (λ (l : List Observation). clocks_of (observedConstellations l)) left.all

    fix-slots : k.count ≡ (clocks_of (observedConstellations rows)).count
    fix-slots = ap (λ (c : Clocks). c.count) fix-clocks

    fix_is : fix ≡ ruled f (row_rules q.count k.count) a
    unfolding fix_rules
    fix_is = ruled-append f _ _ _ ∙ passed-by f _ _ passed ∙ (rw (left.count, fix-slots))

    pub fix-counts-refused : {r : Refusal} → Err r ≡ checked (row_rules q.count k.count) → f r ≡ fix
    fix-counts-refused e = refused-by f _ _ e ∙ sym fix_is

    pub fix-counts-kept : (Ok tt) ≡ checked (row_rules q.count k.count) → a ≡ fix
    fix-counts-kept e = sym (fix_is ∙ passed-by f _ _ e)

  pub fix-enough : {b : A} → fix ≡ b → ((r : Refusal) → f r ≡ b → ⊥) → Enough (length rows) (clocks_of (observedConstellations rows)).count
  unfolding fix_rules
  fix-enough e ne = rows-passed _ _ (append-passed (fix_input_rules observations guess settings) _ (passed-of f _ _ e ne))

  pub fix-rounds : {b : A} → fix ≡ b → ((r : Refusal) → f r ≡ b → ⊥) → 0 < settings.rounds
  unfolding fix_rules
  fix-rounds e ne = some-rounds observations guess settings (append-first (fix_input_rules observations guess settings) _ (passed-of f _ _ e ne))
