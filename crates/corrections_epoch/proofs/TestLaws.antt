-- The tests of the records that are handed over with an epoch, and what has passed them. Assumes nothing.
use Rattle.std.specs.Prelude.{Option, Result, Ok, Err, ⊤}
use mathlib.Core.Path.{◌≡◌, refl, sym, ◌∙◌}
use mathlib.Core.Bool.{Bool, true, false, cond, not, ◌&&◌, ◌||◌}
use Prim.Native.Nat.{ℕ, ◌≤◌}
use native.Mathlib.Omega.{arith}
use borrow.Author.Tests.{ltb-false, not-true, not-false}
use lib.Dec.{ltb}
use lib.ListN.{take}
use Rattle.lists.proofs.Walk.{or_no}
use Rattle.lists.specs.Walk.{every}
use Rattle.numeric.specs.Rules.{ruled}
use Rattle.numeric.specs.Real.{in_range}
use Rattle.numeric.specs.declared.vec3.Vec3.{Vec3}
use Rattle.numeric.specs.Vec3.{vector_in_range}
use Rattle.numeric.specs.declared.refusal.Refusal.{Refusal}
use Rattle.numeric.specs.declared.refusal.Refusal.TheVariants.{TooMany, SettingOutOfRange, RecordOutOfRange}
use Rattle.corrections_epoch.specs.Record.{states_count, states_of, range_in_range, state_in_range}
use Rattle.corrections_epoch.specs.AddEpoch.{too_many, settings_in_range, records_in_range}
use Rattle.corrections_epoch.specs.Steps.{records_test}
use Rattle.corrections_epoch.specs.declared.record.BaseEpoch.{BaseEpoch}
use Rattle.corrections_epoch.specs.declared.record.States.{States}
use Rattle.corrections_epoch.specs.declared.record.Settings.{Settings}

module _ (m n room : ℕ) (e : BaseEpoch) (s : Option States) (base rover : Vec3) (set : Settings) (j : ℕ) (ej : j ≡ states_count s) where
  many : (ltb room m || (ltb room n || ltb 64 e.count || ltb 64 j)) ≡ (ltb room m || too_many n room e s)
  unfolding too_many
  many = rw ej

  pub test-many : (ltb room m || (ltb room n || ltb 64 e.count || ltb 64 j)) ≡ true → Err TooMany ≡ records_test m n room e s base rover set
  unfolding records_test ruled
  test-many t = rw (sym many ∙ t)

  module _ (few : (ltb room m || (ltb room n || ltb 64 e.count || ltb 64 j)) ≡ false) where
    -- what the loops over the records ask
    pub few-ranges : e.count ≤ 64
    few-ranges = ltb-false 64 e.count (or_no (ltb room n) (ltb 64 e.count) (or_no (ltb room n || ltb 64 e.count) (ltb 64 j) (or_no (ltb room m) _ few).1).0).1

    pub few-states : states_count s ≤ 64
    few-states = rw (← ej) (ltb-false 64 j (or_no (ltb room n || ltb 64 e.count) (ltb 64 j) (or_no (ltb room m) _ few).1).1)

    module _ {a b : Bool} (ea : a ≡ in_range set.max_gap) (eb : b ≡ in_range set.max_correction) where
      settings : (a && b) ≡ settings_in_range set
      unfolding settings_in_range
      settings = rw (ea, eb)

      pub test-settings : not (a && b) ≡ true → Err SettingOutOfRange ≡ records_test m n room e s base rover set
      unfolding records_test ruled
      test-settings t = rw (sym many ∙ few, sym settings ∙ not-true (a && b) t)

      module _ (good : not (a && b) ≡ false) {u v w : Bool} (eu : u ≡ vector_in_range base) (ev : v ≡ vector_in_range rover) (ew : w ≡ in_range e.time) where
        by-records : {r : _} → records_in_range e s base rover ≡ false → r ≡ RecordOutOfRange → Err r ≡ records_test m n room e s base rover set
        unfolding records_test ruled
        by-records t q = rw (sym many ∙ few, sym settings ∙ not-false (a && b) good, t, q)

        pub test-places : not (u && v && w) ≡ true → Err RecordOutOfRange ≡ records_test m n room e s base rover set
        unfolding records_in_range
        test-places t = by-records (rw (← eu, ← ev, ← ew, not-true (u && v && w) t)) refl

        module _ (placed : not (u && v && w) ≡ false) {x : Bool} (ex : x ≡ every range_in_range (take e.count e.ranges)) where
          pub test-ranges : not x ≡ true → Err RecordOutOfRange ≡ records_test m n room e s base rover set
          unfolding records_in_range
          test-ranges t = by-records (rw (← eu, ← ev, ← ew, not-false (u && v && w) placed, sym ex ∙ not-true x t)) refl

          module _ (ranged : not x ≡ false) {y : Bool} (ey : y ≡ every state_in_range (states_of s)) where
            pub test-states : not y ≡ true → Err RecordOutOfRange ≡ records_test m n room e s base rover set
            unfolding records_in_range
            test-states t = by-records (rw (← eu, ← ev, ← ew, not-false (u && v && w) placed, sym ex ∙ not-false x ranged, sym ey ∙ not-true y t)) refl

            pub test-passed : not y ≡ false → (Ok tt) ≡ records_test m n room e s base rover set
            unfolding records_test records_in_range ruled
            test-passed t = rw (sym many ∙ few, sym settings ∙ not-false (a && b) good, ← eu, ← ev, ← ew, not-false (u && v && w) placed, sym ex ∙ not-false x ranged, sym ey ∙ not-false y t)

-- ---- what has passed
pub record PassedRecords (m n room : ℕ) (e : BaseEpoch) (s : Option States) (base rover : Vec3) (set : Settings) : Type 0 where
  pub not_many : too_many n room e s ≡ false
  pub few-entries : m ≤ room
  pub few : n ≤ room
  pub few-ranges : e.count ≤ 64
  pub few-states : states_count s ≤ 64
  pub settings : settings_in_range set ≡ true
  pub records : records_in_range e s base rover ≡ true

refused-passed : {A : Type 0} (r : Refusal) → ◌≡◌ {A = Result ⊤ Refusal} (Err r) (Ok tt) → A
refused-passed r e = absurd (let z : ◌≡◌ {A = ℕ} 0 1 = cc in omega arith)

counts : (n room : ℕ) (e : BaseEpoch) (s : Option States) → too_many n room e s ≡ false → (n ≤ room) × (e.count ≤ 64) × (states_count s ≤ 64)
unfolding too_many
counts n room e s t =
    let p = or_no (ltb room n || ltb 64 e.count) (ltb 64 (states_count s)) t in
    let r = or_no (ltb room n) (ltb 64 e.count) p.0 in
    (ltb-false room n r.0, ltb-false 64 e.count r.1, ltb-false 64 (states_count s) p.1)

pub passed-records : (m n room : ℕ) (e : BaseEpoch) (s : Option States) (base rover : Vec3) (set : Settings) → (Ok tt) ≡ records_test m n room e s base rover set → PassedRecords m n room e s base rover set
unfolding records_test ruled
passed-records m n room e s base rover set q = go (ltb room m || too_many n room e s) (settings_in_range set) (records_in_range e s base rover) refl refl refl (sym q)
  where
    go : (a b x : Bool) → (ltb room m || too_many n room e s) ≡ a → settings_in_range set ≡ b → records_in_range e s base rover ≡ x
        → ◌≡◌ {A = Result ⊤ Refusal} (cond a (Err TooMany) (cond (not b) (Err SettingOutOfRange) (cond (not x) (Err RecordOutOfRange) (Ok tt)))) (Ok tt) → PassedRecords m n room e s base rover set
    go true b x p u v w = refused-passed TooMany w
    go false false x p u v w = refused-passed SettingOutOfRange w
    go false true false p u v w = refused-passed RecordOutOfRange w
    go false true true p u v w =
        let z = or_no (ltb room m) (too_many n room e s) p in
        let k = counts n room e s z.1 in
        record { not_many = z.1; few-entries = ltb-false room m z.0; few = k.0; few-ranges = k.1; few-states = k.2; settings = u; records = v }
