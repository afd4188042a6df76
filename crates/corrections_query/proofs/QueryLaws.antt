-- Numbers 2 to 4 of a query of a directory, and that its times are values of the format. Assumes nothing.
use Rattle.std.specs.Prelude.{Result, Ok, Err, ⊤}
use mathlib.Core.Path.{◌≡◌, refl, sym, ◌∙◌}
use mathlib.Core.List.{List}
use mathlib.Core.Bool.{Bool, true, false, cond, not, ◌||◌}
use Prim.Native.Nat.{ℕ, ◌≤◌, ◌<◌}
use native.Mathlib.Omega.{arith}
use lib.ListN.{length, get_or}
use lib.Dec.{T, ltb}
use borrow.Author.Tests.{ltb-false, not-true, not-false}
use lib.Ieee.{Float, fits, binary64}
use Rattle.lists.proofs.Walk.{or_no}
use Rattle.numeric.specs.Real.{in_range}
use Rattle.numeric.specs.declared.refusal.Refusal.{Refusal}
use Rattle.numeric.specs.declared.refusal.Refusal.TheVariants.{RecordOutOfRange, SettingOutOfRange, TooMany}
use Rattle.numeric.specs.Rules.{ruled}
use Rattle.corrections_table.specs.Table.{blank}
use Rattle.corrections_table.specs.declared.sample.Sample.{Sample}
use Rattle.corrections_directory.specs.Directory.{Blocks, Directory, block_capacity, entries_in, readings_in, sound_directory}
use Rattle.corrections_query.specs.Query.{table_test, PassedQuery}

-- every time is a value of the format
unfoldable pub TimesHeld : List Sample → Type 0
TimesHeld l = (j : ℕ) → j < length l → T (fits binary64 (get_or l j blank).time)

-- counts up to the capacity lie in the columns
pub roomy : (m n room : ℕ) (l : Blocks) → room ≡ block_capacity l → (ltb room m || ltb room n) ≡ false → (m ≤ length (entries_in l)) × (n ≤ length (readings_in l))
roomy m n room l e h =
    let k = or_no (ltb room m) (ltb room n) h in
    let p = ltb-false room m k.0 in
    let q = ltb-false room n k.1 in
    (omega arith, omega arith)

-- ---- the tests of a table and a gap, one after the other
module _ (m n room : ℕ) (d : Directory) (gap : Float) where
  pub test-2 : (ltb room m || ltb room n) ≡ true → Err TooMany ≡ table_test m n room d gap
  unfolding table_test ruled
  test-2 h = rw h

  module _ (h : (ltb room m || ltb room n) ≡ false) {q : Bool} (eq : q ≡ in_range gap) where
    pub test-3 : not q ≡ true → Err SettingOutOfRange ≡ table_test m n room d gap
    unfolding table_test ruled
    test-3 w = rw (h, sym eq ∙ not-true q w)

    module _ (w : not q ≡ false) {y : Bool} (ey : y ≡ sound_directory d) where
      pub test-4 : not y ≡ true → Err RecordOutOfRange ≡ table_test m n room d gap
      unfolding table_test ruled
      test-4 u = rw (h, sym eq ∙ not-false q w, sym ey ∙ not-true y u)

      pub test-none : not y ≡ false → (Ok tt) ≡ table_test m n room d gap
      unfolding table_test ruled
      test-none u = rw (h, sym eq ∙ not-false q w, sym ey ∙ not-false y u)

  -- where they all pass
  pub test-passed : (Ok tt) ≡ table_test m n room d gap → PassedQuery m n room d gap
  unfolding table_test ruled
  test-passed e = go (ltb room m) (ltb room n) (in_range gap) (sound_directory d) refl refl refl refl e
    where
      go : (a b c s : Bool) → ltb room m ≡ a → ltb room n ≡ b → in_range gap ≡ c → sound_directory d ≡ s
          → ◌≡◌ {A = Result ⊤ Refusal} (Ok tt) (cond (a || b) (Err TooMany) (cond (not c) (Err SettingOutOfRange) (cond (not s) (Err RecordOutOfRange) (Ok tt))))
          → PassedQuery m n room d gap
      go true b c s ea eb ec es e = cc
      go false true c s ea eb ec es e = cc
      go false false false s ea eb ec es e = cc
      go false false true false ea eb ec es e = cc
      go false false true true ea eb ec es e = record { few-entries = ltb-false room m ea; few-samples = ltb-false room n eb; in-range = ec; sound = es }
