-- The call: its refusals, what it leaves, and the queries afterwards. Assumes nothing.
use Rattle.numeric.specs.Refusal.{answer_number}
use Rattle.std.specs.Prelude.{Result, Ok, Err, ⊤}
use mathlib.Core.Path.{◌≡◌, refl, sym, ap, ◌∙◌}
use mathlib.Core.Bool.{Bool, true, false, not, ◌&&◌, ◌||◌}
use Prim.Native.Nat.{ℕ, ◌^◌, ◌≤◌, ◌<◌}
use native.Mathlib.Omega.{arith}
use lib.Dec.{T, ltb}
use mathlib.Core.List.{List, [], ◌∷◌, map}
use lib.ListN.{length, get_or, take, drop}
use lib.Seq.{length-take-le}
use borrow.Author.Tests.{ltb-false, not-true, not-false}
use lib.Ieee.{Float, fits, binary64}
use lib.Ieee.Scale.{finite}
use Rattle.lists.specs.Walk.{every}
use Rattle.lists.proofs.Walk.{or_no}
use Rattle.numeric.specs.Real.{in_range}
use Rattle.numeric.specs.Refusal.{number_of}
use Rattle.numeric.specs.declared.refusal.Refusal.{Refusal}
use Rattle.numeric.specs.declared.refusal.Refusal.TheVariants.{TooMany, RecordOutOfRange, BadDropTime}
use Rattle.numeric.specs.Rules.{ruled}
use Rattle.corrections_table.specs.Table.{ranged, sound_table}
use Rattle.corrections_table.specs.declared.sample.Sample.{Sample}
use Rattle.corrections_table.proofs.TableLaws.{and_left, and_right}
use Rattle.corrections_table.proofs.UnitLaws.{never}
use Rattle.corrections_directory.specs.Directory.{Directory, Blocks, Reading, block_capacity, blocks_with, directory_in, directory_of, entries_in, flat, floats, in_reach, reading_of, readings_in, sound_directory}
use Rattle.corrections_directory.proofs.DirectoryLaws.{sound-flat}
use Rattle.corrections_query.proofs.PlaceLaws.{held-flat}
use Rattle.corrections_forget.specs.Forget.{Forgets, ForgetOutcome, PatternsAfter, count_after, forget, forget_in, forgetting_of, leaves, test_in, retained, trimmed}
use Rattle.corrections_forget.specs.Steps.{Fit}
use Rattle.corrections_forget.proofs.LayoutLaws.{forget-trimmed}
use Rattle.corrections_forget.proofs.ForgetLaws.{forget-sound}
use Rattle.corrections_forget.proofs.PatternLaws.{floats-held, patterns-of}
use Rattle.corrections_forget.proofs.TrimLaws.{laid-length}

-- ---- the tests one after the other
module _ (m n room : ℕ) (d : Directory) (time : Float) {r : ℕ} (is : r ≡ room) where
  pub test-count : (ltb r m || ltb r n) ≡ true → Err TooMany ≡ test_in m n room d time
  unfolding test_in ruled
  test-count h = rw (← is, h)

  module _ (h : (ltb r m || ltb r n) ≡ false) {y : Bool} (ey : y ≡ sound_directory d) where
    pub test-sound : not y ≡ true → Err RecordOutOfRange ≡ test_in m n room d time
    unfolding test_in ruled
    test-sound u = rw (← is, h, ← ey, not-true y u)

    module _ (u : not y ≡ false) {f : Bool} (ef : f ≡ finite time) where
      pub test-finite : not f ≡ true → Err BadDropTime ≡ test_in m n room d time
      unfolding test_in ruled
      test-finite w = rw (← is, h, ← ey, not-false y u, ← ef, not-true f w)

      pub test-passed : not f ≡ false → (Ok tt) ≡ test_in m n room d time
      unfolding test_in ruled
      test-passed w = rw (← is, h, ← ey, not-false y u, ← ef, not-false f w)

-- ---- what a passed test says
refused_not : {A : Type 0} (r : Refusal) → ◌≡◌ {A = Result ⊤ Refusal} (Err r) (Ok tt) → A
refused_not r e = never (ap is_passed e)
  where
    is_passed : Result ⊤ Refusal → Bool
    is_passed (Err r) = false
    is_passed (Ok tt) = true

pub fit_of_lem : (m n : ℕ) (l : Blocks) (time : Float) → test_in m n (block_capacity l) (directory_in m n l) time ≡ (Ok tt) → Fit m n l
fit_of_lem m n l time e = go (ltb (block_capacity l) m || ltb (block_capacity l) n) (sound_directory (directory_in m n l)) refl refl
  where
    many : (ltb (block_capacity l) m || ltb (block_capacity l) n) ≡ true → test_in m n (block_capacity l) (directory_in m n l) time ≡ Err TooMany
    many p = unfold test_in ruled in rw p

    unsound : (ltb (block_capacity l) m || ltb (block_capacity l) n) ≡ false → sound_directory (directory_in m n l) ≡ false → test_in m n (block_capacity l) (directory_in m n l) time ≡ Err RecordOutOfRange
    unsound p q = unfold test_in ruled in rw (p, q)

    go : (x y : Bool) → (ltb (block_capacity l) m || ltb (block_capacity l) n) ≡ x → sound_directory (directory_in m n l) ≡ y → Fit m n l
    go true y p q = refused_not TooMany (sym (many p) ∙ e)
    go false false p q = refused_not RecordOutOfRange (sym (unsound p q) ∙ e)
    go false true p q =
        let k = or_no (ltb (block_capacity l) m) (ltb (block_capacity l) n) p in
        let a = ltb-false (block_capacity l) m k.0 in
        let b = ltb-false (block_capacity l) n k.1 in
        record { few-entries = omega arith; few-samples = omega arith; sound = q }

-- ---- what is left
ranged-readings : (t : List Sample) → every ranged t ≡ true → every in_reach (map reading_of t) ≡ true
unfolding every in_reach ranged
ranged-readings [] e = refl
ranged-readings (s ∷ t) e = rw (and_left (ranged s) _ e) (ranged-readings t (and_right (ranged s) _ e))

ranged-of : (t : List Sample) → sound_table t ≡ true → every ranged t ≡ true
unfolding sound_table
ranged-of t e = and_left (every ranged t) _ e

reach_of : (t : List Sample) → every ranged t ≡ true → every in_reach (directory_of t).readings ≡ true
unfolding directory_of
reach_of t e = ranged-readings t e

-- both fields of readings in range
fields-range : (rs : List Reading) → every in_reach rs ≡ true → (every (λ (r : Reading). in_range r.time) rs ≡ true) × (every (λ (r : Reading). in_range r.correction) rs ≡ true)
unfolding every in_reach
fields-range [] e = (refl, refl)
fields-range (r ∷ rs) e =
    let a = and_left (in_range r.time && in_range r.correction) _ e in
    let k = fields-range rs (and_right (in_range r.time && in_range r.correction) _ e) in
    (rw (and_left (in_range r.time) _ a) k.0, rw (and_right (in_range r.time) _ a) k.1)

module _ (m n : ℕ) (l : Blocks) (time : Float) (ts xs : List ℕ) where
  pub forget-refused : (r : Refusal) → test_in m n (block_capacity l) (directory_in m n l) time ≡ Err r
      → (let o = forget_in m n (block_capacity l) (directory_in m n l) time in (Err r ≡ forgetting_of o) × (Forgets o (number_of r) m n n l l × PatternsAfter o ts xs ts xs))
  unfolding forget_in
  forget-refused r e = rw e (refl, (record { number_is = refl; entries-stay = refl; count = refl; columns = refl }, (refl, refl)))

  pub forget-passed : test_in m n (block_capacity l) (directory_in m n l) time ≡ (Ok tt) → l.times ≡ floats ts → l.corrections ≡ floats xs → T (fits binary64 time)
      → {k : ℕ} {l' : Blocks} → k ≡ length (trimmed time (directory_in m n l)).readings → l' ≡ blocks_with (trimmed time (directory_in m n l)) l
      → (ts' xs' : List ℕ) → l'.times ≡ floats ts' → l'.corrections ≡ floats xs' → drop k ts' ≡ drop k ts → drop k xs' ≡ drop k xs → ((x : ℕ) → get_or ts' x 0 < 2 ^ 64) → ((x : ℕ) → get_or xs' x 0 < 2 ^ 64)
      → (let o = forget_in m n (block_capacity l) (directory_in m n l) time in (Ok k ≡ forgetting_of o) × (Forgets o 0 m n k l l' × PatternsAfter o ts xs ts' xs'))
  forget-passed e lt lx ft {k} {l'} ek el ts' xs' lt' lx' dt dx bt bx =
      let f = fit_of_lem m n l time e in
      let d = directory_in m n l in
      let q : directory_of (forget time (flat d)) ≡ trimmed time d = forget-trimmed time d ft f.sound (held-flat m n l f.few-entries f.few-samples f.sound (λ j. rw lt (floats-held ts j))) in
      let o : forget_in m n (block_capacity l) d time ≡ leaves (trimmed time d) = outcome q in
      let r = fields-range (trimmed time d).readings (reach f.sound q) in
      rw o (
        ap Ok ek,
        (
          record { number_is = refl; entries-stay = entries f.few-entries; count = ek; columns = el },
          record {
            times = patterns-of (λ (r : Reading). r.time) (trimmed time d).readings ts ts' (sym lt' ∙ ap (λ (b : Blocks). b.times) el ∙ rw lt) (rw ek at dt) r.0 bt;
            corrections = patterns-of (λ (r : Reading). r.correction) (trimmed time d).readings xs xs' (sym lx' ∙ ap (λ (b : Blocks). b.corrections) el ∙ rw lx) (rw ek at dx) r.1 bx;
          },
        ),
      )
    where
      outcome : directory_of (forget time (flat (directory_in m n l))) ≡ trimmed time (directory_in m n l) → forget_in m n (block_capacity l) (directory_in m n l) time ≡ leaves (trimmed time (directory_in m n l))
      outcome q = unfold forget_in in rw (e, q)

      entries : m ≤ length (entries_in l) → m ≡ length (trimmed time (directory_in m n l)).entries
      entries h = unfold trimmed in sym (laid-length (retained time (take n (readings_in l))) 0 (take m (entries_in l)) ∙ length-take-le m (entries_in l) h)

      reach : sound_directory (directory_in m n l) ≡ true → directory_of (forget time (flat (directory_in m n l))) ≡ trimmed time (directory_in m n l) → every in_reach (trimmed time (directory_in m n l)).readings ≡ true
      reach s q =
          let t = forget time (flat (directory_in m n l)) in
          let z : sound_table t ≡ true = forget-sound time (flat (directory_in m n l)) (sound-flat (directory_in m n l) s) in
          let y : every ranged t ≡ true = ranged-of t z in
          let w : every in_reach (directory_of t).readings ≡ true = reach_of t y in
          ap (λ (d : Directory). every in_reach d.readings) (sym q) ∙ w

-- ---- the number and the count, by the answer
module _ {o : ForgetOutcome} {m n : ℕ} {l l' : Blocks} {a : Result ℕ Refusal} (f : Forgets o (answer_number a) m n (count_after a n) l l') where
  pub call-refused : {r : Refusal} → a ≡ Err r → {k : ℕ} → k ≡ number_of r → Forgets o k m n n l l'
  call-refused e q = rw q (rw e at f)

  pub call-count : {k : ℕ} → a ≡ Ok k → Forgets o 0 m n k l l'
  call-count e = rw e at f
