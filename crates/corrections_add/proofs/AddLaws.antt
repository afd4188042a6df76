-- The tests before samples are added, way by way, and what a call leaves. Assumes nothing.
use Rattle.numeric.specs.Refusal.{answer_number}
use Rattle.std.specs.Prelude.{Result, Ok, Err, ⊤}
use Rattle.corrections_add.specs.declared.add.Counts.{Counts}
use mathlib.Core.Path.{◌≡◌, refl, sym, ◌∙◌}
use mathlib.Core.Bool.{Bool, true, false, cond, not, ◌&&◌, ◌||◌}
use mathlib.Core.List.{List}
use Prim.Native.Nat.{ℕ, ◌+◌, ◌≤◌, ◌<◌, min}
use native.Mathlib.Omega.{arith}
use lib.Dec.{ltb}
use lib.ListN.{length, length-map}
use lib.Seq.{length-take-le}
use borrow.Author.Tests.{ltb-false, lt-ltb, le-ltb, not-true, not-false}
use Rattle.lists.specs.Walk.{every}
use Rattle.numeric.specs.Rules.{ruled}
use Rattle.numeric.specs.declared.refusal.Refusal.{Refusal}
use Rattle.numeric.specs.declared.refusal.Refusal.TheVariants.{TooMany, RecordOutOfRange, TableFull}
use Rattle.corrections_table.specs.Table.{ranged}
use Rattle.corrections_table.specs.Add.{counted_samples, insert_all}
use Rattle.corrections_table.specs.declared.add.Samples.{Samples}
use Rattle.corrections_table.proofs.TableLaws.{and_left, and_right}
use Rattle.corrections_table.proofs.UnitLaws.{never}
use Rattle.corrections_table.proofs.InsertLaws.{insert_all-length}
use Rattle.corrections_directory.specs.Directory.{Directory, Blocks, PatternsWith, block_capacity, blocks_with, directory_in, directory_of, entries_in, flat, reading_of, readings_in, sound_directory}
use Rattle.corrections_directory.proofs.ColumnLaws.{flat-length}
use Rattle.corrections_add.specs.Steps.{Fitting}
use Rattle.corrections_add.specs.Add.{PatternsAfter, Places, add_in, addition_of, directory_with, test_in}

or_left : (a b : Bool) → (a || b) ≡ false → a ≡ false
or_left true b e = e
or_left false b e = refl

or_right : (a b : Bool) → (a || b) ≡ false → b ≡ false
or_right true b e = never (sym e)
or_right false b e = e

-- no count is too large
pub record Few (m n r k : ℕ) : Type 0 where
  pub entries : m ≤ r
  pub samples : n ≤ r
  pub new : k ≤ 64

pub few-of : (m n r k : ℕ) → ((ltb r m || ltb r n) || ltb 64 k) ≡ false → Few m n r k
few-of m n r k e =
    let a = or_left (ltb r m || ltb r n) (ltb 64 k) e in
    record { entries = ltb-false r m (or_left (ltb r m) (ltb r n) a); samples = ltb-false r n (or_right (ltb r m) (ltb r n) a); new = ltb-false 64 k (or_right (ltb r m || ltb r n) (ltb 64 k) e) }

module _ (m n room r : ℕ) (e : r ≡ room) (d : Directory) (new : Samples) where
  pub test-count : ((ltb r m || ltb r n) || ltb 64 new.count) ≡ true → Err TooMany ≡ test_in m n room d new
  unfolding test_in ruled
  test-count h = rw (← e, h)

  module _ (h : ((ltb r m || ltb r n) || ltb 64 new.count) ≡ false) {x : Bool} (ex : x ≡ sound_directory d) where
    pub test-sound : not x ≡ true → Err RecordOutOfRange ≡ test_in m n room d new
    unfolding test_in ruled
    test-sound u = rw (← e, h, sym ex ∙ not-true x u)

    module _ (u : not x ≡ false) {y : Bool} (ey : y ≡ every ranged (counted_samples new)) where
      pub test-ranged : not y ≡ true → Err RecordOutOfRange ≡ test_in m n room d new
      unfolding test_in ruled
      test-ranged v = rw (← e, h, sym ex ∙ not-false x u, sym ey ∙ not-true y v)

      module _ (v : not y ≡ false) where
        pub test-room : r < n + new.count → Err TableFull ≡ test_in m n room d new
        unfolding test_in ruled
        test-room w = rw (← e, h, sym ex ∙ not-false x u, sym ey ∙ not-false y v, lt-ltb r (n + new.count) w)

        pub test-passed : n + new.count ≤ r → (Ok tt) ≡ test_in m n room d new
        unfolding test_in ruled
        test-passed w = rw (← e, h, sym ex ∙ not-false x u, sym ey ∙ not-false y v, le-ltb r (n + new.count) w)

-- ---- what a passed test says
refused_not : {A : Type 0} (r : Refusal) → ◌≡◌ {A = Result ⊤ Refusal} (Err r) (Ok tt) → A
refused_not r e = absurd (let z : ◌≡◌ {A = ℕ} 0 1 = cc in omega arith)

pub record PassedAddition (m n room : ℕ) (d : Directory) (new : Samples) : Type 0 where
  pub few : Few m n room new.count
  pub steady : sound_directory d ≡ true
  pub every-ranged : every ranged (counted_samples new) ≡ true
  pub fit : n + new.count ≤ room

pub passed : (m n room : ℕ) (d : Directory) (new : Samples) → test_in m n room d new ≡ (Ok tt) → PassedAddition m n room d new
unfolding test_in ruled
passed m n room d new e = go ((ltb room m || ltb room n) || ltb 64 new.count) (sound_directory d && every ranged (counted_samples new)) (ltb room (n + new.count)) refl refl refl e
  where
    go : (x y z : Bool) → ((ltb room m || ltb room n) || ltb 64 new.count) ≡ x → (sound_directory d && every ranged (counted_samples new)) ≡ y → ltb room (n + new.count) ≡ z
        → ◌≡◌ {A = Result ⊤ Refusal} (cond x (Err TooMany) (cond (not y) (Err RecordOutOfRange) (cond z (Err TableFull) (Ok tt)))) (Ok tt) → PassedAddition m n room d new
    go true y z a b c e = refused_not TooMany e
    go false false z a b c e = refused_not RecordOutOfRange e
    go false true true a b c e = refused_not TableFull e
    go false true false a b c e =
        record { few = few-of m n room new.count a; steady = and_left (sound_directory d) _ b; every-ranged = and_right (sound_directory d) _ b; fit = ltb-false room (n + new.count) c }

pub passed-fits : (m n : ℕ) (l : Blocks) (new : Samples) → PassedAddition m n (block_capacity l) (directory_in m n l) new → Fitting m n new.count l
passed-fits m n l new p = parts (length (entries_in l)) (length (readings_in l)) refl refl
  where
    parts : (a b : ℕ) → length (entries_in l) ≡ a → length (readings_in l) ≡ b → Fitting m n new.count l
    parts a b qa qb =
        let f : n + new.count ≤ min 2048 (min a b) = rw (← qa, ← qb) p.fit in
        let g : m ≤ min 2048 (min a b) = rw (← qa, ← qb) p.few.entries in
        record {
          entries_fit = rw qa (omega arith);
          few = omega arith;
          room = omega arith;
          room-entries = rw qa (omega arith);
          room-readings = rw qb (omega arith);
          steady = p.steady;
        }

-- ---- what is left
module _ (m n room : ℕ) (d : Directory) (new : Samples) (l : Blocks) (ts xs : List ℕ) where
  pub add-refused : (r : Refusal) → Err r ≡ test_in m n room d new
      → (let o = add_in m n room d new in (Err r ≡ addition_of o) × (Places o (answer_number {A = Counts} (Err r)) m m n n l l × PatternsAfter o ts xs ts xs))
  unfolding add_in
  add-refused r e = rw (← e) (refl, (record { number_is = refl; entries-are = refl; samples-are = refl; columns = refl }, (refl, refl)))

  pub add-passed : (k : ℕ) (l' : Blocks) {ts' xs' : List ℕ} → (Ok tt) ≡ test_in m n room d new
      → (let d' = directory_with d (counted_samples new) in
      k ≡ length d'.entries → n + new.count ≡ length d'.readings → l' ≡ blocks_with d' l → PatternsWith d' ts xs ts' xs'
      → (let a : Result Counts Refusal = Ok record { entries = k; samples = n + new.count } in
      let o = add_in m n room d new in
      (a ≡ addition_of o) × (Places o 0 m k n (n + new.count) l l' × PatternsAfter o ts xs ts' xs')))
  unfolding add_in
  add-passed k l' e qk qn ql qp = rw (← e) (rw (qk, qn), (record { number_is = refl; entries-are = qk; samples-are = qn; columns = ql }, qp))

pub samples-left : (m n : ℕ) (l : Blocks) (new : Samples) → Fitting m n new.count l → new.count ≤ 64 → length new.samples ≡ 64 → n + new.count ≡ length (directory_with (directory_in m n l) (counted_samples new)).readings
unfolding directory_of
samples-left m n l new f h e =
    let d = directory_in m n l in
    sym
    (length-map (insert_all (flat d) (counted_samples new)) reading_of
    ∙ insert_all-length (flat d) (counted_samples new)
    ∙ rw (flat-length d f.steady, length-take-le n (readings_in l) (omega (arith, f.room-readings)), length-take-le new.count new.samples (omega arith)))
