-- An epoch's samples are in range, and adding them is adding the epoch. Assumes nothing.
use Rattle.numeric.specs.Refusal.{answer_number}
use Rattle.std.specs.Prelude.{Option, Result, Ok, Err, ⊤}
use Rattle.corrections_add.specs.declared.add.Counts.{Counts}
use mathlib.Core.Path.{◌≡◌, refl, ap, subst}
use mathlib.Core.List.{List, [], ◌∷◌, ◌++◌}
use mathlib.Core.Bool.{Bool, true, false, cond, not, ◌&&◌, ◌||◌}
use Prim.Native.Nat.{ℕ, ◌+◌, ◌*◌, ◌≤◌, ◌<◌}
use native.Mathlib.Nat.{le_trans, le_of_eq, le_of_mul-le-mul_right, mul-le-mul_right, mul_right_comm, mul-one}
use native.Mathlib.Omega.{arith}
use borrow.Author.Tests.{ltb-false, le-ltb, not-true}
use lib.Dec.{ltb, leb}
use lib.ListN.{length, take}
use lib.Ieee.{Float, nan, inf, fin, lt, le, up, down, of_int}
use lib.Ieee.Scale.{finite}
use lib.Ieee.Fits.{down_pos}
use Rattle.exact.specs.Float.{◌⊖◌}
use Rattle.lists.specs.Walk.{every, collect, Holds}
use Rattle.numeric.specs.Rules.{ruled}
use Rattle.numeric.specs.Real.{abs, in_range}
use Rattle.numeric.specs.declared.vec3.Vec3.{Vec3}
use Rattle.numeric.specs.Vec3.{vector_in_range}
use Rattle.numeric.specs.declared.refusal.Refusal.{Refusal}
use Rattle.numeric.specs.declared.refusal.Refusal.TheVariants.{TooMany, SettingOutOfRange, RecordOutOfRange, TableFull}
use Rattle.corrections_table.specs.Table.{ranged}
use Rattle.corrections_table.specs.Add.{counted_samples}
use Rattle.corrections_table.specs.declared.add.Samples.{Samples}
use Rattle.corrections_table.proofs.TableLaws.{and_left, and_right}
use Rattle.corrections_table.proofs.SmallLaws.{Small, range_small}
use Rattle.corrections_directory.specs.Directory.{Blocks, Directory, sound_directory}
use Rattle.corrections_add.specs.Add.{PatternsAfter, Placed, Places, add_in, added_in, addition_of, directory_with, entries_now, placed_of, refused_in, samples_now, test_in}
use Rattle.corrections_epoch.specs.Record.{ranges_of, states_of, range_in_range}
use Rattle.corrections_epoch.specs.Raw.{raws_of}
use Rattle.corrections_epoch.specs.Sample.{group, clock_of, kept, corrected_sample, corrected, sample_at, samples_of, epoch_samples}
use Rattle.corrections_epoch.specs.AddEpoch.{too_many, settings_in_range, records_in_range, epoch_placed}
use Rattle.corrections_epoch.specs.Steps.{records_test}
use Rattle.corrections_epoch.specs.declared.record.BaseEpoch.{BaseEpoch}
use Rattle.corrections_epoch.specs.declared.record.States.{States}
use Rattle.corrections_epoch.specs.declared.record.Settings.{Settings}
use Rattle.corrections_epoch.specs.declared.raw.Raw.{Raw}
use Rattle.corrections_epoch.specs.declared.raw.Raws.{Raws}
use Rattle.corrections_epoch.proofs.TestLaws.{PassedRecords}

-- ---- a kept correction is in range
-- n / d is not above m / e, which is at most b
not-above : (m e n d b : ℕ) → 0 < e → n * e ≤ m * d → m ≤ b * e → n ≤ b * d
not-above m e n d b E h g = le_of_mul-le-mul_right (le_trans h (le_trans (mul-le-mul_right d g) (le_of_eq (mul_right_comm b e d)))) E

kept_small : (b : ℕ) (max x : Float) → Small b max → finite x ≡ true → lt max (abs x) ≡ false → Small b x
unfolding lt abs
kept_small b nan x g f h = absurd g
kept_small b (inf s) x g f h = absurd g
kept_small b (fin s m e) nan g f h = absurd (let z : ◌≡◌ {A = ℕ} 0 1 = cc in omega arith)
kept_small b (fin s m e) (inf t) g f h = absurd (let z : ◌≡◌ {A = ℕ} 0 1 = cc in omega arith)
kept_small b (fin false m e) (fin t n d) g f h = not-above (m * up e) (down e) (n * up d) (down d) b (down_pos e) (ltb-false (m * up e * down d) (n * up d * down e) h) g
kept_small b (fin true m e) (fin t n d) g f h =
    not-above (m * up e) (down e) (n * up d) (down d) b (down_pos e) (least (m * up e * down d) (n * up d * down e) (ltb-false 0 (m * up e * down d + n * up d * down e) h)) g
  where
    least : (p q : ℕ) → p + q ≤ 0 → q ≤ p
    least p q h = omega arith

small-range : (x : Float) → Small 1000000000 x → in_range x ≡ true
unfolding in_range le abs of_int
small-range nan h = absurd h
small-range (inf s) h = absurd h
small-range (fin s m e) h = at_most (m * up e * 1) (1000000000 * down e) (le_trans (le_of_eq (mul-one (m * up e))) h)
  where
    at_most : (a b : ℕ) → a ≤ b → (ltb a b || (lib.Dec.eqb a b && true)) ≡ true
    at_most a b h = go (ltb a b) refl
      where
        go : (t : Bool) → ltb a b ≡ t → (t || (lib.Dec.eqb a b && true)) ≡ true
        go true e = refl
        go false e = let q : a ≡ b = omega (arith, ltb-false a b e) in rw (borrow.Author.Tests.eq-eqb a b q)

kept-range : (max x : Float) → in_range max ≡ true → kept max x ≡ true → in_range x ≡ true
unfolding kept
kept-range max x g k = small-range x (kept_small 1000000000 max x (range_small max g) (and_right (not (lt max (abs x))) _ k) (not-true (lt max (abs x)) (and_left _ (finite x) k)))

-- ---- all samples of an epoch are
every_append : {A : Type 0} (p : A → Bool) (xs ys : List A) → every p xs ≡ true → every p ys ≡ true → every p (xs ++ ys) ≡ true
unfolding every
every_append p [] ys e f = f
every_append p (x ∷ xs) ys e f = rw (and_left (p x) _ e) (every_append p xs ys (and_right (p x) _ e) f)

every-collect : {A B : Type 0} (p : B → Bool) (f : A → List B) (l : List A) → ((x : A) → every p (f x) ≡ true) → every p (collect f l) ≡ true
unfolding every collect
every-collect p f [] h = refl
every-collect p f (x ∷ l) h = every_append p (f x) (collect f l) (h x) (every-collect p f l h)

module _ (time max : Float) (t : in_range time ≡ true) (m : in_range max ≡ true) where
  corrected-ranged : (r : Raw) (clock : Float) → every ranged (corrected time max r clock) ≡ true
  unfolding corrected every ranged
  corrected-ranged r clock = go (kept max (r.value ⊖ clock)) refl
    where
      go : (b : Bool) → kept max (r.value ⊖ clock) ≡ b → every ranged (cond b (corrected_sample time r (r.value ⊖ clock) ∷ []) []) ≡ true
      go true e = rw (t, kept-range max (r.value ⊖ clock) m e)
      go false e = refl

  pub samples-ranged : (raws : List Raw) → every ranged (samples_of time max raws) ≡ true
  unfolding samples_of sample_at
  samples-ranged raws = every-collect ranged _ raws (λ r. go r (leb 8 r.constellation || ltb (length (group r.constellation raws)) 3))
    where
      go : (r : Raw) (b : Bool) → every ranged (cond b [] (corrected time max r (clock_of (group r.constellation raws)))) ≡ true
      go r true = unfold every in refl
      go r false = corrected-ranged r (clock_of (group r.constellation raws))

pub time-in-range : (e : BaseEpoch) (s : Option States) (base rover : Vec3) → records_in_range e s base rover ≡ true → in_range e.time ≡ true
unfolding records_in_range
time-in-range e s base rover q =
    let p = vector_in_range base && vector_in_range rover in
    let r = every range_in_range (ranges_of e) in
    and_right p (in_range e.time) (and_left (p && in_range e.time) r (and_left (p && in_range e.time && r) _ q))

-- ---- an epoch that is refused before its samples are made, and one that is not
-- the samples of the raw corrections are the epoch's
pub epoch-holds : (e : BaseEpoch) (s : Option States) (base rover : Vec3) (set : Settings) (raws : Raws) → Holds raws.count raws.raws (raws_of set base rover (states_of s) (ranges_of e))
    → (new : Samples) → Holds new.count new.samples (samples_of e.time set.max_correction (take raws.count raws.raws)) → Holds new.count new.samples (epoch_samples base rover set e s)
unfolding epoch_samples
epoch-holds e s base rover set raws hr new hs = subst (λ (l : List Raw). Holds new.count new.samples (samples_of e.time set.max_correction l)) hr.all hs

-- they are in range
counted-ranged : (m n room : ℕ) (e : BaseEpoch) (s : Option States) (base rover : Vec3) (set : Settings) → PassedRecords m n room e s base rover set → (new : Samples) → Holds new.count new.samples (epoch_samples base rover set e s) → every ranged (counted_samples new) ≡ true
unfolding epoch_samples settings_in_range
counted-ranged m n room e s base rover set p new h =
    rw h.all (samples-ranged e.time set.max_correction (time-in-range e s base rover p.records) (and_right (in_range set.max_gap) _ p.settings) _)

-- what a call leaves is said by the outcome
pub told_same : {o o' : Placed} {r : Result Counts Refusal} {m n : ℕ} {l l' : Blocks} (ts xs ts' xs' : List ℕ) → o ≡ o'
    → (r ≡ addition_of o) × (Places o (answer_number r) m (entries_now r m) n (samples_now r n) l l' × PatternsAfter o ts xs ts' xs')
    → (r ≡ addition_of o') × (Places o' (answer_number r) m (entries_now r m) n (samples_now r n) l l' × PatternsAfter o' ts xs ts' xs')
told_same ts xs ts' xs' e a = rw (← e) a

pub told-nothing : {o : Placed} (r : Refusal) (m n : ℕ) (l : Blocks) (ts xs : List ℕ) → refused_in r ≡ o
    → (Err r ≡ addition_of o) × (Places o (answer_number {A = Counts} (Err r)) m m n n l l × PatternsAfter o ts xs ts xs)
told-nothing r m n l ts xs e = rw (← e) (refl, (record { number_is = refl; entries-are = refl; samples-are = refl; columns = refl }, (refl, refl)))

module _ (m n room : ℕ) (d : Directory) (e : BaseEpoch) (s : Option States) (base rover : Vec3) (set : Settings) where
  pub placed-refused : (r : Refusal) → Err r ≡ records_test m n room e s base rover set → refused_in r ≡ epoch_placed m n room d e s base rover set
  unfolding records_test epoch_placed ruled
  placed-refused r q = go (ltb room m || too_many n room e s) (settings_in_range set) (records_in_range e s base rover) q
    where
      go : (a b x : Bool) → ◌≡◌ {A = Result ⊤ Refusal} (Err r) (cond a (Err TooMany) (cond (not b) (Err SettingOutOfRange) (cond (not x) (Err RecordOutOfRange) (Ok tt))))
          → refused_in r
          ≡ cond a (refused_in TooMany)
          (cond (not b) (refused_in SettingOutOfRange)
          (cond (not (x && sound_directory d)) (refused_in RecordOutOfRange)
          (cond (ltb room (n + length (epoch_samples base rover set e s))) (refused_in TableFull) (added_in (directory_with d (epoch_samples base rover set e s))))))
      go true b x q = let z : r ≡ TooMany = cc in ap refused_in z
      go false false x q = let z : r ≡ SettingOutOfRange = cc in ap refused_in z
      go false true false q = let z : r ≡ RecordOutOfRange = cc in ap refused_in z
      go false true true q = absurd (let z : ◌≡◌ {A = ℕ} 0 1 = cc in omega arith)

  module _ (p : PassedRecords m n room e s base rover set) (new : Samples) (h : Holds new.count new.samples (epoch_samples base rover set e s)) where
    pub placed-passed : add_in m n room d new ≡ epoch_placed m n room d e s base rover set
    unfolding add_in test_in epoch_placed ruled
    placed-passed =
        rw (le-ltb room m p.few-entries, le-ltb room n p.few, le-ltb 64 new.count h.room, counted-ranged m n room e s base rover set p new h, h.all, p.not_many, p.settings, p.records, ← h.count) (go (sound_directory d) (ltb room (n + new.count)))
      where
        go : (x y : Bool)
            → placed_of (cond (not (x && true)) (Err RecordOutOfRange) (cond y (Err TableFull) (Ok tt))) (directory_with d (epoch_samples base rover set e s))
            ≡ cond (not x) (refused_in RecordOutOfRange) (cond y (refused_in TableFull) (added_in (directory_with d (epoch_samples base rover set e s))))
        go true true = refl
        go true false = refl
        go false y = refl
