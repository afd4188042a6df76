-- An epoch with the mark that there are no states leaves the table, to the last bit. Assumes nothing.
use mathlib.Core.Path.{◌≡◌, refl, ap, subst, ◌∙◌}
use mathlib.Core.List.{List, [], ◌∷◌, ◌++◌, map}
use mathlib.Core.Bool.{Bool, true, false, cond}
use Prim.Native.Nat.{ℕ, zero, suc, ◌≤◌}
use native.Mathlib.Nat.{le_of_suc-le-suc, not-suc-le-zero}
use native.Mathlib.Omega.{arith}
use lib.ListN.{length, take, take-append-drop}
use lib.Seq.{length-take-le}
use lib.Ieee.{Float}
use Rattle.lists.specs.Walk.{collect, every, first}
use Rattle.numeric.specs.Order.{pattern_of}
use Rattle.numeric.specs.declared.vec3.Vec3.{Vec3}
use Rattle.corrections_table.specs.Add.{insert_all}
use Rattle.corrections_directory.specs.Directory.{Blocks, blocks_with, column_of, Directory, directory_in, directory_of, entries_in, Entry, floats, in_reach, Reading, reading_rows, readings_in, sound_directory}
use Rattle.corrections_directory.proofs.DirectoryLaws.{directory-flat, sound-parts}
use Rattle.corrections_directory.proofs.ColumnLaws.{readings-length}
use Rattle.corrections_add.proofs.CountLaws.{fields-of}
use Rattle.corrections_epoch.specs.Raw.{enabled, first_raw, raw_at, raws_of}
use Rattle.corrections_epoch.specs.Sample.{epoch_samples, samples_of}
use Rattle.corrections_epoch.specs.declared.record.Range.{Range}
use Rattle.corrections_epoch.specs.declared.record.Settings.{Settings}
use Rattle.corrections_laws.specs.Calls.{AddsEpoch, Caller, Epoch, as_blocks, directory, held_samples, new_samples, table_columns}
use Rattle.corrections_laws.specs.Typed.{Typed}
use Rattle.corrections_directory.proofs.PatternLaws.{floats-length, map_of, numbers-in, numbers_of, patterns-back}
use Rattle.corrections_laws.proofs.StepLaws.{Added, add-accepted, add-refused, same-caller, zero_or}

-- ---- no states, no samples
none-raw : (set : Settings) (base rover : Vec3) (l : List Range) → raws_of set base rover [] l ≡ []
unfolding raws_of collect raw_at first_raw first
none-raw set base rover [] = refl
none-raw set base rover (r ∷ l) = go (enabled set r.constellation) (none-raw set base rover l)
  where
    go : (x : Bool) → raws_of set base rover [] l ≡ [] → cond x [] [] ++ raws_of set base rover [] l ≡ []
    go true e = e
    go false e = e

none-new : (e : Epoch) → e.present ≡ false → new_samples e ≡ []
unfolding epoch_samples samples_of collect
none-new e p = rw (p, none-raw)

-- ---- what is read of columns, written back
readings-fields : (n : ℕ) (ts xs : List Float) → n ≤ length (reading_rows ts xs) → (map (λ (r : Reading). r.time) (take n (reading_rows ts xs)) ≡ take n ts) × (map (λ (r : Reading). r.correction) (take n (reading_rows ts xs)) ≡ take n xs)
unfolding reading_rows
readings-fields zero ts xs h = (refl, refl)
readings-fields (suc n) [] xs h = absurd (not-suc-le-zero h)
readings-fields (suc n) (t ∷ ts) [] h = absurd (not-suc-le-zero h)
readings-fields (suc n) (t ∷ ts) (x ∷ xs) h =
    let r = readings-fields n ts xs (le_of_suc-le-suc h) in
    (ap (λ (l : List Float). t ∷ l) r.0, ap (λ (l : List Float). x ∷ l) r.1)

column-same : {R A : Type 0} (f : R → A) (l : List R) (n : ℕ) (column : List A) → map f l ≡ take n column → length l ≡ n → column_of f l column ≡ column
column-same f l n column e k = rw (e, k) (take-append-drop n column)

pub blocks-same : (m n : ℕ) (l : Blocks) → m ≤ length (entries_in l) → n ≤ length (readings_in l) → blocks_with (directory_in m n l) l ≡ l
blocks-same m n l h k =
    let s = fields-of m l.constellations l.svids l.bands l.firsts l.counts h in
    let r = readings-fields n l.times l.corrections k in
    let a = length-take-le m (entries_in l) h in
    let b = length-take-le n (readings_in l) k in
    rw (
      column-same (λ (e : Entry). e.constellation) (take m (entries_in l)) m l.constellations s.cs-are a,
      column-same (λ (e : Entry). e.svid) (take m (entries_in l)) m l.svids s.vs-are a,
      column-same (λ (e : Entry). e.band) (take m (entries_in l)) m l.bands s.bs-are a,
      column-same (λ (e : Entry). e.start) (take m (entries_in l)) m l.firsts s.fs-are a,
      column-same (λ (e : Entry). e.count) (take m (entries_in l)) m l.counts s.ns-are a,
      column-same (λ (r : Reading). r.time) (take n (readings_in l)) n l.times r.0 b,
      column-same (λ (r : Reading). r.correction) (take n (readings_in l)) n l.corrections r.1 b,
    )

-- patterns of a sound directory, read and written back
module _ (h : Caller) (typed : Typed (table_columns h)) (few : h.samples ≤ length (readings_in (as_blocks h))) (sound : sound_directory (directory h) ≡ true) where
  reach : every in_reach (take h.samples (reading_rows (floats h.times) (floats h.corrections))) ≡ true
  reach = (sound-parts (directory h) sound).in_reach

  within : (h.samples ≤ length h.times) × (h.samples ≤ length h.corrections)
  within = (omega (arith, readings-length (floats h.times) (floats h.corrections), floats-length h.times), omega (arith, readings-length (floats h.times) (floats h.corrections), floats-length h.corrections))

  pub times-same : column_of (λ (r : Reading). pattern_of r.time) (directory h).readings h.times ≡ h.times
  times-same =
      column-same (λ (r : Reading). pattern_of r.time) (directory h).readings h.samples h.times
      (map_of pattern_of (λ (r : Reading). r.time) (directory h).readings
      ∙ ap (map pattern_of) (readings-fields h.samples (floats h.times) (floats h.corrections) few).0
      ∙ patterns-back h.times h.samples within.0 typed.1.1.0 (λ x l. numbers-in h.times h.corrections h.samples few reach x l))
      (length-take-le h.samples (readings_in (as_blocks h)) few)

  pub corrections-same : column_of (λ (r : Reading). pattern_of r.correction) (directory h).readings h.corrections ≡ h.corrections
  corrections-same =
      column-same (λ (r : Reading). pattern_of r.correction) (directory h).readings h.samples h.corrections
      (map_of pattern_of (λ (r : Reading). r.correction) (directory h).readings
      ∙ ap (map pattern_of) (readings-fields h.samples (floats h.times) (floats h.corrections) few).1
      ∙ patterns-back h.corrections h.samples within.1 typed.1.1.1.0 (λ x l. numbers_of h.times h.corrections h.samples few reach x l))
      (length-take-le h.samples (readings_in (as_blocks h)) few)

-- ---- the call: accepted or not, it leaves every bit of every column, and both counts
pub marked : (h : Caller) (e : Epoch) (number : ℕ) (h' : Caller) → AddsEpoch h e number h' → Typed (table_columns h) → e.present ≡ false → h' ≡ h
marked h e number h' a typed p = zero_or number (λ (z : number ≡ 0). accepted (add-accepted h e h' (subst (λ (i : ℕ). AddsEpoch h e i h') z a))) (λ (n : number ≡ 0 → ⊥). add-refused h e number h' a n)
  where
    accepted : Added h e h' → h' ≡ h
    accepted s =
        let none : insert_all (held_samples h) (new_samples e) ≡ held_samples h = ap (insert_all (held_samples h)) (none-new e p) ∙ (unfold insert_all in refl) in
        let is : directory_of (insert_all (held_samples h) (new_samples e)) ≡ directory h = ap directory_of none ∙ directory-flat (directory h) s.passes.sound in
        let me : h.entries ≤ length (entries_in (as_blocks h)) = omega (arith, s.passes.few-entries) in
        let ne : h.samples ≤ length (readings_in (as_blocks h)) = omega (arith, s.passes.few-samples) in
        same-caller h h'
        (s.entries ∙ ap (λ (d : Directory). length d.entries) is ∙ length-take-le h.entries (entries_in (as_blocks h)) me)
        (s.count ∙ rw (none-new e p) (omega arith))
        (s.columns-are ∙ ap (λ (d : Directory). blocks_with d (as_blocks h)) is ∙ blocks-same h.entries h.samples (as_blocks h) me ne)
        (s.patterns.times ∙ ap (λ (d : Directory). column_of (λ (r : Reading). pattern_of r.time) d.readings h.times) is ∙ times-same h typed ne s.passes.sound)
        (s.patterns.corrections ∙ ap (λ (d : Directory). column_of (λ (r : Reading). pattern_of r.correction) d.readings h.corrections) is ∙ corrections-same h typed ne s.passes.sound)
