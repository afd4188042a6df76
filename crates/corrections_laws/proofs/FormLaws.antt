-- Request (ix): each form of a table is recovered from the other, by the contracts of the two rearrangements. Assumes nothing.
use mathlib.Core.Path.{◌≡◌, refl, sym, ap, ◌∙◌}
use mathlib.Core.List.{List, [], ◌∷◌, ◌++◌}
use mathlib.Core.Bool.{Bool, true, false, cond, not, ◌||◌}
use Prim.Native.Nat.{ℕ, min, ◌≤◌}
use native.Mathlib.Omega.{arith}
use lib.Dec.{ltb}
use lib.ListN.{length, take, drop}
use lib.Seq.{length-take-le}
use borrow.Author.Tests.{ltb-false, le-ltb}
use lib.Ieee.{Float}
use Rattle.lists.proofs.Walk.{or_no}
use Rattle.numeric.specs.declared.refusal.Refusal.TheVariants.{TooMany, RecordOutOfRange}
use Rattle.numeric.specs.Rules.{ruled}
use Rattle.numeric.proofs.RefusalLaws.{not-zero}
use Rattle.corrections_table.specs.Table.{Columns, capacity, lent_samples, rows, sound_table, table_of}
use Rattle.corrections_table.specs.declared.sample.Sample.{Sample}
use Rattle.corrections_table.proofs.ColumnLaws.{rows-length}
use Rattle.corrections_directory.specs.Directory.{Blocks, Directory, Entry, block_capacity, directory_in, directory_of, entries_from, entries_in, entry_rows, flat, lent_blocks, readings_in, reading_rows, sound_directory}
use Rattle.corrections_directory.specs.Rearrange.{entries_are, entries_with, filed_number, filed_of, listed_number, listed_of, samples_are, signals_with, unfiled, unlisted}
use Rattle.corrections_directory.proofs.DirectoryLaws.{directory-flat, flat-directory, sound-flat}
use Rattle.corrections_directory.proofs.NarrowLaws.{sound-directory}
use Rattle.corrections_directory.proofs.ColumnLaws.{entries-length, readings-length, flat-length, rearranged, restored}
use Rattle.corrections_forget.proofs.HistoryLaws.{sorted_of}
use Rattle.corrections_add.proofs.CountLaws.{fields-of}
use Rattle.corrections_add.proofs.PlaceLaws.{entries-fewer}
use Rattle.corrections_convert.specs.Lent.{Files, Lists}
use Rattle.corrections_laws.specs.Typed.{Typed, u16, u32}
use Rattle.corrections_laws.proofs.ColumnLaws.{column-length, signals-of, table-narrow}

-- ---- what an answer of 0 says

record Filing (n long : ℕ) (l : Columns) : Type 0 where
  few : n ≤ 2048
  in-long : n ≤ long
  in_rows : n ≤ length (rows l)
  sound : sound_table (table_of n l) ≡ true
  is : filed_of n long l ≡ entries_are (entries_from 0 (table_of n l))

filing : (n long : ℕ) (l : Columns) → 0 ≡ filed_number (filed_of n long l) → Filing n long l
unfolding filed_of directory_of ruled
filing n long l e = go (ltb (min long (capacity l)) n) (sound_table (table_of n l)) refl refl e
  where
    go : (x y : Bool) → ltb (min long (capacity l)) n ≡ x → sound_table (table_of n l) ≡ y
        → 0 ≡ filed_number (cond x (unfiled TooMany) (cond (not y) (unfiled RecordOutOfRange) (entries_are (entries_from 0 (table_of n l))))) → Filing n long l
    go true y p q z = absurd (not-zero TooMany (sym z))
    go false false p q z = absurd (not-zero RecordOutOfRange (sym z))
    go false true p q z =
        let k = ltb-false (min long (capacity l)) n p in
        record { few = omega arith; in-long = omega arith; in_rows = omega arith; sound = q; is = rw (p, q) }

pub filed : (n long : ℕ) (l : Columns) → n ≤ 2048 → n ≤ long → n ≤ length (rows l) → sound_table (table_of n l) ≡ true → filed_of n long l ≡ entries_are (entries_from 0 (table_of n l))
unfolding filed_of directory_of ruled
filed n long l a b c s = let k : n ≤ min long (capacity l) = omega arith in rw (le-ltb (min long (capacity l)) n k, s)

record Listing (m n long : ℕ) (l : Blocks) : Type 0 where
  few : n ≤ 2048
  in-long : n ≤ long
  in-entries : m ≤ length (entries_in l)
  in-readings : n ≤ length (readings_in l)
  sound : sound_directory (directory_in m n l) ≡ true
  is : listed_of m n long l ≡ samples_are (flat (directory_in m n l))

listing : (m n long : ℕ) (l : Blocks) → 0 ≡ listed_number (listed_of m n long l) → Listing m n long l
unfolding listed_of ruled
listing m n long l e = go ((ltb (block_capacity l) m || ltb (block_capacity l) n) || ltb long n) (sound_directory (directory_in m n l)) refl refl e
  where
    go : (x y : Bool) → ((ltb (block_capacity l) m || ltb (block_capacity l) n) || ltb long n) ≡ x → sound_directory (directory_in m n l) ≡ y
        → 0 ≡ listed_number (cond x (unlisted TooMany) (cond (not y) (unlisted RecordOutOfRange) (samples_are (flat (directory_in m n l))))) → Listing m n long l
    go true y p q z = absurd (not-zero TooMany (sym z))
    go false false p q z = absurd (not-zero RecordOutOfRange (sym z))
    go false true p q z =
        let j = or_no (ltb (block_capacity l) m || ltb (block_capacity l) n) (ltb long n) p in
        let k = or_no (ltb (block_capacity l) m) (ltb (block_capacity l) n) j.0 in
        let a = ltb-false (block_capacity l) m k.0 in
        let b = ltb-false (block_capacity l) n k.1 in
        record { few = omega arith; in-long = ltb-false long n j.1; in-entries = omega arith; in-readings = omega arith; sound = q; is = rw (p, q) }

listed : (m n long : ℕ) (l : Blocks) → m ≤ n → n ≤ 2048 → n ≤ long → n ≤ length (entries_in l) → n ≤ length (readings_in l) → sound_directory (directory_in m n l) ≡ true
    → listed_of m n long l ≡ samples_are (flat (directory_in m n l))
unfolding listed_of ruled
listed m n long l a b c e f s =
    let k : n ≤ block_capacity l = omega arith in
    rw (le-ltb (block_capacity l) m (omega arith), le-ltb (block_capacity l) n k, le-ltb long n c, s)

same_entries : (t : List Sample) → (directory_of t).entries ≡ entries_from 0 t
unfolding directory_of
same_entries t = refl

-- ---- the directory of a table, and back

-- the directory's columns with entries at the front have the capacity they had
entries-room : (es : List Entry) (dc dv db df dn : List ℕ) (ts xs : List Float) → length es ≤ length (entry_rows dc dv db df dn)
    → length (entries_in (entries_with es (lent_blocks dc dv db df dn ts xs))) ≡ length (entry_rows dc dv db df dn)
entries-room es dc dv db df dn ts xs h =
    let a = entries-length dc dv db df dn in
    let l = entries_with es (lent_blocks dc dv db df dn ts xs) in
    entries-length l.constellations l.svids l.bands l.firsts l.counts
    ∙ rw (
      column-length (λ (e : Entry). e.constellation) es dc (omega arith),
      column-length (λ (e : Entry). e.svid) es dv (omega arith),
      column-length (λ (e : Entry). e.band) es db (omega arith),
      column-length (λ (e : Entry). e.start) es df (omega arith),
      column-length (λ (e : Entry). e.count) es dn (omega arith),
    ) (sym a)

module _ (n m m' : ℕ) (l : Columns) (dc dv db df dn : List ℕ) (l' : Blocks)
    (files : Files (filed_of n (length (entry_rows dc dv db df dn)) l) 0 m m' (lent_blocks dc dv db df dn l.times l.corrections) l') where
  f : Filing n (length (entry_rows dc dv db df dn)) l
  f = filing n (length (entry_rows dc dv db df dn)) l files.number_is

  long : length (table_of n l) ≡ n
  long = length-take-le n (rows l) f.in_rows

  left : l' ≡ entries_with (entries_from 0 (table_of n l)) (lent_blocks dc dv db df dn l.times l.corrections)
  left = rw f.is at files.columns

  pub files-count : m' ≡ length (entries_from 0 (table_of n l))
  files-count = rw f.is at files.entries-are

  few : length (entries_from 0 (table_of n l)) ≤ n
  few = omega (arith, entries-fewer 0 (table_of n l), long)

  pub files-hold : directory_in m' n l' ≡ directory_of (table_of n l)
  files-hold = rw (left, files-count) (rearranged n l dc dv db df dn f.in_rows)

  samples : flat (directory_in m' n l') ≡ table_of n l
  samples = ap flat files-hold ∙ flat-directory (table_of n l)

  -- the table is sound, and its samples lie within its capacity
  pub files-sound : sound_table (table_of n l) ≡ true
  files-sound = f.sound

  pub files-fit : n ≤ capacity l
  files-fit = omega (arith, f.few, f.in_rows)

  entries-long : length (entries_in l') ≡ length (entry_rows dc dv db df dn)
  entries-long = rw left (entries-room (entries_from 0 (table_of n l)) dc dv db df dn l.times l.corrections (omega (arith, few, f.in-long)))

  readings-stay : length (readings_in l') ≡ length (reading_rows l.times l.corrections)
  readings-stay = rw left

  -- the directory's columns have the capacity that they had
  pub files-room : block_capacity l' ≡ block_capacity (lent_blocks dc dv db df dn l.times l.corrections)
  files-room = rw (entries-long, readings-stay)

  module _ (typed : Typed (u16 l.svids ∷ u32 l.bands ∷ [])) (us ws ys : List ℕ) (in-us : n ≤ length us) (in-ws : n ≤ length ws) (in_ys : n ≤ length ys) (number : ℕ) (t' : Columns)
      (lists : Lists (listed_of m' n (min (length us) (min (length ws) (length ys))) l') number (lent_samples us ws ys l.times l.corrections) t') where
    sound : sound_directory (directory_in m' n l') ≡ true
    sound = ap sound_directory files-hold ∙ sound-directory (table_of n l) (table-narrow n l typed.0 typed.1.0) (sorted_of (table_of n l) f.sound) ∙ f.sound

    answer : listed_of m' n (min (length us) (min (length ws) (length ys))) l' ≡ samples_are (table_of n l)
    answer =
        let e = entries-long in
        let r = readings-stay in
        let k : n ≤ length (reading_rows l.times l.corrections) = omega (arith, f.in_rows, rows-length l, readings-length l.times l.corrections) in
        listed m' n (min (length us) (min (length ws) (length ys))) l' (omega (arith, few, files-count)) f.few (omega arith) (omega (arith, f.in-long)) (omega arith) sound
        ∙ ap samples_are samples

    -- the way back answers 0
    pub signals-answer : number ≡ 0
    signals-answer = lists.number_is ∙ ap listed_number answer

    -- and gives back the first n signals; later places stay
    pub signals-back : t' ≡ lent_samples (take n l.constellations ++ drop n us) (take n l.svids ++ drop n ws) (take n l.bands ++ drop n ys) l.times l.corrections
    signals-back =
        let s = signals-of n l f.in_rows in
        lists.columns ∙ rw (answer, s.constellations, s.svids, s.bands, long)

-- ---- the table of a directory, and back
module _ (m n : ℕ) (l : Blocks) (us ws ys : List ℕ) (t' : Columns) (lists : Lists (listed_of m n (min (length us) (min (length ws) (length ys))) l) 0 (lent_samples us ws ys l.times l.corrections) t')
    (dc dv db df dn : List ℕ) (room : n ≤ length (entry_rows dc dv db df dn)) (number k k' : ℕ) (l' : Blocks)
    (files : Files (filed_of n (length (entry_rows dc dv db df dn)) t') number k k' (lent_blocks dc dv db df dn l.times l.corrections) l') where
  g : Listing m n (min (length us) (min (length ws) (length ys))) l
  g = listing m n (min (length us) (min (length ws) (length ys))) l lists.number_is

  given : t' ≡ signals_with (flat (directory_in m n l)) (lent_samples us ws ys l.times l.corrections)
  given = rw g.is at lists.columns

  table : table_of n t' ≡ flat (directory_in m n l)
  table = rw given (restored m n l us ws ys g.in-readings g.sound)

  wide : length (flat (directory_in m n l)) ≡ n
  wide = flat-length (directory_in m n l) g.sound ∙ length-take-le n (readings_in l) g.in-readings

  in_rows : n ≤ length (rows t')
  in_rows =
      let s = flat (directory_in m n l) in
      let a = rows-length (signals_with s (lent_samples us ws ys l.times l.corrections)) in
      let b = column-length (λ (x : Sample). x.constellation) s us (omega (arith, wide, g.in-long)) in
      let c = column-length (λ (x : Sample). x.svid) s ws (omega (arith, wide, g.in-long)) in
      let d = column-length (λ (x : Sample). x.band) s ys (omega (arith, wide, g.in-long)) in
      rw given (omega (arith, a, b, c, d, g.in-long, g.in-readings, readings-length l.times l.corrections))

  again : filed_of n (length (entry_rows dc dv db df dn)) t' ≡ entries_are (take m (entries_in l))
  again =
      filed n (length (entry_rows dc dv db df dn)) t' g.few room in_rows (ap sound_table table ∙ sound-flat (directory_in m n l) g.sound)
      ∙ ap entries_are (ap (entries_from 0) table ∙ sym (same_entries (flat (directory_in m n l))) ∙ ap (λ (x : Directory). x.entries) (directory-flat (directory_in m n l) g.sound))

  -- the way back answers 0, with the same count
  pub directory-answer : number ≡ 0
  directory-answer = files.number_is ∙ ap filed_number again

  pub directory-count : k' ≡ m
  directory-count = files.entries-are ∙ rw again (length-take-le m (entries_in l) g.in-entries)

  -- and the same entries; later places stay
  pub directory-back : l' ≡ lent_blocks (take m l.constellations ++ drop m dc) (take m l.svids ++ drop m dv) (take m l.bands ++ drop m db) (take m l.firsts ++ drop m df) (take m l.counts ++ drop m dn) l.times l.corrections
  directory-back =
      let s = fields-of m l.constellations l.svids l.bands l.firsts l.counts g.in-entries in
      files.columns ∙ rw (again, s.cs-are, s.vs-are, s.bs-are, s.fs-are, s.ns-are, length-take-le m (entries_in l) g.in-entries)
