-- From the merged columns to the directory of the table with the new samples. Assumes nothing.
use mathlib.Core.Path.{◌≡◌, refl, sym, ap, subst, ◌∙◌}
use mathlib.Core.List.{List, [], ◌∷◌, ◌++◌, map}
use mathlib.Core.Bool.{Bool, true, false, cond}
use Prim.Native.Nat.{ℕ, suc, ◌+◌, ◌≤◌}
use native.Mathlib.Omega.{arith}
use lib.ListN.{length, take, drop, length-map}
use lib.Seq.{length-take-le, take-take}
use lib.Ieee.{Float}
use Rattle.numeric.specs.Order.{pattern_of}
use Rattle.lists.specs.Walk.{every}
use Rattle.corrections_table.specs.Table.{Columns, lent_samples, rows, sorted, sound_table, table_of}
use Rattle.corrections_table.specs.Add.{insert_all}
use Rattle.corrections_table.specs.Steps.{InsertedAll}
use Rattle.corrections_table.specs.declared.sample.Sample.{Sample}
use Rattle.corrections_table.proofs.ColumnLaws.{rows-length}
use Rattle.corrections_table.proofs.InsertLaws.{insert_all-length}
use Rattle.corrections_table.proofs.SeriesLaws.{insert_all-rises}
use Rattle.corrections_table.proofs.Places.{rises, sorted_rises}
use Rattle.corrections_directory.specs.Directory.{Directory, Entry, PatternsWith, Reading, blocks_with, column_of, directory_in, directory_of, entries_from, entry_of, entry_rows, flat, is_mine, joined, lent_blocks, reading_of, reading_rows}
use Rattle.corrections_directory.proofs.DirectoryLaws.{sound-parts}
use Rattle.corrections_directory.proofs.ColumnLaws.{flat-length}
use Rattle.corrections_directory.proofs.PatternLaws.{map_of}
use Rattle.corrections_add.specs.Steps.{EntriesMerged, Fitting, OfSignals, ReadingsMerged, Tiled, entries_up_to}
use Rattle.corrections_add.specs.Add.{directory_with}
use Rattle.corrections_add.proofs.SortLaws.{sorted-first}
use Rattle.corrections_add.proofs.MergeLaws.{new_row}

-- ---- a directory has no more entries than samples
fewer-joined : (s : Sample) (place : ℕ) (es : List Entry) → length (joined s place es) ≤ suc (length es)
unfolding joined
fewer-joined s place [] = omega arith
fewer-joined s place (e ∷ es) = go (is_mine s e)
  where
    go : (x : Bool) → length (cond x (entry_of s place (suc e.count) ∷ es) (entry_of s place 1 ∷ e ∷ es)) ≤ suc (suc (length es))
    go true = omega arith
    go false = omega arith

pub entries-fewer : (place : ℕ) (t : List Sample) → length (entries_from place t) ≤ length t
unfolding entries_from
entries-fewer place [] = omega arith
entries-fewer place (s ∷ t) = omega (arith, fewer-joined s place (entries_from (suc place) t), entries-fewer (suc place) t)

by-reading : {A : Type 0} (g : Reading → A) (t : List Sample) (d : List A) → map (λ (s : Sample). g (reading_of s)) t ++ drop (length t) d ≡ column_of g (map reading_of t) d
by-reading g t d = rw (length-map t reading_of, map_of g reading_of t)

-- ---- the columns of a directory and of sorted new samples
module _ {dc dv db df dn : List ℕ} {ts xs : List Float} {m n k : ℕ} (f : Fitting m n k (lent_blocks dc dv db df dn ts xs)) where
  pub sizes : length (take n (reading_rows ts xs)) ≡ n
  sizes = length-take-le n (reading_rows ts xs) (omega (arith, f.room-readings))

  pub tiled-by : Tiled dc dv db df dn m n
  tiled-by =
      let p = sound-parts (directory_in m n (lent_blocks dc dv db df dn ts xs)) f.steady in
      record { few = f.entries_fit; ascending = p.ascending; tiling = rw sizes at p.tiled }

  module _ (cs vs bs : List ℕ) (us ys : List Float) (h : k ≤ length (rows (lent_samples cs vs bs us ys))) (o : sorted (table_of k (lent_samples cs vs bs us ys)) ≡ true) where
    pub signals-by : OfSignals cs vs bs k (table_of k (lent_samples cs vs bs us ys))
    signals-by =
        record {
          count = length-take-le k (rows (lent_samples cs vs bs us ys)) h;
          constellations = λ x l. sym (ap (λ (s : Sample). s.constellation) (new_row dc dv db df dn m cs vs bs us ys k f.entries_fit h x l));
          svids = λ x l. sym (ap (λ (s : Sample). s.svid) (new_row dc dv db df dn m cs vs bs us ys k f.entries_fit h x l));
          bands = λ x l. sym (ap (λ (s : Sample). s.band) (new_row dc dv db df dn m cs vs bs us ys k f.entries_fit h x l));
          in_order = o;
        }

    -- the entries of all blocks with all new samples
    pub entries-all : entries_up_to (take n (reading_rows ts xs)) (take m (entry_rows dc dv db df dn)) (table_of k (lent_samples cs vs bs us ys)) m k ≡ (directory_with (directory_in m n (lent_blocks dc dv db df dn ts xs)) (table_of k (lent_samples cs vs bs us ys))).entries
    unfolding flat directory_of
    entries-all = rw (take-take m m (entry_rows dc dv db df dn) (omega arith), take-take k k (rows (lent_samples cs vs bs us ys)) (omega arith))

    pub count_fits : length (directory_with (directory_in m n (lent_blocks dc dv db df dn ts xs)) (table_of k (lent_samples cs vs bs us ys))).entries ≤ n + k
    unfolding directory_of
    count_fits =
        let d = directory_in m n (lent_blocks dc dv db df dn ts xs) in
        let u = table_of k (lent_samples cs vs bs us ys) in
        omega (arith, entries-fewer 0 (insert_all (flat d) u), insert_all-length (flat d) u, flat-length d f.steady, sizes, signals-by.count)

    pub columns-all : {dc' dv' db' df' dn' : List ℕ} {ts' xs' : List Float}
        → EntriesMerged (entries_up_to (take n (reading_rows ts xs)) (take m (entry_rows dc dv db df dn)) (table_of k (lent_samples cs vs bs us ys)) m k) dc dv db df dn dc' dv' db' df' dn'
        → (let t = insert_all (flat (directory_in m n (lent_blocks dc dv db df dn ts xs))) (table_of k (lent_samples cs vs bs us ys)) in
        ts' ≡ column_of (λ (s : Sample). s.time) t ts → xs' ≡ column_of (λ (s : Sample). s.correction) t xs
        → lent_blocks dc' dv' db' df' dn' ts' xs' ≡ blocks_with (directory_with (directory_in m n (lent_blocks dc dv db df dn ts xs)) (table_of k (lent_samples cs vs bs us ys))) (lent_blocks dc dv db df dn ts xs))
    unfolding directory_of
    columns-all {ts' = ts'} {xs' = xs'} e rt rx =
        let t = insert_all (flat (directory_in m n (lent_blocks dc dv db df dn ts xs))) (table_of k (lent_samples cs vs bs us ys)) in
        let a : ts' ≡ column_of (λ (r : Reading). r.time) (map reading_of t) ts = rt ∙ by-reading (λ (r : Reading). r.time) t ts in
        let b : xs' ≡ column_of (λ (r : Reading). r.correction) (map reading_of t) xs = rx ∙ by-reading (λ (r : Reading). r.correction) t xs in
        rw (e.constellations, e.svids, e.bands, e.firsts, e.counts, a, b, entries-all)

-- the patterns of the samples are those of the directory's readings
pub patterns-all : (d : Directory) (u : List Sample) {ts xs ts' xs' : List ℕ} → ReadingsMerged (insert_all (flat d) u) ts xs ts' xs' → PatternsWith (directory_with d u) ts xs ts' xs'
unfolding directory_of
patterns-all d u {ts} {xs} r =
    record {
      times = r.times ∙ by-reading (λ (r : Reading). pattern_of r.time) (insert_all (flat d) u) ts;
      corrections = r.corrections ∙ by-reading (λ (r : Reading). pattern_of r.correction) (insert_all (flat d) u) xs;
    }

pub patterns-same : {d d' : Directory} {ts xs ts' xs' : List ℕ} → d ≡ d' → PatternsWith d ts xs ts' xs' → PatternsWith d' ts xs ts' xs'
patterns-same {ts = ts} {xs = xs} {ts' = ts'} {xs' = xs'} e p = subst (λ (d : Directory). PatternsWith d ts xs ts' xs') e p

-- new samples may be sorted first
pub with-sorted : (d : Directory) (ss : List Sample) → directory_with d (insert_all [] ss) ≡ directory_with d ss
with-sorted d ss = ap directory_of (sorted-first (flat d) ss)

pub sorted-new : (ss : List Sample) → sorted (insert_all [] ss) ≡ true
sorted-new ss = sorted_rises (insert_all [] ss) ∙ insert_all-rises [] ss (unfold rises in refl)

-- ---- columns of 64 places
pub fits-64 : (l : Columns) (k : ℕ) → length l.constellations ≡ 64 → length l.svids ≡ 64 → length l.bands ≡ 64 → length l.times ≡ 64 → length l.corrections ≡ 64 → k ≤ 64 → k ≤ length (rows l)
fits-64 l k a b c d e h = omega (arith, rows-length l)

pub none-sound : sound_table [] ≡ true
unfolding sound_table every sorted
none-sound = refl

-- what was put into an empty table is sorted
pub table_is : (k : ℕ) (ss : List Sample) (l l' : Columns) → InsertedAll 0 k ss l l' → table_of k l' ≡ insert_all [] ss
table_is k ss l l' i = let z : 0 + k ≡ k = omega arith in sym (ap (λ (n : ℕ). table_of n l') z) ∙ i.table

module _ (k : ℕ) (ss : List Sample) (l l' : Columns) (i : InsertedAll 0 k ss l l') where
  pub table-sorted : sorted (table_of k l') ≡ true
  table-sorted = ap sorted (table_is k ss l l' i) ∙ sorted-new ss

  pub with-table : (d : Directory) → directory_with d (table_of k l') ≡ directory_with d ss
  with-table d = ap (directory_with d) (table_is k ss l l' i) ∙ with-sorted d ss
