-- The signals of a table's rows are those of its columns, and what is written to the front of columns leaves their lengths. Assumes nothing.
use mathlib.Core.Path.{◌≡◌, refl, ap, ◌∙◌}
use mathlib.Core.List.{List, [], ◌∷◌, map}
use mathlib.Core.Bool.{true}
use Prim.Native.Nat.{ℕ, zero, suc, ◌^◌, ◌≤◌, ◌<◌}
use native.Mathlib.Nat.{not-suc-le-zero, le_of_suc-le-suc}
use native.Mathlib.Omega.{arith}
use lib.ListN.{length, get_or, take, drop, length-append, length-drop, length-map}
use borrow.Author.Tests.{lt-ltb}
use lib.Ieee.{Float}
use Rattle.lists.specs.Walk.{every}
use Rattle.corrections_table.specs.Table.{Columns, beside, rows, table_of}
use Rattle.corrections_table.specs.declared.sample.Sample.{Sample}
use Rattle.corrections_directory.specs.Directory.{Blocks, Directory, Entry, Reading, block_capacity, blocks_with, column_of, directory_in, entries_in, readings_in}
use Rattle.corrections_directory.proofs.ColumnLaws.{blocks-hold, entries-length, readings-length}
use Rattle.corrections_directory.proofs.NarrowLaws.{narrow}

-- ---- the signals of a table
pub record Signals (n : ℕ) (cs vs bs : List ℕ) (t : List Sample) : Type 0 where
  pub constellations : map (λ (s : Sample). s.constellation) t ≡ take n cs
  pub svids : map (λ (s : Sample). s.svid) t ≡ take n vs
  pub bands : map (λ (s : Sample). s.band) t ≡ take n bs

beside-signals : (n : ℕ) (cs vs bs : List ℕ) (ts xs : List Float) → n ≤ length (beside cs vs bs ts xs) → Signals n cs vs bs (take n (beside cs vs bs ts xs))
unfolding beside
beside-signals zero cs vs bs ts xs h = record { constellations = refl; svids = refl; bands = refl }
beside-signals (suc n) [] vs bs ts xs h = absurd (not-suc-le-zero h)
beside-signals (suc n) (c ∷ cs) [] bs ts xs h = absurd (not-suc-le-zero h)
beside-signals (suc n) (c ∷ cs) (v ∷ vs) [] ts xs h = absurd (not-suc-le-zero h)
beside-signals (suc n) (c ∷ cs) (v ∷ vs) (b ∷ bs) [] xs h = absurd (not-suc-le-zero h)
beside-signals (suc n) (c ∷ cs) (v ∷ vs) (b ∷ bs) (t ∷ ts) [] h = absurd (not-suc-le-zero h)
beside-signals (suc n) (c ∷ cs) (v ∷ vs) (b ∷ bs) (t ∷ ts) (x ∷ xs) h =
    let r = beside-signals n cs vs bs ts xs (le_of_suc-le-suc h) in
    record {
      constellations = ap (λ (l : List ℕ). c ∷ l) r.constellations;
      svids = ap (λ (l : List ℕ). v ∷ l) r.svids;
      bands = ap (λ (l : List ℕ). b ∷ l) r.bands;
    }

pub signals-of : (n : ℕ) (l : Columns) → n ≤ length (rows l) → Signals n l.constellations l.svids l.bands (table_of n l)
unfolding rows
signals-of n l h = beside-signals n l.constellations l.svids l.bands l.times l.corrections h

-- svids and bands of their columns' bits
beside-narrow : (n : ℕ) (cs vs bs : List ℕ) (ts xs : List Float) → ((i : ℕ) → get_or vs i 0 < 2 ^ 16) → ((i : ℕ) → get_or bs i 0 < 2 ^ 32) → every narrow (take n (beside cs vs bs ts xs)) ≡ true
unfolding beside every narrow
beside-narrow zero cs vs bs ts xs h k = refl
beside-narrow (suc n) [] vs bs ts xs h k = refl
beside-narrow (suc n) (c ∷ cs) [] bs ts xs h k = refl
beside-narrow (suc n) (c ∷ cs) (v ∷ vs) [] ts xs h k = refl
beside-narrow (suc n) (c ∷ cs) (v ∷ vs) (b ∷ bs) [] xs h k = refl
beside-narrow (suc n) (c ∷ cs) (v ∷ vs) (b ∷ bs) (t ∷ ts) [] h k = refl
beside-narrow (suc n) (c ∷ cs) (v ∷ vs) (b ∷ bs) (t ∷ ts) (x ∷ xs) h k =
    rw (lt-ltb v (2 ^ 16) (h 0), lt-ltb b (2 ^ 32) (k 0)) (beside-narrow n cs vs bs ts xs (λ i. h (suc i)) (λ i. k (suc i)))

pub table-narrow : (n : ℕ) (l : Columns) → ((i : ℕ) → get_or l.svids i 0 < 2 ^ 16) → ((i : ℕ) → get_or l.bands i 0 < 2 ^ 32) → every narrow (table_of n l) ≡ true
unfolding rows
table-narrow n l h k = beside-narrow n l.constellations l.svids l.bands l.times l.corrections h k

-- ---- columns keep their lengths
pub column-length : {R A : Type 0} (f : R → A) (l : List R) (column : List A) → length l ≤ length column → length (column_of f l column) ≡ length column
column-length f l column h = length-append (map f l) (drop (length l) column) ∙ rw (length-map l f, length-drop (length l) column) (omega arith)

-- columns with a directory hold it
pub with-holds : (d : Directory) (l l' : Blocks) (m n : ℕ) → m ≡ length d.entries → n ≡ length d.readings → l' ≡ blocks_with d l → directory_in m n l' ≡ d
with-holds d l l' m n a b c = rw (a, b, c) (blocks-hold d l)

-- so there is as much room as before
pub same-capacity : (d : Directory) (l : Blocks) → length d.entries ≤ length (entries_in l) → length d.readings ≤ length (readings_in l) → block_capacity (blocks_with d l) ≡ block_capacity l
same-capacity d l h k =
    let a = entries-length l.constellations l.svids l.bands l.firsts l.counts in
    let b = readings-length l.times l.corrections in
    let w = blocks_with d l in
    rw (
      entries-length w.constellations w.svids w.bands w.firsts w.counts,
      readings-length w.times w.corrections,
      column-length (λ (e : Entry). e.constellation) d.entries l.constellations (omega (arith, a)),
      column-length (λ (e : Entry). e.svid) d.entries l.svids (omega (arith, a)),
      column-length (λ (e : Entry). e.band) d.entries l.bands (omega (arith, a)),
      column-length (λ (e : Entry). e.start) d.entries l.firsts (omega (arith, a)),
      column-length (λ (e : Entry). e.count) d.entries l.counts (omega (arith, a)),
      column-length (λ (r : Reading). r.time) d.readings l.times (omega (arith, b)),
      column-length (λ (r : Reading). r.correction) d.readings l.corrections (omega (arith, b)),
      ← a,
      ← b,
    )
