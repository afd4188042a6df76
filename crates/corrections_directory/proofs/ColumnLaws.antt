-- The directory in lent columns: what is written is read back, row by row, and the two forms share the columns of times and corrections. Assumes nothing.
use mathlib.Core.Path.{◌≡◌, refl, sym, ap, ◌∙◌}
use mathlib.Core.List.{List, [], ◌∷◌, ◌++◌, map}
use mathlib.Core.Bool.{true}
use Prim.Native.Nat.{ℕ, zero, suc, ◌≤◌, ◌<◌, min}
use native.Mathlib.Nat.{not-suc-le-zero, le_of_suc-le-suc}
use native.Mathlib.Omega.{arith}
use lib.ListN.{length, get_or, take, drop, length-map}
use lib.Seq.{length-take-le}
use lib.Ieee.{Float, nan}
use Rattle.corrections_table.specs.Table.{Columns, beside, lent_samples, rows, table_of}
use Rattle.corrections_table.specs.declared.sample.Sample.{Sample}
use Rattle.corrections_directory.specs.Directory.{Entry, Reading, Directory, Blocks, blocks_with, directory_in, directory_of, entries_from, entry_rows, flat, lent_blocks, reading_of, reading_rows, readings_in, sound_directory}
use Rattle.corrections_directory.specs.Steps.{no_entry}
use Rattle.corrections_directory.specs.Rearrange.{entries_with, signals_with}
use Rattle.corrections_directory.proofs.DirectoryLaws.{flat-readings}

-- what a read past the end gives
abbrev pub no_reading : Reading
no_reading = record { time = nan; correction = nan }

-- ---- rows
both-suc : (a b : ℕ) → min (suc a) (suc b) ≡ suc (min a b)
both-suc a b = omega arith

pub entries-length : (cs vs bs fs ns : List ℕ) → length (entry_rows cs vs bs fs ns) ≡ min (length cs) (min (length vs) (min (length bs) (min (length fs) (length ns))))
unfolding entry_rows
entries-length [] vs bs fs ns = omega arith
entries-length (c ∷ cs) [] bs fs ns = omega arith
entries-length (c ∷ cs) (v ∷ vs) [] fs ns = omega arith
entries-length (c ∷ cs) (v ∷ vs) (b ∷ bs) [] ns = omega arith
entries-length (c ∷ cs) (v ∷ vs) (b ∷ bs) (f ∷ fs) [] = omega arith
entries-length (c ∷ cs) (v ∷ vs) (b ∷ bs) (f ∷ fs) (n ∷ ns) = simp both-suc (ap suc (entries-length cs vs bs fs ns))

pub readings-length : (ts xs : List Float) → length (reading_rows ts xs) ≡ min (length ts) (length xs)
unfolding reading_rows
readings-length [] xs = omega arith
readings-length (t ∷ ts) [] = omega arith
readings-length (t ∷ ts) (x ∷ xs) = simp both-suc (ap suc (readings-length ts xs))

pub entry-at : (cs vs bs fs ns : List ℕ) (i : ℕ) → i < length (entry_rows cs vs bs fs ns)
    → ◌≡◌ {A = Entry} (record { constellation = get_or cs i 0; svid = get_or vs i 0; band = get_or bs i 0; start = get_or fs i 0; count = get_or ns i 0 }) (get_or (entry_rows cs vs bs fs ns) i no_entry)
unfolding entry_rows
entry-at [] vs bs fs ns i h = absurd (not-suc-le-zero h)
entry-at (c ∷ cs) [] bs fs ns i h = absurd (not-suc-le-zero h)
entry-at (c ∷ cs) (v ∷ vs) [] fs ns i h = absurd (not-suc-le-zero h)
entry-at (c ∷ cs) (v ∷ vs) (b ∷ bs) [] ns i h = absurd (not-suc-le-zero h)
entry-at (c ∷ cs) (v ∷ vs) (b ∷ bs) (f ∷ fs) [] i h = absurd (not-suc-le-zero h)
entry-at (c ∷ cs) (v ∷ vs) (b ∷ bs) (f ∷ fs) (n ∷ ns) zero h = refl
entry-at (c ∷ cs) (v ∷ vs) (b ∷ bs) (f ∷ fs) (n ∷ ns) (suc i) h = entry-at cs vs bs fs ns i (le_of_suc-le-suc h)

pub reading-at : (ts xs : List Float) (i : ℕ) → i < length (reading_rows ts xs) → ◌≡◌ {A = Reading} (record { time = get_or ts i nan; correction = get_or xs i nan }) (get_or (reading_rows ts xs) i no_reading)
unfolding reading_rows
reading-at [] xs i h = absurd (not-suc-le-zero h)
reading-at (t ∷ ts) [] i h = absurd (not-suc-le-zero h)
reading-at (t ∷ ts) (x ∷ xs) zero h = refl
reading-at (t ∷ ts) (x ∷ xs) (suc i) h = reading-at ts xs i (le_of_suc-le-suc h)

-- ---- what is written is read back
pub entries-written : (es : List Entry) (cs vs bs fs ns : List ℕ)
    → take (length es) (entry_rows (map (λ (e : Entry). e.constellation) es ++ cs) (map (λ (e : Entry). e.svid) es ++ vs) (map (λ (e : Entry). e.band) es ++ bs) (map (λ (e : Entry). e.start) es ++ fs) (map (λ (e : Entry). e.count) es ++ ns)) ≡ es
unfolding entry_rows
entries-written [] cs vs bs fs ns = refl
entries-written (e ∷ es) cs vs bs fs ns = ap (λ (m : List Entry). e ∷ m) (entries-written es cs vs bs fs ns)

pub readings-written : (rs : List Reading) (ts xs : List Float) → take (length rs) (reading_rows (map (λ (r : Reading). r.time) rs ++ ts) (map (λ (r : Reading). r.correction) rs ++ xs)) ≡ rs
unfolding reading_rows
readings-written [] ts xs = refl
readings-written (r ∷ rs) ts xs = ap (λ (m : List Reading). r ∷ m) (readings-written rs ts xs)

pub blocks-hold : (d : Directory) (l : Blocks) → directory_in (length d.entries) (length d.readings) (blocks_with d l) ≡ d
blocks-hold d l =
    rw (
      entries-written d.entries (drop (length d.entries) l.constellations) (drop (length d.entries) l.svids) (drop (length d.entries) l.bands) (drop (length d.entries) l.firsts) (drop (length d.entries) l.counts),
      readings-written d.readings (drop (length d.readings) l.times) (drop (length d.readings) l.corrections),
    )

-- ---- a table's directory

-- a table's times and corrections are the columns'
beside-readings : (n : ℕ) (cs vs bs : List ℕ) (ts xs : List Float) → n ≤ length (beside cs vs bs ts xs) → map reading_of (take n (beside cs vs bs ts xs)) ≡ take n (reading_rows ts xs)
unfolding beside reading_rows
beside-readings zero cs vs bs ts xs h = refl
beside-readings (suc n) [] vs bs ts xs h = absurd (not-suc-le-zero h)
beside-readings (suc n) (c ∷ cs) [] bs ts xs h = absurd (not-suc-le-zero h)
beside-readings (suc n) (c ∷ cs) (v ∷ vs) [] ts xs h = absurd (not-suc-le-zero h)
beside-readings (suc n) (c ∷ cs) (v ∷ vs) (b ∷ bs) [] xs h = absurd (not-suc-le-zero h)
beside-readings (suc n) (c ∷ cs) (v ∷ vs) (b ∷ bs) (t ∷ ts) [] h = absurd (not-suc-le-zero h)
beside-readings (suc n) (c ∷ cs) (v ∷ vs) (b ∷ bs) (t ∷ ts) (x ∷ xs) h =
    ap (λ (m : List Reading). record { time = t; correction = x } ∷ m) (beside-readings n cs vs bs ts xs (le_of_suc-le-suc h))

pub rows-readings : (n : ℕ) (l : Columns) → n ≤ length (rows l) → map reading_of (table_of n l) ≡ take n (reading_rows l.times l.corrections)
unfolding rows
rows-readings n l h = beside-readings n l.constellations l.svids l.bands l.times l.corrections h

-- with its entries at the front of a directory's columns beside its own times and corrections, the columns hold the table's directory
pub rearranged : (n : ℕ) (l : Columns) (dc dv db df dn : List ℕ) → n ≤ length (rows l)
    → (let es = entries_from 0 (table_of n l) in
    directory_in (length es) n (entries_with es (lent_blocks dc dv db df dn l.times l.corrections)))
    ≡ directory_of (table_of n l)
unfolding directory_of
rearranged n l dc dv db df dn h =
    let es = entries_from 0 (table_of n l) in
    rw (entries-written es (drop (length es) dc) (drop (length es) dv) (drop (length es) db) (drop (length es) df) (drop (length es) dn), rows-readings n l h)

-- ---- a directory's table
no-readings : {A : Type 0} (r : Reading) (rs : List Reading) → r ∷ rs ≡ [] → A
no-readings r rs e = absurd (let z : ◌≡◌ {A = ℕ} 0 1 = cc in omega arith)

-- signals written to the front of columns, where the times and corrections are the samples' own
signals-written : (t : List Sample) (cs vs bs : List ℕ) (ts xs : List Float) → map reading_of t ≡ take (length t) (reading_rows ts xs)
    → take (length t) (beside (map (λ (s : Sample). s.constellation) t ++ cs) (map (λ (s : Sample). s.svid) t ++ vs) (map (λ (s : Sample). s.band) t ++ bs) ts xs) ≡ t
unfolding beside reading_rows
signals-written [] cs vs bs ts xs e = refl
signals-written (s ∷ l) cs vs bs [] xs e = no-readings (reading_of s) (map reading_of l) e
signals-written (s ∷ l) cs vs bs (t ∷ ts) [] e = no-readings (reading_of s) (map reading_of l) e
signals-written (s ∷ l) cs vs bs (t ∷ ts) (x ∷ xs) e =
    let h : reading_of s ≡ record { time = t; correction = x } = cc in
    let r : map reading_of l ≡ take (length l) (reading_rows ts xs) = cc in
    one (ap (λ (r : Reading). r.time) h) (ap (λ (r : Reading). r.correction) h) (signals-written l cs vs bs ts xs r)
  where
    one : s.time ≡ t → s.correction ≡ x → {m : List Sample} → m ≡ l → record { constellation = s.constellation; svid = s.svid; band = s.band; time = t; correction = x } ∷ m ≡ s ∷ l
    one a b q = rw (← a, ← b, q)

pub flat-length : (d : Directory) → sound_directory d ≡ true → length (flat d) ≡ length d.readings
flat-length d h = sym (length-map (flat d) reading_of) ∙ ap length (flat-readings d h)

-- for every sound directory of lent columns: with its samples' signals at the front of columns beside its own times and corrections, the columns hold its table
pub restored : (m n : ℕ) (l : Blocks) (cs vs bs : List ℕ) → n ≤ length (readings_in l) → sound_directory (directory_in m n l) ≡ true
    → table_of n (signals_with (flat (directory_in m n l)) (lent_samples cs vs bs l.times l.corrections)) ≡ flat (directory_in m n l)
unfolding rows
restored m n l cs vs bs k h =
    let d = directory_in m n l in
    let z : length (flat d) ≡ n = flat-length d h ∙ length-take-le n (readings_in l) k in
    let r : map reading_of (flat d) ≡ take (length (flat d)) (readings_in l) = rw z (flat-readings d h) in
    ap (λ (j : ℕ). table_of j (signals_with (flat d) (lent_samples cs vs bs l.times l.corrections))) (sym z)
    ∙ signals-written (flat d) (drop (length (flat d)) cs) (drop (length (flat d)) vs) (drop (length (flat d)) bs) l.times l.corrections r
