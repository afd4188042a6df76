-- What the contracts of the steps say: the first samples of a table with the first of new ones, from the back to the front. Definitions only.
use Rattle.std.specs.Prelude.{Result, ⊤}
use Rattle.numeric.specs.declared.refusal.Refusal.{Refusal}
use Rattle.std.specs.Prelude.{ℕ, zero, suc, ◌+◌, ◌-◌, ◌^◌, ◌≤◌, ◌<◌, List, [], ◌∷◌, ◌++◌, ◌≡◌, true, false, ◌&&◌, ◌||◌, eqb, ltb, Float, length, get_or, take, set}
use Rattle.lists.specs.Memory.{before, after, LentNumbers}
use Rattle.exact.specs.Float.{bits}
use Rattle.lists.specs.Walk.{collect}
use Rattle.numeric.specs.Order.{pattern_of}
use Rattle.signal.specs.Signal.{signal}
use Rattle.corrections_table.specs.Table.{blank, rows, sorted, table_of, time_before}
use Rattle.corrections_table.specs.Add.{insert_all}
use Rattle.corrections_table.specs.declared.sample.Sample.{Sample}
use Rattle.corrections_table.specs.declared.add.Samples.{Samples}
use Rattle.corrections_directory.specs.Directory.{Blocks, Directory, Entry, PatternsWith, Reading, ascends, block, block_capacity, blocks_with, column_of, directory_in, entries_from, entries_in, entry_rows, flat, floats, lent_blocks, readings_in, sound_directory, tiles}
use Rattle.corrections_directory.specs.Steps.{no_entry, readings_now, rows_before, rows_now}
use Rattle.corrections_directory.specs.Lent.{LentTable, Slice}
use Rattle.corrections_directory.specs.Table.{columns_of}
use Rattle.corrections_directory.specs.declared.entry.Table.{Table}
use Rattle.corrections_table.specs.Lent.{columns_now}
use Rattle.corrections_add.specs.Add.{directory_with, test_in}
use Rattle.corrections_add.specs.declared.entries.Last.{Last}
use Rattle.corrections_add.specs.declared.samples.NewSamples.{NewSamples}

-- the samples of the first i blocks
abbrev pub blocks_up_to : List Reading → List Entry → ℕ → List Sample
blocks_up_to rs es i = collect (block rs) (take i es)

-- the entries of the first i blocks with the first j of new samples
abbrev pub entries_up_to : List Reading → List Entry → List Sample → ℕ → ℕ → List Entry
entries_up_to rs es u i j = entries_from 0 (insert_all (blocks_up_to rs es i) (take j u))

-- ---- times and corrections

-- the first r of i times, lent as patterns, stay before the time t, of those from the place `first` on
pub record TimesStay (ts : List ℕ) (first i : ℕ) (t : Float) (r : ℕ) : Type 0 where
  pub from : first ≤ r
  pub few : r ≤ i
  pub later : (x : ℕ) → r ≤ x → x < i → time_before t (bits (get_or ts x 0)) ≡ true
  pub earlier : first < r → time_before t (bits (get_or ts (r - 1) 0)) ≡ false

-- The first r of i old samples stay before a new one of the signal g at the time t, of those of the last block, which begins at the place `first` and is of the signal h.
pub record Stays (ts : List ℕ) (first i g : ℕ) (t : Float) (h r : ℕ) : Type 0 where
  pub few : r ≤ i
  pub from : 0 < i → first ≤ r
  pub later : (x : ℕ) → r ≤ x → x < i → (ltb g h || (eqb g h && time_before t (bits (get_or ts x 0)))) ≡ true
  pub earlier : first < r → (ltb g h || (eqb g h && time_before t (bits (get_or ts (r - 1) 0)))) ≡ false

-- the first c values from the place `first` on go up by so many places, the last of them first
unfoldable pub shifted : {A : Type 0} → ℕ → ℕ → ℕ → A → List A → List A
shifted first by zero z d = d
shifted first by (suc c) z d = shifted first by c z (set d (first + c + by) (get_or d (first + c) z))

-- the columns have the patterns of the times and corrections of the table t, and past it the bits that were there; read as floats, they have the times and corrections
pub record ReadingsMerged (t : List Sample) (ts xs ts' xs' : List ℕ) : Type 0 where
  pub times : ts' ≡ column_of (λ (s : Sample). pattern_of s.time) t ts
  pub corrections : xs' ≡ column_of (λ (s : Sample). pattern_of s.correction) t xs
  pub times-read : floats ts' ≡ column_of (λ (s : Sample). s.time) t (floats ts)
  pub corrections-read : floats xs' ≡ column_of (λ (s : Sample). s.correction) t (floats xs)

-- ---- entries

-- the first i blocks lie one after the other within the readings, and none is empty
pub record Lies (rs : List Reading) (es : List Entry) (i : ℕ) : Type 0 where
  pub few : i ≤ length es
  pub starts : (x : ℕ) → x < i → length (blocks_up_to rs es x) ≡ (get_or es x no_entry).start
  pub ends : (x : ℕ) → x < i → (get_or es x no_entry).start + (get_or es x no_entry).count ≤ length rs
  pub filled : (x : ℕ) → x < i → 0 < (get_or es x no_entry).count

-- u is a sorted list of k samples whose signals lie in the columns
pub record OfSignals (cs vs bs : List ℕ) (k : ℕ) (u : List Sample) : Type 0 where
  pub count : length u ≡ k
  pub constellations : (x : ℕ) → x < k → (get_or u x blank).constellation ≡ get_or cs x 0
  pub svids : (x : ℕ) → x < k → (get_or u x blank).svid ≡ get_or vs x 0
  pub bands : (x : ℕ) → x < k → (get_or u x blank).band ≡ get_or bs x 0
  pub in_order : sorted u ≡ true

-- the new samples from a up to j are those of the signal g, and the one before them is not
pub record OwnFrom (cs vs bs : List ℕ) (g a j : ℕ) : Type 0 where
  pub within : a ≤ j
  pub own : (x : ℕ) → a ≤ x → x < j → signal (get_or cs x 0) (get_or vs x 0) (get_or bs x 0) ≡ g
  pub other : 0 < a → signal (get_or cs (a - 1) 0) (get_or vs (a - 1) 0) (get_or bs (a - 1) 0) ≡ g → ⊥

-- the entry that was found last
abbrev pub last_entry : Last → Entry
last_entry r = record { constellation = r.constellation; svid = r.svid; band = r.band; start = r.first; count = r.count }

-- it is the last of the first i blocks with the first j new samples, and what is left ends where it begins
pub record LastIs (rs : List Reading) (es : List Entry) (u : List Sample) (i j : ℕ) (r : Last) : Type 0 where
  pub entries-are : entries_up_to rs es u i j ≡ entries_up_to rs es u r.entries r.samples ++ (last_entry r ∷ [])
  pub first-is : length (blocks_up_to rs es r.entries) + r.samples ≡ r.first

-- it is, whatever readings and samples the columns stand for, if the first i blocks and the first j samples end at `end`
pub record LastOf (es : List Entry) (cs vs bs : List ℕ) (i j end : ℕ) (r : Last) : Type 0 where
  pub fewer-entries : r.entries ≤ i
  pub fewer-samples : r.samples ≤ j
  pub fewer : r.entries + r.samples < i + j
  pub tail : r.samples ≤ r.first
  pub last : (rs : List Reading) (u : List Sample) (k : ℕ) → Lies rs es i → OfSignals cs vs bs k u → j ≤ k → length (blocks_up_to rs es i) + j ≡ end → LastIs rs es u i j r

-- a block of the new samples from its place `samples` up to j, after i old blocks; the satellite is that of the sample at j - 1, whose numbers have the bits of their columns
pub record NewLast (cs vs bs : List ℕ) (i j end : ℕ) (r : Last) : Type 0 where
  pub entries-is : r.entries ≡ i
  pub own : OwnFrom cs vs bs (signal (get_or cs (j - 1) 0) (get_or vs (j - 1) 0) (get_or bs (j - 1) 0)) r.samples j
  pub entry-is : last_entry r ≡ record { constellation = get_or cs (j - 1) 0; svid = get_or vs (j - 1) 0; band = get_or bs (j - 1) 0; start = end - (j - r.samples); count = j - r.samples }
  pub svids-fit : (x : ℕ) → get_or vs x 0 < 2 ^ 16
  pub bands-fit : (x : ℕ) → get_or bs x 0 < 2 ^ 32

-- the columns hold the signals of a sorted list
pub record SomeSignals (cs vs bs : List ℕ) (k : ℕ) : Type 0 where
  pub samples : List Sample
  pub of : OfSignals cs vs bs k samples

-- m entries in the columns that ascend, and whose blocks lie one after the other from place 0 to n
pub record Tiled (dc dv db df dn : List ℕ) (m n : ℕ) : Type 0 where
  pub few : m ≤ length (entry_rows dc dv db df dn)
  pub ascending : ascends 0 (take m (entry_rows dc dv db df dn)) ≡ true
  pub tiling : tiles 0 n (take m (entry_rows dc dv db df dn)) ≡ true

-- the columns have the entries es, and past them what was there
pub record EntriesMerged (es : List Entry) (dc dv db df dn dc' dv' db' df' dn' : List ℕ) : Type 0 where
  pub constellations : dc' ≡ column_of (λ (e : Entry). e.constellation) es dc
  pub svids : dv' ≡ column_of (λ (e : Entry). e.svid) es dv
  pub bands : db' ≡ column_of (λ (e : Entry). e.band) es db
  pub firsts : df' ≡ column_of (λ (e : Entry). e.start) es df
  pub counts : dn' ≡ column_of (λ (e : Entry). e.count) es dn

-- ---- the columns of the contracts

-- the j-th of new samples and those before it are in the columns of signals
abbrev pub NewIn : ℕ → NewSamples → Type 0
NewIn j w = (j ≤ length w.constellation.now) × ((j ≤ length w.svid.now) × (j ≤ length w.band.now))

-- i blocks in ascending order and j new samples, which end at `end`; no number wraps
abbrev pub Ending : Slice → Slice → Slice → Slice → Slice → ℕ → NewSamples → ℕ → ℕ → Type 0
Ending c v b f n i w j end =
    (let es = rows_now c v b f n in (i ≤ length es) × (ascends 0 (take i es) ≡ true))
    × (((0 < j) × ((j ≤ end) × NewIn j w)) × (0 < i → (get_or f.now (i - 1) 0 + j < 2 ^ 64) × (get_or n.now (i - 1) 0 + j < 2 ^ 64)))

-- the entry that was found is the last one
abbrev pub Found : LentNumbers → LentNumbers → LentNumbers → LentNumbers → LentNumbers → ℕ → NewSamples → ℕ → ℕ → Last → Type 0
Found c v b f n i w j end r =
    LastOf (take i (rows_before c v b f n)) w.constellation.now w.svid.now w.band.now i j end r

-- r is how many entries m blocks of n samples have with k new samples, whatever these and the readings are
abbrev pub EntryCount : List ℕ → List ℕ → List ℕ → List ℕ → List ℕ → ℕ → ℕ → List ℕ → List ℕ → List ℕ → ℕ → ℕ → Type 0
EntryCount dc dv db df dn m n cs vs bs k r = (rs : List Reading) (u : List Sample) → length rs ≡ n → OfSignals cs vs bs k u → r ≡ length (entries_up_to rs (take m (entry_rows dc dv db df dn)) u m k)

abbrev pub Counted : LentNumbers → LentNumbers → LentNumbers → LentNumbers → LentNumbers → ℕ → ℕ → NewSamples → ℕ → Type 0
Counted c v b f n m samples w r =
    EntryCount (before c) (before v) (before b) (before f) (before n) m samples w.constellation.now w.svid.now w.band.now w.count r

-- m blocks of some samples lie one after the other, and k new ones may be counted with them
abbrev pub Countable : Slice → Slice → Slice → Slice → Slice → ℕ → ℕ → NewSamples → Type 0
Countable c v b f n m samples w = Tiled c.now v.now b.now f.now n.now m samples × ((m + (samples + w.count) < 2 ^ 64) × NewIn w.count w)

-- the columns have places for the r entries that the blocks and the k new samples make
abbrev pub Writable : Slice → Slice → Slice → Slice → Slice → ℕ → ℕ → NewSamples → ℕ → Type 0
Writable c v b f n m samples w r =
    Tiled c.now v.now b.now f.now n.now m samples × (((samples + w.count < 2 ^ 64) × NewIn w.count w) × (SomeSignals w.constellation.now w.svid.now w.band.now w.count
    × ((r ≤ length (rows_now c v b f n)) × EntryCount c.now v.now b.now f.now n.now m samples w.constellation.now w.svid.now w.band.now w.count r)))

-- the columns have the entries of the blocks with the new samples
abbrev pub EntriesWritten : LentNumbers → LentNumbers → LentNumbers → LentNumbers → LentNumbers → ℕ → ℕ → NewSamples → Type 0
EntriesWritten c v b f n m samples w =
    (rs : List Reading) (u : List Sample) → length rs ≡ samples → OfSignals w.constellation.now w.svid.now w.band.now w.count u
    → EntriesMerged (entries_up_to rs (take m (rows_before c v b f n)) u m w.count)
    (before c) (before v) (before b) (before f) (before n) (after c) (after v) (after b) (after f) (after n)

-- k new samples may be entered among m blocks of some samples: the columns have places for all the entries that they make
abbrev pub Enterable : Slice → Slice → Slice → Slice → Slice → ℕ → ℕ → NewSamples → Type 0
Enterable c v b f n m samples w =
    Countable c v b f n m samples w × (SomeSignals w.constellation.now w.svid.now w.band.now w.count
    × ((r : ℕ) → EntryCount c.now v.now b.now f.now n.now m samples w.constellation.now w.svid.now w.band.now w.count r → r ≤ length (rows_now c v b f n)))

-- the columns have them, and there are r
abbrev pub Enters : LentNumbers → LentNumbers → LentNumbers → LentNumbers → LentNumbers → ℕ → ℕ → NewSamples → ℕ → Type 0
Enters c v b f n m samples w r = Counted c v b f n m samples w r × EntriesWritten c v b f n m samples w

-- ---- times and corrections

-- k samples that are sorted
abbrev pub SortedNew : NewSamples → Type 0
SortedNew w = (let l = columns_now w.constellation w.svid w.band w.time w.metres in (w.count ≤ length (rows l)) × (sorted (table_of w.count l) ≡ true))

-- the first i times, the last one in the block of the entry e - 1
abbrev pub InLast : Slice → Slice → Slice → Slice → ℕ → Slice → ℕ → Type 0
InLast c v b f e t i =
    ((e ≤ length c.now) × ((e ≤ length v.now) × ((e ≤ length b.now) × (e ≤ length f.now))))
    × ((i ≤ length t.now) × (0 < i → (0 < e) × (get_or f.now (e - 1) 0 < i)))

-- r of the first e entries hold the first i samples: the last one goes if its block begins at i
abbrev pub HeldBy : List ℕ → ℕ → ℕ → ℕ → Type 0
HeldBy firsts e i r = (get_or firsts (e - 1) 0 ≡ i → r ≡ e - 1) × ((get_or firsts (e - 1) 0 ≡ i → ⊥) → r ≡ e)

-- the first r of them stay before a new sample of the signal g at the time x
abbrev pub StaysIn : LentNumbers → LentNumbers → LentNumbers → LentNumbers → ℕ → LentNumbers → ℕ → ℕ → Float → ℕ → Type 0
StaysIn c v b f e t i g x r =
    Stays (before t) (get_or (before f) (e - 1) 0) i g x (signal (get_or (before c) (e - 1) 0) (get_or (before v) (e - 1) 0) (get_or (before b) (e - 1) 0)) r

-- with the counts dn the columns are those of a sound directory of m entries and n samples
pub record Steady (dc dv db df : List ℕ) (m : ℕ) (ts xs : List ℕ) (n : ℕ) (dn : List ℕ) : Type 0 where
  pub few : m ≤ length (entry_rows dc dv db df dn)
  pub steady : sound_directory (directory_in m n (lent_blocks dc dv db df dn (floats ts) (floats xs))) ≡ true

-- they are with some counts, have room for k samples more, and k samples are sorted
pub record Mergeable (c v b f : Slice) (m : ℕ) (t x : Slice) (n : ℕ) (w : NewSamples) : Type 0 where
  pub counts : List ℕ
  pub held : Steady c.now v.now b.now f.now m t.now x.now n counts
  pub room : n + w.count ≤ length (readings_now t x)
  pub new : SortedNew w

-- the times and corrections have those of u, whatever counts make the directory
abbrev pub ReadingsWritten : LentNumbers → LentNumbers → LentNumbers → LentNumbers → ℕ → LentNumbers → LentNumbers → ℕ → List Sample → Type 0
ReadingsWritten c v b f m t x n u =
    (dn : List ℕ) → Steady (before c) (before v) (before b) (before f) m (before t) (before x) n dn
    → (let l = lent_blocks (before c) (before v) (before b) (before f) dn (floats (before t)) (floats (before x)) in
    ReadingsMerged (insert_all (flat (directory_in m n l)) u) (before t) (before x) (after t) (after x))

-- ---- the table

-- a sound directory of m entries and n samples, in columns that have room for k samples more
pub record Fitting (m n k : ℕ) (l : Blocks) : Type 0 where
  pub entries_fit : m ≤ length (entries_in l)
  pub few : m ≤ 2048
  pub room : n + k ≤ 2048
  pub room-entries : n + k ≤ length (entries_in l)
  pub room-readings : n + k ≤ length (readings_in l)
  pub steady : sound_directory (directory_in m n l) ≡ true

-- the new samples
abbrev pub lent_samples : NewSamples → List Sample
lent_samples w = table_of w.count (columns_now w.constellation w.svid w.band w.time w.metres)

-- what is tested before new samples go to a table in lent columns
abbrev pub table_test : Samples → Table ℕ → Result ⊤ Refusal
table_test new t = (let l = columns_of floats t in test_in t.blocks t.table_count (block_capacity l) (directory_in t.blocks t.table_count l) new)

-- the columns have the directory d, of r entries, and its patterns
abbrev pub Becomes : Directory → ℕ → LentTable → Type 0
Becomes d r t = (r ≡ length d.entries) × ((t.after ≡ blocks_with d t.before) × PatternsWith d t.times t.corrections t.times_after t.corrections_after)

-- the columns of m entries and n samples have those with the samples ss, in r entries
abbrev pub Gains : List Sample → ℕ → ℕ → ℕ → LentTable → Type 0
Gains ss r m n t = Becomes (directory_with (directory_in m n t.before) ss) r t
