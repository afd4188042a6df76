-- The table as one block per satellite (request (ix)): a directory of satellites beside the columns of times and corrections. Definitions only.
use Rattle.std.specs.Prelude.{ℕ, suc, ◌+◌, min, ◌≡◌, Bool, true, cond, not, ◌&&◌, List, [], ◌∷◌, ◌++◌, map, eqb, leb, ltb, length, take, drop, Float}
use Rattle.exact.specs.Float.{bits}
use Rattle.lists.specs.Walk.{every, collect}
use Rattle.numeric.specs.Order.{pattern_of}
use Rattle.numeric.specs.Real.{in_range}
use Rattle.signal.specs.Signal.{signal}
use Rattle.corrections_table.specs.Table.{time_before}
use Rattle.corrections_table.specs.declared.sample.Sample.{Sample}

-- a satellite of the directory, with the place of its first sample and its count of samples
pub record Entry : Type 0 where
  pub constellation : ℕ
  pub svid : ℕ
  pub band : ℕ
  pub start : ℕ
  pub count : ℕ

-- a time and its correction, at one place of the two columns
pub record Reading : Type 0 where
  pub time : Float
  pub correction : Float

-- the directory beside the two columns
pub record Directory : Type 0 where
  pub entries : List Entry
  pub readings : List Reading

-- ---- the columns

-- the lent columns of a directory, and of the times and corrections beside it
pub record Blocks : Type 0 where
  pub constellations : List ℕ
  pub svids : List ℕ
  pub bands : List ℕ
  pub firsts : List ℕ
  pub counts : List ℕ
  pub times : List Float
  pub corrections : List Float

-- the columns as a call is lent them
abbrev pub lent_blocks : List ℕ → List ℕ → List ℕ → List ℕ → List ℕ → List Float → List Float → Blocks
lent_blocks constellations svids bands firsts counts times corrections =
    record { constellations = constellations; svids = svids; bands = bands; firsts = firsts; counts = counts; times = times; corrections = corrections }

-- the floats of a column that is lent as 64-bit patterns: each pattern read by `bits`
abbrev pub floats : List ℕ → List Float
floats column = map bits column

-- the entries that lie side by side in five columns: as many as the shortest has
unfoldable pub entry_rows : List ℕ → List ℕ → List ℕ → List ℕ → List ℕ → List Entry
entry_rows [] vs bs fs ns = []
entry_rows (c ∷ cs) [] bs fs ns = []
entry_rows (c ∷ cs) (v ∷ vs) [] fs ns = []
entry_rows (c ∷ cs) (v ∷ vs) (b ∷ bs) [] ns = []
entry_rows (c ∷ cs) (v ∷ vs) (b ∷ bs) (f ∷ fs) [] = []
entry_rows (c ∷ cs) (v ∷ vs) (b ∷ bs) (f ∷ fs) (n ∷ ns) =
    record { constellation = c; svid = v; band = b; start = f; count = n } ∷ entry_rows cs vs bs fs ns

-- the readings that lie side by side in two columns: as many as the shorter has
unfoldable pub reading_rows : List Float → List Float → List Reading
reading_rows [] xs = []
reading_rows (t ∷ ts) [] = []
reading_rows (t ∷ ts) (x ∷ xs) = record { time = t; correction = x } ∷ reading_rows ts xs

-- the rows of the directory's columns
abbrev pub entries_in : Blocks → List Entry
entries_in l = entry_rows l.constellations l.svids l.bands l.firsts l.counts

-- the rows of the columns of times and corrections
abbrev pub readings_in : Blocks → List Reading
readings_in l = reading_rows l.times l.corrections

-- numbers 2 and 11 by request (ix): the capacity is the shortest lent column, the directory's too, at most 2,048
abbrev pub block_capacity : Blocks → ℕ
block_capacity l = min 2048 (min (length (entries_in l)) (length (readings_in l)))

-- the directory of m entries and n samples: the first of the rows
abbrev pub directory_in : ℕ → ℕ → Blocks → Directory
directory_in m n l = record { entries = take m (entries_in l); readings = take n (readings_in l) }

-- a column with a field of each row of l, and past them what was there
abbrev pub column_of : {R A : Type 0} → (R → A) → List R → List A → List A
column_of f l column = map f l ++ drop (length l) column

-- the columns with a directory, and past it what was there
abbrev pub blocks_with : Directory → Blocks → Blocks
blocks_with d l =
    record {
      constellations = column_of (λ (e : Entry). e.constellation) d.entries l.constellations;
      svids = column_of (λ (e : Entry). e.svid) d.entries l.svids;
      bands = column_of (λ (e : Entry). e.band) d.entries l.bands;
      firsts = column_of (λ (e : Entry). e.start) d.entries l.firsts;
      counts = column_of (λ (e : Entry). e.count) d.entries l.counts;
      times = column_of (λ (r : Reading). r.time) d.readings l.times;
      corrections = column_of (λ (r : Reading). r.correction) d.readings l.corrections;
    }

-- the two columns of patterns with the readings of a directory, and past them the bits that were there
pub record PatternsWith (d : Directory) (ts xs ts' xs' : List ℕ) : Type 0 where
  pub times : ts' ≡ column_of (λ (r : Reading). pattern_of r.time) d.readings ts
  pub corrections : xs' ≡ column_of (λ (r : Reading). pattern_of r.correction) d.readings xs

-- ---- its reading as a list of samples

-- an entry's satellite as one number
abbrev pub signal_in : Entry → ℕ
signal_in e = signal e.constellation e.svid e.band

-- a reading as a sample of the entry's satellite
abbrev pub sample_of : Entry → Reading → Sample
sample_of e r = record { constellation = e.constellation; svid = e.svid; band = e.band; time = r.time; correction = r.correction }

-- an entry's block: as many samples as it counts, from its first on
unfoldable pub block : List Reading → Entry → List Sample
block rs e = map (sample_of e) (take e.count (drop e.start rs))

-- the blocks, one after the other
unfoldable pub flat : Directory → List Sample
flat d = collect (block d.readings) d.entries

-- ---- number 4, by request (ix)'s list of faults

-- the directory is sorted and names no satellite twice: each signal is above the one before it, and the first is not below p
unfoldable pub ascends : ℕ → List Entry → Bool
ascends p [] = true
ascends p (e ∷ es) = leb p (signal_in e) && ascends (suc (signal_in e)) es

-- No block is empty, and each starts at the place where the one before it ends, so that they come in the directory's order, do not overlap and leave no gap.
-- The first starts at `place`, and the last ends at n: at the ends too there is no gap, and nothing points past the end.
unfoldable pub tiles : ℕ → ℕ → List Entry → Bool
tiles place n [] = eqb place n
tiles place n (e ∷ es) = eqb e.start place && (ltb 0 e.count && tiles (place + e.count) n es)

-- none is before the one ahead of it, which is p for the first
unfoldable pub timely_from : Float → List Float → Bool
timely_from p [] = true
timely_from p (t ∷ ts) = not (time_before t p) && timely_from t ts

-- times in order, in total_order; equals are allowed
unfoldable pub timely : List Float → Bool
timely [] = true
timely (t ∷ ts) = timely_from t ts

-- the times of an entry's block
unfoldable pub block_times : List Reading → Entry → List Float
block_times rs e = map (λ (r : Reading). r.time) (take e.count (drop e.start rs))

-- times are in order within each block
abbrev pub in_order : List Reading → List Entry → Bool
in_order rs es = every (λ e. timely (block_times rs e)) es

-- time and correction are finite and not above 1e9 in magnitude
unfoldable pub in_reach : Reading → Bool
in_reach r = in_range r.time && in_range r.correction

-- a directory in which number 4 finds nothing
unfoldable pub sound_directory : Directory → Bool
sound_directory d =
    every in_reach d.readings
    && (ascends 0 d.entries
    && (tiles 0 (length d.readings) d.entries
    && in_order d.readings d.entries))

-- ---- the directory of a list of samples

-- an entry of the sample's satellite
abbrev pub entry_of : Sample → ℕ → ℕ → Entry
entry_of s start count = record { constellation = s.constellation; svid = s.svid; band = s.band; start = start; count = count }

-- the sample is of the entry's satellite
abbrev pub is_mine : Sample → Entry → Bool
is_mine s e = eqb s.constellation e.constellation && (eqb s.svid e.svid && eqb s.band e.band)

-- a sample at the place before the entries' blocks: the first block is longer by it, or it has a block of its own
unfoldable pub joined : Sample → ℕ → List Entry → List Entry
joined s place [] = entry_of s place 1 ∷ []
joined s place (e ∷ es) = cond (is_mine s e) (entry_of s place (suc e.count) ∷ es) (entry_of s place 1 ∷ e ∷ es)

-- the entries of samples that lie from the place on
unfoldable pub entries_from : ℕ → List Sample → List Entry
entries_from place [] = []
entries_from place (s ∷ ss) = joined s place (entries_from (suc place) ss)

-- a sample's time and correction
abbrev pub reading_of : Sample → Reading
reading_of s = record { time = s.time; correction = s.correction }

-- the directory of a list of samples: an entry for each run of one satellite
unfoldable pub directory_of : List Sample → Directory
directory_of t = record { entries = entries_from 0 t; readings = map reading_of t }
