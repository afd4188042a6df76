-- The two forms of a table, each made of the other (request (ix)): they share times and corrections, so only the directory is written, or only the three columns of signals. Definitions only.
use Rattle.std.specs.Prelude.{ℕ, min, not, ◌||◌, List, [], ◌∷◌, ltb, length}
use Rattle.numeric.specs.Refusal.{number_of}
use Rattle.numeric.specs.Rules.{rule, ruled}
use Rattle.numeric.specs.declared.refusal.Refusal.{Refusal}
use Rattle.numeric.specs.declared.refusal.Refusal.TheVariants.{TooMany, RecordOutOfRange}
use Rattle.corrections_table.specs.Table.{Columns, capacity, table_of, sound_table}
use Rattle.corrections_table.specs.declared.sample.Sample.{Sample}
use Rattle.corrections_directory.specs.Directory.{Entry, Blocks, block_capacity, column_of, directory_in, directory_of, flat, sound_directory}

-- ---- the directory of a table

-- a refusal, or the entries
pub data Filed : Type 0 where
  unfiled : Refusal → Filed
  entries_are : List Entry → Filed

-- The n samples of a table in lent columns, whose directory goes to columns of that length: numbers 2 and 4, or the entries of its directory.
unfoldable pub filed_of : ℕ → ℕ → Columns → Filed
filed_of n long l =
    ruled unfiled
    (rule TooMany (ltb (min long (capacity l)) n)
    ∷ rule RecordOutOfRange (not (sound_table (table_of n l)))
    ∷ [])
    (entries_are (directory_of (table_of n l)).entries)

-- 0, or the number of the refusal
abbrev pub filed_number : Filed → ℕ
filed_number (unfiled r) = number_of r
filed_number (entries_are es) = 0

-- how many entries there are afterwards, m before
abbrev pub filed_count : Filed → ℕ → ℕ
filed_count (unfiled r) m = m
filed_count (entries_are es) m = length es

-- the columns with entries, and past them what was there
abbrev pub entries_with : List Entry → Blocks → Blocks
entries_with es l =
    record {
      constellations = column_of (λ (e : Entry). e.constellation) es l.constellations;
      svids = column_of (λ (e : Entry). e.svid) es l.svids;
      bands = column_of (λ (e : Entry). e.band) es l.bands;
      firsts = column_of (λ (e : Entry). e.start) es l.firsts;
      counts = column_of (λ (e : Entry). e.count) es l.counts;
      times = l.times;
      corrections = l.corrections;
    }

-- the columns afterwards: unchanged where it is refused
abbrev pub filed_columns : Filed → Blocks → Blocks
filed_columns (unfiled r) l = l
filed_columns (entries_are es) l = entries_with es l

-- ---- the table of a directory

-- a refusal, or the samples
pub data Listed : Type 0 where
  unlisted : Refusal → Listed
  samples_are : List Sample → Listed

-- The m entries and n samples of a directory in lent columns, whose signals go to columns of that length: numbers 2 and 4, or the samples that it stands for.
-- Neither count may exceed the capacity. The columns of signals need a place for each sample, however many entries there are.
unfoldable pub listed_of : ℕ → ℕ → ℕ → Blocks → Listed
listed_of m n long l =
    ruled unlisted
    (rule TooMany ((ltb (block_capacity l) m || ltb (block_capacity l) n) || ltb long n)
    ∷ rule RecordOutOfRange (not (sound_directory (directory_in m n l)))
    ∷ [])
    (samples_are (flat (directory_in m n l)))

-- 0, or the number of the refusal
abbrev pub listed_number : Listed → ℕ
listed_number (unlisted r) = number_of r
listed_number (samples_are t) = 0

-- the columns with the signals of samples, and past them what was there
abbrev pub signals_with : List Sample → Columns → Columns
signals_with t l =
    record {
      constellations = column_of (λ (s : Sample). s.constellation) t l.constellations;
      svids = column_of (λ (s : Sample). s.svid) t l.svids;
      bands = column_of (λ (s : Sample). s.band) t l.bands;
      times = l.times;
      corrections = l.corrections;
    }

-- the columns afterwards: unchanged where it is refused
abbrev pub listed_columns : Listed → Columns → Columns
listed_columns (unlisted r) l = l
listed_columns (samples_are t) l = signals_with t l
