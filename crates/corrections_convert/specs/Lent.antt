-- What the two rearrangements leave: the number of the answer, the count of entries, and every lent column. Definitions only.
use Rattle.std.specs.Prelude.{Result, Ok, Err, ⊤}
use Rattle.numeric.specs.declared.refusal.Refusal.{Refusal}
use Rattle.std.specs.Prelude.{ℕ, min, ◌≡◌, length}
use Rattle.lists.specs.Memory.{before, after, Memory, LentNumbers}
use Rattle.corrections_table.specs.Table.{Columns, lent_samples}
use Rattle.corrections_directory.specs.Directory.{Blocks, entries_in, lent_blocks}
use Rattle.corrections_directory.specs.Read.{ReadTable}
use Rattle.corrections_directory.specs.Rearrange.{Filed, unfiled, entries_are, filed_of, filed_number, filed_count, filed_columns, Listed, unlisted, samples_are, listed_of, listed_number, listed_columns}

-- the directory of a table: the number, the count of entries and the columns afterwards are those of the outcome
pub record Files (o : Filed) (number m m' : ℕ) (l l' : Blocks) : Type 0 where
  pub number_is : number ≡ filed_number o
  pub entries-are : m' ≡ filed_count o m
  pub columns : l' ≡ filed_columns o l

-- the table of a directory: the number and the columns afterwards are those of the outcome
pub record Lists (o : Listed) (number : ℕ) (l l' : Columns) : Type 0 where
  pub number_is : number ≡ listed_number o
  pub columns : l' ≡ listed_columns o l

-- ---- on lent memory

-- the columns of a directory before a call and after it, beside the times and corrections of a table
pub record LentDirectory : Type 0 where
  pub before : Blocks
  pub after : Blocks

abbrev pub lent_directory : LentNumbers → LentNumbers → LentNumbers → LentNumbers → LentNumbers → Columns → LentDirectory
lent_directory c v b f n t =
    record {
      before = lent_blocks c.entry.now v.entry.now b.entry.now f.entry.now n.entry.now t.times t.corrections;
      after = lent_blocks c.exit.now v.exit.now b.exit.now f.exit.now n.exit.now t.times t.corrections;
    }

-- the outcome of filing the n samples of a table
abbrev pub lent_filing : ℕ → Columns → LentDirectory → Filed
lent_filing n t l = filed_of n (length (entries_in l.before)) t

-- the number, the count of entries and the directory after a call are those of the outcome
abbrev pub FilesIn : ℕ → Columns → LentDirectory → ℕ → Memory ℕ → Type 0
FilesIn n t l number m = Files (lent_filing n t l) number (before m) (after m) l.before l.after

-- the three columns of signals before a call and after it, beside the times and corrections of a directory
pub record LentSignals : Type 0 where
  pub before : Columns
  pub after : Columns

abbrev pub lent_signal_columns : LentNumbers → LentNumbers → LentNumbers → ReadTable → LentSignals
lent_signal_columns c v b table =
    record {
      before = lent_samples c.entry.now v.entry.now b.entry.now table.columns.times table.columns.corrections;
      after = lent_samples c.exit.now v.exit.now b.exit.now table.columns.times table.columns.corrections;
    }

-- the outcome of listing the samples of a directory
abbrev pub lent_listing : ReadTable → LentSignals → Listed
lent_listing table t =
    listed_of table.entries table.samples (min (length t.before.constellations) (min (length t.before.svids) (length t.before.bands))) table.columns

-- the number and the signals after a call are those of the outcome
abbrev pub ListsIn : ReadTable → LentSignals → ℕ → Type 0
ListsIn table t number = Lists (lent_listing table t) number t.before t.after

-- ---- the answers

-- the answer of a rearrangement into a directory
abbrev pub filing_of : Filed → Result ℕ Refusal
filing_of (unfiled r) = Err r
filing_of (entries_are es) = Ok (length es)

-- the answer of the way back
abbrev pub listing_of : Listed → Result ⊤ Refusal
listing_of (unlisted r) = Err r
listing_of (samples_are t) = Ok tt

-- the answer and the directory after the call are those of the outcome
abbrev pub FiledAs : ℕ → Columns → LentDirectory → Result ℕ Refusal → Type 0
FiledAs n t l a = (a ≡ filing_of (lent_filing n t l)) × (l.after ≡ filed_columns (lent_filing n t l) l.before)

-- the answer and the signals after the call are those of the outcome
abbrev pub ListedAs : ReadTable → LentSignals → Result ⊤ Refusal → Type 0
ListedAs table t a = (a ≡ listing_of (lent_listing table t)) × (t.after ≡ listed_columns (lent_listing table t) t.before)
