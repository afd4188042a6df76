-- Reading and writing carrier records: the number of the answer, and what is lent afterwards. Definitions only.
use Rattle.std.specs.Prelude.{◌≡◌, ℕ, ◌*◌, cond, ◌&&◌, List, leb, eqb, length, ℤ}
use Rattle.lists.specs.Memory.{before, after, Memory, LentNumbers}
use Rattle.numeric.specs.Refusal.{number_of}
use Rattle.numeric.specs.declared.refusal.Refusal.TheVariants.{TooMany, BrokenRecords}
use Rattle.wire.specs.Record.{count_in, is_whole, records_of, epoch_bytes}
use Rattle.wire.specs.declared.columns.Columns.{Columns}
use Rattle.wire.specs.Columns.{RecordColumns, record_columns, columns_fit, columns_with, column_records, over}

abbrev pub LentStates : Type 0
LentStates = Memory (List ℤ)

-- the columns of records before a call
abbrev pub records_before : LentNumbers → LentNumbers → LentNumbers → LentStates → LentNumbers → RecordColumns
records_before constellation svid band state floats = record_columns (before constellation) (before svid) (before band) (before state) (before floats)

-- those of lent columns that stand together
abbrev pub columns_of : Columns → RecordColumns
columns_of c = record_columns c.constellation.now c.svid.now c.band.now c.state.now c.floats.now

-- and after it
pub record LentRecords : Type 0 where
  pub earlier : RecordColumns
  pub later : RecordColumns

abbrev pub lent_records : LentNumbers → LentNumbers → LentNumbers → LentStates → LentNumbers → LentRecords
lent_records constellation svid band state floats =
    record {
      earlier = records_before constellation svid band state floats;
      later = record_columns (after constellation) (after svid) (after band) (after state) (after floats);
    }

-- what is lent afterwards: 0 leaves what was made, and a refusal what was there before
abbrev pub if_done : {A : Type 0} → ℕ → A → A → A
if_done number made was = cond (eqb number 0) made was

-- ---- reading

-- 21: the bytes are no whole records; then 2: more than 64 records, or a column too short
unfoldable pub read_number : List ℕ → RecordColumns → ℕ
read_number s c = cond (is_whole s) (cond (columns_fit c (count_in s)) 0 (number_of TooMany)) (number_of BrokenRecords)

pub record ReadAnswers (s : List ℕ) (number : ℕ) (c₀ c : RecordColumns) (count₀ count : ℕ) : Type 0 where
  pub number_is : number ≡ read_number s c₀
  pub columns-are : c ≡ if_done number (columns_with (records_of s) c₀) c₀
  pub count-is : count ≡ if_done number (count_in s) count₀

-- of lent bytes, columns and count
abbrev pub RecordsRead : LentNumbers → ℕ → LentRecords → Memory ℕ → Type 0
RecordsRead s number c count = ReadAnswers (before s) number c.earlier c.later (before count) (after count)

-- ---- writing

-- 2: more than 64 records, a column too short, or too few places for the bytes
unfoldable pub write_number : RecordColumns → ℕ → List ℕ → ℕ
write_number c n out = cond (columns_fit c n && leb (59 * n) (length out)) 0 (number_of TooMany)

pub record WriteAnswers (c : RecordColumns) (n number : ℕ) (out₀ out : List ℕ) : Type 0 where
  pub number_is : number ≡ write_number c n out₀
  pub bytes-are : out ≡ if_done number (over (epoch_bytes (column_records c n)) out₀) out₀

-- to lent bytes
abbrev pub RecordsWritten : RecordColumns → ℕ → ℕ → LentNumbers → Type 0
RecordsWritten c n number out = WriteAnswers c n number (before out) (after out)
