-- What inner functions of reading and writing need and promise. Definitions only.
use Rattle.std.specs.Prelude.{◌≡◌, ℕ, ◌+◌, ◌*◌, ◌<◌, List, length, ℤ}
use Rattle.std.specs.Borrow.{Bor}
use Rattle.lists.specs.Memory.{before, after, LentNumbers}
use Rattle.wire.specs.declared.record.CarrierRecord.{CarrierRecord}
use Rattle.wire.specs.Record.{epoch_bytes}
use Rattle.wire.specs.Columns.{RecordColumns, record_columns, columns_with, over}
use Rattle.wire.specs.Lent.{LentRecords}

-- the columns of records in a condition on the caller
abbrev pub columns_now : Bor (List ℕ) → Bor (List ℕ) → Bor (List ℕ) → Bor (List ℤ) → Bor (List ℕ) → RecordColumns
columns_now constellation svid band state floats = record_columns constellation.now svid.now band.now state.now floats.now

-- the columns have a record at place i
pub record HoldsRecord (c : RecordColumns) (i : ℕ) : Type 0 where
  pub constellation : i < length c.constellation
  pub svid : i < length c.svid
  pub band : i < length c.band
  pub state : i < length c.state
  pub floats : 6 * i + 5 < length c.floats

-- the columns hold the records rs in their first places, and after them what they held before
abbrev pub Filled : List CarrierRecord → LentRecords → Type 0
Filled rs c = c.later ≡ columns_with rs c.earlier

-- so do their bytes in lent ones
abbrev pub Emitted : List CarrierRecord → LentNumbers → Type 0
Emitted rs out = after out ≡ over (epoch_bytes rs) (before out)
