-- A table in lent columns that a call reads and does not write. Definitions only.
use Rattle.std.specs.Prelude.{ℕ}
use Rattle.lists.specs.Memory.{before, LentNumbers, LentFloats}
use Rattle.corrections_directory.specs.Directory.{Blocks, lent_blocks}

-- the columns of a directory, of times and of corrections before a call
abbrev pub blocks_before : LentNumbers → LentNumbers → LentNumbers → LentNumbers → LentNumbers → LentFloats → LentFloats → Blocks
blocks_before c v b f n t x = lent_blocks (before c) (before v) (before b) (before f) (before n) (before t) (before x)

-- the columns of a table, and how many of its entries and samples count
pub record ReadTable : Type 0 where
  pub columns : Blocks
  pub entries : ℕ
  pub samples : ℕ

-- the table that a call is lent, in the order of its parameters
abbrev pub read_table : LentNumbers → LentNumbers → LentNumbers → LentNumbers → LentNumbers → ℕ → LentFloats → LentFloats → ℕ → ReadTable
read_table c v b f n entries t x samples = record { columns = blocks_before c v b f n t x; entries = entries; samples = samples }
