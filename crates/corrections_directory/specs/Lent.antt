-- A table in lent columns, before a call and after it. Definitions only.
use Rattle.std.specs.Prelude.{ℕ, ◌≤◌, List, Float, length}
use Rattle.std.specs.Borrow.{Bor}
use Rattle.lists.specs.Memory.{LentNumbers}
use Rattle.corrections_directory.specs.Directory.{Blocks, entries_in, floats, lent_blocks, readings_in}

-- a table's columns before a call and after it; times and corrections also as the 64-bit patterns that are lent
pub record LentTable : Type 0 where
  pub before : Blocks
  pub after : Blocks
  pub times : List ℕ
  pub corrections : List ℕ
  pub times_after : List ℕ
  pub corrections_after : List ℕ

-- the columns of a directory, of times and of corrections
abbrev pub lent_table : LentNumbers → LentNumbers → LentNumbers → LentNumbers → LentNumbers → LentNumbers → LentNumbers → LentTable
lent_table c v b f n t x =
    record {
      before = lent_blocks c.entry.now v.entry.now b.entry.now f.entry.now n.entry.now (floats t.entry.now) (floats x.entry.now);
      after = lent_blocks c.exit.now v.exit.now b.exit.now f.exit.now n.exit.now (floats t.exit.now) (floats x.exit.now);
      times = t.entry.now;
      corrections = x.entry.now;
      times_after = t.exit.now;
      corrections_after = x.exit.now;
    }

-- ---- the same in a condition on the caller, and times and corrections lent as floats

-- a column of numbers as a call finds it
abbrev pub Slice : Type 0
Slice = Bor (List ℕ)

-- a column of floats
abbrev pub FloatSlice : Type 0
FloatSlice = Bor (List Float)

-- the columns of a table as a call finds them, times and corrections lent as patterns
abbrev pub table_now : Slice → Slice → Slice → Slice → Slice → Slice → Slice → Blocks
table_now c v b f n t x = lent_blocks c.now v.now b.now f.now n.now (floats t.now) (floats x.now)

-- the same, times and corrections lent as floats
abbrev pub blocks_now : Slice → Slice → Slice → Slice → Slice → FloatSlice → FloatSlice → Blocks
blocks_now c v b f n t x = lent_blocks c.now v.now b.now f.now n.now t.now x.now

-- the columns have m entries and n samples
abbrev pub TableIn : ℕ → ℕ → Blocks → Type 0
TableIn m n l = (m ≤ length (entries_in l)) × (n ≤ length (readings_in l))
