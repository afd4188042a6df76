-- The columns that a call is lent, before it and after it. Definitions only.
use Rattle.std.specs.Prelude.{ℕ, List, Float}
use Rattle.std.specs.Borrow.{Bor}
use Rattle.lists.specs.Memory.{before, LentNumbers, LentFloats}
use Rattle.corrections_table.specs.Table.{Columns, lent_samples}

-- the columns of a table before a call
abbrev pub columns_before : LentNumbers → LentNumbers → LentNumbers → LentFloats → LentFloats → Columns
columns_before c v b t x = lent_samples (before c) (before v) (before b) (before t) (before x)

-- the same columns in a condition on the caller
abbrev pub columns_now : Bor (List ℕ) → Bor (List ℕ) → Bor (List ℕ) → Bor (List Float) → Bor (List Float) → Columns
columns_now c v b t x = lent_samples c.now v.now b.now t.now x.now
