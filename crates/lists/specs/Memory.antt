-- Lent memory before a call and after it. Definitions only.
use Rattle.std.specs.Prelude.{ℕ, List, Float}
use Rattle.std.specs.Borrow.{Bor, MutBor}
use denote.Triple.Both.{Both}

-- lent memory that holds an A, as it is before a call and after it
abbrev pub Memory : Type 0 → Type 0
Memory A = Both (Bor A) (Bor A)

-- numbers, and floats
abbrev pub LentNumbers : Type 0
LentNumbers = Memory (List ℕ)

abbrev pub LentFloats : Type 0
LentFloats = Memory (List Float)

module _ {A : Type 0} where
  -- what lent memory holds before a call
  abbrev pub before : Memory A → A
  before x = x.entry.now

  -- what it holds after the call
  abbrev pub after : Memory A → A
  after x = x.exit.now

  -- memory lent to be written, as the call finds it
  abbrev pub held : MutBor A → Bor A
  held x = record { ref_ptr = x.ref_ptr; now = x.now }

  -- memory lent to be written, before the call and after it
  abbrev pub lent : Both (MutBor A) (MutBor A) → Memory A
  lent x = record { entry = held x.entry; exit = held x.exit }
