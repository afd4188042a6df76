-- What the entry points are lent, as the laws name it. Definitions only.
use Rattle.std.specs.Prelude.{ℕ, Bool, Float}
use Rattle.lists.specs.Memory.{before, after, LentNumbers, LentFloats}
use Rattle.numeric.specs.Vec3.{vector_at}
use Rattle.corrections_epoch_columns.specs.Epoch.{LentBools, settings_of}
use Rattle.corrections_laws.specs.Calls.{Caller, Epoch}

-- the table of m entries and n samples before a call, by the directory's five columns, times and corrections
abbrev pub caller_before : LentNumbers → LentNumbers → LentNumbers → LentNumbers → LentNumbers → LentNumbers → LentNumbers → ℕ → ℕ → Caller
caller_before c v b f k t x m n =
    record {
      entries = m;
      samples = n;
      constellations = before c;
      svids = before v;
      bands = before b;
      firsts = before f;
      counts = before k;
      times = before t;
      corrections = before x;
    }

-- the same after the call
abbrev pub caller_after : LentNumbers → LentNumbers → LentNumbers → LentNumbers → LentNumbers → LentNumbers → LentNumbers → ℕ → ℕ → Caller
caller_after c v b f k t x m n =
    record {
      entries = m;
      samples = n;
      constellations = after c;
      svids = after v;
      bands = after b;
      firsts = after f;
      counts = after k;
      times = after t;
      corrections = after x;
    }

-- what `zaqnuti_add_epoch` is handed beside the table, in the order of its parameters
abbrev pub epoch_lent : Float → ℕ → LentNumbers → LentNumbers → LentNumbers → LentFloats → Bool → ℕ → LentNumbers → LentNumbers → LentNumbers → LentFloats
    → LentFloats → LentFloats → Float → Float → LentBools → Epoch
epoch_lent time ranges rc rv rb rp present states sc sv sb sf base rover gap max on =
    record {
      time = time;
      ranges = ranges;
      range-constellations = before rc;
      range-svids = before rv;
      range-bands = before rb;
      pseudoranges = before rp;
      present = present;
      states = states;
      state-constellations = before sc;
      state-svids = before sv;
      state-bands = before sb;
      state-floats = before sf;
      base = vector_at (before base) 0;
      rover = vector_at (before rover) 0;
      settings = settings_of gap max (before on);
    }
