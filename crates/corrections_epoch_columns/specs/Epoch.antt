-- A base epoch and the states beside it as lent columns hold them, and the outcome of adding them to a directory. Definitions only.
use Rattle.std.specs.Prelude.{Option, Some, None, ℕ, ◌+◌, ◌*◌, Bool, cond, ◌||◌, List, ltb, length, get_or, Float}
use Rattle.std.specs.Float.{nan}
use Rattle.lists.specs.Memory.{before, Memory, LentNumbers, LentFloats}
use Rattle.lists.specs.Walk.{places}
use Rattle.numeric.specs.Vec3.{vector_at}
use Rattle.numeric.specs.declared.vec3.Vec3.{Vec3}
use Rattle.numeric.specs.declared.refusal.Refusal.TheVariants.{TooMany}
use Rattle.corrections_directory.specs.Directory.{Blocks, Directory, block_capacity, directory_in}
use Rattle.corrections_add.specs.Add.{Placed, refused_in}
use Rattle.corrections_epoch.specs.AddEpoch.{epoch_placed}
use Rattle.corrections_epoch.specs.declared.record.Range.{Range}
use Rattle.corrections_epoch.specs.declared.record.BaseEpoch.{BaseEpoch}
use Rattle.corrections_epoch.specs.declared.record.State.{State}
use Rattle.corrections_epoch.specs.declared.record.States.{States}
use Rattle.corrections_epoch.specs.declared.record.Settings.{Settings}

-- one truth value for each constellation, lent
abbrev pub LentBools : Type 0
LentBools = Memory (List Bool)

-- ---- an epoch

-- the range at i of columns of constellations, svids, bands and pseudoranges
abbrev pub range_at : List ℕ → List ℕ → List ℕ → List Float → ℕ → Range
range_at cs vs bs ps i = record { constellation = get_or cs i 0; svid = get_or vs i 0; band = get_or bs i 0; pseudorange = get_or ps i nan }

abbrev pub base_epoch_of : Float → ℕ → List ℕ → List ℕ → List ℕ → List Float → BaseEpoch
base_epoch_of time k cs vs bs ps = record { count = k; time = time; ranges = places (range_at cs vs bs ps) k }

-- the state at i of columns of constellations, svids and bands, and of eight floats for each: position, velocity, clock, modelled
abbrev pub state_at : List ℕ → List ℕ → List ℕ → List Float → ℕ → State
state_at cs vs bs fs i =
    record {
      constellation = get_or cs i 0;
      svid = get_or vs i 0;
      band = get_or bs i 0;
      position = vector_at fs (i * 8);
      velocity = vector_at fs (i * 8 + 3);
      clock = get_or fs (i * 8 + 6) nan;
      modelled = get_or fs (i * 8 + 7) nan;
    }

-- the first m states that the columns hold; none under the mark that there are none
abbrev pub states_in : Bool → ℕ → List ℕ → List ℕ → List ℕ → List Float → Option States
states_in present m cs vs bs fs = cond present (Some record { count = m; states = places (state_at cs vs bs fs) m }) None

-- the greatest gap and correction, and for each constellation whether it is in use
abbrev pub settings_of : Float → Float → List Bool → Settings
settings_of gap max on = record { max_gap = gap; max_correction = max; constellations = on }

-- number 2: a lent column is shorter than the k ranges or m states need
unfoldable pub records_short : ℕ → List ℕ → List ℕ → List ℕ → List Float → ℕ → List ℕ → List ℕ → List ℕ → List Float → Bool
records_short k rc rv rb rp m sc sv sb sf =
    ltb (length rc) k || ltb (length rv) k || ltb (length rb) k || ltb (length rp) k || ltb (length sc) m || ltb (length sv) m || ltb (length sb) m || ltb (length sf) (m * 8)

-- the epoch and the states that the columns hold, added to a directory; states are not read under the mark that there are none
unfoldable pub entry_in : ℕ → ℕ → ℕ → Directory → Float → ℕ → List ℕ → List ℕ → List ℕ → List Float → Bool → ℕ → List ℕ → List ℕ → List ℕ → List Float → Vec3 → Vec3 → Settings → Placed
entry_in m n room d time k rc rv rb rp present j sc sv sb sf base rover set =
    cond (records_short k rc rv rb rp (cond present j 0) sc sv sb sf) (refused_in TooMany)
    (epoch_placed m n room d (base_epoch_of time k rc rv rb rp) (states_in present j sc sv sb sf) base rover set)

-- the outcome for columns that a call is lent, added to the m entries and n samples of l
abbrev pub lent_entry : ℕ → ℕ → Blocks → Float → ℕ → LentNumbers → LentNumbers → LentNumbers → LentFloats → Bool → ℕ → LentNumbers → LentNumbers → LentNumbers → LentFloats → LentFloats → LentFloats → Float → Float → LentBools → Placed
lent_entry m n l time k rc rv rb rp present j sc sv sb sf base rover gap max on =
    entry_in m n (block_capacity l) (directory_in m n l) time k (before rc) (before rv) (before rb) (before rp)
    present j (before sc) (before sv) (before sb) (before sf) (vector_at (before base) 0) (vector_at (before rover) 0) (settings_of gap max (before on))
