-- A base epoch and the states beside it by the structs of their lent columns. Definitions only.
use Rattle.std.specs.Prelude.{ℕ, Bool, true, false, List, [], Option, Some, None, Float}
use Rattle.lists.specs.Memory.{before, LentFloats}
use Rattle.lists.specs.Walk.{places}
use Rattle.numeric.specs.Vec3.{vector_at}
use Rattle.corrections_directory.specs.Directory.{Blocks, block_capacity, directory_in}
use Rattle.corrections_add.specs.Add.{Placed}
use Rattle.corrections_epoch.specs.declared.record.Range.{Range}
use Rattle.corrections_epoch.specs.declared.record.State.{State}
use Rattle.corrections_epoch_columns.specs.declared.columns.RangeColumns.{RangeColumns}
use Rattle.corrections_epoch_columns.specs.declared.columns.StateColumns.{StateColumns}
use Rattle.corrections_epoch_columns.specs.Epoch.{LentBools, entry_in, range_at, settings_of, state_at}
use Rattle.corrections_epoch_columns.specs.Short.{ranges_short, states_short}

-- more than 64 ranges, or a column is shorter than they need
abbrev pub ranges_lack : RangeColumns → Bool
ranges_lack c = ranges_short c.count c.constellation.now c.svid.now c.band.now c.pseudorange.now

-- the ranges
abbrev pub ranges_held : RangeColumns → List Range
ranges_held c = places (range_at c.constellation.now c.svid.now c.band.now c.pseudorange.now) c.count

-- more than 64 states, or a column is shorter than they need
abbrev pub states_lack : StateColumns → Bool
states_lack c = states_short c.count c.constellation.now c.svid.now c.band.now c.floats.now

-- the state at i
abbrev pub state_held : StateColumns → ℕ → State
state_held c i = state_at c.constellation.now c.svid.now c.band.now c.floats.now i

-- the outcome for the columns of ranges and of states, if there are any, added to the m entries and n samples of l
abbrev pub columns_entry : ℕ → ℕ → Blocks → Float → RangeColumns → Option StateColumns → LentFloats → LentFloats → Float → Float → LentBools → Placed
columns_entry m n l time r None base rover gap max on =
    entry_in m n (block_capacity l) (directory_in m n l) time r.count r.constellation.now r.svid.now r.band.now r.pseudorange.now
    false 0 [] [] [] [] (vector_at (before base) 0) (vector_at (before rover) 0) (settings_of gap max (before on))
columns_entry m n l time r (Some c) base rover gap max on =
    entry_in m n (block_capacity l) (directory_in m n l) time r.count r.constellation.now r.svid.now r.band.now r.pseudorange.now
    true c.count c.constellation.now c.svid.now c.band.now c.floats.now (vector_at (before base) 0) (vector_at (before rover) 0) (settings_of gap max (before on))
