-- What the contracts of the steps say. Definitions only.
use Rattle.numeric.specs.Refusal.{answer_number}
use Rattle.std.specs.Prelude.{Result, Option, Some, None}
use Rattle.corrections_add.specs.declared.add.Counts.{Counts}
use Rattle.numeric.specs.declared.refusal.Refusal.{Refusal}
use Rattle.std.specs.Prelude.{ℕ, ◌+◌, ◌*◌, ◌<◌, ◌≡◌, true, false, List, length, take, Float}
use Rattle.lists.specs.Walk.{places}
use Rattle.corrections_add.specs.Add.{entries_now, samples_now}
use Rattle.corrections_epoch.specs.declared.record.Range.{Range}
use Rattle.corrections_epoch.specs.declared.record.BaseEpoch.{BaseEpoch}
use Rattle.corrections_epoch.specs.declared.record.State.{State}
use Rattle.corrections_epoch.specs.declared.record.States.{States}
use Rattle.corrections_epoch_columns.specs.declared.columns.RangeColumns.{RangeColumns}
use Rattle.corrections_epoch_columns.specs.declared.columns.StateColumns.{StateColumns}
use Rattle.corrections_epoch_columns.specs.Columns.{ranges_held, ranges_lack, state_held, states_lack}

-- the epoch e has the time and the k ranges l
pub record EpochRead (time : Float) (k : ℕ) (l : List Range) (e : BaseEpoch) : Type 0 where
  pub count-is : e.count ≡ k
  pub time-is : e.time ≡ time
  pub ranges : take k e.ranges ≡ l

-- the epoch of the columns; where these lack, it counts more than 64, which 2 refuses
abbrev pub GivesEpoch : Float → RangeColumns → BaseEpoch → Type 0
GivesEpoch time c e = (ranges_lack c ≡ true → 64 < e.count) × (ranges_lack c ≡ false → EpochRead time c.count (ranges_held c) e)

-- the state i lies in the columns
abbrev pub StateIn : ℕ → StateColumns → Type 0
StateIn i c = ((i < length c.constellation.now) × (i < length c.svid.now)) × ((i < length c.band.now) × (i * 8 + 7 < length c.floats.now))

-- the states s are the m states l
pub record StatesRead (m : ℕ) (l : List State) (s : States) : Type 0 where
  pub count-is : s.count ≡ m
  pub states-are : take m s.states ≡ l

-- the states of the columns; where these lack, they count more than 64, which 2 refuses
abbrev pub StatesOf : StateColumns → States → Type 0
StatesOf c s = (states_lack c ≡ true → 64 < s.count) × (states_lack c ≡ false → StatesRead c.count (places (state_held c) c.count) s)

-- the states of the columns, if there are any
abbrev pub GivesStates : Option StateColumns → Option States → Type 0
GivesStates None s = s ≡ None
GivesStates (Some c) None = ⊥
GivesStates (Some c) (Some s) = StatesOf c s

-- the number and both counts after a call are those of the answer
abbrev pub CountsWritten : Result Counts Refusal → ℕ → ℕ → ℕ → ℕ → ℕ → Type 0
CountsWritten answer number m m' n n' = (number ≡ answer_number answer) × (m' ≡ entries_now answer m) × (n' ≡ samples_now answer n)
