-- The records that are handed over with a base epoch, those that count, and number 4 for each (docs/REFUSALS.md). Definitions only.
use Rattle.std.specs.Prelude.{ℕ, Bool, ◌&&◌, List, [], take, Option, Some, None}
use Rattle.numeric.specs.Real.{in_range}
use Rattle.numeric.specs.Vec3.{vector_in_range}
use Rattle.corrections_epoch.specs.declared.record.Range.{Range}
use Rattle.corrections_epoch.specs.declared.record.BaseEpoch.{BaseEpoch}
use Rattle.corrections_epoch.specs.declared.record.State.{State}
use Rattle.corrections_epoch.specs.declared.record.States.{States}

-- the ranges of an epoch
abbrev pub ranges_of : BaseEpoch → List Range
ranges_of e = take e.count e.ranges

-- how many states there are
abbrev pub states_count : Option States → ℕ
states_count None = 0
states_count (Some s) = s.count

-- the states beside an epoch, if there are any
abbrev pub states_of : Option States → List State
states_of None = []
states_of (Some s) = take s.count s.states

abbrev pub range_in_range : Range → Bool
range_in_range r = in_range r.pseudorange

-- a state's `modelled` is checked like its other floats
unfoldable pub state_in_range : State → Bool
state_in_range s = vector_in_range s.position && vector_in_range s.velocity && in_range s.clock && in_range s.modelled
