-- What the contracts of the steps say. Definitions only.
use Rattle.std.specs.Prelude.{Option, Some, None, Result, Ok, Err, ⊤}
use Rattle.numeric.specs.declared.refusal.Refusal.{Refusal}
use Rattle.std.specs.Prelude.{ℕ, cond, not, ◌||◌, List, [], ◌∷◌, ltb, length, Float}
use Rattle.exact.specs.Float.{bits}
use Rattle.median.specs.Sorted.{median_of}
use Rattle.numeric.specs.Rules.{rule, ruled}
use Rattle.numeric.specs.declared.vec3.Vec3.{Vec3}
use Rattle.numeric.specs.declared.refusal.Refusal.TheVariants.{TooMany, SettingOutOfRange, RecordOutOfRange}
use Rattle.corrections_epoch.specs.AddEpoch.{records_in_range, settings_in_range, too_many}
use Rattle.corrections_epoch.specs.declared.record.BaseEpoch.{BaseEpoch}
use Rattle.corrections_epoch.specs.declared.record.States.{States}
use Rattle.corrections_epoch.specs.declared.record.Settings.{Settings}

-- the clock by the patterns of a group's values; under three have none
unfoldable pub clock_by : List ℕ → Option Float
clock_by values = cond (ltb (length values) 3) None (Some (bits (median_of values)))

-- numbers 2, 3 and 4 for all but the table's records
unfoldable pub records_test : ℕ → ℕ → ℕ → BaseEpoch → Option States → Vec3 → Vec3 → Settings → Result ⊤ Refusal
records_test m n room e s base rover set =
    ruled Err
    (rule TooMany (ltb room m || too_many n room e s)
    ∷ rule SettingOutOfRange (not (settings_in_range set))
    ∷ rule RecordOutOfRange (not (records_in_range e s base rover))
    ∷ [])
    (Ok tt)
