-- One base epoch added to the table: numbers 2, 3, 4 and 11 of docs/SCOPE.md, and the table afterwards. Definitions only.
use Rattle.std.specs.Prelude.{Option, Result}
use Rattle.corrections_add.specs.declared.add.Counts.{Counts}
use Rattle.numeric.specs.declared.refusal.Refusal.{Refusal}
use Rattle.std.specs.Prelude.{ℕ, ◌+◌, Bool, not, ◌&&◌, ◌||◌, List, [], ◌∷◌, ltb, length}
use Rattle.lists.specs.Walk.{every}
use Rattle.numeric.specs.Rules.{rule, ruled}
use Rattle.numeric.specs.Real.{in_range}
use Rattle.numeric.specs.declared.vec3.Vec3.{Vec3}
use Rattle.numeric.specs.Vec3.{vector_in_range}
use Rattle.numeric.specs.declared.refusal.Refusal.TheVariants.{TooMany, SettingOutOfRange, RecordOutOfRange, TableFull}
use Rattle.corrections_table.specs.Table.{sound_table}
use Rattle.corrections_table.specs.Add.{AddOutcome, refused, added, insert_all}
use Rattle.corrections_table.specs.declared.sample.Sample.{Sample}
use Rattle.corrections_directory.specs.Directory.{Directory, block_capacity, directory_in, sound_directory}
use Rattle.corrections_directory.specs.Lent.{LentTable}
use Rattle.corrections_add.specs.Add.{AddedBy, Placed, refused_in, added_in, directory_with}
use Rattle.corrections_epoch.specs.Record.{ranges_of, states_count, states_of, range_in_range, state_in_range}
use Rattle.corrections_epoch.specs.Sample.{epoch_samples}
use Rattle.corrections_epoch.specs.declared.record.BaseEpoch.{BaseEpoch}
use Rattle.corrections_epoch.specs.declared.record.States.{States}
use Rattle.corrections_epoch.specs.declared.record.Settings.{Settings}

-- number 2: the table has more samples than its capacity, room, or the epoch or the list of states more than 64 records
unfoldable pub too_many : ℕ → ℕ → BaseEpoch → Option States → Bool
too_many n room e s = ltb room n || ltb 64 e.count || ltb 64 (states_count s)

-- number 3 passes
unfoldable pub settings_in_range : Settings → Bool
settings_in_range set = in_range set.max_gap && in_range set.max_correction

-- number 4 passes for all but the table
unfoldable pub records_in_range : BaseEpoch → Option States → Vec3 → Vec3 → Bool
records_in_range e s base rover =
    vector_in_range base && vector_in_range rover && in_range e.time && every range_in_range (ranges_of e) && every state_in_range (states_of s)

-- the epoch to the first n samples, t, of columns with the capacity room: the refusal, or the table with the epoch's samples
unfoldable pub added_of : ℕ → ℕ → List Sample → BaseEpoch → Option States → Vec3 → Vec3 → Settings → AddOutcome
added_of n room t e s base rover set =
    let new = epoch_samples base rover set e s in
    ruled refused
    (rule TooMany (too_many n room e s)
    ∷ rule SettingOutOfRange (not (settings_in_range set))
    ∷ rule RecordOutOfRange (not (records_in_range e s base rover && sound_table t))
    ∷ rule TableFull (ltb room (n + length new))
    ∷ [])
    (added (insert_all t new))

-- the epoch to m entries and n samples of a directory, in columns with the capacity room: the refusal, or the directory with the epoch's samples
unfoldable pub epoch_placed : ℕ → ℕ → ℕ → Directory → BaseEpoch → Option States → Vec3 → Vec3 → Settings → Placed
epoch_placed m n room d e s base rover set =
    let new = epoch_samples base rover set e s in
    ruled refused_in
    (rule TooMany (ltb room m || too_many n room e s)
    ∷ rule SettingOutOfRange (not (settings_in_range set))
    ∷ rule RecordOutOfRange (not (records_in_range e s base rover && sound_directory d))
    ∷ rule TableFull (ltb room (n + length new))
    ∷ [])
    (added_in (directory_with d new))

-- an epoch is added to the m entries and n samples of lent columns, with this answer
abbrev pub AddsBaseEpoch : BaseEpoch → Option States → Vec3 → Vec3 → Settings → Result Counts Refusal → ℕ → ℕ → LentTable → Type 0
AddsBaseEpoch e s base rover set r m n t = AddedBy (epoch_placed m n (block_capacity t.before) (directory_in m n t.before) e s base rover set) r m n t
