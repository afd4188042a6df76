-- The table that `build` of differential.rs makes of a list of epochs. Definitions only.
use Rattle.std.specs.Prelude.{Option, List}
use Rattle.lists.specs.Walk.{collect}
use Rattle.numeric.specs.declared.vec3.Vec3.{Vec3}
use Rattle.corrections_table.specs.Build.{built_of}
use Rattle.corrections_table.specs.declared.sample.Sample.{Sample}
use Rattle.corrections_epoch.specs.Sample.{epoch_samples}
use Rattle.corrections_epoch.specs.declared.record.BaseEpoch.{BaseEpoch}
use Rattle.corrections_epoch.specs.declared.record.States.{States}
use Rattle.corrections_epoch.specs.declared.record.Settings.{Settings}

-- an epoch and the states beside it
pub record EpochInput : Type 0 where
  pub epoch : BaseEpoch
  pub states : Option States

-- the samples of all epochs as they arrive, a series for each signal, sorted by time
unfoldable pub build_of : Vec3 → Vec3 → Settings → List EpochInput → List Sample
build_of base rover set inputs = built_of (collect (λ (i : EpochInput). epoch_samples base rover set i.epoch i.states) inputs)
