-- Columns that no observations can be made of, computed. Assumes nothing.
use Rattle.numeric.specs.Refusal.{answer_number}
use Rattle.std.specs.Prelude.{Err}
use mathlib.Core.Path.{◌≡◌, refl}
use mathlib.Core.List.{[]}
use Rattle.numeric.specs.declared.refusal.Refusal.TheVariants.{TooMany}
use Rattle.numeric.specs.declared.vec3.Vec3.{Vec3}
use Rattle.wls.specs.declared.fix.Settings.{Settings}
use Rattle.wls_columns.specs.Columns.{ObservationColumns, observation_columns, observations_fit}
use Rattle.wls_columns.specs.Fix.{column_fix_of}

module _ (guess : Vec3) (settings : Settings) where
  pub many-observations : (c : ObservationColumns) → column_fix_of c 65 guess settings ≡ Err TooMany
  unfolding column_fix_of observations_fit
  many-observations c = refl

  pub observations-missing : column_fix_of (observation_columns [] []) 1 guess settings ≡ Err TooMany
  unfolding column_fix_of observations_fit
  observations-missing = refl

-- whatever the answer would be
pub refused-number : (A : Type 0) → answer_number {A = A} (Err TooMany) ≡ 2
refused-number A = refl
