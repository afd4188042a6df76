-- Columns that no epoch can be made of, computed. Assumes nothing.
use Rattle.numeric.specs.Refusal.{answer_number}
use Rattle.std.specs.Prelude.{Err}
use mathlib.Core.Path.{◌≡◌, refl}
use mathlib.Core.List.{List, []}
use Prim.Native.Nat.{ℕ}
use Rattle.numeric.specs.declared.refusal.Refusal.TheVariants.{TooMany}
use Rattle.records.specs.Carriers.{CarrierColumns, carrier_columns, epoch_fits}
use Rattle.numeric.specs.declared.vec3.Vec3.{Vec3}
use Rattle.records.specs.declared.pair.Profile.{Profile}
use Rattle.tdcp.specs.declared.displacement.Settings.{Settings}
use Rattle.tdcp.specs.declared.displacement.Interval.{Interval}
use Rattle.tdcp_columns.specs.Displacement.{lent, columns_displaced, delta_after, counts_after}

module _ (p c : CarrierColumns) (n : ℕ) (since : Interval) (receiver : Vec3) (settings : Settings) (profile : Profile) where
  -- 65 previous carriers, whatever the columns hold
  pub many-previous : columns_displaced (lent p 65 c n since receiver settings profile) ≡ Err TooMany
  unfolding columns_displaced epoch_fits
  many-previous = refl

  -- one previous carrier, and columns that have none
  pub previous-missing : columns_displaced (lent (carrier_columns [] [] [] [] []) 1 c n since receiver settings profile) ≡ Err TooMany
  unfolding columns_displaced epoch_fits
  previous-missing = refl

-- a refusal leaves the lent results as they were
pub refused-leaves : (delta counts : List ℕ) → (delta_after (Err TooMany) delta ≡ delta) × (counts_after (Err TooMany) counts ≡ counts)
refused-leaves delta counts = (refl, refl)

-- whatever the answer would be
pub refused-number : (A : Type 0) → answer_number {A = A} (Err TooMany) ≡ 2
refused-number A = refl
