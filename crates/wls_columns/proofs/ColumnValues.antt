-- Records of columns, and columns that are too short, computed. Assumes nothing.
use mathlib.Core.Path.{◌≡◌, refl}
use mathlib.Core.List.{[], ◌∷◌}
use mathlib.Core.Bool.{true, false}
use Prim.Native.Nat.{ℕ}
use lib.IntN.{pos}
use lib.Ieee.{Float}
use Rattle.lists.specs.Walk.{places}
use Rattle.exact.specs.Float.{+0}
use Rattle.numeric.specs.declared.refusal.Refusal.TheVariants.{TooMany}
use Rattle.std.specs.Prelude.{Err}
use Rattle.records.specs.Carriers.{carrier_columns, carrier_at, carriers_of, epoch_fits}
use Rattle.wls_columns.specs.Columns.{RowColumns, row_columns, row_from, rows_from, rows_fit, observation_columns, observation_at, observations_of, observations_fit}
use Rattle.wls_columns.specs.Step.{column_step_of}

module _ (a b c d e f : Float) where
  -- two rows
  abbrev rows : RowColumns
  rows = row_columns (a ∷ b ∷ c ∷ d ∷ e ∷ f ∷ []) (3 ∷ 4 ∷ []) (7 ∷ 8 ∷ []) (e ∷ f ∷ [])

  pub both-rows : (rows_from rows 2).row
      ≡ record { unit = record { x = a; y = b; z = c }; clock = 3; residual = 7; sigma = e }
      ∷ record { unit = record { x = d; y = e; z = f }; clock = 4; residual = 8; sigma = f }
      ∷ []
  unfolding places row_from
  both-rows = refl

  -- each column has two rows, and none a third
  pub rows-two : rows_fit rows 2 ≡ true
  unfolding rows_fit
  rows-two = refl

  pub rows-three : rows_fit rows 3 ≡ false
  unfolding rows_fit
  rows-three = refl

  -- a carrier, and an observation of its first five floats
  pub one-carrier : carriers_of (carrier_columns (6 ∷ []) (21 ∷ []) (1575 ∷ []) (pos 1 ∷ []) (a ∷ b ∷ c ∷ d ∷ e ∷ f ∷ [])) 1
      ≡ record { constellation = 6; svid = 21; band = 1575; adr = a; state = pos 1; satellite = record { x = b; y = c; z = d }; elevation = e; rate = f }
      ∷ []
  unfolding places carrier_at
  one-carrier = refl

  pub one_observation : (observations_of (observation_columns (6 ∷ []) (a ∷ b ∷ c ∷ d ∷ e ∷ [])) 1).observation
      ≡ record { constellation = 6; band = 0; svid = 0; modelled = +0; pseudorange = a; satellite = record { x = b; y = c; z = d }; elevation = e }
      ∷ []
  unfolding places observation_at
  one_observation = refl

  -- one float too few
  pub carrier-short : epoch_fits (carrier_columns (6 ∷ []) (21 ∷ []) (1575 ∷ []) (pos 1 ∷ []) (a ∷ b ∷ c ∷ d ∷ e ∷ [])) 1 ≡ false
  unfolding epoch_fits
  carrier-short = refl

  pub observation_short : observations_fit (observation_columns (6 ∷ []) (a ∷ b ∷ c ∷ d ∷ [])) 1 ≡ false
  unfolding observations_fit
  observation_short = refl

-- 65 rows, whatever the columns hold
pub too_many_lem : (c : RowColumns) (unknowns : ℕ) (huber : Float) → column_step_of c 65 unknowns huber ≡ Err TooMany
unfolding column_step_of rows_fit
too_many_lem c unknowns huber = refl
