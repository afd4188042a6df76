-- The columns that a call is lent, and a matrix whose bits are its patterns, for no cell is a NaN. Definitions only.
use Rattle.std.specs.Prelude.{ℕ, ◌<◌, ◌≡◌, List, T, length, Float}
use Rattle.std.specs.Float.Ieee.Scale.{finite}
use Rattle.cholesky.specs.Factor.{row, cell}
use Rattle.wls_columns.specs.declared.columns.LentObservations.{LentObservations}
use Rattle.wls_columns.specs.declared.columns.LentRows.{LentRows}
use Rattle.wls_columns.specs.Columns.{RowColumns, row_columns, ObservationColumns, observation_columns}

-- the rows, and the observations, that a call is lent as columns
abbrev pub lent_row_columns : LentRows → RowColumns
lent_row_columns c = row_columns c.units.now c.clocks.now c.residuals.now c.sigmas.now

abbrev pub lent_observations : LentObservations → ObservationColumns
lent_observations c = observation_columns c.constellation.now c.floats.now

-- nine rows of nine finite floats
pub record FiniteSquare (m : List (List Float)) : Type 0 where
  pub rows : length m ≡ 9
  pub wide : (i : ℕ) → i < 9 → length (row m i) ≡ 9
  pub finite-at : (i j : ℕ) → i < 9 → j < 9 → T (finite (cell m i j))
