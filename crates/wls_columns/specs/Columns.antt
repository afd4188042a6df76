-- The records that a caller hands over as columns of numbers, place by place. Definitions only.
use Rattle.std.specs.Prelude.{ℕ, ◌+◌, ◌*◌, Bool, ◌&&◌, List, leb, get_or, length, Float}
use Rattle.std.specs.Float.{nan}
use Rattle.lists.specs.Walk.{places}
use Rattle.exact.specs.Float.{+0}
use Rattle.normal_equations.specs.declared.row.Row.{Row}
use Rattle.normal_equations.specs.declared.row.Rows.{Rows}
use Rattle.numeric.specs.Vec3.{vector_at}
use Rattle.records.specs.declared.record.Observation.{Observation}
use Rattle.records.specs.declared.record.Observations.{Observations}

-- ---- the rows of a round

-- three floats of the line of sight for each row, and one number in each other column
pub record RowColumns : Type 0 where
  pub units : List Float
  pub clocks : List ℕ
  pub residuals : List ℕ
  pub sigmas : List Float

abbrev pub row_columns : List Float → List ℕ → List ℕ → List Float → RowColumns
row_columns units clocks residuals sigmas = record { units = units; clocks = clocks; residuals = residuals; sigmas = sigmas }

-- row i
unfoldable pub row_from : RowColumns → ℕ → Row
row_from c i =
    record {
      unit = vector_at c.units (3 * i);
      clock = get_or c.clocks i 0;
      residual = get_or c.residuals i 0;
      sigma = get_or c.sigmas i nan;
    }

-- the first n rows
abbrev pub rows_from : RowColumns → ℕ → Rows
rows_from c n = record { count = n; row = places (row_from c) n }

-- n is at most 64, and no column is shorter than n rows need
unfoldable pub rows_fit : RowColumns → ℕ → Bool
rows_fit c n =
    leb n 64 && leb (3 * n) (length c.units) && leb n (length c.clocks) && leb n (length c.residuals) && leb n (length c.sigmas)

-- ---- the observations of a fix

-- five floats for each observation (pseudorange, x, y, z, elevation), and its constellation
pub record ObservationColumns : Type 0 where
  pub constellation : List ℕ
  pub floats : List Float

abbrev pub observation_columns : List ℕ → List Float → ObservationColumns
observation_columns constellation floats = record { constellation = constellation; floats = floats }

-- Observation i. A fix reads no band, svid or `modelled`: they are 0.
unfoldable pub observation_at : ObservationColumns → ℕ → Observation
observation_at c i =
    record {
      constellation = get_or c.constellation i 0;
      band = 0;
      svid = 0;
      modelled = +0;
      pseudorange = get_or c.floats (5 * i) nan;
      satellite = vector_at c.floats (5 * i + 1);
      elevation = get_or c.floats (5 * i + 4) nan;
    }

-- the first n observations
abbrev pub observations_of : ObservationColumns → ℕ → Observations
observations_of c n = record { count = n; observation = places (observation_at c) n }

-- n is at most 64, and no column is shorter than n observations need
unfoldable pub observations_fit : ObservationColumns → ℕ → Bool
observations_fit c n = leb n 64 && leb n (length c.constellation) && leb (5 * n) (length c.floats)
