-- The observations that a fix has as rows (docs/SCOPE.md, "Fix"; wls.rs). Definitions only.
use Rattle.std.specs.Prelude.{ℕ, Bool, List, map, Float}
use Rattle.std.specs.Float.Ieee.{le}
use Rattle.lists.specs.Walk.{collect}
use Rattle.records.specs.Record.{keep}
use Rattle.records.specs.declared.record.Observation.{Observation}

-- whether an observation is at or above the mask
unfoldable pub clears : Float → Observation → Bool
clears mask o = le mask o.elevation

-- the observations at or above the mask, in their order
unfoldable pub above_mask : Float → List Observation → List Observation
above_mask mask os = collect (keep (clears mask)) os

-- the constellations of the observations
abbrev pub constellations : List Observation → List ℕ
constellations os = map (λ (o : Observation). o.constellation) os
