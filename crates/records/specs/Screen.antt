-- The pairs that the screen keeps (docs/SCOPE.md, "Displacement"; tdcp.rs). Definitions only.
use Rattle.std.specs.Prelude.{ℕ, Bool, List, map, Float}
use Rattle.std.specs.Float.Ieee.{lt}
use Rattle.exact.specs.Float.{◌⊖◌}
use Rattle.lists.specs.Walk.{collect}
use Rattle.numeric.specs.Order.{pattern_of}
use Rattle.numeric.specs.Real.{abs}
use Rattle.median.specs.Centre.{centre_of}
use Rattle.records.specs.Record.{keep}
use Rattle.records.specs.declared.pair.Pair.{Pair}

-- the patterns of the detectors
abbrev pub detectors : List Pair → List ℕ
detectors ps = map (λ (p : Pair). pattern_of p.detector) ps

-- the detectors' centre: sorted by total_order, the one at place len/2
unfoldable pub centre : List Pair → Float
centre ps = centre_of (detectors ps)

-- whether a pair's detector lies strictly within `screen` of c
unfoldable pub within : Float → Float → Pair → Bool
within screen c p = lt (abs (p.detector ⊖ c)) screen

abbrev pub kept_within : Float → Float → List Pair → List Pair
kept_within screen c ps = collect (keep (within screen c)) ps

-- the pairs whose detector lies strictly within `screen` of the detectors' centre, in their order
unfoldable pub kept_of : Float → List Pair → List Pair
kept_of screen ps = kept_within screen (centre ps) ps

-- the constellations of the pairs
abbrev pub constellations : List Pair → List ℕ
constellations ps = map (λ (p : Pair). p.constellation) ps
