-- Lent memory after the entry points of the centre, the line of sight and the clocks. Definitions only.
use Rattle.std.specs.Prelude.{Result, Ok, Err}
use Rattle.median.specs.declared.centre.CentreScale.{CentreScale}
use Rattle.numeric.specs.declared.refusal.Refusal.{Refusal}
use Rattle.numeric.specs.declared.sight.Sight.{Sight}
use Rattle.std.specs.Prelude.{ℕ, List, [], ◌∷◌, map}
use Rattle.numeric.specs.Order.{pattern_of}
use Rattle.median.specs.Centre.{centre_floats}
use Rattle.clocks.specs.declared.clocks.Clocks.{Clocks}

-- clocks from the slots and the count that a caller holds
abbrev pub clocks_from : List ℕ → ℕ → Clocks
clocks_from slot count = record { slot = slot; count = count }

-- the patterns of the centre and the scale; a refusal leaves every bit
abbrev pub centre_after : Result CentreScale Refusal → List ℕ → List ℕ
centre_after (Err r) before = before
centre_after (Ok c) before = map pattern_of (centre_floats (Ok c))

-- the patterns of the unit vector and the range; a refusal leaves every bit
abbrev pub sight_after : Result Sight Refusal → List ℕ → List ℕ
sight_after (Err r) before = before
sight_after (Ok s) before = map pattern_of (s.x ∷ s.y ∷ s.z ∷ s.range ∷ [])
