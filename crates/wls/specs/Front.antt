-- What comes before the rounds: the rows, and the rules on them in the order of docs/REFUSALS.md. Definitions only.
use Rattle.std.specs.Prelude.{List, ◌++◌, length}
use Rattle.numeric.specs.declared.vec3.Vec3.{Vec3}
use Rattle.numeric.specs.Rules.{Rule}
use Rattle.estimate_rounds.specs.Rules.{row_rules}
use Rattle.records.specs.Record.{counted_observations}
use Rattle.clocks.specs.Clocks.{clocks_of}
use Rattle.records.specs.Mask.{above_mask, constellations as observedConstellations}
use Rattle.wls.specs.Valid.{fix_input_rules}
use Rattle.records.specs.declared.record.Observation.{Observation}
use Rattle.records.specs.declared.record.Observations.{Observations}
use Rattle.wls.specs.declared.fix.Settings.{Settings as FixSettings}

-- the observations at or above the mask
abbrev pub fix_rows : Observations → FixSettings → List Observation
fix_rows observations settings = above_mask settings.mask (counted_observations observations)

-- 2 to 9
unfoldable pub fix_rules : Observations → Vec3 → FixSettings → List Rule
fix_rules observations guess settings =
    let above = fix_rows observations settings in
    fix_input_rules observations guess settings ++ row_rules (length above) (clocks_of (observedConstellations above)).count
