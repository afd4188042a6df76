-- The rules of a fix, in the numbers and order of docs/REFUSALS.md. Definitions only.
use Rattle.std.specs.Prelude.{Bool, not, ◌&&◌, List, [], ◌∷◌, eqb, ltb}
use Rattle.lists.specs.Walk.{every}
use Rattle.numeric.specs.Real.{in_range}
use Rattle.numeric.specs.declared.vec3.Vec3.{Vec3}
use Rattle.numeric.specs.declared.refusal.Refusal.TheVariants.{TooMany, SettingOutOfRange, RecordOutOfRange}
use Rattle.numeric.specs.Rules.{Rule, rule}
use Rattle.numeric.specs.Vec3.{vector_in_range}
use Rattle.records.specs.Record.{counted_observations, sound_observation}
use Rattle.records.specs.declared.record.Observations.{Observations}
use Rattle.wls.specs.declared.fix.Settings.{Settings as FixSettings}

-- 3: every setting is in range, and the rounds are at most 50 and not 0
unfoldable pub fix_settings_pass : FixSettings → Bool
fix_settings_pass s =
    in_range s.sigma_a && in_range s.sigma_b && in_range s.huber && in_range s.mask
    && not (ltb 50 s.rounds) && not (eqb s.rounds 0)

-- 2 to 4, of what is handed over
unfoldable pub fix_input_rules : Observations → Vec3 → FixSettings → List Rule
fix_input_rules observations guess settings =
    rule TooMany (ltb 64 observations.count)
    ∷ rule SettingOutOfRange (not (fix_settings_pass settings))
    ∷ rule RecordOutOfRange (not (every sound_observation (counted_observations observations) && vector_in_range guess))
    ∷ []
