-- The rules of a displacement, in the numbers and order of docs/REFUSALS.md. Definitions only.
use Rattle.std.specs.Prelude.{ℕ, Bool, true, not, ◌&&◌, ◌||◌, List, [], ◌∷◌, ltb, Float}
use Rattle.std.specs.Float.Ieee.{lt}
use Rattle.std.specs.Float.Ieee.Scale.{finite}
use Rattle.exact.specs.Float.{+0, whole}
use Rattle.lists.specs.Walk.{every}
use Rattle.numeric.specs.Real.{in_range}
use Rattle.numeric.specs.declared.vec3.Vec3.{Vec3}
use Rattle.numeric.specs.declared.refusal.Refusal.TheVariants.{TooMany, SettingOutOfRange, RecordOutOfRange, BadTime, BadInterval, TooFewPairs}
use Rattle.time.specs.Time.{is_dated, seconds_between}
use Rattle.numeric.specs.Rules.{Rule, rule}
use Rattle.estimate_rounds.specs.Rules.{row_rules}
use Rattle.numeric.specs.Vec3.{vector_in_range}
use Rattle.records.specs.Record.{counted_carriers, sound_carrier}
use Rattle.records.specs.declared.record.Epoch.{Epoch}
use Rattle.tdcp.specs.declared.displacement.Settings.{Settings}
use Rattle.tdcp.specs.declared.displacement.Interval.{Interval}

-- 3: every setting but `agreement`, which is neither read nor checked, is in range, and the rounds are at most 50
unfoldable pub settings_pass : Settings → Bool
settings_pass s =
    in_range s.screen && in_range s.sigma_a && in_range s.sigma_b && in_range s.huber && in_range s.mask
    && not (ltb 50 s.rounds)

-- 2 to 4, of the epochs, the receiver and the settings
unfoldable pub epoch_rules : Epoch → Epoch → Vec3 → Settings → List Rule
epoch_rules previous current receiver settings =
    rule TooMany (ltb 64 previous.count || ltb 64 current.count)
    ∷ rule SettingOutOfRange (not (settings_pass settings))
    ∷ rule RecordOutOfRange (not (every sound_carrier (counted_carriers previous) && every sound_carrier (counted_carriers current) && vector_in_range receiver))
    ∷ []

-- the seconds of an interval: so many, or those from the previous time to the current one
abbrev pub dt_of : Interval → Float
dt_of (Interval.Seconds dt) = dt
dt_of (Interval.Between previous current) = seconds_between current previous

-- 13: one of two times is past the last
abbrev pub is_timed : Interval → Bool
is_timed (Interval.Seconds dt) = true
is_timed (Interval.Between previous current) = is_dated current && is_dated previous

-- 5: not finite, not above 0, or above 604,800 seconds
unfoldable pub bad_interval : Float → Bool
bad_interval dt = not (finite dt) || not (lt +0 dt) || lt (whole 604800) dt

-- 13 and 5, of the interval
unfoldable pub interval_rules : Interval → List Rule
interval_rules since = rule BadTime (not (is_timed since)) ∷ rule BadInterval (bad_interval (dt_of since)) ∷ []

-- 7 to 9, of how many pairs there are before screening, how many are kept, and how many clock slots those have
unfoldable pub few_rules : ℕ → ℕ → ℕ → List Rule
few_rules pairs kept slots = rule TooFewPairs (ltb pairs 6) ∷ row_rules kept slots
