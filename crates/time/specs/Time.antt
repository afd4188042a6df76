-- Times in whole nanoseconds (docs/SCOPE.md, "Times"; `GpsTime` of time.rs). Definitions only.
use Rattle.std.specs.Prelude.{Result, Ok, Err}
use Rattle.numeric.specs.declared.refusal.Refusal.{Refusal}
use Rattle.std.specs.Prelude.{ℕ, ◌+◌, ◌*◌, Bool, cond, ◌&&◌, ℤ, pos, ◌-ℤ◌, nat_le, Float}
use Rattle.std.specs.Float.{binary64}
use Rattle.std.specs.Float.Ieee.{lt, le, of_int}
use Rattle.exact.specs.Float.{◌⊕◌, ◌⊗◌, ◌⊘◌, +0, bits, whole}
use Rattle.numeric.specs.Refusal.{number_of}
use Rattle.numeric.specs.Whole.{whole_part}
use Rattle.numeric.specs.declared.refusal.Refusal.TheVariants.{BadTime}
use Rattle.time.specs.declared.time.GpsTime.{GpsTime}

-- the nanoseconds of a week, and of a second
abbrev pub nanos_per_week : ℕ
nanos_per_week = 604800000000000

abbrev pub nanos_per_second : Float
nanos_per_second = whole 1000000000

-- ---- construction

-- a time of week: from 0 up, -0 too, and below 604,800 seconds. A NaN and the infinities are not.
abbrev pub in_week : Float → Bool
in_week tow = le +0 tow && lt tow (whole 604800)

-- a week and a time of week that pass rule 13
abbrev pub is_time : ℕ → Float → Bool
is_time week tow = nat_le week 15000 && in_week tow

-- `round` of time.rs at a number that is not negative: the whole part of x + 0.5. The sum is rounded, the whole part is exact.
abbrev pub rounded : Float → ℕ
rounded x = whole_part (x ⊕ bits 0x3FE0_0000_0000_0000)

-- the nanoseconds of a time of week
unfoldable pub nanos_of : Float → ℕ
nanos_of tow = rounded (tow ⊗ nanos_per_second)

-- the time of a week and a time of week
unfoldable pub time_of : ℕ → Float → Result GpsTime Refusal
time_of week tow = cond (is_time week tow) (Ok (record { nanos = week * nanos_per_week + nanos_of tow })) (Err BadTime)

-- ---- differences

-- A time that passes rule 13: it is not past the start of week 15,001, up to which a time of week 15,000 may be rounded. No time is before week 0.
abbrev pub is_dated : GpsTime → Bool
is_dated t = nat_le t.nanos (15001 * nanos_per_week)

-- from the earlier time to the later, in nanoseconds, and in seconds: the whole number of nanoseconds as a double, rounded once, by 1e9
abbrev pub nanos_between : GpsTime → GpsTime → ℤ
nanos_between later earlier = pos later.nanos -ℤ pos earlier.nanos

unfoldable pub seconds_between : GpsTime → GpsTime → Float
seconds_between later earlier = of_int binary64 (nanos_between later earlier) ⊘ nanos_per_second

-- the answers of the two calls
unfoldable pub nanos_since : GpsTime → GpsTime → Result ℤ Refusal
nanos_since later earlier = cond (is_dated later && is_dated earlier) (Ok (nanos_between later earlier)) (Err BadTime)

unfoldable pub seconds_since : GpsTime → GpsTime → Result Float Refusal
seconds_since later earlier = cond (is_dated later && is_dated earlier) (Ok (seconds_between later earlier)) (Err BadTime)
