-- Whole parts of exact values, for nanoseconds and millimetres. Definitions only.
use Rattle.std.specs.Prelude.{ℕ, ◌*◌, ◌/◌, Float}
use Rattle.exact.specs.Value.{scale, magnitude}

-- k times the exact value of x, rounded down, for an x that is not below 0: the value is `magnitude x` units, and 1 is `scale` units
unfoldable pub whole_times : ℕ → Float → ℕ
whole_times k x = k * magnitude x / scale

-- the greatest whole number that is not above x
abbrev pub whole_part : Float → ℕ
whole_part x = whole_times 1 x
