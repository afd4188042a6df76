-- What only contracts of inner functions cite. Definitions only.
use Rattle.std.specs.Prelude.{◌≡◌, ℕ, ◌*◌, ◌^◌, ◌<◌, ◌≤◌, false, cond, from_bits, Float}
use Rattle.std.specs.Float.{binary64, inf}
use Rattle.std.specs.Float.Ieee.{le}
use Rattle.std.specs.Float.Ieee.Exact.{HasValue}

-- x is a / 2 ^ 1074, and that is m * 2 ^ y / 2 ^ 1126 with an m of 53 digits
pub record IsParts (x : Float) (m y : ℕ) : Type 0 where
  pub a : ℕ
  pub is : HasValue x false a (2 ^ 1074)
  pub same : a * 2 ^ 52 ≡ m * 2 ^ y
  pub from : 2 ^ 52 ≤ m
  pub below : m < 2 ^ 53
  pub small : y < 2098

-- at x where x is a positive normal number, from 2 ^ -1022 up and below +∞, and at 0 otherwise
unfoldable pub touch : Float → Float
touch x = cond (le (from_bits binary64 0x0010_0000_0000_0000) x) (cond (le (inf false) x) (from_bits binary64 0) x) (from_bits binary64 0)
