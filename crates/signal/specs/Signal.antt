-- A satellite's signal as one number. Definitions only.
use Rattle.std.specs.Prelude.{ℕ, ◌+◌, ◌*◌, ◌/◌, ◌%◌, ◌^◌}

-- its digits are the constellation, the svid, of 16 bits, and the band, of 32
abbrev pub signal : ℕ → ℕ → ℕ → ℕ
signal c v b = (c * 2 ^ 16 + v) * 2 ^ 32 + b

abbrev pub constellation_in : ℕ → ℕ
constellation_in s = s / 2 ^ 48

abbrev pub svid_in : ℕ → ℕ
svid_in s = s / 2 ^ 32 % 2 ^ 16

abbrev pub band_in : ℕ → ℕ
band_in s = s % 2 ^ 32
