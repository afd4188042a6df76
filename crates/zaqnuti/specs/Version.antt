-- The version of the library as a number. Definitions only.
use Rattle.std.specs.Prelude.{ℕ, ◌+◌, ◌*◌}

-- 10000 major + 100 minor + patch, as the header's ZAQNUTI_VERSION_NUMBER
abbrev pub version_number : ℕ
version_number = 10000 * 0 + 100 * 7 + 1
