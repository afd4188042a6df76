-- Which records a call takes (docs/REFUSALS.md, 4) and which carriers a displacement can use (docs/SCOPE.md, "Displacement"). Definitions only.
use Rattle.std.specs.Prelude.{ℕ, suc, ◌-◌, ◌/◌, ◌%◌, ◌^◌, Bool, not, cond, ◌&&◌, ◌||◌, List, [], ◌∷◌, eqb, take, ℤ, pos, negsuc, Float}
use Rattle.std.specs.Float.Ieee.{neg, le}
use Rattle.std.specs.Float.Ieee.Scale.{finite}
use Rattle.exact.specs.Float.{whole}
use Rattle.numeric.specs.Real.{in_range}
use Rattle.numeric.specs.Vec3.{vector_in_range}
use Rattle.records.specs.declared.record.Carrier.{Carrier}
use Rattle.records.specs.declared.record.Epoch.{Epoch}
use Rattle.records.specs.declared.record.Observation.{Observation}
use Rattle.records.specs.declared.record.Observations.{Observations}

-- the counted records of an epoch
abbrev pub counted_carriers : Epoch → List Carrier
counted_carriers e = take e.count e.carriers

abbrev pub counted_observations : Observations → List Observation
counted_observations o = take o.count o.observation

-- an element, if it passes the test
abbrev pub keep : {A : Type 0} → (A → Bool) → A → List A
keep test x = cond (test x) (x ∷ []) []

-- ---- refusal 4 of a record

-- from -90 to 90 degrees
unfoldable pub is_elevation : Float → Bool
is_elevation x = le (neg (whole 90)) x && le x (whole 90)

-- A carrier passes if its floats do. An adr that is not finite makes it unusable and nothing more.
unfoldable pub sound_carrier : Carrier → Bool
sound_carrier c = vector_in_range c.satellite && in_range c.rate && is_elevation c.elevation && (in_range c.adr || not (finite c.adr))

-- An observation passes if its floats do, but for `modelled`, which is never looked at.
unfoldable pub sound_observation : Observation → Bool
sound_observation o = in_range o.pseudorange && vector_in_range o.satellite && is_elevation o.elevation

-- ---- carriers that can be differenced

-- the 32 bits of a signed number, as a number without a sign
unfoldable pub unsigned : ℤ → ℕ
unsigned (pos n) = n
unsigned (negsuc n) = 2 ^ 32 - suc n

-- whether the bit of the value v is set; bits are named by their value, which is 1, 2, 4 and so on
unfoldable pub bit_set : ℕ → ℤ → Bool
bit_set v state = eqb (unsigned state / v % 2) 1

-- bit 1 is set, bits 2 and 4 are clear, and adr is finite
unfoldable pub usable : Carrier → Bool
usable c = bit_set 1 c.state && not (bit_set 2 c.state) && not (bit_set 4 c.state) && finite c.adr

-- equal constellation, svid and band
unfoldable pub same : Carrier → Carrier → Bool
same a b = eqb a.constellation b.constellation && eqb a.svid b.svid && eqb a.band b.band
