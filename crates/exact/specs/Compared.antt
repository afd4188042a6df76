-- What IEEE 754-2019 says of comparing two binary64 (5.11): one is less, they are equal, the other is less, or they are unordered. Definitions only.
-- The predicates of 5.6.1 are true at some of the four and false at the others: < at less, <= at less and equal, == at equal, != at all but equal.
use Rattle.std.specs.Prelude.{◌≡◌, ◌⊎◌, true, false, Float}
use Rattle.std.specs.Float.{nan, inf, fin}
use Rattle.exact.specs.Number.{◌<ₑ◌, ◌=ₑ◌, exactly}

-- x is less than y: -∞ is less than every finite number, and every finite number than +∞
abbrev pub IsLess : Float → Float → Type 0
IsLess nan y = ⊥
IsLess (inf s) nan = ⊥
IsLess (inf s) (inf t) = (s ≡ true) × (t ≡ false)
IsLess (inf s) (fin t n d) = s ≡ true
IsLess (fin s m e) nan = ⊥
IsLess (fin s m e) (inf t) = t ≡ false
IsLess (fin s m e) (fin t n d) = exactly (fin s m e) <ₑ exactly (fin t n d)

-- x equals y: infinities of one sign are equal, and -0 equals +0, since both have the value 0
abbrev pub IsEqual : Float → Float → Type 0
IsEqual nan y = ⊥
IsEqual (inf s) nan = ⊥
IsEqual (inf s) (inf t) = s ≡ t
IsEqual (inf s) (fin t n d) = ⊥
IsEqual (fin s m e) nan = ⊥
IsEqual (fin s m e) (inf t) = ⊥
IsEqual (fin s m e) (fin t n d) = exactly (fin s m e) =ₑ exactly (fin t n d)

-- a NaN is unordered with everything, itself too
abbrev pub IsUnordered : Float → Float → Type 0
IsUnordered x y = (x ≡ nan) ⊎ (y ≡ nan)
