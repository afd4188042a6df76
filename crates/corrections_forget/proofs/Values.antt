-- Worked values of a drop. Assumes nothing.
use mathlib.Core.Path.{◌≡◌, refl}
use mathlib.Core.List.{List, [], ◌∷◌}
use Prim.Native.Nat.{ℕ}
use lib.Ieee.{Float, lt, of_bits, of_int}
use Rattle.exact.specs.Float.{whole, bits, +0}
use Rattle.corrections_table.specs.declared.sample.Sample.{Sample}
use Rattle.corrections_forget.specs.Forget.{some, forget}

abbrev sample : ℕ → Float → Sample
sample v t = record { constellation = 1; svid = v; band = 1; time = t; correction = whole 1 }

-- satellite 5 at 10, 20 and 30 s, satellite 9 at 12 and 14 s
abbrev five : List Sample
five = sample 5 (whole 10) ∷ sample 5 (whole 20) ∷ sample 5 (whole 30) ∷ sample 9 (whole 12) ∷ sample 9 (whole 14) ∷ []

-- before 25 s: the last earlier sample of each stays
pub before-25 : forget (whole 25) five ≡ sample 5 (whole 20) ∷ sample 5 (whole 30) ∷ sample 9 (whole 14) ∷ []
unfolding forget some lt of_bits of_int
before-25 = refl

-- a sample at the time is not earlier: before 20 s only the sample at 10 s is, so that satellite keeps all
pub before-20 : forget (whole 20) five ≡ sample 5 (whole 10) ∷ sample 5 (whole 20) ∷ sample 5 (whole 30) ∷ sample 9 (whole 14) ∷ []
unfolding forget some lt of_bits of_int
before-20 = refl

-- past every sample the last of each is left, and before every one nothing goes
pub before-99 : forget (whole 99) five ≡ sample 5 (whole 30) ∷ sample 9 (whole 14) ∷ []
unfolding forget some lt of_bits of_int
before-99 = refl

pub before-1 : forget (whole 1) five ≡ five
unfolding forget some lt of_bits of_int
before-1 = refl

-- earlier is `<`: a sample at -0 is not before +0
abbrev zeros : List Sample
zeros = sample 5 (bits 0x8000_0000_0000_0000) ∷ sample 5 (bits 0x8000_0000_0000_0000) ∷ sample 5 +0 ∷ []

pub before-zero : forget +0 zeros ≡ zeros
unfolding forget some lt of_bits of_int
before-zero = refl
