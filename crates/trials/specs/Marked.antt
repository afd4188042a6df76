-- docs/SCOPE.md, "Trials at the edges", those marked for proof: one list, in its order. Definitions only.
use Rattle.std.specs.Prelude.{Ok, Err}
use Rattle.std.specs.Prelude.{ℕ, ◌⊎◌, ◌≡◌, List, [], ◌∷◌, map, true, false, cond, eqb, ℤ, pos, negsuc, Float}
use Rattle.std.specs.Float.Ieee.Scale.{finite}
use Rattle.exact.specs.Float.{+0, 1·0, bits, whole}
use Rattle.root.specs.Root.{root_of}
use Rattle.cholesky.specs.Factor.{cell, Refused, Lower, factor_of}
use Rattle.numeric.specs.Order.{pattern_of}
use Rattle.numeric.specs.declared.refusal.Refusal.TheVariants.{NoCorrection}
use Rattle.median.specs.Sorted.{median_of}
use Rattle.median.specs.Centre.{centre_of, deviations_of, centre_scale_of}
use Rattle.lists.specs.Walk.{fold}
use Rattle.clocks.specs.Clocks.{none, slot, given}
use Rattle.records.specs.Record.{usable}
use Rattle.records.specs.declared.record.Carrier.{Carrier}
use Rattle.corrections_directory.specs.Directory.{Directory, lent_blocks, directory_in}
use Rattle.corrections_query.specs.Query.{query_in}
use Rattle.track_smooth.specs.Trials.{m12, m13}

-- all of a list's statements
abbrev pub All : List (Type 0) → Type 0
All [] = Unit
All (P ∷ Ps) = P × All Ps

-- row i of the identity, and the identity
abbrev pub unit_row : ℕ → List Float
unit_row i = one 0 ∷ one 1 ∷ one 2 ∷ one 3 ∷ one 4 ∷ one 5 ∷ one 6 ∷ one 7 ∷ one 8 ∷ []
  where
    one : ℕ → Float
    one j = cond (eqb i j) 1·0 +0

abbrev pub identity : List (List Float)
identity = unit_row 0 ∷ unit_row 1 ∷ unit_row 2 ∷ unit_row 3 ∷ unit_row 4 ∷ unit_row 5 ∷ unit_row 6 ∷ unit_row 7 ∷ unit_row 8 ∷ []

-- m1: root of 4 is 2
abbrev pub m1 : Type 0
m1 = root_of (whole 4) ≡ whole 2

-- m2: root of 2 has bits 3FF6A09E667F3BCD
abbrev pub m2 : Type 0
m2 = root_of (whole 2) ≡ bits 0x3FF6_A09E_667F_3BCD

-- m3: root of 2^-1074, whose pattern is 1, is 2^-537, whose exponent field is 1023 - 537
abbrev pub m3 : Type 0
m3 = root_of (bits 1) ≡ bits 0x1E60_0000_0000_0000

-- m4: empty centre
abbrev pub m4 : Type 0
m4 = centre_scale_of [] ≡ Ok (record { centre = +0; scale = 1·0 })

-- 3, 1, 2, 4, as patterns
abbrev pub four : List ℕ
four = pattern_of (whole 3) ∷ pattern_of (whole 1) ∷ pattern_of (whole 2) ∷ pattern_of (whole 4) ∷ []

-- m5: 3, 1, 2, 4 has centre 3 and median deviation 1
abbrev pub m5 : Type 0
m5 = (centre_of four ≡ whole 3) × (median_of (deviations_of (centre_of four) four) ≡ pattern_of (whole 1))

-- m6: constellations 6, 1, 6, 9, 7, given one after the other, have the slots 3, 4, 3, 5, 5
abbrev pub five : List ℕ
five = 6 ∷ 1 ∷ 6 ∷ 9 ∷ 7 ∷ []

abbrev pub m6 : Type 0
m6 = map (slot (fold given none five)) five ≡ 3 ∷ 4 ∷ 3 ∷ 5 ∷ 5 ∷ []

-- m7: the identity factors to itself
abbrev pub m7 : Type 0
m7 = factor_of identity ≡ Lower identity

-- m8: a zero first pivot of either sign is refused, whatever the rest of the matrix
abbrev pub m8 : Type 0
m8 = (a : List (List Float)) → (cell a 0 0 ≡ +0) ⊎ (cell a 0 0 ≡ bits 0x8000_0000_0000_0000) → factor_of a ≡ Refused

-- the carrier c in the state z
abbrev pub in_state : Carrier → ℤ → Carrier
in_state c z = record { constellation = c.constellation; svid = c.svid; band = c.band; adr = c.adr; state = z; satellite = c.satellite; elevation = c.elevation; rate = c.rate }

-- m9: states 1 usable, 0, 3, 5 and -1 not, whatever else the carrier has, if its adr is finite
abbrev pub m9 : Type 0
m9 = (c : Carrier) → finite c.adr ≡ true → map (λ (z : ℤ). usable (in_state c z)) (pos 1 ∷ pos 0 ∷ pos 3 ∷ pos 5 ∷ negsuc 0 ∷ []) ≡ true ∷ false ∷ false ∷ false ∷ false ∷ []

-- samples (10 s, 1 m) and (20 s, 3 m) of one signal, as the one block of a directory in columns of two places
abbrev pub two_samples : Directory
two_samples = directory_in 1 2 (lent_blocks (1 ∷ 1 ∷ []) (5 ∷ 5 ∷ []) (1 ∷ 1 ∷ []) (0 ∷ 0 ∷ []) (2 ∷ 2 ∷ []) (whole 10 ∷ whole 20 ∷ []) (whole 1 ∷ whole 3 ∷ []))

-- m10: gap limit 90: 15 s gives 2 m
abbrev pub m10 : Type 0
m10 = query_in 1 2 2 two_samples (whole 90) 1 5 1 (whole 15) ≡ Ok (whole 2)

-- m11: gap limit 5: 12
abbrev pub m11 : Type 0
m11 = query_in 1 2 2 two_samples (whole 5) 1 5 1 (whole 15) ≡ Err NoCorrection

-- m12 and m13 are trials of a track, defined in its crate
abbrev pub marked : List (Type 0)
marked = m1 ∷ m2 ∷ m3 ∷ m4 ∷ m5 ∷ m6 ∷ m7 ∷ m8 ∷ m9 ∷ m10 ∷ m11 ∷ m12 ∷ m13 ∷ []
