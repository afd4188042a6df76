-- The tests of a record, as the code makes them, and the default records of an array. Assumes nothing.
use mathlib.Core.Path.{◌≡◌, refl}
use mathlib.Core.Bool.{Bool, true, false, not, ◌&&◌}
use Prim.Native.Nat.{ℕ, ◌/◌, ◌%◌}
use native.Mathlib.Nat.{div-div-eq-div-mul}
use native.Mathlib.Omega.{arith}
use lib.Dec.{eqb}
use borrow.Author.Tests.{eqb-true, eqb-false, eq-eqb, ne_eqb}
use lib.Bits.{bit_and, and_mask}
use lib.IntN.{ℤ, pos, negsuc}
use lib.Ieee.{nan}
use mir.Syntax.{w32}
use mir.Val.{of_z}
use Rattle.records.specs.Record.{unsigned, bit_set}
use Rattle.records.specs.declared.record.Carrier.{Carrier}
use Rattle.records.specs.declared.record.Observation.{Observation}

-- ---- the state bits

of-unsigned : (z : ℤ) → of_z w32 z ≡ unsigned z
unfolding unsigned
of-unsigned (pos n) = refl
of-unsigned (negsuc n) = refl

low_bits : (b : ℕ) (t u v : Bool) → eqb (b / 1 % 2) 1 ≡ t → eqb (b / 2 % 2) 1 ≡ u → eqb (b / 4 % 2) 1 ≡ v → eqb (b % 8) 1 ≡ (t && not u && not v)
low_bits b false u v p q r = ne_eqb _ _ (λ (e : b % 8 ≡ 1). eqb-false (b / 1 % 2) 1 p (omega arith))
low_bits b true true v p q r = ne_eqb _ _ (λ (e : b % 8 ≡ 1). omega (arith, eqb-true (b / 2 % 2) 1 q))
low_bits b true false true p q r = ne_eqb _ _ (λ (e : b % 8 ≡ 1). omega (arith, eqb-true (b / 4 % 2) 1 r))
low_bits b true false false p q r =
    let y : b / 2 % 2 ≡ 0 = omega (arith, eqb-false (b / 2 % 2) 1 q) in
    let z : b / 4 % 2 ≡ 0 = omega (arith, eqb-false (b / 4 % 2) 1 r) in
    eq-eqb (b % 8) 1 (omega (arith, eqb-true (b / 1 % 2) 1 p, div-div-eq-div-mul b 2 2, div-div-eq-div-mul b 4 2))

-- bit 1 set and bits 2 and 4 clear: the three lowest bits are 1
pub low-is : (z : ℤ) → eqb (bit_and (of_z w32 z) 7) 1 ≡ (bit_set 1 z && not (bit_set 2 z) && not (bit_set 4 z))
unfolding bit_set unsigned
low-is z = rw (of-unsigned z, and_mask (unsigned z) 3) (low_bits (unsigned z) _ _ _ refl refl refl)

-- ---- what the logic has for a read past the end of an array

abbrev pub blank : Carrier
blank =
    record {
      constellation = 0;
      svid = 0;
      band = 0;
      adr = nan;
      state = pos 0;
      satellite = record { x = nan; y = nan; z = nan };
      elevation = nan;
      rate = nan;
    }

abbrev pub blank_observation : Observation
blank_observation =
    record {
      constellation = 0;
      band = 0;
      svid = 0;
      modelled = nan;
      pseudorange = nan;
      satellite = record { x = nan; y = nan; z = nan };
      elevation = nan;
    }
