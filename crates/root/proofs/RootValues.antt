-- Worked values of `root_of`. Assumes nothing.
use Rattle.std.proofs.Common.{◌≡◌, true, false, pos, negsuc, refl}
use lib.Ieee.{nan, fin, binary64, of_bits}
use Rattle.root.specs.Root.{root_of}

pub four : root_of (fin false 1 (pos 2)) ≡ fin false 1 (pos 1)
unfolding root_of
four = refl

pub two : root_of (fin false 1 (pos 1)) ≡ of_bits binary64 0x3FF6_A09E_667F_3BCD
unfolding root_of of_bits
two = refl

pub three : root_of (fin false 3 (pos 0)) ≡ of_bits binary64 0x3FFB_B67A_E858_4CAA
unfolding root_of of_bits
three = refl

pub least : root_of (fin false 1 (negsuc 1073)) ≡ fin false 1 (negsuc 536)
unfolding root_of
least = refl

-- the largest number, (2 ^ 53 - 1) * 2 ^ 971
pub largest : root_of (of_bits binary64 0x7FEF_FFFF_FFFF_FFFF) ≡ of_bits binary64 0x5FEF_FFFF_FFFF_FFFF
unfolding root_of of_bits
largest = refl

pub below_one : root_of (of_bits binary64 0x3FEF_FFFF_FFFF_FFFF) ≡ of_bits binary64 0x3FEF_FFFF_FFFF_FFFF
unfolding root_of of_bits
below_one = refl

pub minus-zero : root_of (fin true 0 (pos 0)) ≡ fin true 0 (pos 0)
unfolding root_of
minus-zero = refl

pub minus_one : root_of (fin true 1 (pos 0)) ≡ nan
unfolding root_of
minus_one = refl
