-- `root::root::split` meets its contract. Assumes nothing.
use Rattle.std.proofs.Common.{ℕ, ◌-◌, ◌*◌, ◌^◌, ◌<◌, sym, refl, subst, mod-eq_of_lt, arith}
use lib.Count.{count_leading_zeros}
use lib.Ieee.{binary64, of_bits}
use Rattle.root.specs.Steps.{IsParts}
use Rattle.root.proofs.Parts.{Leading, leading, normal-parts}
use Rattle.root.proofs.sqrt.split.Goals as goal

low : (c : goal.Then-b-lt4503599627370496) → Leading c.args.b (count_leading_zeros 64 c.args.b)
low c = leading c.args.b c.requires.0 c.if-b-lt4503599627370496.true

pub overflow_sub-result : goal.overflow_sub-result
overflow_sub-result c = omega (arith, low c)

pub overflow_cast-result : goal.overflow_cast-result
overflow_cast-result c = omega (arith, low c)

pub overflow_shl-result : goal.overflow_shl-result
overflow_shl-result c = omega (arith, low c)

pub overflow_sub-result-then-b-lt4503599627370496 : goal.overflow_sub-result-then-b-lt4503599627370496
overflow_sub-result-then-b-lt4503599627370496 c = omega (arith, low c)

pub returns-then-b-lt4503599627370496 : goal.returns-then-b-lt4503599627370496
returns-then-b-lt4503599627370496 c = let b = c.args.b in
    let z = count_leading_zeros 64 b in
    let p = (low c).parts in
    let fits : b * 2 ^ (z - 11) < 2 ^ 64 = omega (arith, p.below) in
    subst (λ (x : ℕ). IsParts (of_bits binary64 b) x (63 - z)) (sym (mod-eq_of_lt fits)) p

pub returns-else-b-lt4503599627370496 : goal.returns-else-b-lt4503599627370496
returns-else-b-lt4503599627370496 c = normal-parts c.args.b _ c.if-b-lt4503599627370496.false c.requires.1 refl
