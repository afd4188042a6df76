-- The digits and the exponent of a positive finite binary64 number, from its bits. Assumes nothing.
use Rattle.std.proofs.Common.{◌≡◌, ℕ, suc, ◌+◌, ◌-◌, ◌*◌, ◌/◌, ◌%◌, ◌^◌, ◌<◌, ◌≤◌, false, sym, ap, ◌∙◌, subst, lt_of_le_of_lt, mul-le-mul_right, mul_assoc, mul_comm, mul-lt-mul_of_pos_right, lt_of_not-le, not-le_of_lt, arith, pow_pos, pow_mono, pow-add}
use lib.Count.{count_leading_zeros, leading_top}
use lib.Ieee.{Float, binary64, odd, of_bits}
use lib.Ieee.Exact.{HasValue, odd_sign}
use Rattle.root.specs.Steps.{IsParts}
use Rattle.root.proofs.Reading.{read-normal, subnormal-value}

normal-same : (m e : ℕ) → 0 < e → m * 2 ^ (e - 1) * 2 ^ 52 ≡ m * 2 ^ (e + 51)
normal-same m e h =
    let j : e - 1 + 52 ≡ e + 51 = omega arith in
    mul_assoc m (2 ^ (e - 1)) (2 ^ 52) ∙ ap (λ (z : ℕ). m * z) (sym (pow-add 2 (e - 1) 52) ∙ ap (λ (z : ℕ). 2 ^ z) j)

pub normal-parts : (b m : ℕ) → 2 ^ 52 ≤ b → b < 0x7ff0_0000_0000_0000 → m ≡ b % 2 ^ 52 + 2 ^ 52 → IsParts (of_bits binary64 b) m (b / 2 ^ 52 + 51)
normal-parts b m l h e =
    let f = b / 2 ^ 52 in
    let is : of_bits binary64 b ≡ odd 53 false m (f - 1) 1074 = read-normal b m (f - 1) (omega arith) (omega arith) (omega arith) (omega arith) in
    record {
      a = m * 2 ^ (f - 1);
      is = subst (λ (x : Float). HasValue x false (m * 2 ^ (f - 1)) (2 ^ 1074)) (sym is) (odd_sign 53 false m (f - 1) 1074);
      same = normal-same m f (omega arith);
      from = omega arith;
      below = omega arith;
      small = omega arith;
    }

pow-less : (i j : ℕ) → 2 ^ i < 2 ^ j → i < j
pow-less i j h = lt_of_not-le (λ (g : j ≤ i). not-le_of_lt h (pow_mono g))

-- b's leading digit is that of 2 ^ j
subnormal-parts : (b j : ℕ) → 2 ^ j ≤ b → b < 2 ^ suc j → b < 2 ^ 52 → IsParts (of_bits binary64 b) (b * 2 ^ (52 - j)) j
subnormal-parts b j l u h =
    let j-lt : j < 52 = pow-less j 52 (lt_of_le_of_lt l h) in
    let i = 52 - j in
    let e : i + j ≡ 52 = omega arith in
    let whole : 2 ^ i * 2 ^ j ≡ 2 ^ 52 = sym (pow-add 2 i j) ∙ ap (λ (z : ℕ). 2 ^ z) e in
    let f : suc j + i ≡ 53 = omega arith in
    let more : 2 ^ suc j * 2 ^ i ≡ 2 ^ 53 = sym (pow-add 2 (suc j) i) ∙ ap (λ (z : ℕ). 2 ^ z) f in
    let back : 2 ^ j * 2 ^ i ≡ 2 ^ 52 = mul_comm (2 ^ j) (2 ^ i) ∙ whole in
    record {
      a = b;
      is = subnormal-value b h;
      same = ap (λ (z : ℕ). b * z) (sym whole) ∙ sym (mul_assoc b (2 ^ i) (2 ^ j));
      from = omega (arith, mul-le-mul_right (2 ^ i) l, back);
      below = omega (arith, mul-lt-mul_of_pos_right u (pow_pos i), more);
      small = omega arith;
    }

-- what the count of b's leading zeros says
pub record Leading (b z : ℕ) : Type 0 where
  pub z-from : 11 < z
  pub z-upto : z < 64
  pub parts : IsParts (of_bits binary64 b) (b * 2 ^ (z - 11)) (63 - z)

pub leading : (b : ℕ) → 0 < b → b < 2 ^ 52 → Leading b (count_leading_zeros 64 b)
leading b p h =
    let t = leading_top 64 b p (omega arith) in
    let j = t.0 in
    let z = count_leading_zeros 64 b in
    let j-lt : j < 52 = pow-less j 52 (lt_of_le_of_lt t.2 h) in
    let s : z + suc j ≡ 64 = t.1 in
    let e : 52 - j ≡ z - 11 = omega arith in
    let f : j ≡ 63 - z = omega arith in
    record {
      z-from = omega arith;
      z-upto = omega arith;
      parts = subst (λ (x : ℕ). IsParts (of_bits binary64 b) (b * 2 ^ (z - 11)) x) f (subst (λ (x : ℕ). IsParts (of_bits binary64 b) (b * 2 ^ x) j) e (subnormal-parts b j t.2 t.3 h));
    }
