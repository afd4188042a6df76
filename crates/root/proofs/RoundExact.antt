-- Rounding leaves a binary64 as it is. Assumes nothing.
use Rattle.std.proofs.Common.{◌≡◌, ℕ, suc, ◌+◌, ◌-◌, ◌*◌, ◌^◌, ◌<◌, ◌≤◌, Bool, T, ℤ, pos, negsuc, sym, refl, ap, ◌∙◌, subst, lt_of_lt_of_le, le_of_suc-le-suc, lt_of_le_of_lt, mul_assoc, mul-le-mul_left, mul-lt-mul_of_pos_right, lt_of_not-le, mul-one, not-le_of_lt, arith, ltb→lt, leb→le, pow_pos, pow_mono, pow-add}
use lib.Pow.{pow-lt}
use lib.Ieee.{fin, up, down, binary64, fits, round}
use lib.Ieee.Fits.{down_pos, round-fits, and_l, and_r}
use lib.Ieee.Exact.{HasValue, round_exact}
use Rattle.root.proofs.Reading.{rescale, value-unique}

-- m of at most 53 digits times 2 ^ e is m * 2 ^ j units of 2 ^ -1074
record Units (m : ℕ) (e : ℤ) : Type 0 where
  j : ℕ
  is : up e * 2 ^ 1074 ≡ 2 ^ j * down e
  small : m * 2 ^ j < 2 ^ 2098

back : (k : ℕ) → k ≤ 1074 → 1074 - k + k ≡ 1074
back k h = omega arith

units : (m : ℕ) (e : ℤ) → m < 2 ^ 53 → down e ≤ 2 ^ 1074 → m * up e < 2 ^ 1024 * down e → Units m e
units m (pos k) p d l =
    record {
      j = k + 1074;
      is = sym (pow-add 2 k 1074) ∙ sym (mul-one (2 ^ (k + 1074)));
      small = subst (λ (z : ℕ). z < 2 ^ 2098) (mul_assoc m (2 ^ k) (2 ^ 1074) ∙ ap (λ (z : ℕ). m * z) (sym (pow-add 2 k 1074))) (mul-lt-mul_of_pos_right l (pow_pos 1074));
    }
units m (negsuc k) p d l =
    let h : suc k ≤ 1074 = le_of_suc-le-suc (lt_of_not-le (λ (g : 1074 < suc k). not-le_of_lt (pow-lt g) d)) in
    let i : 1074 - suc k ≤ 1074 = omega arith in
    record {
      j = 1074 - suc k;
      is = ap (λ (z : ℕ). 2 ^ z) (sym (back (suc k) h)) ∙ pow-add 2 (1074 - suc k) (suc k);
      small = lt_of_le_of_lt (mul-le-mul_left m (pow_mono i)) (lt_of_lt_of_le (mul-lt-mul_of_pos_right p (pow_pos 1074)) (pow_mono {i = 1127} {j = 2098} (omega arith)));
    }

-- a number above 0 that binary64 holds, rounded to binary64, is itself
pub round-own : (s : Bool) (m : ℕ) (e : ℤ) → T (fits binary64 (fin s (suc m) e)) → round binary64 s (suc m * up e) (down e) ≡ fin s (suc m) e
unfolding fits
round-own s m e f =
    let n = suc m in
    let w = n * up e in
    let p : n < 2 ^ 53 = ltb→lt n (2 ^ 53) (search (and_l, and_r)) in
    let u = units n e p (leb→le (down e) (2 ^ 1074) (search (and_l, and_r))) (ltb→lt w (2 ^ 1024 * down e) (search (and_l, and_r))) in
    let a = n * 2 ^ u.j in
    let h : w * 2 ^ 1074 ≡ a * down e = mul_assoc n (up e) (2 ^ 1074) ∙ ap (λ (z : ℕ). n * z) u.is ∙ sym (mul_assoc n (2 ^ u.j) (down e)) in
    let r = round binary64 s w (down e) in
    let v : HasValue r s w (down e) = round_exact binary64 s w (down e) n u.j (down_pos e) p u.small h in
    value-unique r (fin s n e) s a (round-fits binary64 s w (down e)) f
    (rescale r s w (down e) a (2 ^ 1074) (down_pos e) (sym h) v)
    (rescale (fin s n e) s w (down e) a (2 ^ 1074) (down_pos e) (sym h) (refl, refl))
