-- The roots of the zeros, the infinities, the NaN and the negative numbers, by the bits of x. Assumes nothing.
use Rattle.std.proofs.Common.{◌≡◌, ℕ, zero, suc, ◌+◌, ◌*◌, ◌/◌, ◌%◌, ◌^◌, ◌<◌, ◌≤◌, Bool, true, false, cond, not, T, eqb, ◌⊎◌, sym, refl, ap, ◌∙◌, subst, inl, inr, mul-pos, arith, pow_pos}
use native.Mathlib.Decide.{dec_lt}
use lib.Ieee.{Float, nan, inf, fin, binary64, odd, fits, is_nan, ne, div, of_fields, of_bits, to_bits}
use lib.Ieee.Compare.{differs_from_itself, nan_differs}
use lib.Ieee.Exact.{odd_sign}
use Rattle.root.specs.Root.{root_of}
use Rattle.root.proofs.Reading.{bits-lt, by_bits, read-nan, read-signed}
use Rattle.root.proofs.RootLaws.{root_of-negative}

root_of-nan : root_of nan ≡ nan
unfolding root_of
root_of-nan = refl

pub nan-root : (x : Float) → ne x x ≡ true → x ≡ root_of x
nan-root x h = let e : x ≡ nan = differs_from_itself x (subst T (sym h) tt) in e ∙ sym root_of-nan ∙ ap root_of (sym e)

pub is_number : (x : Float) → ne x x ≡ false → T (not (is_nan x))
unfolding is_nan
is_number nan h = subst T (sym nan_differs ∙ h) tt
is_number (inf s) h = tt
is_number (fin s m e) h = tt

zero-at : (b : ℕ) → (b ≡ 0) ⊎ (b ≡ 2 ^ 63) → of_bits binary64 b ≡ root_of (of_bits binary64 b)
unfolding root_of of_bits
zero-at b (inl e) = subst (λ (z : ℕ). of_bits binary64 z ≡ root_of (of_bits binary64 z)) (sym e) refl
zero-at b (inr e) = subst (λ (z : ℕ). of_bits binary64 z ≡ root_of (of_bits binary64 z)) (sym e) refl

pub zero-root : (x : Float) → T (fits binary64 x) → (to_bits binary64 x ≡ 0) ⊎ (to_bits binary64 x ≡ 2 ^ 63) → x ≡ root_of x
zero-root x h e =
    let b = to_bits binary64 x in
    subst (λ (z : Float). z ≡ root_of z) (by_bits x b h refl) (zero-at b e)

inf_bits : of_bits binary64 0x7ff0_0000_0000_0000 ≡ root_of (of_bits binary64 0x7ff0_0000_0000_0000)
unfolding root_of of_bits
inf_bits = refl

pub inf-root : (x : Float) → T (fits binary64 x) → to_bits binary64 x ≡ 0x7ff0_0000_0000_0000 → x ≡ root_of x
inf-root x h e = subst (λ (z : Float). z ≡ root_of z) (by_bits x 0x7ff0_0000_0000_0000 h e) inf_bits

-- ---- the sign is set

picked : (b c : Bool) (v : Float) → root_of v ≡ nan → root_of (cond b (cond c (inf true) nan) v) ≡ nan
unfolding root_of
picked true true v h = refl
picked true false v h = refl
picked false c v h = h

signed_odd : (q k : ℕ) → 0 < q → root_of (odd 53 true q k 1074) ≡ nan
signed_odd q k h = root_of-negative (odd 53 true q k 1074) (q * 2 ^ k) (2 ^ 1074) (odd_sign 53 true q k 1074) (mul-pos h (pow_pos k))

signed-fields : (e t : ℕ) → (e ≡ 0 → 0 < t) → root_of (of_fields binary64 true e t) ≡ nan
unfolding of_fields
signed-fields zero t h = signed_odd t 0 (h refl)
signed-fields (suc e) t h = picked (eqb (suc e) 2047) (eqb t 0) (odd 53 true (2 ^ 52 + t) e 1074) (signed_odd (2 ^ 52 + t) e (omega arith))

above : (b : ℕ) → b < 2 ^ 64 → (b ≡ 2 ^ 63 → ⊥) → 0x7ff0_0000_0000_0000 < b → root_of (of_bits binary64 b) ≡ nan
above b h n l = go (dec_lt b (2 ^ 63))
  where
    some : 2 ^ 63 ≤ b → b % 2 ^ 63 / 2 ^ 52 ≡ 0 → 0 < b % 2 ^ 52
    some g e = go2 (dec_lt 0 (b % 2 ^ 52))
      where
        none : b % 2 ^ 52 ≡ 0 → b ≡ 2 ^ 63
        none z = omega arith

        go2 : Dec (0 < b % 2 ^ 52) → 0 < b % 2 ^ 52
        go2 (yes p) = p
        go2 (no f) = absurd (n (none (omega arith)))

    go : Dec (b < 2 ^ 63) → root_of (of_bits binary64 b) ≡ nan
    go (yes g) = ap root_of (read-nan b l g) ∙ root_of-nan
    go (no f) = let g : 2 ^ 63 ≤ b = omega arith in ap root_of (read-signed b g) ∙ signed-fields (b % 2 ^ 63 / 2 ^ 52) (b % 2 ^ 52) (some g)

no_number : div binary64 (of_bits binary64 0) (of_bits binary64 0) ≡ nan
unfolding div of_bits
no_number = refl

pub negative-root : (x : Float) → T (fits binary64 x) → (to_bits binary64 x ≡ 2 ^ 63 → ⊥) → (to_bits binary64 x ≡ 0x7ff0_0000_0000_0000 → ⊥) → 0x7ff0_0000_0000_0000 ≤ to_bits binary64 x
    → div binary64 (of_bits binary64 0) (of_bits binary64 0) ≡ root_of x
negative-root x h n i l = no_number ∙ sym (above (to_bits binary64 x) (bits-lt x h) n (omega arith)) ∙ ap root_of (by_bits x (to_bits binary64 x) h refl)
