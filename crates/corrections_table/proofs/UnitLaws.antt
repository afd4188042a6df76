-- Finite floats as whole numbers of the smallest one, 2 ^ -1074: their order, and their places in total_order. Assumes nothing.
use mathlib.Core.Path.{◌≡◌, refl, sym, ap, ◌∙◌}
use mathlib.Core.Logic.{inl, inr}
use mathlib.Core.Bool.{Bool, true, false}
use Prim.Native.Nat.{ℕ, zero, suc, ◌+◌, ◌*◌, ◌/◌, ◌%◌, ◌^◌, ◌-◌, ◌≤◌, ◌<◌}
use native.Mathlib.Nat.{le_trans, le_of_eq, lt_of_le_of_lt, mul-le-mul_right, mul-pos, div-mul_cancel, dvd-mul_left_of_dvd, dvd-mul_right, one-dvd, le_of_mul-le-mul_right, le-div_iff_mul-le, eq-or-lt_of_le, not-le_of_lt}
use native.Mathlib.Omega.{arith}
use lib.Dec.{T, ltb, leb→le, eqb→eq}
use borrow.Author.Tests.{ltb-true, ltb-false, lt-ltb, le-ltb}
use lib.IntN.{ℤ, pos, negsuc}
use lib.Pow.{pow_pos, pow-add, pow-lt, shr_mono}
use lib.Ieee.{Float, nan, inf, fin, is_nan, lt, below, fits, binary64, up, down, to_bits, of_bits, size}
use lib.Ieee.Fits.{down_pos, up_pos, and_l, and_r, kept-lt}
use lib.Ieee.Digits.{size-lt, size-le, size_reaches}
use lib.Ieee.Bits.{of_bits-to_bits, to_bits-lt}
use lib.Ieee.Order.{transfer}
use lib.Ieee.Positive.{first_pos}
use Rattle.numeric.specs.Order.{pattern_of}
use Rattle.numeric.proofs.OrderLaws.{key_of, sign-plus, sign-minus}
use Rattle.numeric.specs.Real.{in_range}
use Rattle.corrections_table.proofs.Places.{time_key}

-- how many of the smallest floats the number m * 2 ^ e is
abbrev pub units : ℕ → ℤ → ℕ
units m e = m * up e * 2 ^ 1074 / down e

-- ---- the units are exact
pub down_le : (s : Bool) (m : ℕ) (e : ℤ) → T (fits binary64 (fin s m e)) → down e ≤ 2 ^ 1074
unfolding fits
down_le s zero e f =
    let a : up e * down e ≡ 1 = eqb→eq (up e * down e) 1 f in
    let b : 1 * down e ≤ up e * down e = mul-le-mul_right (down e) (up_pos e) in
    let c : 0 < 2 ^ 1074 = pow_pos 1074 in
    small (down e) (up e * down e) (1 * down e) (2 ^ 1074) a (native.Mathlib.Nat.one-mul (down e)) b c
  where
    small : (d p q w : ℕ) → p ≡ 1 → q ≡ d → q ≤ p → 0 < w → d ≤ w
    small d p q w a b c h = omega arith
down_le s (suc m) e f = leb→le (down e) (2 ^ 1074) (search (and_l, and_r))

no_more : (j k : ℕ) → 2 ^ j ≤ 2 ^ k → j ≤ k
no_more j k h = go (ltb k j) refl
  where
    go : (t : Bool) → ltb k j ≡ t → j ≤ k
    go true e = absurd (not-le_of_lt (pow-lt {i = k} {j = j} (ltb-true k j e)) h)
    go false e = ltb-false k j e

pub units-exact : (m : ℕ) (e : ℤ) → down e ≤ 2 ^ 1074 → units m e * down e ≡ m * up e * 2 ^ 1074
units-exact m (pos k) h = div-mul_cancel 1 (one-dvd (m * 2 ^ k * 2 ^ 1074))
units-exact m (negsuc k) h =
    let j : suc k ≤ 1074 = no_more (suc k) 1074 h in
    let q : suc k + (1074 - suc k) ≡ 1074 = omega arith in
    let w : 2 ^ 1074 ≡ 2 ^ suc k * 2 ^ (1074 - suc k) = ap (λ (x : ℕ). 2 ^ x) (sym q) ∙ pow-add 2 (suc k) (1074 - suc k) in
    div-mul_cancel (2 ^ suc k) (dvd-mul_left_of_dvd (2 ^ suc k) (rw w (dvd-mul_right (2 ^ suc k) (2 ^ (1074 - suc k)))) (m * 1))

-- ---- the order, by the units: x / de is u / p, and y / dd is w / p
module _ (x y de dd u w p : ℕ) (E : 0 < de) (D : 0 < dd) (P : 0 < p) (a : u * de ≡ x * p) (b : w * dd ≡ y * p) where
  cross-le : u ≤ w → x * dd ≤ y * de
  cross-le h = transfer x y de dd u w p p P P (sym a) (sym b) (mul-le-mul_right p h)

  back-le : x * dd ≤ y * de → u ≤ w
  back-le h = le_of_mul-le-mul_right (transfer u w p p x y de dd E D a b h) P

pub cross : (x y de dd u w p : ℕ) → 0 < de → 0 < dd → 0 < p → u * de ≡ x * p → w * dd ≡ y * p → ltb (x * dd) (y * de) ≡ ltb u w
cross x y de dd u w p E D P a b = go (ltb u w) refl
  where
    go : (t : Bool) → ltb u w ≡ t → ltb (x * dd) (y * de) ≡ t
    go false e = le-ltb (x * dd) (y * de) (cross-le y x dd de w u p D E P b a (ltb-false u w e))
    go true e = in-turn (ltb (x * dd) (y * de)) refl
      where
        in-turn : (t : Bool) → ltb (x * dd) (y * de) ≡ t → t ≡ true
        in-turn true q = refl
        in-turn false q = absurd (not-le_of_lt (ltb-true u w e) (back-le y x dd de w u p D E P b a (ltb-false (x * dd) (y * de) q)))

sign_pos : (x dd u de p : ℕ) → 0 < de → 0 < dd → 0 < p → u * de ≡ x * p → ltb 0 (x * dd) ≡ ltb 0 u
sign_pos x dd u de p E D P a = go (ltb 0 u) refl
  where
    go : (t : Bool) → ltb 0 u ≡ t → ltb 0 (x * dd) ≡ t
    go true e = lt-ltb 0 (x * dd) (mul-pos (first_pos x p (rw a at (mul-pos (ltb-true 0 u e) E))) D)
    go false e = le-ltb 0 (x * dd) (none (ltb 0 (x * dd)) refl)
      where
        none : (t : Bool) → ltb 0 (x * dd) ≡ t → x * dd ≤ 0
        none false q = ltb-false 0 (x * dd) q
        none true q = absurd (not-le_of_lt (first_pos u de (rw (← a) at (mul-pos (first_pos x dd (ltb-true 0 (x * dd) q)) P))) (ltb-false 0 u e))

either-pos : (a b c d : ℕ) → ltb 0 a ≡ ltb 0 c → ltb 0 b ≡ ltb 0 d → ltb 0 (a + b) ≡ ltb 0 (c + d)
either-pos a b c d p q = go (ltb 0 c) (ltb 0 d) refl refl
  where
    go : (x y : Bool) → ltb 0 c ≡ x → ltb 0 d ≡ y → ltb 0 (a + b) ≡ ltb 0 (c + d)
    go true y e f = lt-ltb 0 (a + b) (omega (arith, ltb-true 0 a (p ∙ e))) ∙ sym (lt-ltb 0 (c + d) (omega (arith, ltb-true 0 c e)))
    go false true e f = lt-ltb 0 (a + b) (omega (arith, ltb-true 0 b (q ∙ f))) ∙ sym (lt-ltb 0 (c + d) (omega (arith, ltb-true 0 d f)))
    go false false e f =
        le-ltb 0 (a + b) (omega (arith, ltb-false 0 a (p ∙ e), ltb-false 0 b (q ∙ f))) ∙ sym (le-ltb 0 (c + d) (omega (arith, ltb-false 0 c e, ltb-false 0 d f)))

pub lt-is : (s : Bool) (m : ℕ) (e : ℤ) (t : Bool) (n : ℕ) (d : ℤ) → T (fits binary64 (fin s m e)) → T (fits binary64 (fin t n d)) → lt (fin s m e) (fin t n d) ≡ below s (units m e) t (units n d)
unfolding lt
lt-is s m e t n d f g = go s t
  where
    a : units m e * down e ≡ m * up e * 2 ^ 1074
    a = units-exact m e (down_le s m e f)

    b : units n d * down d ≡ n * up d * 2 ^ 1074
    b = units-exact n d (down_le t n d g)

    go : (s t : Bool) → below s (m * up e * down d) t (n * up d * down e) ≡ below s (units m e) t (units n d)
    go false false = cross (m * up e) (n * up d) (down e) (down d) (units m e) (units n d) (2 ^ 1074) (down_pos e) (down_pos d) (pow_pos 1074) a b
    go false true = refl
    go true false = either-pos (m * up e * down d) (n * up d * down e) (units m e) (units n d) (sign_pos (m * up e) (down d) (units m e) (down e) (2 ^ 1074) (down_pos e) (down_pos d) (pow_pos 1074) a)
        (sign_pos (n * up d) (down e) (units n d) (down d) (2 ^ 1074) (down_pos d) (down_pos e) (pow_pos 1074) b)
    go true true = cross (n * up d) (m * up e) (down d) (down e) (units n d) (units m e) (2 ^ 1074) (down_pos d) (down_pos e) (pow_pos 1074) b a

-- ---- the bits of a magnitude grow with the units
abbrev digits : ℕ → ℕ
digits u = (size u - 53) * 2 ^ 52 + u / 2 ^ (size u - 53)

digits-mono : (w u : ℕ) → w ≤ u → digits w ≤ digits u
digits-mono w u h = elim (eq-or-lt_of_le fewer) [ inl e ↦ same e | inr l ↦ more l ]
  where
    fewer : size w - 53 ≤ size u - 53
    fewer = omega (arith, size-le w (size u) (lt_of_le_of_lt h (size-lt u)))

    same : size w - 53 ≡ size u - 53 → digits w ≤ digits u
    same e = rw e (omega (arith, shr_mono {a = w} {b = u} (size u - 53) h))

    more : size w - 53 < size u - 53 → digits w ≤ digits u
    more l =
        let a : w / 2 ^ (size w - 53) < 2 ^ 53 = kept-lt 53 w in
        let b : 2 ^ (52 + (size u - 53)) ≤ u = size_reaches u (52 + (size u - 53)) (omega arith) in
        let c : 2 ^ 52 ≤ u / 2 ^ (size u - 53) = (le-div_iff_mul-le (pow_pos (size u - 53))).1 (le_trans (le_of_eq (sym (pow-add 2 52 (size u - 53)))) b) in
        last (size w - 53) (size u - 53) (w / 2 ^ (size w - 53)) (u / 2 ^ (size u - 53)) l a c
      where
        last : (i j p q : ℕ) → i < j → p < 2 ^ 53 → 2 ^ 52 ≤ q → i * 2 ^ 52 + p ≤ j * 2 ^ 52 + q
        last i j p q a b c = omega arith

bits_pos : (m : ℕ) (e : ℤ) → to_bits binary64 (fin false m e) ≡ digits (units m e)
unfolding to_bits
bits_pos m e = rw native.Mathlib.Nat.zero-add

bits-neg : (m : ℕ) (e : ℤ) → to_bits binary64 (fin true m e) ≡ 2 ^ 63 + digits (units m e)
unfolding to_bits
bits-neg m e = native.Mathlib.Nat.add_assoc (2 ^ 63) ((size (units m e) - 53) * 2 ^ 52) (units m e / 2 ^ (size (units m e) - 53))

flip : (s t : Bool) (m : ℕ) (e : ℤ) → T (fits binary64 (fin s m e)) → T (fits binary64 (fin t m e))
unfolding fits
flip s t zero e f = f
flip s t (suc m) e f = f

digits_lt : (s : Bool) (m : ℕ) (e : ℤ) → T (fits binary64 (fin s m e)) → digits (units m e) < 2 ^ 63
digits_lt s m e f = less (digits (units m e)) (rw (bits-neg m e) at (to_bits-lt binary64 (fin true m e) (flip s true m e f)))
  where
    less : (x : ℕ) → 2 ^ 63 + x < 2 ^ 64 → x < 2 ^ 63
    less x h = omega arith

units_of : Float → ℕ
units_of nan = 0
units_of (inf s) = 0
units_of (fin s m e) = units m e

-- magnitudes with the same bits are the same, so the order goes back too
digits-back : (s : Bool) (m : ℕ) (e : ℤ) (t : Bool) (n : ℕ) (d : ℤ) → T (fits binary64 (fin s m e)) → T (fits binary64 (fin t n d)) → digits (units m e) ≤ digits (units n d) → units m e ≤ units n d
unfolding units_of
digits-back s m e t n d f g h = go (ltb (units n d) (units m e)) refl
  where
    go : (x : Bool) → ltb (units n d) (units m e) ≡ x → units m e ≤ units n d
    go false q = ltb-false (units n d) (units m e) q
    go true q =
        let l : units n d < units m e = ltb-true (units n d) (units m e) q in
        let b : digits (units n d) ≤ digits (units m e) = digits-mono (units n d) (units m e) (native.Mathlib.Nat.le_of_lt l) in
        let i : to_bits binary64 (fin false m e) ≡ to_bits binary64 (fin false n d) = bits_pos m e ∙ native.Mathlib.Nat.le_antisymm h b ∙ sym (bits_pos n d) in
        let j : fin false m e ≡ fin false n d = sym (of_bits-to_bits binary64 (fin false m e) (flip s false m e f)) ∙ ap (of_bits binary64) i ∙ of_bits-to_bits binary64 (fin false n d) (flip t false n d g) in
        le_of_eq (ap units_of j)

-- ---- the number of a time
key-pos : (m : ℕ) (e : ℤ) → T (fits binary64 (fin false m e)) → time_key (fin false m e) ≡ digits (units m e) + 2 ^ 63
unfolding time_key key_of pattern_of is_nan
key-pos m e f =
    rw (bits_pos m e, sign-plus (digits (units m e)) (digits_lt false m e f), small (digits (units m e)) (digits_lt false m e f))
  where
    small : (x : ℕ) → x < 2 ^ 63 → x % 2 ^ 63 ≡ x
    small x h = omega arith

key-neg : (m : ℕ) (e : ℤ) → T (fits binary64 (fin true m e)) → time_key (fin true m e) ≡ 2 ^ 63 - 1 - digits (units m e)
unfolding time_key key_of pattern_of is_nan
key-neg m e f =
    rw (bits-neg m e, sign-minus (2 ^ 63 + digits (units m e)) (more (digits (units m e))), left (digits (units m e)) (digits_lt true m e f))
  where
    more : (x : ℕ) → 2 ^ 63 ≤ 2 ^ 63 + x
    more x = omega arith

    left : (x : ℕ) → x < 2 ^ 63 → (2 ^ 63 + x) % 2 ^ 63 ≡ x
    left x h = omega arith

pub not_inf : (s : Bool) {A : Type 0} → in_range (inf s) ≡ true → A
unfolding in_range
not_inf s e = absurd (let z : ◌≡◌ {A = ℕ} 0 1 = cc in omega arith)

pub not_nan : {A : Type 0} → in_range nan ≡ true → A
unfolding in_range
not_nan e = absurd (let z : ◌≡◌ {A = ℕ} 0 1 = cc in omega arith)

pub never : {A : Type 0} → false ≡ true → A
never e = absurd (let z : ◌≡◌ {A = ℕ} 0 1 = cc in omega arith)

earlier-fin : (s : Bool) (m : ℕ) (e : ℤ) (t : Bool) (n : ℕ) (d : ℤ) (r : Bool) (u : ℕ) → T (fits binary64 (fin s m e)) → T (fits binary64 (fin t n d))
    → time_key (fin s m e) ≤ time_key (fin t n d) → below t (units n d) r u ≡ true → below s (units m e) r u ≡ true
earlier-fin false m e false n d r u f g h q =
    go r (digits-back false m e false n d f g (by (digits (units m e)) (digits (units n d)) (rw (key-pos m e f) at (rw (key-pos n d g) at h)))) q
  where
    by : (x y : ℕ) → x + 2 ^ 63 ≤ y + 2 ^ 63 → x ≤ y
    by x y h = omega arith

    go : (r : Bool) → units m e ≤ units n d → below false (units n d) r u ≡ true → below false (units m e) r u ≡ true
    go false l q = lt-ltb (units m e) u (omega (arith, ltb-true (units n d) u q))
    go true l q = q
earlier-fin false m e true n d r u f g h q =
    absurd (no_way (digits (units m e)) (digits (units n d)) (rw (key-pos m e f) at (rw (key-neg n d g) at h)))
  where
    no_way : (x y : ℕ) → x + 2 ^ 63 ≤ 2 ^ 63 - 1 - y → ⊥
    no_way x y h = omega arith
earlier-fin true m e false n d r u f g h q = go r q
  where
    go : (r : Bool) → below false (units n d) r u ≡ true → below true (units m e) r u ≡ true
    go false q = lt-ltb 0 (units m e + u) (omega (arith, ltb-true (units n d) u q))
    go true q = never q
earlier-fin true m e true n d r u f g h q =
    go r (digits-back true n d true m e g f (by (digits (units m e)) (digits (units n d)) (digits_lt true m e f) (digits_lt true n d g) (rw (key-neg m e f) at (rw (key-neg n d g) at h)))) q
  where
    by : (x y : ℕ) → x < 2 ^ 63 → y < 2 ^ 63 → 2 ^ 63 - 1 - x ≤ 2 ^ 63 - 1 - y → y ≤ x
    by x y a b h = omega arith

    go : (r : Bool) → units n d ≤ units m e → below true (units n d) r u ≡ true → below true (units m e) r u ≡ true
    go false l q = lt-ltb 0 (units m e + u) (omega (arith, ltb-true 0 (units n d + u) q))
    go true l q = lt-ltb u (units m e) (omega (arith, ltb-true u (units n d) q))

pub earlier-of : (x y q : Float) → T (fits binary64 x) → T (fits binary64 y) → T (fits binary64 q) → in_range x ≡ true → in_range y ≡ true
    → time_key x ≤ time_key y → lt y q ≡ true → lt x q ≡ true
earlier-of nan y q fx fy fq rx ry h e = not_nan rx
earlier-of (inf s) y q fx fy fq rx ry h e = not_inf s rx
earlier-of (fin s m d) nan q fx fy fq rx ry h e = not_nan ry
earlier-of (fin s m d) (inf t) q fx fy fq rx ry h e = not_inf t ry
earlier-of (fin s m d) (fin t n k) nan fx fy fq rx ry h e = unfold lt in e
earlier-of (fin s m d) (fin t n k) (inf r) fx fy fq rx ry h e = unfold lt in e
earlier-of (fin s m d) (fin t n k) (fin r u j) fx fy fq rx ry h e =
    lt-is s m d r u j fx fq ∙ earlier-fin s m d t n k r (units u j) fx fy h (sym (lt-is t n k r u j fy fq) ∙ e)
