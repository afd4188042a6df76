-- `root_of` is the root. Assumes nothing.
use Rattle.std.proofs.Common.{◌≡◌, ℕ, zero, suc, ◌+◌, ◌-◌, ◌*◌, ◌/◌, ◌%◌, ◌^◌, ◌<◌, ◌≤◌, Bool, true, false, cond, not, T, leb, ◌⊎◌, ℤ, sym, refl, ap, ◌∙◌, subst, inl, inr, true≢false, lt_of_lt_of_le, le_of_lt, lt_irrefl, mul-le-mul_right, mul_assoc, mul-le-mul, mul-lt-mul_of_pos_right, mul-pos, zero-mul, mul-div_cancel, arith, leb→le, pow_pos, pow_mono, pow-add, shl_lt}
use native.Mathlib.Nat.{pow-succ'}
use mathlib.Core.Bool.{false≢true}
use lib.Ieee.{Float, nan, inf, fin, up, down, binary64, fits, size, odd, of_bits}
use lib.Ieee.Digits.{size-lt, size-le}
use lib.Ieee.Fits.{odd-fits, down_pos}
use lib.Ieee.Exact.{HasValue, odd_sign}
use Rattle.root.proofs.Reading.{rescale, read-normal}
use lib.Dec.{nleb→lt}
use native.Mathlib.Decide.{dec_le, dec_lt}
use Rattle.root.specs.Root.{NearestWhole, IsPositiveRoot, root_of}
use Rattle.root.specs.Digits.{isqrt, nearest_root, root_parts, root_units}
use Rattle.root.specs.Steps.{IsParts}
use Rattle.root.proofs.Squares.{double, square-next, up-square, nearest-same, nearest-next}

-- ---- the whole part of a root

abbrev Floor : ℕ → ℕ → Type 0
Floor n s = (s * s ≤ n) × (n < (s + 1) * (s + 1))

floor-step : (n t : ℕ) → Floor (n / 4) t → Floor n (cond (leb ((2 * t + 1) * (2 * t + 1)) n) (2 * t + 1) (2 * t))
floor-step n t h = go (leb ((2 * t + 1) * (2 * t + 1)) n) (leb→le ((2 * t + 1) * (2 * t + 1)) n) (nleb→lt ((2 * t + 1) * (2 * t + 1)) n)
  where
    go : (b : Bool) → (T b → (2 * t + 1) * (2 * t + 1) ≤ n) → (T (not b) → n < (2 * t + 1) * (2 * t + 1)) → Floor n (cond b (2 * t + 1) (2 * t))
    go true a b = (a tt, omega (arith, square-next (2 * t + 1), up-square t, square-next t, h.1))
    go false a b = (omega (arith, double t, h.0), b tt)

pub isqrt-floor : (b n : ℕ) → n < 4 ^ b → Floor n (isqrt b n)
unfolding isqrt
isqrt-floor zero n h = (omega arith, omega arith)
isqrt-floor (suc b) n h = floor-step n (isqrt b (n / 4)) (isqrt-floor b (n / 4) (omega (arith, pow-succ' 4 b)))

-- ---- the nearest whole number to a root is one number

apart : (n q r : ℕ) → NearestWhole n q → NearestWhole n r → q < r → ⊥
apart n q r a b h =
    let l : 2 * q + 1 ≤ 2 * r - 1 = omega arith in
    omega (arith, mul-le-mul l l, a.below, b.above)

pub nearest-unique : (n q r : ℕ) → NearestWhole n q → NearestWhole n r → q ≡ r
nearest-unique n q r a b = go (dec_lt q r) (dec_lt r q)
  where
    go : Dec (q < r) → Dec (r < q) → q ≡ r
    go (yes h) d = absurd (apart n q r a b h)
    go (no f) (yes h) = absurd (apart n r q b a h)
    go (no f) (no g) = omega arith

pub nearest_root-is : (n s : ℕ) → 0 < n → Floor n s → NearestWhole n (nearest_root n s)
nearest_root-is n s p h = go (leb n (s * s + s)) (leb→le n (s * s + s)) (nleb→lt n (s * s + s))
  where
    over : s * s + (n - s * s) ≡ n
    over = omega (arith, h.0)

    most : n - s * s ≤ 2 * s
    most = omega (arith, h.0, h.1, square-next s)

    go : (b : Bool) → (T b → n ≤ s * s + s) → (T (not b) → s * s + s < n) → NearestWhole n (cond b s (s + 1))
    go true a b = nearest-same n s (n - s * s) p over most (omega (arith, a tt))
    go false a b = nearest-next n s (n - s * s) over most (omega (arith, b tt))

-- ---- powers

pub four-pow : (k : ℕ) → 4 ^ k ≡ 2 ^ (k + k)
four-pow zero = refl
four-pow (suc k) =
    let e : 2 + (k + k) ≡ suc k + suc k = omega arith in
    pow-succ' 4 k ∙ ap (λ (x : ℕ). 4 * x) (four-pow k) ∙ sym (pow-add 2 2 (k + k)) ∙ ap (λ (x : ℕ). 2 ^ x) e

-- what the root is taken of, for x = m * 2 ^ y / 2 ^ 1126
abbrev pub under : ℕ → ℕ → ℕ
under m y = m * 2 ^ (52 + y % 2)

under-scaled : (m y : ℕ) → under m y * 4 ^ (y / 2) ≡ m * 2 ^ y * 2 ^ 52
under-scaled m y =
    let k = y / 2 in
    let e : 52 + y % 2 + (k + k) ≡ y + 52 = omega arith in
    ap (λ (z : ℕ). under m y * z) (four-pow k)
    ∙ mul_assoc m (2 ^ (52 + y % 2)) (2 ^ (k + k))
    ∙ ap (λ (z : ℕ). m * z) (sym (pow-add 2 (52 + y % 2) (k + k)) ∙ ap (λ (x : ℕ). 2 ^ x) e ∙ pow-add 2 y 52)
    ∙ sym (mul_assoc m (2 ^ y) (2 ^ 52))

-- it is m * 2 ^ 52 or m * 2 ^ 53
pub under-is : (m y : ℕ) → ((y % 2 ≡ 0) × (under m y ≡ m * 2 ^ 52)) ⊎ ((y % 2 ≡ 1) × (under m y ≡ m * 2 ^ 53))
under-is m y = go (y % 2) refl
  where
    two : (r : ℕ) → suc (suc r) ≡ y % 2 → ⊥
    two r e = omega arith

    go : (r : ℕ) → r ≡ y % 2 → ((r ≡ 0) × (m * 2 ^ (52 + r) ≡ m * 2 ^ 52)) ⊎ ((r ≡ 1) × (m * 2 ^ (52 + r) ≡ m * 2 ^ 53))
    go zero e = inl (refl, refl)
    go (suc zero) e = inr (refl, refl)
    go (suc (suc r)) e = absurd (two r e)

-- its bounds, and the root's
record Bounds (n : ℕ) : Type 0 where
  from : 2 ^ 104 ≤ n
  upto : n ≤ 2 ^ 106 - 2 ^ 53

bounds : (m y : ℕ) → 2 ^ 52 ≤ m → m < 2 ^ 53 → Bounds (under m y)
bounds m y a b = elim (under-is m y) [
  | inl e ↦ record { from = omega (arith, e.1); upto = omega (arith, e.1) }
  | inr e ↦ record { from = omega (arith, e.1); upto = omega (arith, e.1) }
]

root-from : (n q : ℕ) → Bounds n → NearestWhole n q → 2 ^ 52 ≤ q
root-from n q b h = go (dec_le (2 ^ 52) q)
  where
    less : 2 * q + 1 ≤ 2 ^ 53 - 1 → ⊥
    less l = omega (arith, mul-le-mul l l, h.below, b.from)

    go : Dec (2 ^ 52 ≤ q) → 2 ^ 52 ≤ q
    go (yes l) = l
    go (no f) = absurd (less (omega arith))

root_below : (n q : ℕ) → Bounds n → NearestWhole n q → q < 2 ^ 53
root_below n q b h = go (dec_lt q (2 ^ 53))
  where
    more : 2 ^ 54 - 1 ≤ 2 * q - 1 → ⊥
    more l = omega (arith, mul-le-mul l l, h.above, b.upto)

    go : Dec (q < 2 ^ 53) → q < 2 ^ 53
    go (yes l) = l
    go (no f) = absurd (more (omega arith))

-- ---- the nearest number is the root of x

pub root : ℕ → ℕ → Float
root q y = odd 53 false q (y / 2 + 485) 1074

x-scaled : (m y a : ℕ) → a * 2 ^ 52 ≡ m * 2 ^ y → under m y * 4 ^ (y / 2) * 2 ^ 1074 ≡ a * 4 ^ 589
x-scaled m y a e =
    ap (λ (z : ℕ). z * 2 ^ 1074) (under-scaled m y ∙ ap (λ (z : ℕ). z * 2 ^ 52) (sym e) ∙ mul_assoc a (2 ^ 52) (2 ^ 52))
    ∙ mul_assoc a (2 ^ 104) (2 ^ 1074)

pub r-scaled : (q k : ℕ) → q * 2 ^ k * 2 ^ 1074 ≡ q * 2 ^ (k + 485) * 2 ^ 589
r-scaled q k =
    sym (mul_assoc (q * 2 ^ k) (2 ^ 485) (2 ^ 589))
    ∙ ap (λ (z : ℕ). z * 2 ^ 589) (mul_assoc q (2 ^ k) (2 ^ 485) ∙ ap (λ (z : ℕ). q * z) (sym (pow-add 2 k 485)))

room : (y : ℕ) → y < 2098 → 53 + (y / 2 + 485) ≤ 2098
room y h = omega arith

root-value : (q y : ℕ) → HasValue (root q y) false (q * 2 ^ (y / 2)) (2 ^ 589)
unfolding root
root-value q y = rescale (odd 53 false q (y / 2 + 485) 1074) false (q * 2 ^ (y / 2 + 485)) (2 ^ 1074) (q * 2 ^ (y / 2)) (2 ^ 589) (pow_pos 1074) (r-scaled q (y / 2)) (odd_sign 53 false q (y / 2 + 485) 1074)

root-fits : (q y : ℕ) → q < 2 ^ 53 → y < 2098 → T (fits binary64 (root q y))
unfolding root
root-fits q y h l = odd-fits binary64 53 false q (y / 2 + 485) h (le_of_lt h) (lt_of_lt_of_le (shl_lt 53 (y / 2 + 485) h) (pow_mono (room y l)))

pub positive-root : (x : Float) (m y q : ℕ) → IsParts x m y → NearestWhole (under m y) q → IsPositiveRoot x (root q y)
positive-root x m y q p h =
    let b : Bounds (under m y) = bounds m y p.from p.below in
    let q-lt : q < 2 ^ 53 = root_below (under m y) q b h in
    record {
      n = under m y;
      q = q;
      k = y / 2;
      x-is = rescale x false p.a (2 ^ 1074) (under m y * 4 ^ (y / 2)) (4 ^ 589) (pow_pos 1074) (x-scaled m y p.a p.same) p.is;
      n-from = b.from;
      n-below = omega (arith, b.upto);
      r-is = root-value q y;
      r-fits = root-fits q y q-lt p.small;
      q-from = root-from (under m y) q b h;
      q-below = q-lt;
      nearest = h;
    }

-- ---- `root_of` by the parts of x

no_zero : (e : ℤ) (a c : ℕ) → 0 < a → 0 * up e * c ≡ a * down e → ⊥
no_zero e a c p h = lt_irrefl 0 (subst (λ (z : ℕ). 0 < z) (sym h ∙ ap (λ (z : ℕ). z * c) (zero-mul (up e)) ∙ zero-mul c) (mul-pos p (down_pos e)))

root_of-units : (x : Float) (a : ℕ) → HasValue x false a (2 ^ 1074) → 0 < a → root_of x ≡ root_units a
unfolding root_of
root_of-units nan a v p = absurd v
root_of-units (inf s) a v p = absurd v
root_of-units (fin s zero e) a v p = absurd (no_zero e a (2 ^ 1074) p v.1)
root_of-units (fin true (suc m) e) a v p = absurd (true≢false v.0)
root_of-units (fin false (suc m) e) a v p = ap root_units (ap (λ (z : ℕ). z / down e) v.1 ∙ mul-div_cancel a (down_pos e))

pub root_of-negative : (x : Float) (a c : ℕ) → HasValue x true a c → 0 < a → root_of x ≡ nan
unfolding root_of
root_of-negative nan a c v p = refl
root_of-negative (inf s) a c v p = absurd v
root_of-negative (fin s zero e) a c v p = absurd (no_zero e a c p v.1)
root_of-negative (fin true (suc m) e) a c v p = refl
root_of-negative (fin false (suc m) e) a c v p = absurd (false≢true v.0)

size_is : (a y : ℕ) → 2 ^ y ≤ a → a < 2 ^ suc y → size a - 1 ≡ y
size_is a y l h =
    let up : size a ≤ suc y = size-le a (suc y) h in
    go (dec_le (size a) y) up
  where
    no_less : size a ≤ y → ⊥
    no_less g = omega (arith, size-lt a, pow_mono g)

    go : Dec (size a ≤ y) → size a ≤ suc y → size a - 1 ≡ y
    go (yes g) u = absurd (no_less g)
    go (no f) u = omega arith

lead : (a m y : ℕ) → a * 2 ^ 52 ≡ m * 2 ^ y → 2 ^ 52 ≤ m → m < 2 ^ 53 → size a - 1 ≡ y
lead a m y e l h = size_is a y (omega (arith, mul-le-mul_right (2 ^ y) l)) (omega (arith, mul-lt-mul_of_pos_right h (pow_pos y), pow-succ' 2 y))

root_units-parts : (a m y : ℕ) → a * 2 ^ 52 ≡ m * 2 ^ y → 2 ^ 52 ≤ m → m < 2 ^ 53 → root_units a ≡ root_parts m y
unfolding root_units
root_units-parts a m y e l h =
    ap (λ (z : ℕ). root_parts (a * 2 ^ 52 / 2 ^ z) z) (lead a m y e l h)
    ∙ ap (λ (z : ℕ). root_parts (z / 2 ^ y) y) e
    ∙ ap (λ (z : ℕ). root_parts z y) (mul-div_cancel m (pow_pos y))

a-pos : (a m t : ℕ) → a * 2 ^ 52 ≡ m * t → 0 < m * t → 0 < a
a-pos a m t e h = omega arith

parts-pos : (x : Float) (m y : ℕ) (p : IsParts x m y) → 0 < p.a
parts-pos x m y p = a-pos p.a m (2 ^ y) p.same (mul-pos (lt_of_lt_of_le (pow_pos 52) p.from) (pow_pos y))

root_parts-is : (m y : ℕ) → root_parts m y ≡ root (nearest_root (under m y) (isqrt 53 (under m y))) y
unfolding root_parts root
root_parts-is m y = refl

under-nearest : (m y : ℕ) → 2 ^ 52 ≤ m → m < 2 ^ 53 → NearestWhole (under m y) (nearest_root (under m y) (isqrt 53 (under m y)))
under-nearest m y l h =
    let b : Bounds (under m y) = bounds m y l h in
    nearest_root-is (under m y) (isqrt 53 (under m y)) (omega (arith, b.from)) (isqrt-floor 53 (under m y) (omega (arith, b.upto)))

-- whatever q is the nearest to the root of `under m y`, the root of x is made of it
pub root_of-is : (x : Float) (m y q : ℕ) → IsParts x m y → NearestWhole (under m y) q → root_of x ≡ root q y
root_of-is x m y q p h = root_of-units x p.a p.is (parts-pos x m y p)
    ∙ root_units-parts p.a m y p.same p.from p.below
    ∙ root_parts-is m y
    ∙ ap (λ (z : ℕ). root z y) (nearest-unique (under m y) (nearest_root (under m y) (isqrt 53 (under m y))) q (under-nearest m y p.from p.below) h)

pub root_of-positive : (x : Float) (m y : ℕ) → IsParts x m y → IsPositiveRoot x (root_of x)
root_of-positive x m y p =
    let q = nearest_root (under m y) (isqrt 53 (under m y)) in
    let h : NearestWhole (under m y) q = under-nearest m y p.from p.below in
    subst (λ (r : Float). IsPositiveRoot x r) (sym (root_of-is x m y q p h)) (positive-root x m y q p h)

-- ---- the code's numbers

pub wide_is : (m y : ℕ) → m * (1 + y % 2) * 2 ^ 52 ≡ under m y
wide_is m y = go (y % 2) refl
  where
    two : (r : ℕ) → suc (suc r) ≡ y % 2 → ⊥
    two r e = omega arith

    go : (r : ℕ) → r ≡ y % 2 → m * (1 + r) * 2 ^ 52 ≡ m * 2 ^ (52 + r)
    go zero e = omega arith
    go (suc zero) e = omega arith
    go (suc (suc r)) e = absurd (two r e)

pub record Wide (m p : ℕ) : Type 0 where
  pub from : 2 ^ 52 ≤ m * (1 + p)
  pub below : m * (1 + p) < 2 ^ 54

pub wide : (m p : ℕ) → 2 ^ 52 ≤ m → m < 2 ^ 53 → p < 2 → Wide m p
wide m zero l h b = record { from = omega arith; below = omega arith }
wide m (suc zero) l h b = record { from = omega arith; below = omega arith }
wide m (suc (suc p)) l h b = absurd (omega arith)

pub record Result (x : Float) (y q : ℕ) : Type 0 where
  pub from : 2 ^ 52 ≤ q
  pub below : q < 2 ^ 53
  pub is : of_bits binary64 ((y / 2 + 485) * 2 ^ 52 + q) ≡ root_of x

pub result : (x : Float) (m y q : ℕ) → IsParts x m y → NearestWhole (m * (1 + y % 2) * 2 ^ 52) q → Result x y q
unfolding root
result x m y q p h =
    let b : Bounds (under m y) = bounds m y p.from p.below in
    let n : NearestWhole (under m y) q = subst (λ (z : ℕ). NearestWhole z q) (wide_is m y) h in
    let f : 2 ^ 52 ≤ q = root-from (under m y) q b n in
    let l : q < 2 ^ 53 = root_below (under m y) q b n in
    record {
      from = f;
      below = l;
      is = read-normal ((y / 2 + 485) * 2 ^ 52 + q) q (y / 2 + 485) refl f l (omega (arith, p.small)) ∙ sym (root_of-is x m y q p n);
    }
