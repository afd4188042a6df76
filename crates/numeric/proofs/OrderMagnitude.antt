-- Patterns without their signs: two numbers compare as their patterns do, and a NaN's pattern is above the infinities'. Assumes nothing.
use Prim.Native.Nat.{ℕ, zero, suc, ◌+◌, ◌*◌, ◌/◌, ◌%◌, ◌^◌, ◌≤◌, ◌<◌}
use native.Mathlib.Nat.{mul-pos, mul_assoc, mul_comm, mul_right_comm, mul-one, zero-mul, add-mul, mul-lt-mul_of_pos_right, mul-le-mul_right, lt_of_mul-lt-mul_right, le_of_mul-le-mul_right, lt_of_lt_of_le, le_of_suc-le-suc, not-suc-le-zero, pow-succ'}
use native.Mathlib.Omega.{arith}
use mathlib.Core.Path.{◌≡◌, refl, sym, ap, ap₂, ◌∙◌}
use mathlib.Core.Logic.{◌⊎◌, inl, inr}
use mathlib.Core.Bool.{Bool, true, false, not, ◌&&◌, ◌||◌, beq, cond}
use lib.IntN.{ℤ}
use lib.Dec.{leb, ltb, eqb}
use lib.Pow.{pow_pos, pow_mono}
use borrow.Author.Tests.{lt-ltb, le-ltb, eq-eqb, ne_eqb, ltb-true, ltb-false, eqb-true, eqb-false}
use lib.Ieee.{Float, nan, inf, fin, binary64, up, down, below, level, lt, eq, odd, of_fields, of_bits, is_nan, nan_bits, div}
use lib.Ieee.Exact.{HasValue, odd_sign}
use lib.Ieee.Fits.{down_pos}
use lib.Ieee.Bits.{nan_bits_is, nan_bits_above}
use Rattle.exact.specs.Float.{bits, +0, ◌⊘◌}
use Rattle.exact.specs.Pattern.{sign, exponent, digits}
use Rattle.numeric.specs.Order.{is_nan_pattern}

-- a pattern without its sign, bits 62 to 0
abbrev pub unsigned : ℕ → ℕ
unsigned b = b % 2 ^ 63

-- that of the infinities
abbrev pub infinity : ℕ
infinity = 0x7FF0_0000_0000_0000

-- ---- tests of numbers

pub trichotomy : (a b : ℕ) → (a < b) ⊎ ((a ≡ b) ⊎ (b < a))
trichotomy a b = go (ltb a b) (ltb b a) refl refl
  where
    go : (s t : Bool) → ltb a b ≡ s → ltb b a ≡ t → (a < b) ⊎ ((a ≡ b) ⊎ (b < a))
    go true t e f = inl (ltb-true _ _ e)
    go false true e f = inr (inr (ltb-true _ _ f))
    go false false e f = let p : b ≤ a = ltb-false _ _ e in let q : a ≤ b = ltb-false _ _ f in inr (inl (omega arith))

-- what `ltb` says both ways round, `eqb` follows
eqb-by-ltb : (p q a b : ℕ) → ltb p q ≡ ltb a b → ltb q p ≡ ltb b a → eqb p q ≡ eqb a b
eqb-by-ltb p q a b e f = go (trichotomy a b)
  where
    go : (a < b) ⊎ ((a ≡ b) ⊎ (b < a)) → eqb p q ≡ eqb a b
    go (inl h) = let l : p < q = ltb-true p q (e ∙ lt-ltb a b h) in ne_eqb p q (omega arith) ∙ sym (ne_eqb a b (omega arith))
    go (inr (inl h)) =
        let l : q ≤ p = ltb-false p q (e ∙ le-ltb a b (omega arith)) in
        let g : p ≤ q = ltb-false q p (f ∙ le-ltb b a (omega arith)) in
        eq-eqb p q (omega arith) ∙ sym (eq-eqb a b h)
    go (inr (inr h)) = let l : q < p = ltb-true q p (f ∙ lt-ltb b a h) in ne_eqb p q (omega arith) ∙ sym (ne_eqb a b (omega arith))

-- what keeps the order of numbers keeps the test of it
module _ (f : ℕ → ℕ) (mono : (a b : ℕ) → a < b → f a < f b) (a b : ℕ) where
  ltb-mono : ltb (f a) (f b) ≡ ltb a b
  ltb-mono = go (trichotomy a b)
    where
      go : (a < b) ⊎ ((a ≡ b) ⊎ (b < a)) → ltb (f a) (f b) ≡ ltb a b
      go (inl h) = lt-ltb _ _ (mono a b h) ∙ sym (lt-ltb _ _ h)
      go (inr (inl e)) = rw e (le-ltb (f b) (f b) (omega arith) ∙ sym (le-ltb b b (omega arith)))
      go (inr (inr h)) = let k : f b < f a = mono b a h in le-ltb (f a) (f b) (omega arith) ∙ sym (le-ltb a b (omega arith))

-- ---- magnitudes

-- What an exponent field x and the digits t stand for, in units of 2 ^ -1074, the smallest positive number. At an infinity it is 2 ^ 1024, which is above every number.
field_units : ℕ → ℕ → ℕ
field_units zero t = t
field_units (suc x) t = (2 ^ 52 + t) * 2 ^ x

field_units-under : (x t : ℕ) → t < 2 ^ 52 → field_units x t < 2 ^ 52 * 2 ^ x
unfolding field_units
field_units-under zero t h = h
field_units-under (suc x) t h =
    let a : 2 ^ 52 + t < 2 ^ 53 = omega arith in
    let b : (2 ^ 52 + t) * 2 ^ x < 2 ^ 53 * 2 ^ x = mul-lt-mul_of_pos_right a (pow_pos x) in
    omega (arith, pow-succ' 2 x)

field_units-over : (x y t : ℕ) → x < y → 2 ^ 52 * 2 ^ x ≤ field_units y t
unfolding field_units
field_units-over x zero t h = absurd (not-suc-le-zero h)
field_units-over x (suc y) t h =
    let a : 2 ^ x ≤ 2 ^ y = pow_mono (le_of_suc-le-suc h) in
    let b : 2 ^ 52 ≤ 2 ^ 52 + t = omega arith in
    let c : 2 ^ 52 * 2 ^ y ≤ (2 ^ 52 + t) * 2 ^ y = mul-le-mul_right (2 ^ y) b in
    omega arith

field_units-digits : (x s t : ℕ) → s < t → field_units x s < field_units x t
unfolding field_units
field_units-digits zero s t h = h
field_units-digits (suc x) s t h = let a : 2 ^ 52 + s < 2 ^ 52 + t = omega arith in mul-lt-mul_of_pos_right a (pow_pos x)

-- what a pattern without its sign stands for, in the same units
units_of : ℕ → ℕ
units_of r = field_units (r / 2 ^ 52) (r % 2 ^ 52)

units_mono : (a b : ℕ) → a < b → units_of a < units_of b
unfolding units_of
units_mono a b h = go (trichotomy (a / 2 ^ 52) (b / 2 ^ 52))
  where
    go : (a / 2 ^ 52 < b / 2 ^ 52) ⊎ ((a / 2 ^ 52 ≡ b / 2 ^ 52) ⊎ (b / 2 ^ 52 < a / 2 ^ 52)) → field_units (a / 2 ^ 52) (a % 2 ^ 52) < field_units (b / 2 ^ 52) (b % 2 ^ 52)
    go (inl l) = lt_of_lt_of_le (field_units-under (a / 2 ^ 52) (a % 2 ^ 52) (omega arith)) (field_units-over (a / 2 ^ 52) (b / 2 ^ 52) (b % 2 ^ 52) l)
    go (inr (inl e)) = rw e (field_units-digits (b / 2 ^ 52) (a % 2 ^ 52) (b % 2 ^ 52) (omega arith))
    go (inr (inr g)) = absurd (omega arith)

units-zero : units_of 0 ≡ 0
unfolding units_of field_units
units-zero = refl

-- ---- comparing two floats

-- x is no NaN, has the sign s, and r is its pattern without the sign
Reads : Float → Bool → ℕ → Type 0
Reads nan s r = ⊥
Reads (inf t) s r = (t ≡ s) × (r ≡ infinity)
Reads (fin t m e) s r = (t ≡ s) × (m * up e * 2 ^ 1074 ≡ units_of r * down e) × (r < infinity)

-- the order of two fractions p / j and q / j that are a / k and b / k
ratio : (p q a b j k : ℕ) → 0 < j → 0 < k → p * k ≡ a * j → q * k ≡ b * j → ltb p q ≡ ltb a b
ratio p q a b j k hj hk e f = go (ltb a b) refl
  where
    go : (t : Bool) → ltb a b ≡ t → ltb p q ≡ t
    go true h = lt-ltb p q (lt_of_mul-lt-mul_right k (rw (e, f) (mul-lt-mul_of_pos_right (ltb-true a b h) hj)))
    go false h = le-ltb p q (le_of_mul-le-mul_right (rw (e, f) (mul-le-mul_right j (ltb-false a b h))) hk)

-- m * 2 ^ e is a / k and n * 2 ^ d is b / k
module _ (m n : ℕ) (e d : ℤ) (a b k : ℕ) (hk : 0 < k) (v : m * up e * k ≡ a * down e) (w : n * up d * k ≡ b * down d) where
  both : ℕ
  both = down e * down d

  both-pos : 0 < both
  unfolding both
  both-pos = mul-pos (down_pos e) (down_pos d)

  left : m * up e * down d * k ≡ a * both
  unfolding both
  left = mul_right_comm (m * up e) (down d) k ∙ ap (λ (z : ℕ). z * down d) v ∙ mul_assoc a (down e) (down d)

  right : n * up d * down e * k ≡ b * both
  unfolding both
  right = mul_right_comm (n * up d) (down e) k ∙ ap (λ (z : ℕ). z * down e) w ∙ mul_assoc b (down d) (down e) ∙ ap (λ (z : ℕ). b * z) (mul_comm (down d) (down e))

  none : 0 * k ≡ 0 * both
  none = zero-mul k ∙ sym (zero-mul both)

  fin-below : (s t : Bool) → below s (m * up e * down d) t (n * up d * down e) ≡ below s a t b
  fin-below false false = ratio (m * up e * down d) (n * up d * down e) a b both k both-pos hk left right
  fin-below false true = refl
  fin-below true false =
      ratio 0 (m * up e * down d + n * up d * down e) 0 (a + b) both k both-pos hk none
      (add-mul (m * up e * down d) (n * up d * down e) k ∙ ap₂ ◌+◌ left right ∙ sym (add-mul a b both))
  fin-below true true = ratio (n * up d * down e) (m * up e * down d) b a both k both-pos hk right left

  fin-level : (s t : Bool) → level s (m * up e * down d) t (n * up d * down e) ≡ level s a t b
  fin-level s t =
      let p = m * up e * down d in
      let q = n * up d * down e in
      let x : eqb p q ≡ eqb a b = eqb-by-ltb p q a b (ratio p q a b both k both-pos hk left right) (ratio q p b a both k both-pos hk right left) in
      let y : eqb p 0 ≡ eqb a 0 = eqb-by-ltb p 0 a 0 (ratio p 0 a 0 both k both-pos hk left none) (ratio 0 p 0 a both k both-pos hk none left) in
      rw (x, y)

-- an infinity's magnitude is above that of every finite number
below-inf-inf : (s t : Bool) → (s && not t) ≡ below s infinity t infinity
below-inf-inf false false = refl
below-inf-inf false true = refl
below-inf-inf true false = refl
below-inf-inf true true = refl

below-inf-fin : (s t : Bool) (b : ℕ) → b < infinity → s ≡ below s infinity t b
below-inf-fin false false b h = sym (le-ltb infinity b (omega arith))
below-inf-fin false true b h = refl
below-inf-fin true false b h = sym (lt-ltb 0 (infinity + b) (omega arith))
below-inf-fin true true b h = sym (lt-ltb b infinity h)

below-fin-inf : (s t : Bool) (a : ℕ) → a < infinity → not t ≡ below s a t infinity
below-fin-inf false false a h = sym (lt-ltb a infinity h)
below-fin-inf false true a h = refl
below-fin-inf true false a h = sym (lt-ltb 0 (a + infinity) (omega arith))
below-fin-inf true true a h = sym (le-ltb infinity a (omega arith))

level-inf-inf : (s t : Bool) → beq s t ≡ level s infinity t infinity
level-inf-inf false false = refl
level-inf-inf false true = refl
level-inf-inf true false = refl
level-inf-inf true true = refl

positive-sum : (x y : ℕ) → ltb 0 (x + y) ≡ (ltb 0 x || ltb 0 y)
positive-sum x y = go (ltb 0 x) refl
  where
    go : (t : Bool) → ltb 0 x ≡ t → ltb 0 (x + y) ≡ (t || ltb 0 y)
    go true e = let h : 0 < x = ltb-true 0 x e in lt-ltb 0 (x + y) (omega arith)
    go false e = let h : x ≤ 0 = ltb-false 0 x e in let z : x + y ≡ y = omega arith in rw z

units-positive : (r : ℕ) → ltb 0 (units_of r) ≡ ltb 0 r
units-positive r = ap (λ (z : ℕ). ltb z (units_of r)) (sym units-zero) ∙ ltb-mono units_of units_mono 0 r

units-below : (s t : Bool) (a b : ℕ) → below s (units_of a) t (units_of b) ≡ below s a t b
units-below false false a b = ltb-mono units_of units_mono a b
units-below false true a b = refl
units-below true false a b = positive-sum (units_of a) (units_of b) ∙ ap₂ ◌||◌ (units-positive a) (units-positive b) ∙ sym (positive-sum a b)
units-below true true a b = ltb-mono units_of units_mono b a

units-level : (s t : Bool) (a b : ℕ) → level s (units_of a) t (units_of b) ≡ level s a t b
units-level s t a b =
    let x : eqb (units_of a) (units_of b) ≡ eqb a b = eqb-by-ltb (units_of a) (units_of b) a b (ltb-mono units_of units_mono a b) (ltb-mono units_of units_mono b a) in
    let y : eqb (units_of a) 0 ≡ eqb a 0 = ap (λ (z : ℕ). eqb (units_of a) z) (sym units-zero) ∙ eqb-by-ltb (units_of a) (units_of 0) a 0 (ltb-mono units_of units_mono a 0) (ltb-mono units_of units_mono 0 a) in
    rw (x, y)

lt-reads : (x y : Float) (s t : Bool) (a b : ℕ) → Reads x s a → Reads y t b → lt x y ≡ below s a t b
unfolding Reads lt
lt-reads nan y s t a b h k = absurd h
lt-reads (inf s') nan s t a b h k = absurd k
lt-reads (inf s') (inf t') s t a b h k = rw (h.0, k.0, h.1, k.1) (below-inf-inf s t)
lt-reads (inf s') (fin t' n d) s t a b h k = rw (h.0, h.1) (below-inf-fin s t b k.2)
lt-reads (fin s' m e) nan s t a b h k = absurd k
lt-reads (fin s' m e) (inf t') s t a b h k = rw (k.0, k.1) (below-fin-inf s t a h.2)
lt-reads (fin s' m e) (fin t' n d) s t a b h k =
    rw (h.0, k.0) (fin-below m n e d (units_of a) (units_of b) (2 ^ 1074) (pow_pos 1074) h.1 k.1 s t ∙ units-below s t a b)

eq-reads : (x y : Float) (s t : Bool) (a b : ℕ) → Reads x s a → Reads y t b → eq x y ≡ level s a t b
unfolding Reads eq
eq-reads nan y s t a b h k = absurd h
eq-reads (inf s') nan s t a b h k = absurd k
eq-reads (inf s') (inf t') s t a b h k = rw (h.0, k.0, h.1, k.1) (level-inf-inf s t)
eq-reads (inf s') (fin t' n d) s t a b h k = let l : b < infinity = k.2 in rw (h.1, ne_eqb infinity b (omega arith))
eq-reads (fin s' m e) nan s t a b h k = absurd k
eq-reads (fin s' m e) (inf t') s t a b h k = let l : a < infinity = h.2 in rw (k.1, ne_eqb a infinity (omega arith))
eq-reads (fin s' m e) (fin t' n d) s t a b h k =
    rw (h.0, k.0) (fin-level m n e d (units_of a) (units_of b) (2 ^ 1074) (pow_pos 1074) h.1 k.1 s t ∙ units-level s t a b)

-- ---- what a pattern is read as

finite-reads : (v : Float) (s : Bool) (r : ℕ) → r < infinity → HasValue v s (units_of r) (2 ^ 1074) → Reads v s r
unfolding Reads
finite-reads nan s r l h = absurd h
finite-reads (inf t) s r l h = absurd h
finite-reads (fin t m e) s r l h = (h.0, h.1, l)

units-is : (x t r : ℕ) → x ≡ r / 2 ^ 52 → t ≡ r % 2 ^ 52 → units_of r ≡ field_units x t
unfolding units_of
units-is x t r e f = rw (e, f)

field_units-zero : (t : ℕ) → field_units 0 t ≡ t * 1
unfolding field_units
field_units-zero t = sym (mul-one t)

field_units-suc : (x t : ℕ) → field_units (suc x) t ≡ (2 ^ 52 + t) * 2 ^ x
unfolding field_units
field_units-suc x t = refl

fields_read : (s : Bool) (x t r : ℕ) → x ≡ r / 2 ^ 52 → t ≡ r % 2 ^ 52 → r ≤ infinity → Reads (of_fields binary64 s x t) s r
unfolding of_fields Reads
fields_read s zero t r e f l = finite-reads (odd 53 s t 0 1074) s r (omega arith) (rw (units-is 0 t r e f ∙ field_units-zero t) (odd_sign 53 s t 0 1074))
fields_read s (suc x) t r e f l = go (eqb (suc x) 0x7FF) refl
  where
    go : (q : Bool) → eqb (suc x) 0x7FF ≡ q → Reads (cond q (cond (eqb t 0) (inf s) nan) (odd 53 s (2 ^ 52 + t) x 1074)) s r
    go true h =
        let y : suc x ≡ 0x7FF = eqb-true (suc x) 0x7FF h in
        rw (eq-eqb t 0 (omega arith)) (refl, omega arith)
    go false h =
        let n : suc x ≡ 0x7FF → ⊥ = eqb-false (suc x) 0x7FF h in
        finite-reads (odd 53 s (2 ^ 52 + t) x 1074) s r (omega arith) (rw (units-is (suc x) t r e f ∙ field_units-suc x t) (odd_sign 53 s (2 ^ 52 + t) x 1074))

reads : (b : ℕ) → unsigned b ≤ infinity → Reads (bits b) (sign b) (unsigned b)
unfolding of_bits sign
reads b h = fields_read (leb (2 ^ 63) b) (b % 2 ^ 63 / 2 ^ 52) (b % 2 ^ 52) (b % 2 ^ 63) refl (omega arith) h

-- numbers are compared by sign and by what is left of the pattern
module _ (a b : ℕ) (ha : unsigned a ≤ infinity) (hb : unsigned b ≤ infinity) where
  pub lt-bits : lt (bits a) (bits b) ≡ below (sign a) (unsigned a) (sign b) (unsigned b)
  lt-bits = lt-reads (bits a) (bits b) (sign a) (sign b) (unsigned a) (unsigned b) (reads a ha) (reads b hb)

  pub eq-bits : eq (bits a) (bits b) ≡ level (sign a) (unsigned a) (sign b) (unsigned b)
  eq-bits = eq-reads (bits a) (bits b) (sign a) (sign b) (unsigned a) (unsigned b) (reads a ha) (reads b hb)

-- ---- NaNs

-- a NaN's pattern without the sign is above the infinities'
pub is_nan_pattern-above : (b : ℕ) → is_nan_pattern b ≡ ltb infinity (unsigned b)
unfolding is_nan_pattern exponent digits nan_bits
is_nan_pattern-above b = let e : b / 2 ^ 52 % 2 ^ 11 ≡ b % 2 ^ 63 / 2 ^ 52 = omega arith in rw e (nan_bits_above binary64 b)

pub is_nan-bits : (b : ℕ) → is_nan (bits b) ≡ ltb infinity (unsigned b)
is_nan-bits b = sym (nan_bits_is binary64 b) ∙ nan_bits_above binary64 b

is-nan : (x : Float) → is_nan x ≡ true → x ≡ nan
unfolding is_nan
is-nan nan e = refl
is-nan (inf s) e = absurd (let z : ◌≡◌ {A = ℕ} 0 1 = cc in omega arith)
is-nan (fin s m e) q = absurd (let z : ◌≡◌ {A = ℕ} 0 1 = cc in omega arith)

pub bits-nan : (b : ℕ) → infinity < unsigned b → bits b ≡ nan
bits-nan b h = is-nan (bits b) (is_nan-bits b ∙ lt-ltb _ _ h)

-- how a program computes a NaN
pub quotient-nan : +0 ⊘ +0 ≡ nan
unfolding div of_bits
quotient-nan = refl
