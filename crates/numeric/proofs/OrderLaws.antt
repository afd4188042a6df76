-- The laws of the total order, and of a float's pattern. Assumes nothing.
use Prim.Native.Nat.{ℕ, ◌+◌, ◌-◌, ◌%◌, ◌^◌, ◌≤◌, ◌<◌}
use native.Mathlib.Omega.{arith}
use mathlib.Core.Path.{◌≡◌, refl, sym, ap, ◌∙◌}
use mathlib.Core.Logic.{◌⊎◌, inl, inr}
use mathlib.Core.Bool.{Bool, true, false, not, ◌&&◌, beq, cond}
use lib.Dec.{T, leb, ltb, eqb}
use borrow.Author.Tests.{lt-ltb, le-ltb, le-leb, lt-leb, eq-eqb, ltb-true, ltb-false, leb-true, leb-false}
use lib.IntN.{ℤ}
use lib.Ieee.{Float, nan, inf, fin, binary64, below, level, lt, eq, ne, to_bits, is_nan, fits}
use lib.Ieee.Compare.{differs_from_itself, nan_differs}
use lib.Ieee.Bits.{of_bits-to_bits, to_bits-of_bits, to_bits-lt}
use Rattle.exact.specs.Float.{bits}
use Rattle.exact.specs.Pattern.{sign, digits}
use Rattle.numeric.specs.Real.{abs}
use Rattle.numeric.specs.Order.{is_nan_pattern, is_quiet, payload, equal_order, payload_order, nan_order, unordered, total_order, pattern_of}
use Rattle.numeric.proofs.OrderMagnitude.{unsigned, infinity, trichotomy, lt-bits, eq-bits, is_nan_pattern-above, is_nan-bits, bits-nan}

-- ---- numbers

-- Like signs go by the pattern without the sign, negative ones in the reverse order, and negative patterns come before the others.
abbrev pub ordered : Bool → ℕ → Bool → ℕ → Bool
ordered false a false b = leb a b
ordered false a true b = false
ordered true a false b = true
ordered true a true b = leb b a

-- like signs: what is neither less nor greater is equal
like : (a b : ℕ) (e d : Bool) → (a ≡ b → e ≡ true) → cond (ltb a b) true (cond (ltb b a) false (cond e true d)) ≡ leb a b
like a b e d h = go (trichotomy a b)
  where
    go : (a < b) ⊎ ((a ≡ b) ⊎ (b < a)) → cond (ltb a b) true (cond (ltb b a) false (cond e true d)) ≡ leb a b
    go (inl l) = rw (lt-ltb a b l, le-leb a b (omega arith))
    go (inr (inl q)) = rw (le-ltb a b (omega arith), le-ltb b a (omega arith), h q, le-leb a b (omega arith))
    go (inr (inr g)) = rw (le-ltb a b (omega arith), lt-ltb b a g, lt-leb a b g)

-- unlike signs: the magnitudes are not both 0, or both are
unlike : (a b n : ℕ) (v d : Bool) → n ≡ a + b → cond (ltb 0 n) v (cond (eqb a b && eqb a 0) v d) ≡ v
unlike a b n v d e = go (ltb 0 n) refl
  where
    go : (t : Bool) → ltb 0 n ≡ t → cond t v (cond (eqb a b && eqb a 0) v d) ≡ v
    go true h = refl
    go false h = let z : n ≤ 0 = ltb-false 0 n h in rw (eq-eqb a b (omega arith), eq-eqb a 0 (omega arith))

-- (a), (b) and (c) at numbers, whatever (d) has there
numbers : (s t : Bool) (a b : ℕ) (d : Bool) → cond (below s a t b) true (cond (below t b s a) false (cond (level s a t b) (equal_order s t) d)) ≡ ordered s a t b
numbers false false a b d = like a b (level false a false b) d (λ e. rw (eq-eqb a b e))
numbers false true a b d = unlike a b (b + a) false d (omega arith)
numbers true false a b d = unlike a b (a + b) true d refl
numbers true true a b d = like b a (level true a true b) d (λ e. rw (eq-eqb a b (sym e)))

-- ---- NaNs

-- a test that follows another
pub leb-same : (p q a b : ℕ) → (p ≤ q → a ≤ b) → (q < p → b < a) → leb p q ≡ leb a b
leb-same p q a b f g = go (leb p q) refl
  where
    go : (t : Bool) → leb p q ≡ t → t ≡ leb a b
    go true e = sym (le-leb a b (f (leb-true p q e)))
    go false e = sym (lt-leb a b (g (leb-false p q e)))

-- two NaNs of one sign go by their patterns: bit 51 is the highest in which they can differ
payload-unsigned : (x y : ℕ) → infinity < unsigned x → infinity < unsigned y → payload_order x y ≡ leb (unsigned x) (unsigned y)
unfolding payload_order is_quiet payload digits
payload-unsigned x y h k = go (leb (2 ^ 51) (x % 2 ^ 52)) (leb (2 ^ 51) (y % 2 ^ 52)) refl refl
  where
    go : (p q : Bool) → leb (2 ^ 51) (x % 2 ^ 52) ≡ p → leb (2 ^ 51) (y % 2 ^ 52) ≡ q → cond (beq p q) (leb (x % 2 ^ 51) (y % 2 ^ 51)) q ≡ leb (unsigned x) (unsigned y)
    go true true e f =
        let a : 2 ^ 51 ≤ x % 2 ^ 52 = leb-true _ _ e in
        let b : 2 ^ 51 ≤ y % 2 ^ 52 = leb-true _ _ f in
        leb-same (x % 2 ^ 51) (y % 2 ^ 51) (unsigned x) (unsigned y) (omega arith) (omega arith)
    go false false e f =
        let a : x % 2 ^ 52 < 2 ^ 51 = leb-false _ _ e in
        let b : y % 2 ^ 52 < 2 ^ 51 = leb-false _ _ f in
        leb-same (x % 2 ^ 51) (y % 2 ^ 51) (unsigned x) (unsigned y) (omega arith) (omega arith)
    go true false e f =
        let a : 2 ^ 51 ≤ x % 2 ^ 52 = leb-true _ _ e in
        let b : y % 2 ^ 52 < 2 ^ 51 = leb-false _ _ f in
        sym (lt-leb (unsigned x) (unsigned y) (omega arith))
    go false true e f =
        let a : x % 2 ^ 52 < 2 ^ 51 = leb-false _ _ e in
        let b : 2 ^ 51 ≤ y % 2 ^ 52 = leb-true _ _ f in
        sym (le-leb (unsigned x) (unsigned y) (omega arith))

-- (d 3) two NaNs
both-nan : (s t : Bool) (x y : ℕ) → infinity < unsigned x → infinity < unsigned y → nan_order s t x y ≡ ordered s (unsigned x) t (unsigned y)
both-nan false false x y h k = payload-unsigned x y h k
both-nan false true x y h k = refl
both-nan true false x y h k = refl
both-nan true true x y h k = payload-unsigned y x k h

-- (d 1) a NaN and a number
left-nan : (s t : Bool) (a b : ℕ) → b < a → s ≡ ordered s a t b
left-nan false false a b h = sym (lt-leb a b h)
left-nan false true a b h = refl
left-nan true false a b h = refl
left-nan true true a b h = sym (le-leb b a (omega arith))

-- (d 2) a number and a NaN
right-nan : (s t : Bool) (a b : ℕ) → a < b → not t ≡ ordered s a t b
right-nan false false a b h = sym (le-leb a b (omega arith))
right-nan false true a b h = refl
right-nan true false a b h = refl
right-nan true true a b h = sym (lt-leb b a h)

-- ---- the order, by sign and what is left of the pattern

-- (d) where a NaN stands no comparison holds
at-nan : (x y : ℕ) → (bits x ≡ nan) ⊎ (bits y ≡ nan) → total_order x y ≡ unordered x y
unfolding total_order lt eq
at-nan x y (inl h) = rw h (go (bits y))
  where
    go : (v : Float) → cond (lt nan v) true (cond (lt v nan) false (cond (eq nan v) (equal_order (sign x) (sign y)) (unordered x y))) ≡ unordered x y
    go nan = refl
    go (inf s) = refl
    go (fin s m e) = refl
at-nan x y (inr h) = rw h (go (bits x))
  where
    go : (v : Float) → cond (lt v nan) true (cond (lt nan v) false (cond (eq v nan) (equal_order (sign x) (sign y)) (unordered x y))) ≡ unordered x y
    go nan = refl
    go (inf s) = refl
    go (fin s m e) = refl

-- (a), (b), (c) at two patterns that are no NaN's
at-numbers : (x y : ℕ) → unsigned x ≤ infinity → unsigned y ≤ infinity → total_order x y ≡ ordered (sign x) (unsigned x) (sign y) (unsigned y)
unfolding total_order
at-numbers x y h k = rw (lt-bits x y h k, lt-bits y x k h, eq-bits x y h k) (numbers (sign x) (sign y) (unsigned x) (unsigned y) (unordered x y))

-- all four cases
pub total_order-ordered : (x y : ℕ) → total_order x y ≡ ordered (sign x) (unsigned x) (sign y) (unsigned y)
unfolding unordered
total_order-ordered x y = go (ltb infinity (unsigned x)) (ltb infinity (unsigned y)) refl refl
  where
    go : (p q : Bool) → ltb infinity (unsigned x) ≡ p → ltb infinity (unsigned y) ≡ q → total_order x y ≡ ordered (sign x) (unsigned x) (sign y) (unsigned y)
    go false false e f = at-numbers x y (ltb-false _ _ e) (ltb-false _ _ f)
    go true true e f =
        let h : infinity < unsigned x = ltb-true _ _ e in
        let k : infinity < unsigned y = ltb-true _ _ f in
        at-nan x y (inl (bits-nan x h)) ∙ rw (is_nan_pattern-above x ∙ e, is_nan_pattern-above y ∙ f) (both-nan (sign x) (sign y) x y h k)
    go true false e f =
        let h : infinity < unsigned x = ltb-true _ _ e in
        let k : unsigned y ≤ infinity = ltb-false _ _ f in
        at-nan x y (inl (bits-nan x h)) ∙ rw (is_nan_pattern-above x ∙ e, is_nan_pattern-above y ∙ f) (left-nan (sign x) (sign y) (unsigned x) (unsigned y) (omega arith))
    go false true e f =
        let h : unsigned x ≤ infinity = ltb-false _ _ e in
        let k : infinity < unsigned y = ltb-true _ _ f in
        at-nan x y (inr (bits-nan y k)) ∙ rw (is_nan_pattern-above x ∙ e) (right-nan (sign x) (sign y) (unsigned x) (unsigned y) (omega arith))

-- ---- the order is that of a number for each pattern, which proofs compare

-- A number for each pattern: of those without a sign the pattern and 2 ^ 63, of the others what is left of 2 ^ 63 - 1 without the sign.
unfoldable pub key_of : ℕ → ℕ
key_of b = cond (sign b) (2 ^ 63 - 1 - unsigned b) (unsigned b + 2 ^ 63)

-- the sign by the pattern
pub sign-plus : (b : ℕ) → b < 2 ^ 63 → sign b ≡ false
unfolding sign
sign-plus b h = lt-leb (2 ^ 63) b h

pub sign-minus : (b : ℕ) → 2 ^ 63 ≤ b → sign b ≡ true
unfolding sign
sign-minus b h = le-leb (2 ^ 63) b h

-- the two cases of it
pub key-positive : (b : ℕ) → sign b ≡ false → (b < 2 ^ 63) × (key_of b ≡ b + 2 ^ 63)
unfolding sign key_of
key-positive b e =
    let h : b < 2 ^ 63 = leb-false _ _ e in
    let u : b % 2 ^ 63 ≡ b = omega arith in
    (h, rw (e, u))

pub key-negative : (b : ℕ) → sign b ≡ true → (2 ^ 63 ≤ b) × (key_of b ≡ 2 ^ 63 - 1 - b % 2 ^ 63)
unfolding sign key_of
key-negative b e = (leb-true _ _ e, rw e)

-- the order is that of the numbers
pub total_order-key : (a b : ℕ) → total_order a b ≡ leb (key_of a) (key_of b)
unfolding key_of
total_order-key a b = total_order-ordered a b ∙ go (sign a) (sign b)
  where
    go : (s t : Bool) → ordered s (unsigned a) t (unsigned b) ≡ leb (cond s (2 ^ 63 - 1 - unsigned a) (unsigned a + 2 ^ 63)) (cond t (2 ^ 63 - 1 - unsigned b) (unsigned b + 2 ^ 63))
    go false false = leb-same (unsigned a) (unsigned b) (unsigned a + 2 ^ 63) (unsigned b + 2 ^ 63) (omega arith) (omega arith)
    go false true = sym (lt-leb (unsigned a + 2 ^ 63) (2 ^ 63 - 1 - unsigned b) (omega arith))
    go true false = sym (le-leb (2 ^ 63 - 1 - unsigned a) (unsigned b + 2 ^ 63) (omega arith))
    go true true = leb-same (unsigned b) (unsigned a) (2 ^ 63 - 1 - unsigned a) (2 ^ 63 - 1 - unsigned b) (omega arith) (omega arith)

pub key_of-lt : (b : ℕ) → key_of b < 2 ^ 64
unfolding key_of
key_of-lt b = go (sign b)
  where
    go : (s : Bool) → cond s (2 ^ 63 - 1 - unsigned b) (unsigned b + 2 ^ 63) < 2 ^ 64
    go true = omega arith
    go false = omega arith

module _ (a b : ℕ) where
  -- two patterns have two numbers
  pub key_of_injective : a < 2 ^ 64 → b < 2 ^ 64 → key_of a ≡ key_of b → a ≡ b
  key_of_injective ha hb e = go (sign a) (sign b) refl refl
    where
      go : (s t : Bool) → sign a ≡ s → sign b ≡ t → a ≡ b
      go false false p q = let k = key-positive a p in let l = key-positive b q in omega arith
      go false true p q = let k = key-positive a p in let l = key-negative b q in omega arith
      go true false p q = let k = key-negative a p in let l = key-positive b q in omega arith
      go true true p q = let k = key-negative a p in let l = key-negative b q in omega arith

  -- `total_order-key` as a fact, both ways
  pub total_order-le : total_order a b ≡ true → key_of a ≤ key_of b
  total_order-le h = leb-true (key_of a) (key_of b) (sym (total_order-key a b) ∙ h)

  pub le-total_order : key_of a ≤ key_of b → total_order a b ≡ true
  le-total_order h = total_order-key a b ∙ le-leb (key_of a) (key_of b) h

-- ---- the order is a total one: reflexive, antisymmetric, transitive, total

module _ (a : ℕ) (ha : a < 2 ^ 64) where
  pub reflexive : total_order a a ≡ true
  reflexive = le-total_order a a (omega arith)

module _ (a b : ℕ) (ha : a < 2 ^ 64) (hb : b < 2 ^ 64) where
  pub antisymmetric : total_order a b ≡ true → total_order b a ≡ true → a ≡ b
  antisymmetric h k =
      let l : key_of a ≤ key_of b = total_order-le a b h in
      let g : key_of b ≤ key_of a = total_order-le b a k in
      key_of_injective a b ha hb (omega arith)

  pub total : (total_order a b ≡ true) ⊎ (total_order b a ≡ true)
  total = go (leb (key_of a) (key_of b)) refl
    where
      go : (t : Bool) → leb (key_of a) (key_of b) ≡ t → (total_order a b ≡ true) ⊎ (total_order b a ≡ true)
      go true e = inl (total_order-key a b ∙ e)
      go false e = let h : key_of b < key_of a = leb-false _ _ e in inr (le-total_order b a (omega arith))

pub transitive : (a b c : ℕ) → a < 2 ^ 64 → b < 2 ^ 64 → c < 2 ^ 64 → total_order a b ≡ true → total_order b c ≡ true → total_order a c ≡ true
transitive a b c ha hb hc h k =
    let p : key_of a ≤ key_of b = total_order-le a b h in
    let q : key_of b ≤ key_of c = total_order-le b c k in
    le-total_order a c (omega arith)

-- ---- patterns and floats

no_nan : (x : Float) → ne x x ≡ false → is_nan x ≡ false
unfolding is_nan
no_nan nan h = sym nan_differs ∙ h
no_nan (inf s) h = refl
no_nan (fin s m e) h = refl

-- a NaN is what differs from itself
pub is_nan-differs : (x : Float) → is_nan x ≡ ne x x
unfolding is_nan
is_nan-differs x = go (ne x x) refl
  where
    go : (t : Bool) → ne x x ≡ t → is_nan x ≡ t
    go true h = ap is_nan (differs_from_itself x (rw h tt))
    go false h = no_nan x h

-- the choice at a NaN
pub pattern_of-nan : (x : Float) → is_nan x ≡ true → pattern_of x ≡ 0x7FF8_0000_0000_0000
unfolding pattern_of
pattern_of-nan x h = rw h

pattern_nan : pattern_of nan ≡ to_bits binary64 nan
unfolding pattern_of is_nan to_bits
pattern_nan = refl

-- the pattern written is that of `to_bits`, whose NaN is the one that `pattern_of` names
pub pattern_bits : (x : Float) → pattern_of x ≡ to_bits binary64 x
unfolding pattern_of is_nan
pattern_bits nan = pattern_nan
pattern_bits (inf s) = refl
pattern_bits (fin s m e) = refl

-- reading a float's pattern gives the float
pub pattern_back : (x : Float) → T (fits binary64 x) → bits (pattern_of x) ≡ x
pattern_back x h = ap bits (pattern_bits x) ∙ of_bits-to_bits binary64 x h

-- a float's pattern has 64 bits
pub pattern_lt : (x : Float) → T (fits binary64 x) → pattern_of x < 2 ^ 64
pattern_lt x h = rw (pattern_bits x) (to_bits-lt binary64 x h)

-- writing what was read from a pattern gives the pattern, if it is no NaN's
pub pattern_same : (b : ℕ) → b < 2 ^ 64 → is_nan_pattern b ≡ false → pattern_of (bits b) ≡ b
pattern_same b h n =
    let m : is_nan (bits b) ≡ false = is_nan-bits b ∙ sym (is_nan_pattern-above b) ∙ n in
    pattern_bits (bits b) ∙ to_bits-of_bits binary64 b h (rw m tt)

-- the bits of a number of plus, and the sign
bits-of-minus : (m : ℕ) (e : ℤ) → to_bits binary64 (fin true m e) ≡ 2 ^ 63 + to_bits binary64 (fin false m e)
unfolding to_bits
bits-of-minus m e = omega arith

bits-of-infinity : to_bits binary64 (inf false) ≡ 0x7FF0_0000_0000_0000
unfolding to_bits
bits-of-infinity = refl

-- the pattern of a magnitude has no sign
pub abs_pattern_lt : (x : Float) → T (fits binary64 x) → pattern_of (abs x) < 2 ^ 63
unfolding abs is_nan fits
abs_pattern_lt nan h = rw (pattern_of-nan nan refl) (omega arith)
abs_pattern_lt (inf s) h = rw (pattern_bits (inf false), bits-of-infinity) (omega arith)
abs_pattern_lt (fin s m e) h =
    let l : to_bits binary64 (fin true m e) < 2 ^ 64 = to_bits-lt binary64 (fin true m e) h in
    rw (pattern_bits (fin false m e)) (omega (arith, bits-of-minus m e))
