-- The median by way of the patterns of each sign: every negative pattern comes before every other, in the reverse of the order without the sign.
-- Assumes nothing.
use Prim.Native.Nat.{ℕ, suc, ◌+◌, ◌-◌, ◌/◌, ◌%◌, ◌^◌, ◌≤◌, ◌<◌}
use native.Mathlib.Omega.{arith}
use mathlib.Core.Path.{◌≡◌, refl, sym, ap, ◌∙◌}
use mathlib.Core.Bool.{Bool, true, false, beq, cond}
use mathlib.Core.List.{List, [], ◌∷◌, map}
use lib.ListN.{get_or, take, length}
use lib.Seq.{take_all}
use lib.Dec.{ltb, eqb}
use lib.Ieee.{Float, binary64}
use lib.Ieee.Fits.{sub-fits}
use borrow.Author.Tests.{lt-ltb, le-ltb, eq-eqb, ne_eqb, ltb-true, ltb-false, eqb-true, eqb-false}
use Rattle.exact.specs.Float.{bits}
use Rattle.exact.specs.Pattern.{sign}
use Rattle.numeric.proofs.OrderLaws.{key_of, key-positive, key-negative, key_of_injective, sign-plus, sign-minus, abs_pattern_lt}
use Rattle.median.specs.Sorted.{sorted_by, median_of, Each, Patterns, occurrences}
use Rattle.median.specs.Steps.{Unsigned, pattern_at, number_at, in_front, passing, lows, highs, without_sign, of_sign, Front}
use Rattle.median.specs.Centre.{deviation_of, deviations_of}
use Rattle.median.proofs.SortedLaws.{each-by, median_key, median_pattern, unsigned-sorted}
use Rattle.median.proofs.SelectSplit.{parts, placed_same, placed-counts, placed-each}
use Rattle.median.proofs.SelectSeek.{front_length}

-- ---- the two signs

sign_lengths_step : (s : Bool) (x : ℕ) (n p : List ℕ) (l : ℕ) → length n + length p ≡ l → length (in_front (beq s true) x n) + length (in_front (beq s false) x p) ≡ suc l
sign_lengths_step true x n p l e = omega arith
sign_lengths_step false x n p l e = omega arith

-- each pattern has one of them
pub sign_lengths : (xs : List ℕ) → length (of_sign true xs) + length (of_sign false xs) ≡ length xs
unfolding of_sign
sign_lengths [] = refl
sign_lengths (x ∷ xs) = sign_lengths_step (sign x) (without_sign x) (of_sign true xs) (of_sign false xs) (length xs) (sign_lengths xs)

-- what is left without a sign has 63 bits
pub of-sign-each : (s : Bool) (xs : List ℕ) → Unsigned (of_sign s xs)
unfolding of_sign Each
of-sign-each s [] = tt
of-sign-each s (x ∷ xs) = go (beq (sign x) s) (of-sign-each s xs)
  where
    go : (b : Bool) → Each (λ (x : ℕ). x < 2 ^ 63) (of_sign s xs) → Each (λ (x : ℕ). x < 2 ^ 63) (in_front b (without_sign x) (of_sign s xs))
    go true h = (omega arith, h)
    go false h = h

-- ---- how many come before a pattern, and how often it stands there: counted in the places of the order, and in the patterns of its sign

kept_more : (b : Bool) (x : ℕ) (l : List ℕ) → length (in_front b x l) ≡ cond b 1 0 + length l
kept_more true x l = omega arith
kept_more false x l = omega arith

ltb-same : (p q a b : ℕ) → (p < q → a < b) → (q ≤ p → b ≤ a) → ltb p q ≡ ltb a b
ltb-same p q a b f g = go (ltb p q) refl
  where
    go : (t : Bool) → ltb p q ≡ t → t ≡ ltb a b
    go true e = sym (lt-ltb a b (f (ltb-true p q e)))
    go false e = sym (le-ltb a b (g (ltb-false p q e)))

eqb_same : (p q a b : ℕ) → (p ≡ q → a ≡ b) → (a ≡ b → p ≡ q) → eqb p q ≡ eqb a b
eqb_same p q a b f g = go (eqb p q) refl
  where
    go : (t : Bool) → eqb p q ≡ t → t ≡ eqb a b
    go true e = sym (eq-eqb a b (f (eqb-true p q e)))
    go false e = sym (ne_eqb a b (λ z. eqb-false p q e (g z)))

-- v is a pattern of plus
module _ (v : ℕ) (h : v < 2 ^ 63) where
  key-plus : (v < 2 ^ 63) × (key_of v ≡ v + 2 ^ 63)
  key-plus = key-positive v (sign-plus v h)

  plus-low : (x : ℕ) → x < 2 ^ 64 → (s : Bool) → sign x ≡ s → (k n p : List ℕ) → length k ≡ length n + length (lows v p)
      → length (in_front (ltb (key_of x) (key_of v)) (key_of x) k) ≡ length (in_front (beq s true) (without_sign x) n) + length (lows v (in_front (beq s false) (without_sign x) p))
  unfolding passing
  plus-low x f true e k n p q = let a = key-negative x e in let b = key-plus in rw (lt-ltb (key_of x) (key_of v) (omega arith)) (omega arith)
  plus-low x f false e k n p q =
      let a = key-positive x e in
      let b = key-plus in
      rw (ltb-same (key_of x) (key_of v) (without_sign x) v (λ l. omega arith) (λ l. omega arith), kept_more (ltb (without_sign x) v) (key_of x) k, kept_more (ltb (without_sign x) v) (without_sign x) (lows v p)) (omega arith)

  plus-count : (x : ℕ) → x < 2 ^ 64 → (s : Bool) → sign x ≡ s → (k p : List ℕ) → occurrences (key_of v) k ≡ occurrences v p
      → cond (eqb (key_of v) (key_of x)) 1 0 + occurrences (key_of v) k ≡ occurrences v (in_front (beq s false) (without_sign x) p)
  unfolding occurrences
  plus-count x f true e k p q = let a = key-negative x e in let b = key-plus in rw (ne_eqb (key_of v) (key_of x) (λ z. omega arith)) (omega arith)
  plus-count x f false e k p q =
      let a = key-positive x e in
      let b = key-plus in
      rw (eqb_same (key_of v) (key_of x) v (without_sign x) (λ z. omega arith) (λ z. omega arith), q)

  plus-lows : (xs : List ℕ) → Patterns xs → length (lows (key_of v) (map key_of xs)) ≡ length (of_sign true xs) + length (lows v (of_sign false xs))
  unfolding passing of_sign Each
  plus-lows [] g = refl
  plus-lows (x ∷ xs) g = plus-low x g.0 (sign x) refl (lows (key_of v) (map key_of xs)) (of_sign true xs) (of_sign false xs) (plus-lows xs g.1)

  plus-counts : (xs : List ℕ) → Patterns xs → occurrences (key_of v) (map key_of xs) ≡ occurrences v (of_sign false xs)
  unfolding occurrences of_sign Each
  plus-counts [] g = refl
  plus-counts (x ∷ xs) g = plus-count x g.0 (sign x) refl (map key_of xs) (of_sign false xs) (plus-counts xs g.1)

  -- v with the sign
  key-minus : (2 ^ 63 ≤ 2 ^ 63 + v) × (key_of (2 ^ 63 + v) ≡ 2 ^ 63 - 1 - (2 ^ 63 + v) % 2 ^ 63)
  key-minus = key-negative (2 ^ 63 + v) (sign-minus (2 ^ 63 + v) (omega arith))

  minus-low : (x : ℕ) → x < 2 ^ 64 → (s : Bool) → sign x ≡ s → (k n : List ℕ) → length k ≡ length (highs v n)
      → length (in_front (ltb (key_of x) (key_of (2 ^ 63 + v))) (key_of x) k) ≡ length (highs v (in_front (beq s true) (without_sign x) n))
  unfolding passing
  minus-low x f true e k n q =
      let a = key-negative x e in
      let b = key-minus in
      rw (ltb-same (key_of x) (key_of (2 ^ 63 + v)) v (without_sign x) (λ l. omega arith) (λ l. omega arith), kept_more (ltb v (without_sign x)) (key_of x) k, kept_more (ltb v (without_sign x)) (without_sign x) (highs v n)) (omega arith)
  minus-low x f false e k n q = let a = key-positive x e in let b = key-minus in rw (le-ltb (key_of x) (key_of (2 ^ 63 + v)) (omega arith)) q

  minus-count : (x : ℕ) → x < 2 ^ 64 → (s : Bool) → sign x ≡ s → (k n : List ℕ) → occurrences (key_of (2 ^ 63 + v)) k ≡ occurrences v n
      → cond (eqb (key_of (2 ^ 63 + v)) (key_of x)) 1 0 + occurrences (key_of (2 ^ 63 + v)) k ≡ occurrences v (in_front (beq s true) (without_sign x) n)
  unfolding occurrences
  minus-count x f true e k n q =
      let a = key-negative x e in
      let b = key-minus in
      rw (eqb_same (key_of (2 ^ 63 + v)) (key_of x) v (without_sign x) (λ z. omega arith) (λ z. omega arith), q)
  minus-count x f false e k n q = let a = key-positive x e in let b = key-minus in rw (ne_eqb (key_of (2 ^ 63 + v)) (key_of x) (λ z. omega arith)) (omega arith)

  minus-lows : (xs : List ℕ) → Patterns xs → length (lows (key_of (2 ^ 63 + v)) (map key_of xs)) ≡ length (highs v (of_sign true xs))
  unfolding passing of_sign Each
  minus-lows [] g = refl
  minus-lows (x ∷ xs) g = minus-low x g.0 (sign x) refl (lows (key_of (2 ^ 63 + v)) (map key_of xs)) (of_sign true xs) (minus-lows xs g.1)

  minus-counts : (xs : List ℕ) → Patterns xs → occurrences (key_of (2 ^ 63 + v)) (map key_of xs) ≡ occurrences v (of_sign true xs)
  unfolding occurrences of_sign Each
  minus-counts [] g = refl
  minus-counts (x ∷ xs) g = minus-count x g.0 (sign x) refl (map key_of xs) (of_sign true xs) (minus-counts xs g.1)

-- ---- the median

-- a pattern at whose place the middle lies is the median
median_is : (xs : List ℕ) (r : ℕ) → Patterns xs → 0 < length xs → r < 2 ^ 64
    → length (lows (key_of r) (map key_of xs)) ≤ length xs / 2 → length xs / 2 < length (lows (key_of r) (map key_of xs)) + occurrences (key_of r) (map key_of xs) → r ≡ median_of xs
median_is xs r g p b lo hi =
    key_of_injective r (median_of xs) b (median_pattern xs g p) (sym (placed_same (key_of r) (length xs / 2) (map key_of xs) lo hi) ∙ sym (median_key xs g p))

module _ (xs : List ℕ) (g : Patterns xs) (p : 0 < length xs) where
  -- the middle lies among the patterns of plus
  pub median_plus : (m : ℕ) → m + length (of_sign true xs) ≡ length xs / 2 → number_at m (of_sign false xs) ≡ median_of xs
  median_plus m e =
      let v : ℕ = number_at m (of_sign false xs) in
      let i : m < length (of_sign false xs) = omega (arith, sign_lengths xs) in
      let b : v < 2 ^ 63 = placed-each (λ (x : ℕ). x < 2 ^ 63) m (of_sign false xs) i (of-sign-each false xs) in
      let c : (length (lows v (of_sign false xs)) ≤ m) × (m < length (lows v (of_sign false xs)) + occurrences v (of_sign false xs)) = placed-counts v m (of_sign false xs) i refl in
      median_is xs v g p (omega arith) (omega (arith, plus-lows v b xs g)) (omega (arith, plus-lows v b xs g, plus-counts v b xs g))

  -- the middle lies among the patterns of minus
  pub median_minus : (m : ℕ) → length xs / 2 + 1 + m ≡ length (of_sign true xs) → 2 ^ 63 + number_at m (of_sign true xs) ≡ median_of xs
  median_minus m e =
      let v : ℕ = number_at m (of_sign true xs) in
      let i : m < length (of_sign true xs) = omega arith in
      let b : v < 2 ^ 63 = placed-each (λ (x : ℕ). x < 2 ^ 63) m (of_sign true xs) i (of-sign-each true xs) in
      let c : (length (lows v (of_sign true xs)) ≤ m) × (m < length (lows v (of_sign true xs)) + occurrences v (of_sign true xs)) = placed-counts v m (of_sign true xs) i refl in
      let all : length (lows v (of_sign true xs)) + occurrences v (of_sign true xs) + length (highs v (of_sign true xs)) ≡ length (of_sign true xs) = parts v (of_sign true xs) in
      median_is xs (2 ^ 63 + v) g p (omega arith) (omega (arith, minus-lows v b xs g)) (omega (arith, minus-lows v b xs g, minus-counts v b xs g))

-- ---- the same where the patterns of one sign stand in the front of an array

-- where the signs are clear, the pattern at a place is the number there
pub unsigned-placed : (m : ℕ) (l : List ℕ) → Unsigned l → number_at m l ≡ pattern_at m l
unsigned-placed m l h = ap (λ (s : List ℕ). get_or s m 0) (sym (unsigned-sorted l h))

pub front-each : (s : Bool) (xs : List ℕ) {r : ℕ} {k : List ℕ} → Front (of_sign s xs) r k → Unsigned (take r k)
front-each s xs f = rw f.is (of-sign-each s xs)

module _ (xs : List ℕ) {r : ℕ} {k : List ℕ} (f : Front (of_sign false xs) r k) where
  pub plus-most : r ≤ length xs
  plus-most = omega (arith, front_length (of_sign false xs) r k f, sign_lengths xs)

  pub plus-found : Patterns xs → 0 < length xs → length xs - r ≤ length xs / 2 → pattern_at (length xs / 2 - (length xs - r)) (take r k) ≡ median_of xs
  plus-found g p h =
      ap (pattern_at (length xs / 2 - (length xs - r))) f.is
      ∙ sym (unsigned-placed (length xs / 2 - (length xs - r)) (of_sign false xs) (of-sign-each false xs))
      ∙ median_plus xs g p (length xs / 2 - (length xs - r)) (omega (arith, front_length (of_sign false xs) r k f, sign_lengths xs))

  -- what is not among them
  pub minus-more : {n : ℕ} {k' : List ℕ} → Front (of_sign true xs) n k' → length xs / 2 < length xs - r → length xs / 2 < n
  minus-more {n} {k'} g h = omega (arith, front_length (of_sign false xs) r k f, front_length (of_sign true xs) n k' g, sign_lengths xs)

module _ (xs : List ℕ) {n : ℕ} {k : List ℕ} (f : Front (of_sign true xs) n k) where
  pub minus-room : (m : ℕ) → m < n → pattern_at m (take n k) < 2 ^ 63
  minus-room m h = rw (f.is, ← (unsigned-placed m (of_sign true xs) (of-sign-each true xs))) (placed-each (λ (x : ℕ). x < 2 ^ 63) m (of_sign true xs) (omega (arith, front_length (of_sign true xs) n k f)) (of-sign-each true xs))

  pub minus-found : Patterns xs → 0 < length xs → length xs / 2 < n → 2 ^ 63 + pattern_at (n - 1 - length xs / 2) (take n k) ≡ median_of xs
  minus-found g p h =
      ap (λ (l : List ℕ). 2 ^ 63 + pattern_at (n - 1 - length xs / 2) l) f.is
      ∙ ap (λ (v : ℕ). 2 ^ 63 + v) (sym (unsigned-placed (n - 1 - length xs / 2) (of_sign true xs) (of-sign-each true xs)))
      ∙ median_minus xs g p (n - 1 - length xs / 2) (omega (arith, front_length (of_sign true xs) n k f))

-- all patterns, in the front of an array
pub front_median : (xs : List ℕ) (n : ℕ) (k : List ℕ) → n ≡ length xs → Front xs n k → pattern_at (n / 2) (take n k) ≡ median_of xs
unfolding median_of
front_median xs n k e f = ap (pattern_at (n / 2)) f.is ∙ ap (λ (m : ℕ). pattern_at (m / 2) xs) e

-- each element of a slice is a pattern
pub slice-patterns : (xs : List ℕ) → ((i : ℕ) → get_or xs i 0 < 2 ^ 64) → Patterns xs
slice-patterns xs h = each-by (λ (x : ℕ). x < 2 ^ 64) xs (λ i b. h i)

-- each deviation is a pattern of plus
pub deviation_patterns : (centre : Float) (xs : List ℕ) → Unsigned (deviations_of centre xs)
unfolding deviation_of Each
deviation_patterns centre [] = tt
deviation_patterns centre (x ∷ xs) = (abs_pattern_lt _ (sub-fits binary64 (bits x) centre), deviation_patterns centre xs)

pub median_none : (xs : List ℕ) → length xs ≡ 0 → 0 ≡ median_of (take 64 xs)
unfolding median_of sorted_by
median_none [] e = refl
median_none (x ∷ xs) e = absurd (omega arith)

pub median_few : (xs : List ℕ) → length xs ≤ 64 → median_of (take 64 xs) ≡ median_of xs
median_few xs h = ap median_of (take_all 64 xs h)
