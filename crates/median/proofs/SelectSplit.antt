-- A list in ascending order is what is below p in ascending order, then p as often as it stands there, then what is above p in ascending order.
-- Assumes nothing.
use Prim.Native.Nat.{ℕ, zero, suc, ◌+◌, ◌-◌, ◌≤◌, ◌<◌, min, max}
use native.Mathlib.Decide.{dec_lt}
use native.Mathlib.Nat.{zero-add, le_refl, not-suc-le-zero, le_of_suc-le-suc}
use native.Mathlib.Numerals.{one-add}
use native.Mathlib.Omega.{arith}
use mathlib.Core.Path.{◌≡◌, refl, ◌∙◌}
use mathlib.Core.Bool.{Bool, true, false, cond}
use mathlib.Core.List.{List, [], ◌∷◌, ◌++◌}
use lib.ListN.{get_or, take, length, replicate, length-replicate, get_or-append, get_or-replicate}
use lib.Seq.{get_or-append-add, get_or-take, length-take-le}
use lib.Dec.{leb, ltb, eqb}
use borrow.Author.Tests.{le-leb, lt-leb, ltb-true, ltb-false, eq-eqb, ne_eqb}
use Rattle.median.specs.Sorted.{insert_by, sorted_by, Each, occurrences}
use Rattle.median.proofs.SortedLaws.{sorted-length, sorted-each, each-weaker, each_at}
use Rattle.median.specs.Steps.{number_at, in_front, passing, lows, highs}

-- ---- where an insertion ends

-- an insertion passes what is below x
insert-past : (x : ℕ) (a r : List ℕ) → Each (λ (y : ℕ). y < x) a → insert_by leb x (a ++ r) ≡ a ++ insert_by leb x r
unfolding Each insert_by
insert-past x [] r h = refl
insert-past x (y ∷ ys) r h = rw (lt-leb x y h.0, insert-past x ys r h.1)

-- it stops before what is at least x
insert-front : (x : ℕ) (r : List ℕ) → Each (λ (y : ℕ). x ≤ y) r → insert_by leb x r ≡ x ∷ r
unfolding Each insert_by
insert-front x [] h = refl
insert-front x (y ∷ ys) h = rw (le-leb x y h.0)

insert-before : (x : ℕ) (a r : List ℕ) → Each (λ (y : ℕ). x ≤ y) r → insert_by leb x (a ++ r) ≡ insert_by leb x a ++ r
unfolding insert_by
insert-before x [] r h = insert-front x r h
insert-before x (y ∷ ys) r h = rw (insert-before x ys r h) (go (leb x y))
  where
    go : (b : Bool) → cond b (x ∷ (y ∷ (ys ++ r))) (y ∷ (insert_by leb x ys ++ r)) ≡ cond b (x ∷ (y ∷ ys)) (y ∷ insert_by leb x ys) ++ r
    go true = refl
    go false = refl

-- ---- each element

each_append : (P : ℕ → Type 0) (a b : List ℕ) → Each P a → Each P b → Each P (a ++ b)
unfolding Each
each_append P [] b h g = g
each_append P (x ∷ xs) b h g = (h.0, each_append P xs b h.1 g)

each-replicate : (P : ℕ → Type 0) (n x : ℕ) → P x → Each P (replicate n x)
unfolding Each
each-replicate P zero x h = tt
each-replicate P (suc n) x h = (h, each-replicate P n x h)

each-kept : (P : ℕ → Type 0) (test : ℕ → Bool) → ((x : ℕ) → test x ≡ true → P x) → (l : List ℕ) → Each P (passing test l)
unfolding Each passing
each-kept P test w [] = tt
each-kept P test w (x ∷ xs) = go (test x) refl (each-kept P test w xs)
  where
    go : (b : Bool) → test x ≡ b → Each P (passing test xs) → Each P (in_front b x (passing test xs))
    go true e r = (w x e, r)
    go false e r = r

-- what is kept has what each has
pub kept-each : (P : ℕ → Type 0) (test : ℕ → Bool) (l : List ℕ) → Each P l → Each P (passing test l)
unfolding Each passing
kept-each P test [] h = tt
kept-each P test (x ∷ xs) h = go (test x) (kept-each P test xs h.1)
  where
    go : (b : Bool) → Each P (passing test xs) → Each P (in_front b x (passing test xs))
    go true r = (h.0, r)
    go false r = r

-- ---- one element more: a is what is below p, n how often p stands there, and h what is above it

module _ (p x : ℕ) (a h : List ℕ) (n : ℕ) (u : Each (λ (y : ℕ). y < p) a) (f : Each (λ (y : ℕ). p < y) h) where
  -- what stands behind a
  rest : List ℕ
  rest = replicate n p ++ sorted_by leb h

  rest_from : (q : ℕ) → q ≤ p → Each (λ (y : ℕ). q ≤ y) rest
  unfolding rest
  rest_from q l = each_append (λ (y : ℕ). q ≤ y) (replicate n p) (sorted_by leb h) (each-replicate (λ (y : ℕ). q ≤ y) n p l)
      (sorted-each leb (λ (y : ℕ). q ≤ y) h (each-weaker (λ (y : ℕ). p < y) (λ (y : ℕ). q ≤ y) (λ y g. omega arith) h f))

  front_below : (q : ℕ) → p ≤ q → Each (λ (y : ℕ). y < q) (sorted_by leb a)
  front_below q l = sorted-each leb (λ (y : ℕ). y < q) a (each-weaker (λ (y : ℕ). y < p) (λ (y : ℕ). y < q) (λ y g. omega arith) a u)

  split_step : (b c : Bool) → ltb x p ≡ b → ltb p x ≡ c
      → insert_by leb x (sorted_by leb a ++ (replicate n p ++ sorted_by leb h))
      ≡ sorted_by leb (in_front b x a) ++ (replicate (cond (eqb p x) 1 0 + n) p ++ sorted_by leb (in_front c x h))
  unfolding sorted_by rest
  split_step true true e q =
      let i : x < p = ltb-true _ _ e in
      let j : p < x = ltb-true _ _ q in
      absurd (omega arith)
  split_step true false e q =
      let i : x < p = ltb-true _ _ e in
      rw (ne_eqb p x (omega arith), zero-add) (insert-before x (sorted_by leb a) rest (rest_from x (omega arith)))
  split_step false true e q =
      let j : p < x = ltb-true _ _ q in
      rw (ne_eqb p x (omega arith), zero-add, insert-past x (sorted_by leb a) rest (front_below x (omega arith)), insert-past x (replicate n p) (sorted_by leb h) (each-replicate (λ (y : ℕ). y < x) n p j))
  split_step false false e q =
      let i : p ≤ x = ltb-false _ _ e in
      let j : x ≤ p = ltb-false _ _ q in
      let k : x ≡ p = omega arith in
      rw (k, eq-eqb p p refl, one-add, insert-past p (sorted_by leb a) rest (front_below p (le_refl p)), insert-front p rest (rest_from p (le_refl p)))

  parts-step : (l : List ℕ) (b c : Bool) → ltb x p ≡ b → ltb p x ≡ c → length a + n + length h ≡ length l
      → length (in_front b x a) + (cond (eqb p x) 1 0 + n) + length (in_front c x h) ≡ suc (length l)
  parts-step l true true e q i =
      let u : x < p = ltb-true _ _ e in
      let v : p < x = ltb-true _ _ q in
      absurd (omega arith)
  parts-step l true false e q i = let v : x < p = ltb-true _ _ e in rw (ne_eqb p x (omega arith)) (omega arith)
  parts-step l false true e q i = let v : p < x = ltb-true _ _ q in rw (ne_eqb p x (omega arith)) (omega arith)
  parts-step l false false e q i =
      let v : p ≤ x = ltb-false _ _ e in
      let w : x ≤ p = ltb-false _ _ q in
      rw (eq-eqb p x (omega arith)) (omega arith)

module _ (p : ℕ) where
  lows-below : (l : List ℕ) → Each (λ (y : ℕ). y < p) (lows p l)
  lows-below l = each-kept (λ (y : ℕ). y < p) (λ (x : ℕ). ltb x p) (λ x e. ltb-true x p e) l

  highs-above : (l : List ℕ) → Each (λ (y : ℕ). p < y) (highs p l)
  highs-above l = each-kept (λ (y : ℕ). p < y) (λ (x : ℕ). ltb p x) (λ x e. ltb-true p x e) l

  -- the three parts, one after the other
  split : (l : List ℕ) → sorted_by leb l ≡ sorted_by leb (lows p l) ++ (replicate (occurrences p l) p ++ sorted_by leb (highs p l))
  unfolding sorted_by passing occurrences
  split [] = refl
  split (x ∷ xs) = rw (split xs) (split_step p x (lows p xs) (highs p xs) (occurrences p xs) (lows-below xs) (highs-above xs) (ltb x p) (ltb p x) refl refl)

  -- the three parts make the whole
  pub parts : (l : List ℕ) → length (lows p l) + occurrences p l + length (highs p l) ≡ length l
  unfolding passing occurrences
  parts [] = refl
  parts (x ∷ xs) = parts-step p x (lows p xs) (highs p xs) (occurrences p xs) (lows-below xs) (highs-above xs) xs (ltb x p) (ltb p x) refl refl (parts xs)

-- an element stands in its list
pub count_at : (l : List ℕ) (i : ℕ) → i < length l → 1 ≤ occurrences (get_or l i 0) l
unfolding occurrences
count_at [] i h = absurd (not-suc-le-zero h)
count_at (x ∷ xs) zero h = rw (eq-eqb x x refl) (omega arith)
count_at (x ∷ xs) (suc i) h = let r = count_at xs i (le_of_suc-le-suc h) in omega arith

-- ---- the lesser and the greater of two numbers are one of them

module _ (P : ℕ → Type 0) (a b : ℕ) (p : P a) (q : P b) where
  min-is : P (min a b)
  min-is = go (dec_lt a b)
    where
      go : Dec (a < b) → P (min a b)
      go (yes l) = let e : min a b ≡ a = omega arith in rw e p
      go (no l) = let e : min a b ≡ b = omega arith in rw e q

  max-is : P (max a b)
  max-is = go (dec_lt a b)
    where
      go : Dec (a < b) → P (max a b)
      go (yes l) = let e : max a b ≡ b = omega arith in rw e q
      go (no l) = let e : max a b ≡ a = omega arith in rw e p

-- of three of the first n numbers of k the one in the middle is one of them
module _ (k : List ℕ) (n : ℕ) (g : n ≤ length k) where
  first-counts : (i : ℕ) → i < n → 1 ≤ occurrences (get_or k i 0) (take n k)
  first-counts i h = rw (← (get_or-take n k i 0 h)) (count_at (take n k) i (omega (arith, length-take-le n k g)))

  pub middle-counts : (i j l : ℕ) → i < n → j < n → l < n
      → 1 ≤ occurrences (max (min (get_or k i 0) (get_or k j 0)) (min (max (get_or k i 0) (get_or k j 0)) (get_or k l 0))) (take n k)
  middle-counts i j l hi hj hl =
      let P : ℕ → Type 0 = λ (x : ℕ). 1 ≤ occurrences x (take n k) in
      let a : ℕ = get_or k i 0 in
      let b : ℕ = get_or k j 0 in
      let d : ℕ = get_or k l 0 in
      let p : P a = first-counts i hi in
      let q : P b = first-counts j hj in
      max-is P (min a b) (min (max a b) d) (min-is P a b p q) (min-is P (max a b) d (max-is P a b p q) (first-counts l hl))

-- ---- the number at a place

module _ (p m : ℕ) (l : List ℕ) where
  -- a place below the numbers below p
  pub placed-low : m < length (lows p l) → number_at m l ≡ number_at m (lows p l)
  placed-low h =
      rw (split p l)
      (get_or-append (sorted_by leb (lows p l)) (replicate (occurrences p l) p ++ sorted_by leb (highs p l)) 0 m (omega (arith, sorted-length leb (lows p l))))

  -- a place of p
  pub placed_same : length (lows p l) ≤ m → m < length (lows p l) + occurrences p l → number_at m l ≡ p
  placed_same h k =
      let n : ℕ = m - length (lows p l) in
      let e : length (sorted_by leb (lows p l)) + n ≡ m = omega (arith, sorted-length leb (lows p l)) in
      let r = replicate (occurrences p l) p ++ sorted_by leb (highs p l) in
      rw (split p l, ← e, get_or-append-add (sorted_by leb (lows p l)) r n 0)
      (get_or-append (replicate (occurrences p l) p) (sorted_by leb (highs p l)) 0 n (omega (arith, length-replicate (occurrences p l) p)) ∙ get_or-replicate (occurrences p l) n p 0 (omega arith))

  placed_at : (k : ℕ) → length (sorted_by leb (lows p l)) + (length (replicate (occurrences p l) p) + k) ≡ m → number_at m l ≡ number_at k (highs p l)
  placed_at k e =
      rw (
        split p l,
        ← e,
        get_or-append-add (sorted_by leb (lows p l)) (replicate (occurrences p l) p ++ sorted_by leb (highs p l)) (length (replicate (occurrences p l) p) + k) 0,
        get_or-append-add (replicate (occurrences p l) p) (sorted_by leb (highs p l)) k 0,
      )

  -- a place above
  pub placed-high : length (lows p l) + occurrences p l ≤ m → number_at m l ≡ number_at (m - (length (lows p l) + occurrences p l)) (highs p l)
  placed-high h = placed_at (m - (length (lows p l) + occurrences p l)) (omega (arith, sorted-length leb (lows p l), length-replicate (occurrences p l) p))

-- what stands at a place: so many are below it, and it stands so often
pub placed-counts : (v m : ℕ) (l : List ℕ) → m < length l → number_at m l ≡ v → (length (lows v l) ≤ m) × (m < length (lows v l) + occurrences v l)
placed-counts v m l h e = go (ltb m (length (lows v l))) (ltb m (length (lows v l) + occurrences v l)) refl refl
  where
    go : (s t : Bool) → ltb m (length (lows v l)) ≡ s → ltb m (length (lows v l) + occurrences v l) ≡ t → (length (lows v l) ≤ m) × (m < length (lows v l) + occurrences v l)
    go true t p q =
        let i : m < length (lows v l) = ltb-true _ _ p in
        let below : number_at m (lows v l) < v =
        each_at (λ (y : ℕ). y < v) (sorted_by leb (lows v l)) (sorted-each leb (λ (y : ℕ). y < v) (lows v l) (lows-below v l)) m (omega (arith, sorted-length leb (lows v l))) in
        absurd (omega (arith, placed-low v m l i))
    go false true p q = (ltb-false _ _ p, ltb-true _ _ q)
    go false false p q =
        let i : length (lows v l) + occurrences v l ≤ m = ltb-false _ _ q in
        let n : ℕ = m - (length (lows v l) + occurrences v l) in
        let above : v < number_at n (highs v l) =
        each_at (λ (y : ℕ). v < y) (sorted_by leb (highs v l)) (sorted-each leb (λ (y : ℕ). v < y) (highs v l) (highs-above v l)) n (omega (arith, sorted-length leb (highs v l), parts v l)) in
        absurd (omega (arith, placed-high v m l i))

-- what stands at a place of a list has the property that each has
pub placed-each : (P : ℕ → Type 0) (m : ℕ) (l : List ℕ) → m < length l → Each P l → P (number_at m l)
placed-each P m l h e = each_at P (sorted_by leb l) (sorted-each leb P l e) m (omega (arith, sorted-length leb l))
