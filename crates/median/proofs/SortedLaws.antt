-- What sorting keeps, and that it puts in order. Assumes nothing.
use Prim.Native.Nat.{ℕ, zero, suc, ◌+◌, ◌≤◌, ◌<◌, ◌/◌, ◌^◌}
use native.Mathlib.Nat.{not-suc-le-zero, le_of_suc-le-suc, le_refl, le_trans}
use native.Mathlib.Omega.{arith}
use mathlib.Core.Path.{◌≡◌, refl, sym, ap, ◌∙◌}
use mathlib.Core.Bool.{Bool, true, false, cond}
use mathlib.Core.List.{List, [], ◌∷◌, map}
use lib.ListN.{get_or, length, get_or-map, length-map}
use lib.Dec.{leb, eqb}
use borrow.Author.Tests.{le-leb, leb-true, leb-false, eq-eqb}
use Rattle.numeric.specs.Order.{total_order}
use Rattle.numeric.proofs.OrderLaws.{key_of, key-positive, sign-plus, leb-same, total_order-key}
use Rattle.median.specs.Sorted.{insert_by, sorted_by, in_total_order, median_of, Each, Patterns, occurrences}
use Rattle.median.specs.Steps.{Unsigned}

-- ---- by any order

module _ (before : ℕ → ℕ → Bool) where
  insert-length : (x : ℕ) (l : List ℕ) → length (insert_by before x l) ≡ suc (length l)
  unfolding insert_by
  insert-length x [] = refl
  insert-length x (y ∷ ys) = go (before x y) (insert-length x ys)
    where
      go : (b : Bool) → length (insert_by before x ys) ≡ suc (length ys) → length (cond b (x ∷ (y ∷ ys)) (y ∷ insert_by before x ys)) ≡ suc (suc (length ys))
      go true h = refl
      go false h = ap suc h

  -- as many elements as the list has
  pub sorted-length : (l : List ℕ) → length (sorted_by before l) ≡ length l
  unfolding sorted_by
  sorted-length [] = refl
  sorted-length (x ∷ xs) = insert-length x (sorted_by before xs) ∙ ap suc (sorted-length xs)

  insert-count : (z x : ℕ) (l : List ℕ) → occurrences z (insert_by before x l) ≡ cond (eqb z x) 1 0 + occurrences z l
  unfolding insert_by occurrences
  insert-count z x [] = refl
  insert-count z x (y ∷ ys) = go (before x y) (insert-count z x ys)
    where
      go : (b : Bool) → occurrences z (insert_by before x ys) ≡ cond (eqb z x) 1 0 + occurrences z ys
          → occurrences z (cond b (x ∷ (y ∷ ys)) (y ∷ insert_by before x ys)) ≡ cond (eqb z x) 1 0 + (cond (eqb z y) 1 0 + occurrences z ys)
      go true h = refl
      go false h = rw h (omega arith)

  -- each element stands in the sorted list as often as in the list
  pub sorted-count : (z : ℕ) (l : List ℕ) → occurrences z (sorted_by before l) ≡ occurrences z l
  unfolding sorted_by occurrences
  sorted-count z [] = refl
  sorted-count z (x ∷ xs) = insert-count z x (sorted_by before xs) ∙ ap (λ (n : ℕ). cond (eqb z x) 1 0 + n) (sorted-count z xs)

  module _ (P : ℕ → Type 0) where
    insert-each : (x : ℕ) (l : List ℕ) → P x → Each P l → Each P (insert_by before x l)
    unfolding insert_by Each
    insert-each x [] p h = (p, tt)
    insert-each x (y ∷ ys) p h = go (before x y) (insert-each x ys p h.1)
      where
        go : (b : Bool) → Each P (insert_by before x ys) → Each P (cond b (x ∷ (y ∷ ys)) (y ∷ insert_by before x ys))
        go true r = (p, h)
        go false r = (h.0, r)

    -- what holds of each element of the list holds of each of the sorted one
    pub sorted-each : (l : List ℕ) → Each P l → Each P (sorted_by before l)
    unfolding sorted_by Each
    sorted-each [] h = tt
    sorted-each (x ∷ xs) h = insert-each x (sorted_by before xs) h.0 (sorted-each xs h.1)

    -- where `before` is an order of what f gives, f of the sorted list is what f gives of the list, sorted
    module _ (after : ℕ → ℕ → Bool) (f : ℕ → ℕ) (by : (x y : ℕ) → P x → P y → before x y ≡ after (f x) (f y)) where
      insert-map : (x : ℕ) (l : List ℕ) → P x → Each P l → map f (insert_by before x l) ≡ insert_by after (f x) (map f l)
      unfolding insert_by Each
      insert-map x [] p h = refl
      insert-map x (y ∷ ys) p h = rw (← (by x y p h.0)) (go (before x y) (insert-map x ys p h.1))
        where
          go : (b : Bool) → map f (insert_by before x ys) ≡ insert_by after (f x) (map f ys)
              → map f (cond b (x ∷ (y ∷ ys)) (y ∷ insert_by before x ys)) ≡ cond b (f x ∷ (f y ∷ map f ys)) (f y ∷ insert_by after (f x) (map f ys))
          go true r = refl
          go false r = ap (λ (l : List ℕ). f y ∷ l) r

      pub sorted-map : (l : List ℕ) → Each P l → map f (sorted_by before l) ≡ sorted_by after (map f l)
      unfolding sorted_by Each
      sorted-map [] h = refl
      sorted-map (x ∷ xs) h = insert-map x (sorted_by before xs) h.0 (sorted-each xs h.1) ∙ ap (insert_by after (f x)) (sorted-map xs h.1)

-- two orders that agree on the elements sort alike
module _ (before after : ℕ → ℕ → Bool) (P : ℕ → Type 0) (by : (x y : ℕ) → P x → P y → before x y ≡ after x y) where
  insert-same : (x : ℕ) (l : List ℕ) → P x → Each P l → insert_by before x l ≡ insert_by after x l
  unfolding insert_by Each
  insert-same x [] p h = refl
  insert-same x (y ∷ ys) p h = rw (by x y p h.0, insert-same x ys p h.1)

  pub sorted-same : (l : List ℕ) → Each P l → sorted_by before l ≡ sorted_by after l
  unfolding sorted_by Each
  sorted-same [] h = refl
  sorted-same (x ∷ xs) h = rw (sorted-same xs h.1) (insert-same x (sorted_by after xs) h.0 (sorted-each after P xs h.1))

-- ---- each element

pub each-weaker : (P Q : ℕ → Type 0) → ((x : ℕ) → P x → Q x) → (l : List ℕ) → Each P l → Each Q l
unfolding Each
each-weaker P Q w [] h = tt
each-weaker P Q w (x ∷ xs) h = (w x h.0, each-weaker P Q w xs h.1)

pub each_at : (P : ℕ → Type 0) (l : List ℕ) → Each P l → (i : ℕ) → i < length l → P (get_or l i 0)
unfolding Each
each_at P [] h i b = absurd (not-suc-le-zero b)
each_at P (x ∷ xs) h zero b = h.0
each_at P (x ∷ xs) h (suc i) b = each_at P xs h.1 i (le_of_suc-le-suc b)

pub each-by : (P : ℕ → Type 0) (l : List ℕ) → ((i : ℕ) → i < length l → P (get_or l i 0)) → Each P l
unfolding Each
each-by P [] h = tt
each-by P (x ∷ xs) h = (h 0 (omega arith), each-by P xs (λ i b. h (suc i) (omega arith)))

-- ---- numbers in order

-- each number is at most every later one
unfoldable pub Ascending : List ℕ → Type 0
Ascending [] = Unit
Ascending (x ∷ xs) = Each (λ (y : ℕ). x ≤ y) xs × Ascending xs

insert-ascending : (x : ℕ) (l : List ℕ) → Ascending l → Ascending (insert_by leb x l)
unfolding Each Ascending insert_by
insert-ascending x [] o = (tt, tt)
insert-ascending x (y ∷ ys) o = go (leb x y) refl (insert-ascending x ys o.1)
  where
    go : (b : Bool) → leb x y ≡ b → Ascending (insert_by leb x ys) → Ascending (cond b (x ∷ (y ∷ ys)) (y ∷ insert_by leb x ys))
    go true e r =
        let h : x ≤ y = leb-true x y e in
        ((h, each-weaker (λ (z : ℕ). y ≤ z) (λ (z : ℕ). x ≤ z) (λ z g. le_trans h g) ys o.0), o)
    go false e r = let h : y < x = leb-false x y e in (insert-each leb (λ (z : ℕ). y ≤ z) x ys (omega arith) o.0, r)

pub sort_ascending : (l : List ℕ) → Ascending (sorted_by leb l)
unfolding Ascending sorted_by
sort_ascending [] = tt
sort_ascending (x ∷ xs) = insert-ascending x (sorted_by leb xs) (sort_ascending xs)

ascending-at : (l : List ℕ) → Ascending l → (i j : ℕ) → i ≤ j → j < length l → get_or l i 0 ≤ get_or l j 0
unfolding Ascending
ascending-at [] o i j h b = absurd (not-suc-le-zero b)
ascending-at (x ∷ xs) o zero zero h b = le_refl x
ascending-at (x ∷ xs) o zero (suc j) h b = each_at (λ (y : ℕ). x ≤ y) xs o.0 j (le_of_suc-le-suc b)
ascending-at (x ∷ xs) o (suc i) zero h b = absurd (not-suc-le-zero h)
ascending-at (x ∷ xs) o (suc i) (suc j) h b = ascending-at xs o.1 i j (le_of_suc-le-suc h) (le_of_suc-le-suc b)

-- ---- patterns by total_order

-- patterns whose signs are clear are in total_order as they are as numbers: the exponent field stands above the digits
pub unsigned-order : (x y : ℕ) → x < 2 ^ 63 → y < 2 ^ 63 → total_order x y ≡ leb x y
unsigned-order x y h k =
    total_order-key x y
    ∙ rw ((key-positive x (sign-plus x h)).1, (key-positive y (sign-plus y k)).1) (leb-same (x + 2 ^ 63) (y + 2 ^ 63) x y (omega arith) (omega arith))

pub unsigned-sorted : (l : List ℕ) → Unsigned l → in_total_order l ≡ sorted_by leb l
unsigned-sorted l h = sorted-same total_order leb (λ (x : ℕ). x < 2 ^ 63) unsigned-order l h

-- inside a list the default does not count
pub get_d_any : (l : List ℕ) (i d e : ℕ) → i < length l → get_or l i d ≡ get_or l i e
get_d_any [] i d e h = absurd (not-suc-le-zero h)
get_d_any (x ∷ xs) zero d e h = refl
get_d_any (x ∷ xs) (suc i) d e h = get_d_any xs i d e (le_of_suc-le-suc h)

-- the keys of the sorted patterns are the sorted keys
pub sorted-keys : (xs : List ℕ) → Patterns xs → map key_of (in_total_order xs) ≡ sorted_by leb (map key_of xs)
sorted-keys xs h = sorted-map total_order (λ (x : ℕ). x < 2 ^ 64) leb key_of (λ x y p q. total_order-key x y) xs h

-- the key of the pattern at a place is at that place of the sorted keys
key-at : (xs : List ℕ) (i : ℕ) → Patterns xs → i < length xs → key_of (get_or (in_total_order xs) i 0) ≡ get_or (sorted_by leb (map key_of xs)) i 0
key-at xs i h b =
    let n : i < length (map key_of (in_total_order xs)) = rw (length-map (in_total_order xs) key_of, sorted-length total_order xs) b in
    sym (get_or-map key_of (in_total_order xs) i 0) ∙ get_d_any (map key_of (in_total_order xs)) i (key_of 0) 0 n ∙ ap (λ (l : List ℕ). get_or l i 0) (sorted-keys xs h)

-- at two places of the sorted list the earlier pattern comes before the later one, or is equal to it
pub sorted-ordered : (xs : List ℕ) → Patterns xs → (i j : ℕ) → i ≤ j → j < length xs → total_order (get_or (in_total_order xs) i 0) (get_or (in_total_order xs) j 0) ≡ true
sorted-ordered xs h i j o b =
    let k : length (sorted_by leb (map key_of xs)) ≡ length xs = sorted-length leb (map key_of xs) ∙ length-map xs key_of in
    rw (total_order-key (get_or (in_total_order xs) i 0) (get_or (in_total_order xs) j 0), key-at xs i h (omega arith), key-at xs j h b)
    (le-leb _ _ (ascending-at (sorted_by leb (map key_of xs)) (sort_ascending (map key_of xs)) i j o (omega arith)))

-- the key of the median is at place len/2 of the sorted keys
pub median_key : (xs : List ℕ) → Patterns xs → 0 < length xs → key_of (median_of xs) ≡ get_or (sorted_by leb (map key_of xs)) (length xs / 2) 0
unfolding median_of
median_key xs h p = key-at xs (length xs / 2) h (omega arith)

-- the median of patterns is a pattern
pub median_pattern : (xs : List ℕ) → Patterns xs → 0 < length xs → median_of xs < 2 ^ 64
unfolding median_of
median_pattern xs h p =
    let m : length (in_total_order xs) ≡ length xs = sorted-length total_order xs in
    each_at (λ (x : ℕ). x < 2 ^ 64) (in_total_order xs) (sorted-each total_order (λ (x : ℕ). x < 2 ^ 64) xs h) (length xs / 2) (omega arith)

-- ---- the median is no mean

-- what stands at a place of a list stands in it
place-counts : (ys : List ℕ) (i : ℕ) → i < length ys → 0 < occurrences (get_or ys i 0) ys
unfolding occurrences
place-counts [] i h = absurd (not-suc-le-zero h)
place-counts (y ∷ ys) zero h = rw (eq-eqb y y refl) (omega arith)
place-counts (y ∷ ys) (suc i) h = omega (arith, place-counts ys i (le_of_suc-le-suc h))

-- The median of a list that is not empty is one of its elements.
pub median_element : (xs : List ℕ) → 0 < length xs → 0 < occurrences (median_of xs) xs
unfolding median_of
median_element xs h =
    let n : length (in_total_order xs) ≡ length xs = sorted-length total_order xs in
    rw (← sorted-count total_order (get_or (in_total_order xs) (length xs / 2) 0) xs) (place-counts (in_total_order xs) (length xs / 2) (omega arith))
