-- The lowest four and the highest four of a list in ascending order, by inserting one number after the other. Assumes nothing.
use Prim.Native.Nat.{ℕ, zero, suc, ◌+◌, ◌-◌, ◌^◌, ◌≤◌, ◌<◌, min, max}
use native.Mathlib.Nat.{le_trans}
use native.Mathlib.Omega.{arith}
use mathlib.Core.Path.{◌≡◌, refl, sym, ap, ◌∙◌}
use mathlib.Core.Bool.{Bool, true, false, cond}
use mathlib.Core.List.{List, [], ◌∷◌}
use lib.ListN.{get_or, take, drop, length}
use lib.Seq.{drop-length, drop-cons, get_or-take, length-take-le}
use lib.Dec.{leb}
use borrow.Author.Tests.{le-leb, lt-leb, leb-true, leb-false}
use Rattle.median.specs.Sorted.{insert_by, sorted_by, Each}
use Rattle.median.specs.Steps.{Unsigned, number_at}
use Rattle.median.proofs.SortedLaws.{Ascending, sort_ascending, sorted-each, sorted-length, each-weaker, each_at, get_d_any}

-- ---- what stands at a place after an insertion; a place behind the end has the bound

module _ (bound x : ℕ) (few : x ≤ bound) where
  from_all : (y : ℕ) → y ≤ bound → (l : List ℕ) (i : ℕ) → Each (λ (z : ℕ). y ≤ z) l → y ≤ get_or l i bound
  unfolding Each
  from_all y b [] i h = b
  from_all y b (z ∷ zs) zero h = h.0
  from_all y b (z ∷ zs) (suc i) h = from_all y b zs i h.1

  insert-first : (l : List ℕ) → get_or (insert_by leb x l) 0 bound ≡ min (get_or l 0 bound) x
  unfolding insert_by
  insert-first [] = omega arith
  insert-first (y ∷ ys) = go (leb x y) refl
    where
      go : (t : Bool) → leb x y ≡ t → get_or (cond t (x ∷ (y ∷ ys)) (y ∷ insert_by leb x ys)) 0 bound ≡ min y x
      go true e = let h : x ≤ y = leb-true x y e in omega arith
      go false e = let h : y < x = leb-false x y e in omega arith

  insert-next : (l : List ℕ) (i : ℕ) → Ascending l → Each (λ (z : ℕ). z ≤ bound) l
      → get_or (insert_by leb x l) (suc i) bound ≡ max (get_or l i bound) (min (get_or l (suc i) bound) x)
  unfolding insert_by Each Ascending
  insert-next [] i o h = omega arith
  insert-next (y ∷ ys) i o h = go (leb x y) refl i (λ j. insert-next ys j o.1 h.1)
    where
      go : (t : Bool) → leb x y ≡ t → (i : ℕ)
          → ((j : ℕ) → get_or (insert_by leb x ys) (suc j) bound ≡ max (get_or ys j bound) (min (get_or ys (suc j) bound) x))
          → get_or (cond t (x ∷ (y ∷ ys)) (y ∷ insert_by leb x ys)) (suc i) bound ≡ max (get_or (y ∷ ys) i bound) (min (get_or (y ∷ ys) (suc i) bound) x)
      go true e i r =
          let l : x ≤ y = leb-true x y e in
          let g : x ≤ get_or (y ∷ ys) i bound = from_all x few (y ∷ ys) i (l, each-weaker (λ (z : ℕ). y ≤ z) (λ (z : ℕ). x ≤ z) (λ z m. le_trans l m) ys o.0) in
          omega arith
      go false e zero r =
          let l : y < x = leb-false x y e in
          let g : y ≤ get_or ys 0 bound = from_all y h.0 ys 0 o.0 in
          rw (insert-first ys) (omega arith)
      go false e (suc i) r = r i

-- ---- the numbers from place j on, of the first n

module _ (k : List ℕ) (n : ℕ) (r : n ≤ length k) where
  pub each_below : Unsigned (take n k) → (i : ℕ) → i < n → get_or k i 0 ≤ 2 ^ 63 - 1
  each_below h i l =
      let b : get_or (take n k) i 0 < 2 ^ 63 = each_at (λ (x : ℕ). x < 2 ^ 63) (take n k) h i (omega (arith, length-take-le n k r)) in
      omega (arith, get_or-take n k i 0 l)

  pub from_end : drop n (take n k) ≡ []
  from_end = ap (λ (i : ℕ). drop i (take n k)) (sym (length-take-le n k r)) ∙ drop-length (take n k)

  pub from-before : (j : ℕ) → 0 < j → j ≤ n → drop (j - 1) (take n k) ≡ get_or k (j - 1) 0 ∷ drop j (take n k)
  from-before j p h =
      let i : j - 1 < n = omega arith in
      let e : suc (j - 1) ≡ j = omega arith in
      drop-cons (take n k) (j - 1) 0 (omega (arith, length-take-le n k r))
      ∙ ap (λ (x : ℕ). x ∷ drop (suc (j - 1)) (take n k)) (get_or-take n k (j - 1) 0 i)
      ∙ ap (λ (z : ℕ). get_or k (j - 1) 0 ∷ drop z (take n k)) e

-- ---- the lowest four of a list, with the bound where there are fewer

module _ (bound : ℕ) where
  abbrev Bounded : List ℕ → Type 0
  Bounded l = Each (λ (z : ℕ). z ≤ bound) l

  pub record Lowest (l : List ℕ) (a b c d : ℕ) : Type 0 where
    pub bounded : Bounded l
    pub first : a ≡ get_or (sorted_by leb l) 0 bound
    pub second : b ≡ get_or (sorted_by leb l) 1 bound
    pub third : c ≡ get_or (sorted_by leb l) 2 bound
    pub fourth : d ≡ get_or (sorted_by leb l) 3 bound

  pub lowest-none : Lowest [] bound bound bound bound
  unfolding sorted_by Each
  lowest-none = record { bounded = tt; first = refl; second = refl; third = refl; fourth = refl }

  pub lowest-more : (l : List ℕ) (x : ℕ) {a b c d : ℕ} → x ≤ bound → Lowest l a b c d
      → Lowest (x ∷ l) (min a x) (max a (min b x)) (max b (min c x)) (max c (min d x))
  unfolding sorted_by Each
  lowest-more l x few h =
      let s = sorted_by leb l in
      let o = sort_ascending l in
      let e = sorted-each leb (λ (z : ℕ). z ≤ bound) l h.bounded in
      record {
        bounded = (few, h.bounded);
        first = rw (insert-first bound x few s, h.first);
        second = rw (insert-next bound x few s 0 o e, h.first, h.second);
        third = rw (insert-next bound x few s 1 o e, h.second, h.third);
        fourth = rw (insert-next bound x few s 2 o e, h.third, h.fourth);
      }

  pub lowest-at : (l : List ℕ) (m : ℕ) {a b c d : ℕ} → m < length l → m < 4 → Lowest l a b c d → get_or (a ∷ (b ∷ (c ∷ (d ∷ [])))) m 0 ≡ number_at m l
  lowest-at l m {a} {b} {c} {d} i f h = go m f ∙ get_d_any (sorted_by leb l) m bound 0 (omega (arith, sorted-length leb l))
    where
      go : (m : ℕ) → m < 4 → get_or (a ∷ (b ∷ (c ∷ (d ∷ [])))) m 0 ≡ get_or (sorted_by leb l) m bound
      go zero f = h.first
      go (suc zero) f = h.second
      go (suc (suc zero)) f = h.third
      go (suc (suc (suc zero))) f = h.fourth
      go (suc (suc (suc (suc m)))) f = absurd (omega arith)

  -- ---- the highest four, with 0 where there are fewer: four zeros stand before the list

  abbrev led : List ℕ → List ℕ
  led s = 0 ∷ (0 ∷ (0 ∷ (0 ∷ s)))

  from_zero : (l : List ℕ) → Each (λ (z : ℕ). 0 ≤ z) l
  unfolding Each
  from_zero [] = tt
  from_zero (x ∷ xs) = (omega arith, from_zero xs)

  led-ascending : (s : List ℕ) → Ascending s → Ascending (led s)
  unfolding Ascending Each
  led-ascending s o =
      let z : 0 ≤ 0 = omega arith in
      ((z, (z, (z, from_zero s))), ((z, (z, from_zero s)), ((z, from_zero s), (from_zero s, o))))

  -- an insertion passes them, or adds one more
  led-insert : (x : ℕ) (s : List ℕ) → insert_by leb x (led s) ≡ led (insert_by leb x s)
  unfolding insert_by
  led-insert zero [] = refl
  led-insert zero (y ∷ ys) = rw (le-leb 0 y (omega arith))
  led-insert (suc x) s = rw (lt-leb (suc x) 0 (omega arith))

  pub record Highest (l : List ℕ) (a b c d : ℕ) : Type 0 where
    pub bounded : Bounded l
    pub first : a ≡ get_or (led (sorted_by leb l)) (suc (suc (suc (length l)))) bound
    pub second : b ≡ get_or (led (sorted_by leb l)) (suc (suc (length l))) bound
    pub third : c ≡ get_or (led (sorted_by leb l)) (suc (length l)) bound
    pub fourth : d ≡ get_or (led (sorted_by leb l)) (length l) bound

  pub highest-none : Highest [] 0 0 0 0
  unfolding sorted_by Each
  highest-none = record { bounded = tt; first = refl; second = refl; third = refl; fourth = refl }

  pub highest-more : (l : List ℕ) (x : ℕ) {a b c d : ℕ} → x ≤ bound → Highest l a b c d
      → Highest (x ∷ l) (max a x) (max b (min a x)) (max c (min b x)) (max d (min c x))
  unfolding sorted_by Each
  highest-more l x few h =
      let s = led (sorted_by leb l) in
      let o = led-ascending (sorted_by leb l) (sort_ascending l) in
      let z : 0 ≤ bound = omega arith in
      let e : Bounded s = (z, (z, (z, (z, sorted-each leb (λ (z : ℕ). z ≤ bound) l h.bounded)))) in
      let n = length l in
      let at : (i : ℕ) → get_or (led (insert_by leb x (sorted_by leb l))) (suc i) bound ≡ max (get_or s i bound) (min (get_or s (suc i) bound) x) =
      λ i. ap (λ (r : List ℕ). get_or r (suc i) bound) (sym (led-insert x (sorted_by leb l))) ∙ insert-next bound x few s i o e in
      let end : get_or s (suc (suc (suc (suc n)))) bound ≡ bound = behind s (suc (suc (suc (suc n)))) (omega (arith, sorted-length leb l)) in
      let top : max (get_or s (suc (suc (suc n))) bound) x ≡ max (get_or s (suc (suc (suc n))) bound) (min (get_or s (suc (suc (suc (suc n)))) bound) x) = rw end (omega arith) in
      record {
        bounded = (few, h.bounded);
        first = rw h.first (top ∙ sym (at (suc (suc (suc n)))));
        second = rw (h.first, h.second) (sym (at (suc (suc n))));
        third = rw (h.second, h.third) (sym (at (suc n)));
        fourth = rw (h.third, h.fourth) (sym (at n));
      }
    where
      behind : (l : List ℕ) (i : ℕ) → length l ≤ i → get_or l i bound ≡ bound
      behind [] i h = refl
      behind (x ∷ xs) zero h = absurd (omega arith)
      behind (x ∷ xs) (suc i) h = behind xs i (omega arith)

  pub highest-at : (l : List ℕ) (m : ℕ) {a b c d : ℕ} → m < length l → m < 4 → Highest l a b c d → get_or (a ∷ (b ∷ (c ∷ (d ∷ [])))) m 0 ≡ number_at (length l - 1 - m) l
  highest-at l m {a} {b} {c} {d} i f h =
      go m (suc (suc (suc (suc (length l - 1 - m))))) (omega arith) f ∙ get_d_any (sorted_by leb l) (length l - 1 - m) bound 0 (omega (arith, sorted-length leb l))
    where
      from : (i j : ℕ) → i ≡ j → get_or (led (sorted_by leb l)) i bound ≡ get_or (led (sorted_by leb l)) j bound
      from i j e = ap (λ (z : ℕ). get_or (led (sorted_by leb l)) z bound) e

      go : (m j : ℕ) → m + j ≡ suc (suc (suc (length l))) → m < 4 → get_or (a ∷ (b ∷ (c ∷ (d ∷ [])))) m 0 ≡ get_or (led (sorted_by leb l)) j bound
      go zero j e f = h.first ∙ from (suc (suc (suc (length l)))) j (omega arith)
      go (suc zero) j e f = h.second ∙ from (suc (suc (length l))) j (omega arith)
      go (suc (suc zero)) j e f = h.third ∙ from (suc (length l)) j (omega arith)
      go (suc (suc (suc zero))) j e f = h.fourth ∙ from (length l) j (omega arith)
      go (suc (suc (suc (suc m)))) j e f = absurd (omega arith)
