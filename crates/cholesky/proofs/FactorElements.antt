-- The elements of the factor and of the two solutions: each is the one operation on those before it that `Factored`, `Forward` and `Backward` say. Assumes nothing.
use Prim.Native.Nat.{ℕ, zero, suc, ◌+◌, ◌-◌, ◌≤◌, ◌<◌}
use native.Mathlib.Nat.{not-suc-le-zero, le_refl}
use native.Mathlib.Omega.{arith}
use native.Mathlib.Numerals.{add-one}
use native.Mathlib.Decide.{ℕ_discrete}
use mathlib.Core.Path.{◌≡◌, refl, sym, ap, ◌∙◌, subst, subst₂}
use mathlib.Core.Bool.{Bool, true, false, cond}
use mathlib.Core.List.{List, []}
use lib.ListN.{set, replicate, length, length-set, get_or-replicate}
use lib.Seq.{get_or-set_same, get_or-set_other}
use lib.Ieee.{Float, nan}
use Rattle.exact.specs.Float.{◌⊘◌, +0}
use Rattle.root.specs.Root.{root_of}
use Rattle.cholesky.specs.Factor.{at, row, cell, zeros, is_pivot, with_element, below, pivot_of, row_of, Factored, Refused, Lower, next_row, factor_to, factor_of, with_forward, forward_to, with_back, back_to}
use Rattle.exact.specs.Products.{less_products}
use Rattle.exact.proofs.Products.{less-ext}
use Rattle.exact.proofs.Steps.{ForwardSteps, BackwardSteps}

-- k is below n or n itself
split : (P : ℕ → Type 0) (n k : ℕ) → k < suc n → (k < n → P k) → P n → P k
split P n k h f g = go (ℕ_discrete k n)
  where
    go : Dec (k ≡ n) → P k
    go (yes e) = subst P (sym e) g
    go (no m) = f (omega arith)

-- ---- the elements of a row of the factor below the diagonal
abbrev pub Made : List Float → List Float → List Float → ℕ → Type 0
Made d a r k = at r k ≡ less_products (at a k) (at r) (at d) k ⊘ at d k

abbrev pub Element : List (List Float) → List Float → List Float → ℕ → Type 0
Element l a r k = Made (row l k) a r k

-- what is under the root, and the root
abbrev pub Pivot : List Float → List Float → ℕ → Type 0
Pivot a r i = is_pivot (less_products (at a i) (at r) (at r) i) ≡ true

abbrev pub Rooted : List Float → List Float → ℕ → Type 0
Rooted a r i = at r i ≡ root_of (less_products (at a i) (at r) (at r) i)

record Below (j : ℕ) (l : List (List Float)) (a r : List Float) : Type 0 where
  nine : length r ≡ 9
  element : (k : ℕ) → k < j → Element l a r k
  rest : (k : ℕ) → j ≤ k → k < 9 → at r k ≡ +0

-- a row whose places up to k are those of another
element-of : (l : List (List Float)) (a r r' : List Float) (k : ℕ) → at r' k ≡ at r k → ((m : ℕ) → m < k → at r' m ≡ at r m) → Element l a r k → Element l a r' k
element-of l a r r' k e f h =
    e ∙ h ∙ ap (λ (z : Float). z ⊘ cell l k k) (less-ext (at a k) (at a k) (at r) (at r') (cell l k) (cell l k) k refl (λ m b. sym (f m b)) (λ m b. refl))

below-element : (j : ℕ) (l : List (List Float)) (a : List Float) → j ≤ 9 → Below j l a (below j l a)
unfolding below with_element
below-element zero l a b = record { nine = refl; element = λ k h. absurd (not-suc-le-zero h); rest = λ k h kb. get_or-replicate 9 k +0 nan kb }
below-element (suc j) l a b = step (below j l a) (below-element j l a (omega arith))
  where
    step : (r : List Float) → Below j l a r → Below (suc j) l a (with_element l a j r)
    step r h = record { nine = length-set r j v ∙ h.nine; element = λ k kb. split (Element l a (set r j v)) j k kb (early k) last; rest = λ k jk kb. get_or-set_other r j k v nan (omega arith) ∙ h.rest k (omega arith) kb }
      where
        v : Float
        v = less_products (at a j) (at r) (cell l j) j ⊘ cell l j j

        other : (m : ℕ) → m < j → at (set r j v) m ≡ at r m
        other m mb = get_or-set_other r j m v nan (omega arith)

        early : (k : ℕ) → k < j → Element l a (set r j v) k
        early k kb = element-of l a r (set r j v) k (other k kb) (λ m mb. other m (omega arith)) (h.element k kb)

        last : Element l a (set r j v) j
        last =
            get_or-set_same r j v nan (omega (arith, h.nine))
            ∙ ap (λ (z : Float). z ⊘ cell l j j) (less-ext (at a j) (at a j) (at r) (at (set r j v)) (cell l j) (cell l j) j refl (λ m mb. sym (other m mb)) (λ m mb. refl))

-- ---- the factor's first n rows
pub record Rows (n : ℕ) (a l : List (List Float)) : Type 0 where
  pub nine : length l ≡ 9
  pub element : (i k : ℕ) → i < n → k < i → Element l (row a i) (row l i) k
  pub pivot : (i : ℕ) → i < n → Pivot (row a i) (row l i) i
  pub diagonal : (i : ℕ) → i < n → Rooted (row a i) (row l i) i
  pub upper : (i k : ℕ) → i < n → i < k → k < 9 → cell l i k ≡ +0

-- row n set
module _ (a l : List (List Float)) (n : ℕ) (b : n < 9) (h : Rows n a l) (ok : is_pivot (pivot_of n l (row a n)) ≡ true) where
  r : List Float
  r = below n l (row a n)

  v : Float
  v = root_of (pivot_of n l (row a n))

  l' : List (List Float)
  l' = set l n (row_of n l (row a n))

  rows_above : (i : ℕ) → i < n → row l' i ≡ row l i
  unfolding l'
  rows_above i ib = get_or-set_other l n i (row_of n l (row a n)) [] (omega arith)

  row_here : row l' n ≡ set r n v
  unfolding l' r v row_of
  row_here = get_or-set_same l n (row_of n l (row a n)) [] (omega (arith, h.nine))

  built : Below n l (row a n) r
  unfolding r
  built = below-element n l (row a n) (omega arith)

  places : (k : ℕ) → k < n → cell l' n k ≡ at r k
  places k kb = ap (λ (z : List Float). at z k) row_here ∙ get_or-set_other r n k v nan (omega arith)

  -- an element keeps its value in l', whose rows up to its own are l's
  element-kept : (i k : ℕ) → i < n → k < i → Element l' (row a i) (row l' i) k
  element-kept i k ib kb =
      subst₂ (λ (d r : List Float). Made d (row a i) r k) (sym (rows_above k (omega arith))) (sym (rows_above i ib)) (h.element i k ib kb)

  element-new : (k : ℕ) → k < n → Element l' (row a n) (row l' n) k
  element-new k kb =
      subst (λ (d : List Float). Made d (row a n) (row l' n) k) (sym (rows_above k kb))
      (element-of l (row a n) r (row l' n) k (places k kb) (λ m mb. places m (omega arith)) (built.element k kb))

  pivot-is : pivot_of n l (row a n) ≡ less_products (cell a n n) (cell l' n) (cell l' n) n
  unfolding pivot_of r
  pivot-is =
      less-ext (cell a n n) (cell a n n) (at r) (cell l' n) (at r) (cell l' n) n refl (λ k kb. sym (places k kb)) (λ k kb. sym (places k kb))

  diagonal-is : cell l' n n ≡ v
  diagonal-is = ap (λ (z : List Float). at z n) row_here ∙ get_or-set_same r n v nan (omega (arith, built.nine))

  upper-new : (k : ℕ) → n < k → k < 9 → cell l' n k ≡ +0
  upper-new k nk kb = ap (λ (z : List Float). at z k) row_here ∙ get_or-set_other r n k v nan (omega arith) ∙ built.rest k (omega arith) kb

  rows_next : Rows (suc n) a (set l n (row_of n l (row a n)))
  unfolding l' v
  rows_next =
      record {
        nine = length-set l n (row_of n l (row a n)) ∙ h.nine;
        element = λ i k ib kb. split (λ (z : ℕ). (k : ℕ) → k < z → Element l' (row a z) (row l' z) k) n i ib (λ m k kb. element-kept i k m kb) element-new k kb;
        pivot = λ i ib. split (λ (z : ℕ). Pivot (row a z) (row l' z) z) n i ib (λ m. subst (λ (r : List Float). Pivot (row a i) r i) (sym (rows_above i m)) (h.pivot i m)) (subst (λ (z : Float). is_pivot z ≡ true) pivot-is ok);
        diagonal = λ i ib. split (λ (z : ℕ). Rooted (row a z) (row l' z) z) n i ib (λ m. subst (λ (r : List Float). Rooted (row a i) r i) (sym (rows_above i m)) (h.diagonal i m)) (diagonal-is ∙ ap root_of pivot-is);
        upper = λ i k ib ik kb. split (λ (z : ℕ). z < k → cell l' z k ≡ +0) n i ib (λ m w. ap (λ (r : List Float). at r k) (rows_above i m) ∙ h.upper i k m w kb) (λ w. upper-new k w kb) ik;
      }

next-rows : (a : List (List Float)) (n : ℕ) (m l : List (List Float)) (p : Bool) → n < 9 → Rows n a m → is_pivot (pivot_of n m (row a n)) ≡ p
    → cond p (Lower (set m n (row_of n m (row a n)))) Refused ≡ Lower l → Rows (suc n) a l
next-rows a n m l true b h hp e = let q : set m n (row_of n m (row a n)) ≡ l = cc in subst (Rows (suc n) a) q (rows_next a m n b h hp)
next-rows a n m l false b h hp e = absurd (let z : ◌≡◌ {A = ℕ} 0 1 = cc in omega arith)

pub factor_to-rows : (n : ℕ) (a l : List (List Float)) → n ≤ 9 → factor_to n a ≡ Lower l → Rows n a l
unfolding factor_to next_row
factor_to-rows zero a l b e =
    let q : replicate 9 zeros ≡ l = cc in
    record {
      nine = ap length (sym q);
      element = λ i k ib kb. absurd (not-suc-le-zero ib);
      pivot = λ i ib. absurd (not-suc-le-zero ib);
      diagonal = λ i ib. absurd (not-suc-le-zero ib);
      upper = λ i k ib ik kb. absurd (not-suc-le-zero ib);
    }
factor_to-rows (suc n) a l b e = go (factor_to n a) (λ m. factor_to-rows n a m (omega arith)) e
  where
    go : (w : Factored) → ((m : List (List Float)) → w ≡ Lower m → Rows n a m) → next_row a n w ≡ Lower l → Rows (suc n) a l
    go Refused h q = absurd (let z : ◌≡◌ {A = ℕ} 0 1 = cc in omega arith)
    go (Lower m) h q = next-rows a n m l (is_pivot (pivot_of n m (row a n))) b (h m refl) refl q

-- an accepted factor's elements
pub record Elements (a l : List (List Float)) : Type 0 where
  pub below-is : (i j : ℕ) → i < 9 → j < i → cell l i j ≡ less_products (cell a i j) (cell l i) (cell l j) j ⊘ cell l j j
  pub pivot-is : (i : ℕ) → i < 9 → is_pivot (less_products (cell a i i) (cell l i) (cell l i) i) ≡ true
  pub diagonal-is : (i : ℕ) → i < 9 → cell l i i ≡ root_of (less_products (cell a i i) (cell l i) (cell l i) i)
  pub upper_is : (i j : ℕ) → i < 9 → i < j → j < 9 → cell l i j ≡ +0

pub elements : (a l : List (List Float)) → factor_of a ≡ Lower l → Elements a l
unfolding factor_of
elements a l e =
    let h = factor_to-rows 9 a l (omega arith) e in
    record { below-is = λ i j ib jb. h.element i j ib jb; pivot-is = λ i ib. h.pivot i ib; diagonal-is = λ i ib. h.diagonal i ib; upper_is = λ i j ib ij jb. h.upper i j ib ij jb }

-- ---- the solution down
abbrev Down : List Float → List Float → List Float → ℕ → Type 0
Down d b x k = at x k ≡ less_products (at b k) (at d) (at x) k ⊘ at d k

record Solved (n : ℕ) (l : List (List Float)) (b x : List Float) : Type 0 where
  nine : length x ≡ 9
  done : (k : ℕ) → k < n → Down (row l k) b x k
  rest : (k : ℕ) → n ≤ k → at x k ≡ at b k

forward_to-solved : (n : ℕ) (l : List (List Float)) (b : List Float) → n ≤ 9 → length b ≡ 9 → Solved n l b (forward_to n l b)
unfolding forward_to with_forward
forward_to-solved zero l b h e = record { nine = e; done = λ k kb. absurd (not-suc-le-zero kb); rest = λ k kb. refl }
forward_to-solved (suc n) l b h e = step (forward_to n l b) (forward_to-solved n l b (omega arith) e)
  where
    step : (x : List Float) → Solved n l b x → Solved (suc n) l b (with_forward l n x)
    step x s = record { nine = length-set x n v ∙ s.nine; done = λ k kb. split (λ (z : ℕ). Down (row l z) b x' z) n k kb (early k) last; rest = λ k kb. get_or-set_other x n k v nan (omega arith) ∙ s.rest k (omega arith) }
      where
        v : Float
        v = less_products (at x n) (cell l n) (at x) n ⊘ cell l n n

        x' : List Float
        x' = set x n v

        other : (m : ℕ) → m < n → at (set x n v) m ≡ at x m
        other m mb = get_or-set_other x n m v nan (omega arith)

        again : (k : ℕ) (c c' : Float) → k ≤ n → c ≡ c' → less_products c (at (row l k)) (at x) k ≡ less_products c' (at (row l k)) (at (set x n v)) k
        again k c c' kb q = less-ext c c' (at (row l k)) (at (row l k)) (at x) (at (set x n v)) k q (λ m mb. refl) (λ m mb. sym (other m (omega arith)))

        early : (k : ℕ) → k < n → Down (row l k) b (set x n v) k
        early k kb = other k kb ∙ s.done k kb ∙ ap (λ (z : Float). z ⊘ cell l k k) (again k (at b k) (at b k) (omega arith) refl)

        last : Down (row l n) b (set x n v) n
        last =
            get_or-set_same x n v nan (omega (arith, s.nine))
            ∙ ap (λ (z : Float). z ⊘ cell l n n) (again n (at x n) (at b n) (le_refl n) (s.rest n (le_refl n)))

pub forward-is : (l : List (List Float)) (b : List Float) → length b ≡ 9 → ForwardSteps 9 (cell l) (at b) (at (forward_to 9 l b))
forward-is l b e = let s = forward_to-solved 9 l b (le_refl 9) e in record { at = λ k kb. s.done k kb }

pub forward-length : (l : List (List Float)) (b : List Float) → length b ≡ 9 → length (forward_to 9 l b) ≡ 9
forward-length l b e = (forward_to-solved 9 l b (le_refl 9) e).nine

-- ---- the solution up
abbrev Up : List (List Float) → List Float → List Float → ℕ → Type 0
Up l y x k = at x k ≡ less_products (at y k) (λ m. cell l (suc k + m) k) (λ m. at x (suc k + m)) (9 - suc k) ⊘ cell l k k

record Raised (n : ℕ) (l : List (List Float)) (y x : List Float) : Type 0 where
  nine : length x ≡ 9
  done : (k : ℕ) → 9 ≤ k + n → k < 9 → Up l y x k
  rest : (k : ℕ) → k + n < 9 → at x k ≡ at y k

back_to-raised : (n : ℕ) (l : List (List Float)) (y : List Float) → n ≤ 9 → length y ≡ 9 → Raised n l y (back_to n l y)
unfolding back_to with_back
back_to-raised zero l y h e = record { nine = e; done = λ k kb kc. absurd (omega arith); rest = λ k kb. refl }
back_to-raised (suc n) l y h e = step (back_to n l y) (back_to-raised n l y (omega arith) e)
  where
    i : ℕ
    i = 8 - n

    i-is : i + n ≡ 8
    i-is = omega arith

    step : (x : List Float) → Raised n l y x → Raised (suc n) l y (with_back l (8 - n) x)
    step x s = record { nine = length-set x i v ∙ s.nine; done = λ k kb kc. go k kb kc (ℕ_discrete k i); rest = λ k kb. get_or-set_other x i k v nan (omega arith) ∙ s.rest k (omega arith) }
      where
        v : Float
        v = less_products (at x i) (λ m. cell l (i + 1 + m) i) (λ m. at x (i + 1 + m)) (8 - i) ⊘ cell l i i

        other : (m : ℕ) → i < m → at (set x i v) m ≡ at x m
        other m mb = get_or-set_other x i m v nan (omega arith)

        again : (k : ℕ) (c c' : Float) → i ≤ k → c ≡ c'
            → less_products c (λ m. cell l (suc k + m) k) (λ m. at x (suc k + m)) (9 - suc k) ≡ less_products c' (λ m. cell l (suc k + m) k) (λ m. at (set x i v) (suc k + m)) (9 - suc k)
        again k c c' kb q =
            less-ext c c' (λ m. cell l (suc k + m) k) (λ m. cell l (suc k + m) k) (λ m. at x (suc k + m)) (λ m. at (set x i v) (suc k + m)) (9 - suc k) q (λ m mb. refl) (λ m mb. sym (other (suc k + m) (omega arith)))

        -- the column from row i + 1 on
        shifted : less_products (at x i) (λ m. cell l (i + 1 + m) i) (λ m. at x (i + 1 + m)) (8 - i) ≡ less_products (at x i) (λ m. cell l (suc i + m) i) (λ m. at x (suc i + m)) (8 - i)
        shifted = ap (λ (z : ℕ). less_products (at x i) (λ m. cell l (z + m) i) (λ m. at x (z + m)) (8 - i)) (add-one i)

        last : Up l y (set x i v) i
        last =
            let c : 8 - i ≡ 9 - suc i = omega arith in
            get_or-set_same x i v nan (omega (arith, s.nine))
            ∙ ap (λ (z : Float). z ⊘ cell l i i) (shifted ∙ ap (less_products (at x i) (λ m. cell l (suc i + m) i) (λ m. at x (suc i + m))) c ∙ again i (at x i) (at y i) (le_refl i) (s.rest i (omega arith)))

        go : (k : ℕ) → 9 ≤ k + suc n → k < 9 → Dec (k ≡ i) → Up l y (set x i v) k
        go k kb kc (yes q) = subst (Up l y (set x i v)) (sym q) last
        go k kb kc (no q) =
            let a : i < k = omega arith in
            other k a ∙ s.done k (omega arith) kc ∙ ap (λ (z : Float). z ⊘ cell l k k) (again k (at y k) (at y k) (omega arith) refl)

pub backward-is : (l : List (List Float)) (y : List Float) → length y ≡ 9 → BackwardSteps 9 (cell l) (at y) (at (back_to 9 l y))
backward-is l y e = let s = back_to-raised 9 l y (le_refl 9) e in record { at = λ k kb. s.done k (omega arith) kb }
