-- The factor by columns, in place: what the rows hold once some columns are done, and that all nine make the factor. Assumes nothing.
use Prim.Native.Nat.{ℕ, zero, suc, ◌+◌, ◌-◌, ◌≤◌, ◌<◌}
use native.Mathlib.Nat.{not-suc-le-zero, le_step, le_refl}
use native.Mathlib.Omega.{arith}
use native.Mathlib.Numerals.{add-one}
use native.Mathlib.Decide.{ℕ_discrete}
use mathlib.Core.Path.{◌≡◌, refl, sym, ap, ap₂, ◌∙◌}
use mathlib.Core.Logic.{◌≢◌}
use mathlib.Core.Bool.{true, false}
use mathlib.Core.List.{List, []}
use lib.ListN.{set, replicate, length, length-set, get_or-replicate}
use lib.Seq.{get_or-set_same, get_or-set_other, ext_get_or}
use lib.Ieee.{Float, nan}
use Rattle.exact.specs.Float.{◌⊖◌, ◌⊗◌, ◌⊘◌}
use Rattle.exact.specs.Products.{less_products}
use Rattle.exact.proofs.Products.{less-next, less-ext}
use Rattle.root.specs.Root.{root_of}
use Rattle.cholesky.specs.Factor.{at, row, cell, zeros, is_pivot, with_element, below, pivot_of, row_of, Refused, Lower, factor_to, factor_of}
use Rattle.cholesky.proofs.FactorLaws.{below-zero, below_next, pivot_of-is, factor_to-zero, factor_to-next, refused-more}

-- ---- what a row reads of the factor is the rows above it

-- l and m have the same first n rows
abbrev pub Agree : ℕ → List (List Float) → List (List Float) → Type 0
Agree n l m = (k : ℕ) → k < n → row l k ≡ row m k

below-agree : (j : ℕ) (l m : List (List Float)) (a : List Float) → Agree j l m → below j l a ≡ below j m a
unfolding below with_element
below-agree zero l m a h = refl
below-agree (suc j) l m a h =
    ap₂ (λ (r d : List Float). set r j (less_products (at a j) (at r) (at d) j ⊘ at d j)) (below-agree j l m a (λ k b. h k (le_step b))) (h j (le_refl (suc j)))

pivot-agree : (i : ℕ) (l m : List (List Float)) (a : List Float) → Agree i l m → pivot_of i l a ≡ pivot_of i m a
unfolding pivot_of
pivot-agree i l m a h = ap (λ (r : List Float). less_products (at a i) (at r) (at r) i) (below-agree i l m a h)

row-agree : (i : ℕ) (l m : List (List Float)) (a : List Float) → Agree i l m → row_of i l a ≡ row_of i m a
unfolding row_of
row-agree i l m a h = ap₂ (λ (r : List Float) (p : Float). set r i (root_of p)) (below-agree i l m a h) (pivot-agree i l m a h)

below_length : (j : ℕ) (l : List (List Float)) (a : List Float) → length (below j l a) ≡ 9
unfolding below with_element
below_length zero l a = refl
below_length (suc j) l a = length-set (below j l a) j (less_products (at a j) (at (below j l a)) (cell l j) j ⊘ cell l j j) ∙ below_length j l a

-- ---- the columns

-- Of the first m rows: n columns are done in the rows above row i, and one less from there on; the rows above row n are the factor's, each with its pivot accepted. The other rows are zeros.
pub record Columns (m n i : ℕ) (a w : List (List Float)) : Type 0 where
  pub nine : length w ≡ 9
  pub pivots : (r : ℕ) → r < n → is_pivot (pivot_of r w (row a r)) ≡ true
  pub whole : (r : ℕ) → r < n → row w r ≡ row_of r w (row a r)
  pub done : (r : ℕ) → n ≤ r → r < i → row w r ≡ below n w (row a r)
  pub left : (j : ℕ) → j + 1 ≡ n → (r : ℕ) → i ≤ r → r < m → row w r ≡ below j w (row a r)
  pub rest : (r : ℕ) → m ≤ r → r < 9 → row w r ≡ zeros

pub columns-none : (m : ℕ) → m ≤ 9 → (a : List (List Float)) → Columns m 0 m a (replicate 9 zeros)
columns-none m mb a =
    record {
      nine = refl;
      pivots = λ r b. absurd (not-suc-le-zero b);
      whole = λ r b. absurd (not-suc-le-zero b);
      done = λ r b rb. get_or-replicate 9 r zeros [] (omega arith) ∙ sym (below-zero (replicate 9 zeros) (row a r));
      left = λ j e r b rb. absurd (omega arith);
      rest = λ r b rb. get_or-replicate 9 r zeros [] rb;
    }

-- row i of w set
module _ (w : List (List Float)) (i : ℕ) (x : List Float) where
  pub kept : (k : ℕ) → k ≢ i → row (set w i x) k ≡ row w k
  kept k d = get_or-set_other w i k x [] d

  kept_above : (n : ℕ) → n ≤ i → Agree n w (set w i x)
  kept_above n b k kb = sym (kept k (omega arith))

-- the pivot of the next column, its root on the diagonal
module _ (a w : List (List Float)) (m j : ℕ) (mb : m ≤ 9) (b : j < m) (h : Columns m j m a w) (p : Float) (e : p ≡ less_products (cell a j j) (cell w j) (cell w j) j) where
  pub columns-pivot : p ≡ pivot_of j w (row a j)
  columns-pivot =
      e ∙ ap (λ (r : List Float). less_products (cell a j j) (at r) (at r) j) (h.done j (le_refl j) b) ∙ sym (pivot_of-is j w (row a j))

  pub columns-diagonal : (d : Float) → cell (set w j (set (row w j) j d)) j j ≡ d
  columns-diagonal d =
      let n : length (row w j) ≡ 9 = ap length (h.done j (le_refl j) b) ∙ below_length j w (row a j) in
      ap (λ (r : List Float). at r j) (get_or-set_same w j (set (row w j) j d) [] (omega (arith, h.nine))) ∙ get_or-set_same (row w j) j d nan (omega arith)

  module _ (ok : is_pivot p ≡ true) (d : Float) (q : d ≡ root_of p) where
    x : List Float
    x = set (row w j) j d

    x-is : x ≡ row_of j w (row a j)
    unfolding x row_of
    x-is = ap₂ (λ (r : List Float) (z : Float). set r j z) (h.done j (le_refl j) b) (q ∙ ap root_of columns-pivot)

    same : row (set w j x) j ≡ x
    same = get_or-set_same w j x [] (omega (arith, h.nine))

    pub columns-root : Columns m (j + 1) (j + 1) a (set w j (set (row w j) j d))
    unfolding x
    columns-root =
        record {
          nine = length-set w j x ∙ h.nine;
          pivots = λ r rb. pivots r rb (ℕ_discrete r j);
          whole = λ r rb. whole r rb (ℕ_discrete r j);
          done = λ r rb rc. absurd (omega arith);
          left = λ k f r rb rc. let g : k ≡ j = omega arith in rw g (kept w j x r (omega arith) ∙ h.done r (omega arith) rc ∙ below-agree j w (set w j x) (row a r) (kept_above w j x j (le_refl j)));
          rest = λ r rb rc. kept w j x r (omega arith) ∙ h.rest r rb rc;
        }
      where
        pivots : (r : ℕ) → r < j + 1 → Dec (r ≡ j) → is_pivot (pivot_of r (set w j x) (row a r)) ≡ true
        pivots r rb (yes f) = rw f (rw (← (pivot-agree j w (set w j x) (row a j) (kept_above w j x j (le_refl j))), ← columns-pivot) ok)
        pivots r rb (no f) = rw (← (pivot-agree r w (set w j x) (row a r) (kept_above w j x r (omega arith)))) (h.pivots r (omega arith))

        whole : (r : ℕ) → r < j + 1 → Dec (r ≡ j) → row (set w j x) r ≡ row_of r (set w j x) (row a r)
        whole r rb (yes f) = rw f (same ∙ x-is ∙ row-agree j w (set w j x) (row a j) (kept_above w j x j (le_refl j)))
        whole r rb (no f) = kept w j x r f ∙ h.whole r (omega arith) ∙ row-agree r w (set w j x) (row a r) (kept_above w j x r (omega arith))

-- one element more of column j
module _ (a w : List (List Float)) (m j i : ℕ) (mb : m ≤ 9) (b : j < i) (c : i < m) (h : Columns m (j + 1) i a w) (s d : Float) (e : s ≡ less_products (cell a i j) (cell w i) (cell w j) j) (q : d ≡ cell w j j) where
  y : List Float
  y = set (row w i) j (s ⊘ d)

  y-is : y ≡ below (j + 1) w (row a i)
  unfolding y
  y-is =
      ap₂ (λ (z u : Float). set (row w i) j (z ⊘ u)) e q
      ∙ ap (λ (r : List Float). set r j (less_products (cell a i j) (at r) (cell w j) j ⊘ cell w j j)) (h.left j refl i (le_refl i) c)
      ∙ sym (below_next j w (row a i))

  pub diagonal-kept : d ≡ cell (set w i (set (row w i) j (s ⊘ d))) j j
  diagonal-kept = q ∙ ap (λ (r : List Float). at r j) (sym (kept w i (set (row w i) j (s ⊘ d)) j (omega arith)))

  -- the pivot of row i so far, one square more
  pub pivot-next : (z u : Float) → u ≡ less_products z (cell w i) (cell w i) j
      → u ⊖ (s ⊘ d) ⊗ (s ⊘ d) ≡ less_products z (cell (set w i (set (row w i) j (s ⊘ d))) i) (cell (set w i (set (row w i) j (s ⊘ d))) i) (j + 1)
  unfolding y
  pivot-next z u f =
      let n : length (row w i) ≡ 9 = ap length (h.left j refl i (le_refl i) c) ∙ below_length j w (row a i) in
      let own : row (set w i y) i ≡ y = get_or-set_same w i y [] (omega (arith, h.nine)) in
      let here : cell (set w i y) i j ≡ s ⊘ d = ap (λ (r : List Float). at r j) own ∙ get_or-set_same (row w i) j (s ⊘ d) nan (omega arith) in
      let before : (k : ℕ) → k < j → cell w i k ≡ cell (set w i y) i k = λ k kb. sym (ap (λ (r : List Float). at r k) own ∙ get_or-set_other (row w i) j k (s ⊘ d) nan (omega arith)) in
      ap₂ (λ (t v : Float). t ⊖ v ⊗ v) (f ∙ less-ext z z (cell w i) (cell (set w i y) i) (cell w i) (cell (set w i y) i) j refl before before) (sym here)
      ∙ sym (less-next z (cell (set w i y) i) (cell (set w i y) i) j)

  pub columns-element : Columns m (j + 1) (i + 1) a (set w i (set (row w i) j (s ⊘ d)))
  unfolding y
  columns-element =
      record {
        nine = length-set w i y ∙ h.nine;
        pivots = λ r rb. rw (← (pivot-agree r w (set w i y) (row a r) (kept_above w i y r (omega arith)))) (h.pivots r rb);
        whole = λ r rb. kept w i y r (omega arith) ∙ h.whole r rb ∙ row-agree r w (set w i y) (row a r) (kept_above w i y r (omega arith));
        done = λ r rb rc. done r rb rc (ℕ_discrete r i);
        left = λ k f r rb rc. kept w i y r (omega arith) ∙ h.left k f r (omega arith) rc ∙ below-agree k w (set w i y) (row a r) (kept_above w i y k (omega arith));
        rest = λ r rb rc. kept w i y r (omega arith) ∙ h.rest r rb rc;
      }
    where
      done : (r : ℕ) → j + 1 ≤ r → r < i + 1 → Dec (r ≡ i) → row (set w i y) r ≡ below (j + 1) (set w i y) (row a r)
      done r rb rc (yes f) = rw f (get_or-set_same w i y [] (omega (arith, h.nine)) ∙ y-is ∙ below-agree (j + 1) w (set w i y) (row a i) (kept_above w i y (j + 1) (omega arith)))
      done r rb rc (no f) = kept w i y r f ∙ h.done r rb (omega arith) ∙ below-agree (j + 1) w (set w i y) (row a r) (kept_above w i y (j + 1) (omega arith))

-- ---- the factor

-- the factor's first n rows are those of w
pub record Made (n : ℕ) (a w : List (List Float)) : Type 0 where
  pub l : List (List Float)
  pub is : factor_to n a ≡ Lower l
  pub nine : length l ≡ 9
  pub rows : Agree n l w

pub made_none : (a w : List (List Float)) → Made 0 a w
made_none a w = record { l = replicate 9 zeros; is = factor_to-zero a; nine = refl; rows = λ k kb. absurd (not-suc-le-zero kb) }

-- one row more
module _ (a w : List (List Float)) (m : ℕ) (b : m < 9) (ok : is_pivot (pivot_of m w (row a m)) ≡ true) (whole : row w m ≡ row_of m w (row a m)) (g : Made m a w) where
  r : List Float
  r = row_of m g.l (row a m)

  is : factor_to (suc m) a ≡ Lower (set g.l m r)
  unfolding r
  is = rw (← (add-one m)) (factor_to-next m a g.l g.is ∙ rw (pivot-agree m g.l w (row a m) g.rows, ok))

  rows : (k : ℕ) → k < suc m → Dec (k ≡ m) → row (set g.l m r) k ≡ row w k
  unfolding r
  rows k kb (yes f) = rw f (get_or-set_same g.l m (row_of m g.l (row a m)) [] (omega (arith, g.nine)) ∙ row-agree m g.l w (row a m) g.rows ∙ sym whole)
  rows k kb (no f) = kept g.l m (row_of m g.l (row a m)) k f ∙ g.rows k (omega arith)

  pub made-next : Made (suc m) a w
  made-next = record { l = set g.l m r; is = is; nine = length-set g.l m r ∙ g.nine; rows = λ k kb. rows k kb (ℕ_discrete k m) }

-- all nine rows
pub made_all : (a w : List (List Float)) → length w ≡ 9 → Made 9 a w → factor_of a ≡ Lower w
unfolding factor_of
made_all a w n g = g.is ∙ ap Lower (ext_get_or [] g.l w (g.nine ∙ sym n) (λ k kb. g.rows k (omega (arith, g.nine))))

-- a row that is not the factor's set
pub made_kept : (a w : List (List Float)) (n i : ℕ) (x : List Float) → n ≤ i → Made n a w → Made n a (set w i x)
made_kept a w n i x b g = record { l = g.l; is = g.is; nine = g.nine; rows = λ k kb. g.rows k kb ∙ kept_above w i x n b k kb }

module _ (a w : List (List Float)) (m n : ℕ) (h : Columns m n m a w) (b : n ≤ 9) where
  pub made : (k : ℕ) → k ≤ n → Made k a w
  made zero kb = made_none a w
  made (suc k) kb = made-next a w k (omega arith) (h.pivots k kb) (h.whole k kb) (made k (omega arith))

  -- a column whose pivot is refused
  columns-refused : n < 9 → is_pivot (pivot_of n w (row a n)) ≡ false → factor_of a ≡ Refused
  unfolding factor_of
  columns-refused nb f =
      let g = made n (le_refl n) in
      let stop : factor_to (n + 1) a ≡ Refused = factor_to-next n a g.l g.is ∙ rw (pivot-agree n g.l w (row a n) g.rows, f) in
      let m : 9 - (n + 1) + (n + 1) ≡ 9 = omega arith in
      rw m at (refused-more (9 - (n + 1)) (n + 1) a stop)

pub columns-stop : (a w : List (List Float)) (m j : ℕ) → m ≤ 9 → j < m → Columns m j m a w → (p : Float) → p ≡ less_products (cell a j j) (cell w j) (cell w j) j → is_pivot p ≡ false → factor_of a ≡ Refused
columns-stop a w m j mb b h p e f = columns-refused a w m j h (omega arith) (omega arith) (rw (columns-pivot a w m j mb b h p e) at f)
