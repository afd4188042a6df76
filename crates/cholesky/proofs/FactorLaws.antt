-- Each count's first and next step, at the code's `k + 1`. Assumes nothing.
use mathlib.Core.Path.{◌≡◌, refl}
use Prim.Native.Nat.{ℕ, zero, suc, ◌+◌, ◌-◌}
use native.Mathlib.Nat.{zero-add, suc-add}
use native.Mathlib.Numerals.{add-one}
use mathlib.Core.Bool.{cond}
use mathlib.Core.List.{List}
use lib.ListN.{set, replicate}
use lib.Ieee.{Float}
use Rattle.exact.specs.Float.{◌⊘◌, +0}
use Rattle.exact.specs.Products.{less_products}
use Rattle.cholesky.specs.Factor.{at, row, cell, is_pivot, with_element, below, pivot_of, row_of, Refused, Lower, next_row, factor_to, factor_of, forward_to, with_forward, back_to, with_back}

pub below-zero : (l : List (List Float)) (a : List Float) → below 0 l a ≡ replicate 9 +0
unfolding below
below-zero l a = refl

pub below_next : (j : ℕ) (l : List (List Float)) (a : List Float) → below (j + 1) l a ≡ set (below j l a) j (less_products (at a j) (at (below j l a)) (cell l j) j ⊘ cell l j j)
unfolding below with_element
below_next j l a = rw add-one

pub pivot_of-is : (i : ℕ) (l : List (List Float)) (a : List Float) → pivot_of i l a ≡ less_products (at a i) (at (below i l a)) (at (below i l a)) i
unfolding pivot_of
pivot_of-is i l a = refl

pub factor_to-zero : (a : List (List Float)) → factor_to 0 a ≡ Lower (replicate 9 (replicate 9 +0))
unfolding factor_to
factor_to-zero a = refl

pub factor_to-next : (i : ℕ) (a l : List (List Float)) → factor_to i a ≡ Lower l → factor_to (i + 1) a ≡ cond (is_pivot (pivot_of i l (row a i))) (Lower (set l i (row_of i l (row a i)))) Refused
unfolding factor_to next_row
factor_to-next i a l e = rw (add-one, e)

-- once refused, always refused
pub refused-more : (n i : ℕ) (a : List (List Float)) → factor_to i a ≡ Refused → factor_to (n + i) a ≡ Refused
unfolding factor_to next_row
refused-more zero i a e = rw (zero-add, e)
refused-more (suc n) i a e = rw (suc-add, refused-more n i a e)

pub rows_end : (a l : List (List Float)) (i : ℕ) → i ≡ 9 → factor_to i a ≡ Lower l → factor_of a ≡ Lower l
unfolding factor_of
rows_end a l i e h = rw e at h

pub forward_to-zero : (l : List (List Float)) (b : List Float) → forward_to 0 l b ≡ b
unfolding forward_to
forward_to-zero l b = refl

pub forward_to-next : (i : ℕ) (l : List (List Float)) (b : List Float) → forward_to (i + 1) l b ≡ set (forward_to i l b) i (less_products (at (forward_to i l b) i) (cell l i) (at (forward_to i l b)) i ⊘ cell l i i)
unfolding forward_to with_forward
forward_to-next i l b = rw add-one

pub back_to-zero : (l : List (List Float)) (y : List Float) → back_to 0 l y ≡ y
unfolding back_to
back_to-zero l y = refl

pub back_to-next : (n : ℕ) (l : List (List Float)) (y : List Float)
    → back_to (n + 1) l y
    ≡ set (back_to n l y) (8 - n) (less_products (at (back_to n l y) (8 - n)) (λ k. cell l (8 - n + 1 + k) (8 - n)) (λ k. at (back_to n l y) (8 - n + 1 + k)) (8 - (8 - n)) ⊘ cell l (8 - n) (8 - n))
unfolding back_to with_back
back_to-next n l y = rw add-one
