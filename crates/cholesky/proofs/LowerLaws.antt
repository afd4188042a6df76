-- Only the lower triangle counts: matrices that are equal there have one factor, and factors that are equal there have one solution. Assumes nothing.
use Prim.Native.Nat.{ℕ, zero, suc, ◌+◌, ◌-◌, ◌≤◌, ◌<◌}
use native.Mathlib.Omega.{arith}
use mathlib.Core.Path.{◌≡◌, refl, ap, ap₂, ◌∙◌}
use mathlib.Core.Bool.{cond}
use mathlib.Core.List.{List}
use lib.ListN.{set}
use lib.Ieee.{Float}
use Rattle.exact.specs.Float.{◌⊘◌}
use Rattle.exact.specs.Products.{less_products}
use Rattle.exact.proofs.Products.{less-ext}
use Rattle.root.specs.Root.{root_of}
use Rattle.cholesky.specs.Factor.{at, row, cell, is_pivot, with_element, below, pivot_of, row_of, Factored, Refused, Lower, next_row, factor_to, factor_of, with_forward, forward_to, with_back, back_to, solution_of}

-- two matrices that have the same cells on the diagonal and below it, whatever stands above
pub record SameLower (a b : List (List Float)) : Type 0 where
  pub lower : (i j : ℕ) → i < 9 → j ≤ i → cell a i j ≡ cell b i j

-- ---- the factor

below-same : (j : ℕ) (l : List (List Float)) (a b : List Float) → ((k : ℕ) → k < j → at a k ≡ at b k) → below j l a ≡ below j l b
unfolding below with_element
below-same zero l a b h = refl
below-same (suc j) l a b h =
    ap₂ (λ (x : Float) (r : List Float). set r j (less_products x (at r) (cell l j) j ⊘ cell l j j)) (h j (omega arith)) (below-same j l a b (λ k kb. h k (omega arith)))

module _ (a b : List (List Float)) (h : SameLower a b) where
  next-same : (i : ℕ) → i < 9 → (w : Factored) → next_row a i w ≡ next_row b i w
  unfolding next_row pivot_of row_of
  next-same i ib Refused = refl
  next-same i ib (Lower l) =
      ap₂ (λ (x : Float) (r : List Float). cond (is_pivot (less_products x (at r) (at r) i)) (Lower (set l i (set r i (root_of (less_products x (at r) (at r) i))))) Refused)
      (h.lower i i ib (omega arith))
      (below-same i l (row a i) (row b i) (λ k kb. h.lower i k ib (omega arith)))

  to_same : (n : ℕ) → n ≤ 9 → factor_to n a ≡ factor_to n b
  unfolding factor_to
  to_same zero l = refl
  to_same (suc n) l = next-same n (omega arith) (factor_to n a) ∙ ap (next_row b n) (to_same n (omega arith))

  pub same-factor : factor_of a ≡ factor_of b
  unfolding factor_of
  same-factor = to_same 9 (omega arith)

-- ---- the solution

module _ (l m : List (List Float)) (h : SameLower l m) where
  forward-same : (n : ℕ) (b : List Float) → n ≤ 9 → forward_to n l b ≡ forward_to n m b
  unfolding forward_to with_forward
  forward-same zero b k = refl
  forward-same (suc i) b k = step (forward_to i l b) (forward_to i m b) (forward-same i b (omega arith))
    where
      step : (x y : List Float) → x ≡ y → set x i (less_products (at x i) (cell l i) (at x) i ⊘ cell l i i) ≡ set y i (less_products (at y i) (cell m i) (at y) i ⊘ cell m i i)
      step x y e =
          ap (λ (z : List Float). set z i (less_products (at z i) (cell l i) (at z) i ⊘ cell l i i)) e
          ∙ ap₂ (λ (p q : Float). set y i (p ⊘ q))
          (less-ext (at y i) (at y i) (cell l i) (cell m i) (at y) (at y) i refl (λ j jb. h.lower i j (omega arith) (omega arith)) (λ j jb. refl))
          (h.lower i i (omega arith) (omega arith))

  back-same : (n : ℕ) (b : List Float) → n ≤ 9 → back_to n l b ≡ back_to n m b
  unfolding back_to with_back
  back-same zero b k = refl
  back-same (suc n) b k = step (8 - n) (omega arith) (back_to n l b) (back_to n m b) (back-same n b (omega arith))
    where
      step : (i : ℕ) → i < 9 → (x y : List Float) → x ≡ y
          → set x i (less_products (at x i) (λ k. cell l (i + 1 + k) i) (λ k. at x (i + 1 + k)) (8 - i) ⊘ cell l i i)
          ≡ set y i (less_products (at y i) (λ k. cell m (i + 1 + k) i) (λ k. at y (i + 1 + k)) (8 - i) ⊘ cell m i i)
      step i ib x y e =
          ap (λ (z : List Float). set z i (less_products (at z i) (λ k. cell l (i + 1 + k) i) (λ k. at z (i + 1 + k)) (8 - i) ⊘ cell l i i)) e
          ∙ ap₂ (λ (p q : Float). set y i (p ⊘ q))
          (less-ext (at y i) (at y i) (λ k. cell l (i + 1 + k) i) (λ k. cell m (i + 1 + k) i) (λ k. at y (i + 1 + k)) (λ k. at y (i + 1 + k)) (8 - i) refl
          (λ j jb. h.lower (i + 1 + j) i (omega arith) (omega arith))
          (λ j jb. refl))
          (h.lower i i ib (omega arith))

  pub same-solution : (b : List Float) → solution_of l b ≡ solution_of m b
  unfolding solution_of
  same-solution b = back-same 9 (forward_to 9 l b) (omega arith) ∙ ap (back_to 9 m) (forward-same 9 b (omega arith))
