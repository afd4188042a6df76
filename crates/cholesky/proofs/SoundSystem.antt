-- THE LAW of accuracy, for every matrix and right side: where the matrix is not refused and the first element of the solution is finite, all is finite, and the solution is accurate.
-- Beneath the first element stand all the others, the forward solution and the right side: a finite quotient has a finite dividend, and a finite difference finite terms. Assumes nothing.
use mathlib.Core.Path.{◌≡◌, sym, subst}
use mathlib.Core.Logic.{◌⊎◌, inl, inr}
use Prim.Native.Nat.{ℕ, zero, suc, ◌+◌, ◌-◌, ◌≤◌, ◌<◌}
use native.Mathlib.Nat.{le_refl, le_of_lt, eq-or-lt_of_le}
use native.Mathlib.Omega.{arith}
use mathlib.Core.Bool.{Bool, true, false, not, cond}
use mathlib.Core.List.{List}
use lib.ListN.{length}
use lib.Dec.{T, leb, leb→le, nleb→lt}
use lib.Ieee.{Float, binary64, fits}
use lib.Ieee.Scale.{finite}
use Rattle.exact.specs.Accuracy.{entry}
use Rattle.exact.specs.Products.{less_products}
use Rattle.exact.proofs.Steps.{RootInUnits, FactorSteps, ForwardSteps, BackwardSteps}
use Rattle.cholesky.specs.Factor.{at, cell, forward_to, Lower, factor_of, solution_of}
use Rattle.cholesky.proofs.FactorFinite.{factor-finite}
use Rattle.cholesky.specs.Sound.{SoundSystem}
use Rattle.exact.proofs.Ops.{div-finite}
use Rattle.exact.proofs.Products.{less-fits, less-start, less-finite}
use Rattle.exact.proofs.Solve.{sharper}
use Rattle.exact.proofs.Accuracy.{accurate-of}
use Rattle.cholesky.proofs.FactorElements.{Elements, elements, forward-is, forward-length, backward-is}
use Rattle.cholesky.proofs.Rooted.{pivot-root}

-- the lower triangle and the right side are binary64s, as every float of a program is
pub record Held (a : List (List Float)) (b : List Float) : Type 0 where
  pub matrix-fits : (i j : ℕ) → i < 9 → j ≤ i → T (fits binary64 (cell a i j))
  pub right-fits : (i : ℕ) → i < 9 → T (fits binary64 (at b i))

module _ (a l : List (List Float)) (b : List Float) (nine : length b ≡ 9) (e : factor_of a ≡ Lower l) (held : Held a b) where
  E : Elements a l
  E = elements a l e

  y : List Float
  y = forward_to 9 l b

  factored : FactorSteps 9 (cell a) (cell l)
  factored =
      record {
        below = λ i j ib jb. E.below-is i j ib jb;
        diagonal = λ i ib. subst (RootInUnits (less_products (cell a i i) (cell l i) (cell l i) i)) (sym (E.diagonal-is i ib)) (pivot-root (less_products (cell a i i) (cell l i) (cell l i) i) (less-fits (cell a i i) (cell l i) (cell l i) i (held.matrix-fits i i ib (le_refl i))) (E.pivot-is i ib));
      }

  forth : ForwardSteps 9 (cell l) (at b) (at y)
  unfolding y
  forth = forward-is l b nine

  back : BackwardSteps 9 (cell l) (at y) (at (solution_of l b))
  unfolding y solution_of
  back = backward-is l (forward_to 9 l b) (forward-length l b nine)

  -- the factor
  entries-finite : (i j : ℕ) → i < 9 → j < 9 → T (finite (cell l i j))
  entries-finite i j ib jb = factor-finite a l e i j ib jb

  -- the matrix's lower triangle: each element under a quotient or a root that is finite
  lower-finite : (i j : ℕ) → i < 9 → j ≤ i → T (finite (cell a i j))
  lower-finite i j ib jb = go (eq-or-lt_of_le jb)
    where
      go : (j ≡ i) ⊎ (j < i) → T (finite (cell a i j))
      go (inl q) = subst (λ (z : ℕ). T (finite (cell a i z))) (sym q) (less-start (cell a i i) (cell l i) (cell l i) i (factored.diagonal i ib).s-finite)
      go (inr q) = less-start (cell a i j) (cell l i) (cell l j) j (div-finite (less_products (cell a i j) (cell l i) (cell l j) j) (cell l j j) (subst (λ (z : Float). T (finite z)) (E.below-is i j ib q) (entries-finite i j ib (omega arith))))

  entry-finite : (i j : ℕ) → i < 9 → j < 9 → T (finite (entry (cell a) i j))
  entry-finite i j ib jb = go (leb j i) (leb→le j i) (nleb→lt j i)
    where
      go : (t : Bool) → (T t → j ≤ i) → (T (not t) → i < j) → T (finite (cond t (cell a i j) (cell a j i)))
      go true m k = lower-finite i j ib (m tt)
      go false m k = lower-finite j i jb (le_of_lt (k tt))

  module _ (f : T (finite (at (solution_of l b) 0))) where
    x : ℕ → Float
    x k = at (solution_of l b) k

    -- under x 0 stand all the others, and y's first
    top : T (finite (less_products (at y 0) (λ k. cell l (suc 0 + k) 0) (λ k. at (solution_of l b) (suc 0 + k)) 8))
    top = div-finite (less_products (at y 0) (λ k. cell l (suc 0 + k) 0) (λ k. at (solution_of l b) (suc 0 + k)) 8) (cell l 0 0) (subst (λ (z : Float). T (finite z)) (back.at 0 (omega arith)) f)

    x-finite : (k : ℕ) → k < 9 → T (finite (at (solution_of l b) k))
    x-finite zero kb = f
    x-finite (suc k) kb =
        let q : suc 0 + k ≡ suc k = omega arith in
        subst (λ (z : ℕ). T (finite (at (solution_of l b) z))) q (less-finite (at y 0) (λ k. cell l (suc 0 + k) 0) (λ k. at (solution_of l b) (suc 0 + k)) 8 top k (omega arith)).1

    pub forward-finite : (i : ℕ) → i < 9 → T (finite (at (forward_to 9 l b) i))
    unfolding y
    forward-finite i ib =
        let p : ℕ → Float = λ k. cell l (suc i + k) i in
        let q : ℕ → Float = λ k. at (solution_of l b) (suc i + k) in
        less-start (at y i) p q (9 - suc i) (div-finite (less_products (at y i) p q (9 - suc i)) (cell l i i) (subst (λ (z : Float). T (finite z)) (back.at i ib) (x-finite i ib)))

    b-finite : (i : ℕ) → i < 9 → T (finite (at b i))
    unfolding y
    b-finite i ib = less-start (at b i) (cell l i) (at y) i (div-finite (less_products (at b i) (cell l i) (at y) i) (cell l i i) (subst (λ (z : Float). T (finite z)) (forth.at i ib) (forward-finite i ib)))

    pub sound : SoundSystem a b l (solution_of l b)
    unfolding y
    sound =
        record {
          matrix-finite = entry-finite;
          right-finite = b-finite;
          factor-finite = entries-finite;
          step-finite = x-finite;
          accurate = accurate-of 9 (cell a) (cell l) (at b) (at (solution_of l b)) (sharper 9 (le_refl 9) (cell a) (cell l) (at b) (at y) (at (solution_of l b)) factored forth back held.matrix-fits held.right-fits x-finite);
        }
