-- The matrix of n unknowns before any row is added, as the code marks it. Assumes nothing.
use mathlib.Core.Path.{◌≡◌, refl, sym, ap, ◌∙◌, subst}
use Prim.Native.Nat.{ℕ, ◌+◌, ◌≤◌, ◌<◌}
use native.Mathlib.Decide.{ℕ_discrete, dec_lt}
use native.Mathlib.Omega.{arith}
use mathlib.Core.Bool.{cond, ◌&&◌}
use mathlib.Core.List.{List}
use lib.Dec.{leb, eqb}
use borrow.Author.Tests.{le-leb, lt-leb, eq-eqb, ne_eqb}
use lib.ListN.{length, replicate, get_or-replicate}
use lib.Ieee.{Float, nan}
use Rattle.exact.specs.Float.{+0, 1·0}
use Rattle.cholesky.specs.Factor.{at, cell}
use Rattle.normal_equations.specs.Nine.{Square}
use Rattle.cholesky.specs.Steps.{store}
use Rattle.normal_equations.specs.Steps.{unused}
use Rattle.normal_equations.proofs.NineLaws.{square-is, square-store, cell_same, cell_other}

-- the diagonal has 1 from n up to, not including, i
pub record Marking (n i : ℕ) (a : List (List Float)) : Type 0 where
  pub square : Square a
  pub marked : (p : ℕ) → n ≤ p → p < i → cell a p p ≡ 1·0
  pub rest : (p q : ℕ) → p < 9 → q < 9 → (p ≡ q → n ≤ p → p < i → ⊥) → cell a p q ≡ +0

abbrev zero_square : List (List Float)
zero_square = replicate 9 (replicate 9 +0)

pub marking_start : (n : ℕ) → Marking n n zero_square
marking_start n =
    record {
      square = record { long = refl; wide = λ p pb. ap length (get_or-replicate 9 p (replicate 9 +0) _ pb) };
      marked = λ p h k. absurd (let z : n < n = omega arith in omega arith);
      rest = λ p q pb qb _. ap (λ (z : List Float). at z q) (get_or-replicate 9 p (replicate 9 +0) _ pb) ∙ get_or-replicate 9 q +0 nan qb;
    }

pub marking_next : (n i : ℕ) (a : List (List Float)) → n ≤ i → i < 9 → Marking n i a → Marking n (i + 1) (store a i i 1·0)
marking_next n i a h ib m =
    record {
      square = square-store a m.square i i 1·0 ib;
      marked = λ p l u. one p l u (ℕ_discrete p i);
      rest = λ p q pb qb no. cell_other a m.square i i 1·0 ib p q (λ e f. no (e ∙ sym f) (omega arith) (omega arith)) ∙ m.rest p q pb qb (λ e l u. no e l (omega arith));
    }
  where
    one : (p : ℕ) → n ≤ p → p < i + 1 → Dec (p ≡ i) → cell (store a i i 1·0) p p ≡ 1·0
    one p l u (yes e) = rw e (cell_same a m.square i i 1·0 ib ib)
    one p l u (no e) = cell_other a m.square i i 1·0 ib p p (λ x y. e x) ∙ m.marked p l (omega arith)

pub marking_end : (n i : ℕ) (a : List (List Float)) → 9 ≤ i → Marking n i a → a ≡ unused n
unfolding unused
marking_end n i a h m = square-is (λ i j. cond (leb n i && eqb i j) 1·0 +0) a m.square (λ p q pb qb. go p q pb qb (ℕ_discrete p q) (dec_lt p n))
  where
    go : (p q : ℕ) → p < 9 → q < 9 → Dec (p ≡ q) → Dec (p < n) → cell a p q ≡ cond (leb n p && eqb p q) 1·0 +0
    go p q pb qb d (yes l) = m.rest p q pb qb (λ e u v. omega arith) ∙ rw (lt-leb n p l)
    go p q pb qb (yes e) (no l) = let u : n ≤ p = omega arith in subst (λ (z : ℕ). cell a p z ≡ cond (leb n p && eqb p z) 1·0 +0) e (m.marked p u (omega arith) ∙ rw (le-leb n p u, eq-eqb p p refl))
    go p q pb qb (no e) (no l) = let u : n ≤ p = omega arith in m.rest p q pb qb (λ x y z. e x) ∙ rw (le-leb n p u, ne_eqb p q e)
