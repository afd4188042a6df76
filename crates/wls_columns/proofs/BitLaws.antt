-- The patterns of nine floats and of an accepted factor. Assumes nothing.
use Prim.Native.Nat.{ℕ, zero, suc, ◌≤◌, ◌<◌}
use native.Mathlib.Omega.{arith}
use native.Mathlib.Decide.{ℕ_discrete}
use mathlib.Core.Path.{◌≡◌, refl, sym, ap, ◌∙◌, subst}
use mathlib.Core.Bool.{Bool, true, false, cond}
use mathlib.Core.List.{List, [], ◌∷◌, map}
use lib.Dec.{T}
use lib.ListN.{length, set, get_or, length-set, replicate, get_or-replicate}
use lib.Seq.{get_or-set_same, get_or-set_other}
use lib.Ieee.{Float, fin, is_nan, binary64, to_bits, nan, inf}
use lib.Ieee.Scale.{finite}
use Rattle.numeric.specs.Order.{pattern_of}
use Rattle.numeric.proofs.OrderLaws.{pattern_bits}
use Rattle.exact.specs.Float.{◌⊘◌}
use Rattle.exact.specs.Products.{less_products}
use Rattle.root.specs.Root.{root_of}
use Rattle.cholesky.specs.Factor.{at, row, cell, zeros, is_pivot, with_element, below, pivot_of, row_of, Factored, Refused, Lower, next_row, factor_to, factor_of}
use Rattle.cholesky.specs.Answer.{accepted, rows_after}
use Rattle.wls_columns.specs.Bits.{patterns_after}
use Rattle.wls_columns.specs.Steps.{FiniteSquare}
use Rattle.cholesky.proofs.FactorElements.{Rows, factor_to-rows}
use Rattle.cholesky.proofs.FactorFinite.{factor-finite}

-- ---- a float that is finite

pub finite_number : (v : Float) → T (finite v) → is_nan v ≡ false
unfolding is_nan
finite_number nan h = elim h [ ]
finite_number (inf s) h = elim h [ ]
finite_number (fin s m e) h = refl

pub finite_pattern : (v : Float) → to_bits binary64 v ≡ pattern_of v
finite_pattern v = sym (pattern_bits v)

below_length : (j : ℕ) (l : List (List Float)) (a : List Float) → length (below j l a) ≡ 9
unfolding below with_element
below_length zero l a = refl
below_length (suc j) l a = length-set (below j l a) j (less_products (at a j) (at (below j l a)) (cell l j) j ⊘ cell l j j) ∙ below_length j l a

row-length : (n : ℕ) (m : List (List Float)) (a : List Float) → length (row_of n m a) ≡ 9
unfolding row_of
row-length n m a = length-set (below n m a) n (root_of (pivot_of n m a)) ∙ below_length n m a

-- ---- nine floats and nine rows

-- the list of what f gives of the first n places
listed : {A : Type 0} → ℕ → (ℕ → A) → List A
listed zero f = []
listed (suc n) f = f 0 ∷ listed n (λ k. f (suc k))

listed-is : {A : Type 0} (xs : List A) (d : A) → xs ≡ listed (length xs) (λ k. get_or xs k d)
unfolding listed
listed-is [] d = refl
listed-is (x ∷ xs) d = ap (λ r. x ∷ r) (listed-is xs d)

-- what f gives of nine elements
module _ {A B : Type 0} (f : A → B) (d : A) (xs : List A) (nine : length xs ≡ 9) where
  pub nine-mapped : {r0 r1 r2 r3 r4 r5 r6 r7 r8 : B}
      → r0 ≡ f (get_or xs 0 d)
      → r1 ≡ f (get_or xs 1 d)
      → r2 ≡ f (get_or xs 2 d)
      → r3 ≡ f (get_or xs 3 d)
      → r4 ≡ f (get_or xs 4 d)
      → r5 ≡ f (get_or xs 5 d)
      → r6 ≡ f (get_or xs 6 d)
      → r7 ≡ f (get_or xs 7 d)
      → r8 ≡ f (get_or xs 8 d)
      → r0 ∷ r1 ∷ r2 ∷ r3 ∷ r4 ∷ r5 ∷ r6 ∷ r7 ∷ r8 ∷ [] ≡ map f xs
  unfolding listed
  nine-mapped e0 e1 e2 e3 e4 e5 e6 e7 e8 =
      rw (e0, e1, e2, e3, e4, e5, e6, e7, e8) (sym (ap (map f) (listed-is xs d ∙ ap (λ k. listed k (λ i. get_or xs i d)) nine)))

-- ---- an accepted factor

-- each of its rows has nine places
wide-to : (n : ℕ) (a l : List (List Float)) → n ≤ 9 → factor_to n a ≡ Lower l → (i : ℕ) → i < 9 → length (row l i) ≡ 9
unfolding factor_to next_row
wide-to zero a l b e i ib = let q : replicate 9 zeros ≡ l = cc in subst (λ (z : List (List Float)). length (row z i) ≡ 9) q (ap length (get_or-replicate 9 i zeros [] ib))
wide-to (suc n) a l b e i ib = go (factor_to n a) (λ m. wide-to n a m (omega arith)) (λ m. factor_to-rows n a m (omega arith)) e
  where
    at_row : (m : List (List Float)) → length m ≡ 9 → length (row m i) ≡ 9 → Dec (i ≡ n) → length (row (set m n (row_of n m (row a n))) i) ≡ 9
    at_row m nine w (yes q) =
        ap length (ap (λ (k : ℕ). row (set m n (row_of n m (row a n))) k) q ∙ get_or-set_same m n (row_of n m (row a n)) [] (omega arith)) ∙ row-length n m (row a n)
    at_row m nine w (no q) = ap length (get_or-set_other m n i (row_of n m (row a n)) [] q) ∙ w

    next-wide : (m : List (List Float)) (p : Bool) → length m ≡ 9 → length (row m i) ≡ 9 → cond p (Lower (set m n (row_of n m (row a n)))) Refused ≡ Lower l → length (row l i) ≡ 9
    next-wide m true nine w q = let z : set m n (row_of n m (row a n)) ≡ l = cc in subst (λ (k : List (List Float)). length (row k i) ≡ 9) z (at_row m nine w (ℕ_discrete i n))
    next-wide m false nine w q = absurd (let z : ◌≡◌ {A = ℕ} 0 1 = cc in omega arith)

    go : (w : Factored) → ((m : List (List Float)) → w ≡ Lower m → (i : ℕ) → i < 9 → length (row m i) ≡ 9) → ((m : List (List Float)) → w ≡ Lower m → Rows n a m)
        → next_row a n w ≡ Lower l → length (row l i) ≡ 9
    go Refused h k q = absurd (let z : ◌≡◌ {A = ℕ} 0 1 = cc in omega arith)
    go (Lower m) h k q = next-wide m (is_pivot (pivot_of n m (row a n))) (k m refl).nine (h m refl i ib) q

pub factor-all-finite : (a l : List (List Float)) → factor_of a ≡ Lower l → FiniteSquare l
unfolding factor_of
factor-all-finite a l e =
    record { rows = (factor_to-rows 9 a l (omega arith) e).nine; wide = wide-to 9 a l (omega arith) e; finite-at = factor-finite a l e }

-- what a caller of the factorisation goes on
module _ (a m z : List (List Float)) (done : true ≡ accepted (factor_of a)) (m-is : m ≡ rows_after (factor_of a) z) where
  pub factored : factor_of a ≡ Lower m
  factored = go (factor_of a) done m-is
    where
      go : (w : Factored) → true ≡ accepted w → m ≡ rows_after w z → w ≡ Lower m
      go Refused d e = absurd (let y : ◌≡◌ {A = ℕ} 0 1 = cc in omega arith)
      go (Lower l) d e = ap Lower (sym e)

  -- its patterns, from those of its rows
  pub patterns-done : {r0 r1 r2 r3 r4 r5 r6 r7 r8 : List ℕ}
      → r0 ≡ map pattern_of (row m 0)
      → r1 ≡ map pattern_of (row m 1)
      → r2 ≡ map pattern_of (row m 2)
      → r3 ≡ map pattern_of (row m 3)
      → r4 ≡ map pattern_of (row m 4)
      → r5 ≡ map pattern_of (row m 5)
      → r6 ≡ map pattern_of (row m 6)
      → r7 ≡ map pattern_of (row m 7)
      → r8 ≡ map pattern_of (row m 8)
      → (before : List (List ℕ)) → r0 ∷ r1 ∷ r2 ∷ r3 ∷ r4 ∷ r5 ∷ r6 ∷ r7 ∷ r8 ∷ [] ≡ patterns_after (factor_of a) before
  patterns-done e0 e1 e2 e3 e4 e5 e6 e7 e8 before =
      nine-mapped (map pattern_of) [] m (factor-all-finite a m factored).rows e0 e1 e2 e3 e4 e5 e6 e7 e8 ∙ sym (ap (λ (w : Factored). patterns_after w before) factored)

pub patterns-refused : (w : Factored) (before : List (List ℕ)) → false ≡ accepted w → before ≡ patterns_after w before
patterns-refused Refused before e = refl
patterns-refused (Lower l) before e = absurd (let z : ◌≡◌ {A = ℕ} 0 1 = cc in omega arith)
