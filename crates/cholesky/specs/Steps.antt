-- The steps of factoring by columns, in place: the lent rows after each. Definitions only.
use Rattle.std.specs.Prelude.{ℕ, zero, suc, ◌+◌, ◌≡◌, Bool, true, false, List, set, Float}
use Rattle.exact.specs.Float.{◌⊘◌, 1·0}
use Rattle.exact.specs.Products.{less_products}
use Rattle.cholesky.specs.Factor.{row, cell, factor_of, Unused}
use Rattle.cholesky.specs.Answer.{accepted, rows_after}

-- w with v in row i and column j
abbrev pub store : List (List Float) → ℕ → ℕ → Float → List (List Float)
store w i j v = set w i (set (row w i) j v)

-- row i of the matrix a at column j, less the first c products of rows i and j of w
abbrev pub sum_of : ℕ → ℕ → ℕ → List (List Float) → List (List Float) → Float
sum_of c i j a w = less_products (cell a i j) (cell w i) (cell w j) c

-- column j of w with k elements made, from row i on, over the diagonal d
unfoldable pub filled : ℕ → ℕ → Float → ℕ → List (List Float) → List (List Float) → List (List Float)
filled zero j d i a w = w
filled (suc k) j d i a w = store (filled k j d i a w) (i + k) j (sum_of j (i + k) j a (filled k j d i a w) ⊘ d)

-- w with 1 on the diagonal of k rows, from row i on
unfoldable pub ones_marked : ℕ → ℕ → List (List Float) → List (List Float)
ones_marked zero i w = w
ones_marked (suc k) i w = store (ones_marked k i w) (i + k) (i + k) 1·0

-- the answer of factoring the matrix a of n used unknowns in the rows w, which are l afterwards
pub record FactoredUsed (n : ℕ) (a w : List (List Float)) (r : Bool) (l : List (List Float)) : Type 0 where
  pub answer : r ≡ accepted (factor_of a)
  pub rows_are : r ≡ true → l ≡ rows_after (factor_of a) w
  pub unused : r ≡ true → Unused n l
  pub unchanged : r ≡ false → l ≡ w
