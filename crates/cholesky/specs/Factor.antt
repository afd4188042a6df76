-- The Cholesky factor of a matrix of nine rows, and the solution by it, in the reference's order of operations (matrix.rs, `Cholesky::new` and its `solve`). Definitions only.
-- A matrix is the list of its rows, a column the list of its floats. Each definition counts its steps: the last clause is what one step more adds.
use Rattle.std.specs.Prelude.{ℕ, zero, suc, ◌+◌, ◌-◌, ◌≤◌, ◌<◌, ◌≡◌, List, [], Bool, cond, ◌&&◌, get_or, set, replicate, Float}
use Rattle.std.specs.Float.{nan}
use Rattle.std.specs.Float.Ieee.{lt}
use Rattle.std.specs.Float.Ieee.Scale.{finite}
use Rattle.exact.specs.Float.{◌⊘◌, +0, 1·0}
use Rattle.exact.specs.Products.{less_products}
use Rattle.root.specs.Root.{root_of}

-- the float at place k of a row or a column, row i of a matrix, and its cell in row i and column j
abbrev pub at : List Float → ℕ → Float
at x k = get_or x k nan

abbrev pub row : List (List Float) → ℕ → List Float
row m i = get_or m i []

abbrev pub cell : List (List Float) → ℕ → ℕ → Float
cell m i j = at (row m i) j

-- nine zeros
abbrev pub zeros : List Float
zeros = replicate 9 +0

-- ---- the factor

-- a pivot that is not finite or not above 0 is refused
unfoldable pub is_pivot : Float → Bool
is_pivot p = finite p && lt +0 p

-- Row r of the factor with its element at j: that of the matrix's row a, less the products with row j of the factor l, divided by that row's diagonal.
unfoldable pub with_element : List (List Float) → List Float → ℕ → List Float → List Float
with_element l a j r = set r j (less_products (at a j) (at r) (cell l j) j ⊘ cell l j j)

-- a row's elements below the diagonal, from the first up to, not including, place j
unfoldable pub below : ℕ → List (List Float) → List Float → List Float
below zero l a = zeros
below (suc j) l a = with_element l a j (below j l a)

-- the pivot of row i, where l has the rows above it and a is row i of the matrix
unfoldable pub pivot_of : ℕ → List (List Float) → List Float → Float
pivot_of i l a = less_products (at a i) (at (below i l a)) (at (below i l a)) i

-- row i of the factor: its diagonal is the root of the pivot
unfoldable pub row_of : ℕ → List (List Float) → List Float → List Float
row_of i l a = set (below i l a) i (root_of (pivot_of i l a))

-- what factoring a matrix gives
pub data Factored : Type 0 where
  Refused : Factored
  Lower : List (List Float) → Factored

-- one row more
unfoldable pub next_row : List (List Float) → ℕ → Factored → Factored
next_row a i Refused = Refused
next_row a i (Lower l) = cond (is_pivot (pivot_of i l (row a i))) (Lower (set l i (row_of i l (row a i)))) Refused

-- the first n rows of the factor, and zeros below them
unfoldable pub factor_to : ℕ → List (List Float) → Factored
factor_to zero a = Lower (replicate 9 zeros)
factor_to (suc i) a = next_row a i (factor_to i a)

unfoldable pub factor_of : List (List Float) → Factored
factor_of a = factor_to 9 a

-- ---- the solution by a factor

-- x with its element at i solved: less the products of row i of the factor with what is solved above it, divided by the diagonal
unfoldable pub with_forward : List (List Float) → ℕ → List Float → List Float
with_forward l i x = set x i (less_products (at x i) (cell l i) (at x) i ⊘ cell l i i)

-- the first n steps of the forward substitution, L y = b
unfoldable pub forward_to : ℕ → List (List Float) → List Float → List Float
forward_to zero l b = b
forward_to (suc i) l b = with_forward l i (forward_to i l b)

-- x with its element at i solved: less the products of column i of the factor with what is solved below it, divided by the diagonal
unfoldable pub with_back : List (List Float) → ℕ → List Float → List Float
with_back l i x = set x i (less_products (at x i) (λ k. cell l (i + 1 + k) i) (λ k. at x (i + 1 + k)) (8 - i) ⊘ cell l i i)

-- the first n steps of the back substitution, Lᵀ x = y, from the last row up
unfoldable pub back_to : ℕ → List (List Float) → List Float → List Float
back_to zero l y = y
back_to (suc n) l y = with_back l (8 - n) (back_to n l y)

unfoldable pub solution_of : List (List Float) → List Float → List Float
solution_of l b = back_to 9 l (forward_to 9 l b)

-- ---- unused unknowns

-- the unknowns from n on are unused: in the lower triangle of the matrix or the factor m their rows are the identity's
pub record Unused (n : ℕ) (m : List (List Float)) : Type 0 where
  pub diagonal-is : (i : ℕ) → n ≤ i → i < 9 → cell m i i ≡ 1·0
  pub below-is : (i j : ℕ) → n ≤ i → i < 9 → j < i → cell m i j ≡ +0

-- the places from n on of a column are +0
pub record UnusedPlaces (n : ℕ) (b : List Float) : Type 0 where
  pub zero-at : (i : ℕ) → n ≤ i → i < 9 → at b i ≡ +0
