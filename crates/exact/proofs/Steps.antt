-- What the error theory goes on: each element of the factor and of the two solutions, from those before it, by binary64's operations. Assumes nothing.
use mathlib.Core.Path.{◌≡◌}
use Prim.Native.Nat.{ℕ, suc, ◌+◌, ◌-◌, ◌*◌, ◌^◌, ◌≤◌, ◌<◌}
use lib.Dec.{T}
use lib.IntN.{pos}
use lib.Ieee.{Float, binary64, div, fits}
use lib.Ieee.Scale.{finite}
use Rattle.exact.specs.Products.{less_products}
use Rattle.exact.specs.Value.{scale, magnitude, value}

-- r is the square root of s, rounded to the nearest: in units r is q * t, s * scale is m * t * t, and q, of 53 digits, is the whole number nearest to the root of m
pub record RootInUnits (s r : Float) : Type 0 where
  pub q : ℕ
  pub m : ℕ
  pub t : ℕ
  pub s-finite : T (finite s)
  pub r-finite : T (finite r)
  pub r-fits : T (fits binary64 r)
  pub s-positive : value s ≡ pos (magnitude s)
  pub r-is : value r ≡ pos (q * t)
  pub s-is : scale * magnitude s ≡ m * (t * t)
  pub large : 2 ^ 52 ≤ q
  pub low : (2 * q - 1) * (2 * q - 1) ≤ 4 * m
  pub high : 4 * m ≤ (2 * q + 1) * (2 * q + 1)

-- l is the Cholesky factor of the matrix with the lower triangle a
pub record FactorSteps (n : ℕ) (a l : ℕ → ℕ → Float) : Type 0 where
  pub below : (i j : ℕ) → i < n → j < i → l i j ≡ div binary64 (less_products (a i j) (l i) (l j) j) (l j j)
  pub diagonal : (j : ℕ) → j < n → RootInUnits (less_products (a j j) (l j) (l j) j) (l j j)

-- y solves L y = b, from the first row down
pub record ForwardSteps (n : ℕ) (l : ℕ → ℕ → Float) (b y : ℕ → Float) : Type 0 where
  pub at : (i : ℕ) → i < n → y i ≡ div binary64 (less_products (b i) (l i) y i) (l i i)

-- x solves L^T x = y, from the last row up
pub record BackwardSteps (n : ℕ) (l : ℕ → ℕ → Float) (y x : ℕ → Float) : Type 0 where
  pub at : (i : ℕ) → i < n → x i ≡ div binary64 (less_products (y i) (λ k. l (suc i + k) i) (λ k. x (suc i + k)) (n - suc i)) (l i i)
