-- What demand 3 asks of one system of nine equations: a is the matrix, by its lower triangle, b the right side, l the factor and x the solution. Definitions only.
use Rattle.std.specs.Prelude.{ℕ, ◌<◌, List, T, Float}
use Rattle.std.specs.Float.Ieee.Scale.{finite}
use Rattle.exact.specs.Accuracy.{entry, Accurate}
use Rattle.cholesky.specs.Factor.{at, cell}

-- matrix, right side, factor and solution are finite, and taken as exact numbers a x differs from b in each of the nine rows by no more than `Accurate` allows
pub record SoundSystem (a : List (List Float)) (b : List Float) (l : List (List Float)) (x : List Float) : Type 0 where
  pub matrix-finite : (i j : ℕ) → i < 9 → j < 9 → T (finite (entry (cell a) i j))
  pub right-finite : (i : ℕ) → i < 9 → T (finite (at b i))
  pub factor-finite : (i j : ℕ) → i < 9 → j < 9 → T (finite (cell l i j))
  pub step-finite : (i : ℕ) → i < 9 → T (finite (at x i))
  pub accurate : Accurate 9 (cell a) (cell l) (at b) (at x)
