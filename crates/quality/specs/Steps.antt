-- The inverse's columns, and the answers on the quality of a fit, each with its number and values. Definitions only.
use Rattle.numeric.specs.Refusal.{answer_number}
use Rattle.std.specs.Prelude.{Result, Ok, Err}
use Rattle.numeric.specs.declared.refusal.Refusal.{Refusal}
use Rattle.quality.specs.declared.figures.Figures.{Figures}
use Rattle.std.specs.Prelude.{◌≡◌, ℕ, ◌-◌, List, [], ◌∷◌, T, Float}
use Rattle.std.specs.Float.{binary64}
use Rattle.std.specs.Float.Ieee.{fits}
use Rattle.lists.specs.Memory.{before, after, Memory, LentFloats}
use Rattle.cholesky.specs.Factor.{at, UnusedPlaces, forward_to, back_to}
use Rattle.normal_equations.specs.declared.row.Row.{Row}
use Rattle.numeric.specs.Rules.{ruled}
use Rattle.quality.specs.Quality.{dilution_of, pivot_rule, quality_of}

-- ---- the inverse's columns

-- a column after the forward substitution of n unknowns: the places from n on are +0, and the last one solved is a binary64
pub record Forwarded (n : ℕ) (x : List Float) : Type 0 where
  pub places : UnusedPlaces n x
  pub last_fits : T (fits binary64 (at x (n - 1)))

-- the lent column x is solved forward, or back, by the lent factor l
abbrev pub SolvedForward : ℕ → Memory (List (List Float)) → LentFloats → Type 0
SolvedForward n l x = after x ≡ forward_to n (before l) (before x)

abbrev pub SolvedBack : Memory (List (List Float)) → LentFloats → Type 0
SolvedBack l x = after x ≡ back_to 9 (before l) (before x)

-- ---- the dilution, or the refusal

unfoldable pub dilution_found : ℕ → List Row → Result Float Refusal
dilution_found n rows = ruled Err (pivot_rule n rows ∷ []) (Ok (dilution_of n rows))

abbrev pub dilution_floats : Result Float Refusal → List Float
dilution_floats (Err r) = []
dilution_floats (Ok pdop) = pdop ∷ []

-- the answer, its number and its value are those of the rows
pub record Diluted (n : ℕ) (rows : List Row) (r : Result Float Refusal) : Type 0 where
  pub answer : r ≡ dilution_found n rows
  pub number_is : answer_number r ≡ answer_number (dilution_found n rows)
  pub floats-are : dilution_floats r ≡ dilution_floats (dilution_found n rows)

-- ---- chi and pdop, or the refusal

-- chi, pdop
abbrev pub quality_floats : Result Figures Refusal → List Float
quality_floats (Err r) = []
quality_floats (Ok f) = f.chi ∷ f.pdop ∷ []

-- the answer, its number and its values are those of the rows
pub record Qualified (n : ℕ) (rows : List Row) (r : Result Figures Refusal) : Type 0 where
  pub answer : r ≡ quality_of n rows
  pub number_is : answer_number r ≡ answer_number (quality_of n rows)
  pub floats-are : quality_floats r ≡ quality_floats (quality_of n rows)
