-- What the calls on a matrix answer, from what factoring it gives. Definitions only.
use Rattle.numeric.specs.Refusal.{answer_number}
use Rattle.std.specs.Prelude.{Result, Ok, Err, ⊤}
use Rattle.numeric.specs.declared.refusal.Refusal.{Refusal}
use Rattle.std.specs.Prelude.{ℕ, ◌≡◌, Bool, true, false, List, Float}
use Rattle.numeric.specs.Refusal.{number_of}
use Rattle.numeric.specs.declared.refusal.Refusal.TheVariants.{FitFailed}
use Rattle.cholesky.specs.Factor.{Factored, Refused, Lower, factor_of}

abbrev pub accepted : Factored → Bool
accepted Refused = false
accepted (Lower l) = true

-- a refused pivot is number 10
abbrev pub factoring_of : Factored → Result ⊤ Refusal
factoring_of Refused = Err FitFailed
factoring_of (Lower l) = Ok tt

-- what the lent rows m hold afterwards: the factor, or what they held
abbrev pub rows_after : Factored → List (List Float) → List (List Float)
rows_after Refused m = m
rows_after (Lower l) m = l

-- the answer, its number and the lent rows, which are m before and l afterwards, are those of the matrix a
pub record FactorPromised (a : List (List Float)) (r : Result ⊤ Refusal) (m l : List (List Float)) : Type 0 where
  pub answer : r ≡ factoring_of (factor_of a)
  pub number_is : answer_number r ≡ answer_number (factoring_of (factor_of a))
  pub rows_are : l ≡ rows_after (factor_of a) m
