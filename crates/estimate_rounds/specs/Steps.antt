-- The answer of the rounds, and the lent state. Definitions only.
use Rattle.numeric.specs.Refusal.{answer_number}
use Rattle.std.specs.Prelude.{Result, Ok, Err, ⊤}
use Rattle.numeric.specs.declared.refusal.Refusal.{Refusal}
use Rattle.std.specs.Prelude.{◌≡◌, List, Float}
use Rattle.estimate_rounds.specs.Rounds.{End, Stopped, Reached, state_after}

-- the check of where the rounds end
abbrev pub check_of : End → Result ⊤ Refusal
check_of (Stopped r) = Err r
check_of (Reached z) = Ok tt

-- the answer, its number and the lent state, which is x before and y afterwards, are those of the end
pub record Ended (e : End) (answer : Result ⊤ Refusal) (x y : List Float) : Type 0 where
  pub answer-is : answer ≡ check_of e
  pub number_is : answer_number answer ≡ answer_number (check_of e)
  pub state-is : y ≡ state_after e x
