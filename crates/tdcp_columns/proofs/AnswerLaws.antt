-- What the displacement of columns promises, from its answer. Assumes nothing.
use Rattle.std.specs.Prelude.{Result, Ok, Err}
use Rattle.numeric.specs.Refusal.{answer_number}
use Rattle.numeric.specs.declared.refusal.Refusal.{Refusal}
use mathlib.Core.Path.{◌≡◌, refl, ap, subst}
use mathlib.Core.Bool.{Bool, true, false, cond}
use Prim.Native.Nat.{ℕ}
use native.Mathlib.Omega.{arith}
use Rattle.lists.specs.Memory.{LentNumbers}
use Rattle.numeric.specs.declared.refusal.Refusal.TheVariants.{TooMany}
use Rattle.tdcp.specs.Displacement.{displacement_of, Accepted}
use Rattle.tdcp.specs.declared.displacement.Delta.{Delta}
use Rattle.tdcp.specs.Rated.{answered_of, plain_of, RatedAccepted}
use Rattle.tdcp.specs.declared.displacement.RatedDelta.{RatedDelta}
use Rattle.tdcp.proofs.DisplacementSound.{never, displacement-accepted}
use Rattle.tdcp.proofs.RatedLaws.{plain-is, rated-finite, answered-promised}
use Rattle.tdcp_columns.specs.Displacement.{Lent, lent_input, is_fit, columns_displaced, Leaves, DisplacementAnswers}
use Rattle.tdcp_columns.specs.Steps.{ColumnsPromised, columns_answered}

module _ (l : Lent) where
  -- a displacement that was accepted is that of columns that fit
  pub columns-accepted : (d : Delta) → columns_displaced l ≡ Ok d → Accepted (lent_input l) d
  unfolding columns_displaced
  columns-accepted d = go (is_fit l)
    where
      go : (b : Bool) → cond b (displacement_of (lent_input l)) (Err TooMany) ≡ Ok d → Accepted (lent_input l) d
      go true e = displacement-accepted (lent_input l) d e
      go false e = absurd (never d TooMany e)

  -- every answer has the whole promise
  pub promised : (wanted : Bool) {r : Result RatedDelta Refusal} → r ≡ columns_answered wanted l → ColumnsPromised wanted l r
  unfolding columns_answered
  promised wanted {r} e = record { answer = e; given-finite = rated-finite (lent_input l) r (accepted (is_fit l) e); accepted = accepted (is_fit l) e }
    where
      accepted : (b : Bool) → r ≡ cond b (answered_of wanted (lent_input l)) (Err TooMany) → (d : RatedDelta) → r ≡ Ok d → RatedAccepted (lent_input l) d
      accepted true q d m = (answered-promised (lent_input l) wanted q).accepted d m
      accepted false q d m = absurd (let z : ◌≡◌ {A = ℕ} 0 1 = cc in omega arith)

  -- without its figures the answer is the displacement of the columns
  pub plain-columns : {a : Result RatedDelta Refusal} → ColumnsPromised false l a → plain_of a ≡ columns_displaced l
  unfolding columns_answered columns_displaced
  plain-columns {a} p = go (is_fit l) p.answer
    where
      go : (b : Bool) → a ≡ cond b (answered_of false (lent_input l)) (Err TooMany) → plain_of a ≡ cond b (displacement_of (lent_input l)) (Err TooMany)
      go true e = plain-is (lent_input l) e
      go false e = ap plain_of e

  -- what is left in lent memory of the answer that was given
  pub answers : {a : Result RatedDelta Refusal} {number : ℕ} {delta counts : LentNumbers} → ColumnsPromised false l a → Leaves (plain_of a) number delta counts → DisplacementAnswers l number delta counts
  answers {number = number} {delta = delta} {counts = counts} p h = record { leaves = subst (λ (d : Result Delta Refusal). Leaves d number delta counts) (plain-columns p) h; accepted = columns-accepted }

-- an answer's number is that of its displacement
pub number-plain : (a : Result RatedDelta Refusal) → answer_number (plain_of a) ≡ answer_number a
number-plain (Ok d) = refl
number-plain (Err r) = refl
