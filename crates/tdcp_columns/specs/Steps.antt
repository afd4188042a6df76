-- What the functions on a caller's columns return in between. No promise to a caller names these. Definitions only.
use Rattle.std.specs.Prelude.{Result, Ok, Err}
use Rattle.numeric.specs.declared.refusal.Refusal.{Refusal}
use Rattle.std.specs.Prelude.{ℕ, ◌≡◌, Bool, true, cond, List, ◌++◌}
use Rattle.std.specs.Float.Ieee.Scale.{finite}
use Rattle.lists.specs.Walk.{every}
use Rattle.numeric.specs.declared.refusal.Refusal.TheVariants.{TooMany}
use Rattle.records.specs.Carriers.{CarrierColumns, epoch_fits}
use Rattle.records.specs.Steps.{Signalled}
use Rattle.tdcp.specs.Rated.{answered_of, rated_floats, rated_figures, RatedAccepted}
use Rattle.tdcp.specs.declared.displacement.RatedDelta.{RatedDelta}
use Rattle.tdcp_columns.specs.Displacement.{Lent, lent_input, is_fit}

-- whether n carriers of the columns fit, and then their signals
pub record FitInto (c : CarrierColumns) (n : ℕ) (r : Bool) (signals : List ℕ) : Type 0 where
  pub fits : r ≡ epoch_fits c n
  pub signalled : r ≡ true → Signalled c.constellation c.svid c.band n signals

-- the answer of columns, with its figures on request
unfoldable pub columns_answered : Bool → Lent → Result RatedDelta Refusal
columns_answered wanted l = cond (is_fit l) (answered_of wanted (lent_input l)) (Err TooMany)

-- the answer is the definition's, every float of it is finite, and an accepted one has all that an accepted displacement has
pub record ColumnsPromised (wanted : Bool) (l : Lent) (r : Result RatedDelta Refusal) : Type 0 where
  pub answer : r ≡ columns_answered wanted l
  pub given-finite : every finite (rated_floats r ++ rated_figures r) ≡ true
  pub accepted : (d : RatedDelta) → r ≡ Ok d → RatedAccepted (lent_input l) d
