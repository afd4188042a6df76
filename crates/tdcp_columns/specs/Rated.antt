-- Rated displacements of a caller's columns: the answer, its number, and what the lent results hold afterwards. Definitions only.
use Rattle.numeric.specs.Refusal.{answer_number}
use Rattle.std.specs.Prelude.{Result, Ok, Err}
use Rattle.numeric.specs.declared.refusal.Refusal.{Refusal}
use Rattle.std.specs.Prelude.{ℕ, ◌≡◌, cond, List, map}
use Rattle.numeric.specs.Order.{pattern_of}
use Rattle.numeric.specs.declared.refusal.Refusal.TheVariants.{TooMany}
use Rattle.lists.specs.Memory.{before, after, LentNumbers}
use Rattle.tdcp.specs.Rated.{plain_of, rated_of, rated_figures, RatedAccepted}
use Rattle.tdcp.specs.declared.displacement.RatedDelta.{RatedDelta}
use Rattle.tdcp_columns.specs.Displacement.{Lent, lent_input, is_fit, delta_after, counts_after}

-- their rated displacement. 2: one epoch has more than 64 carriers, or one of its columns is too short.
unfoldable pub columns_rated : Lent → Result RatedDelta Refusal
columns_rated l = cond (is_fit l) (rated_of (lent_input l)) (Err TooMany)

-- the patterns of chi and pdop; a refusal changes no bit of them
abbrev pub quality_after : Result RatedDelta Refusal → List ℕ → List ℕ
quality_after (Err r) old = old
quality_after (Ok d) old = map pattern_of (rated_figures (Ok d))

-- the number and the lent results afterwards are those of the answer a
pub record RatedLeaves (a : Result RatedDelta Refusal) (number : ℕ) (delta quality counts : LentNumbers) : Type 0 where
  pub number_is : number ≡ answer_number a
  pub delta-is : after delta ≡ delta_after (plain_of a) (before delta)
  pub quality-is : after quality ≡ quality_after a (before quality)
  pub counts-are : after counts ≡ counts_after (plain_of a) (before counts)

-- The number and the lent results afterwards are those of the rated displacement of what is lent. An accepted one has what an accepted displacement has, demand 3 of
-- every round included, and two finite figures.
pub record RatedAnswers (l : Lent) (number : ℕ) (delta quality counts : LentNumbers) : Type 0 where
  pub leaves : RatedLeaves (columns_rated l) number delta quality counts
  pub accepted : (d : RatedDelta) → columns_rated l ≡ Ok d → RatedAccepted (lent_input l) d
