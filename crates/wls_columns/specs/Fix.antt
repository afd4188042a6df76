-- The fix of a caller's columns: its number, and the lent results afterwards. Definitions only.
use Rattle.numeric.specs.Refusal.{answer_number}
use Rattle.std.specs.Prelude.{Result, Ok, Err}
use Rattle.numeric.specs.declared.refusal.Refusal.{Refusal}
use Rattle.std.specs.Prelude.{ℕ, ◌≡◌, cond, List, map, get_or, Float}
use Rattle.std.specs.Float.{nan}
use Rattle.numeric.specs.Order.{pattern_of}
use Rattle.numeric.specs.declared.refusal.Refusal.TheVariants.{TooMany}
use Rattle.numeric.specs.declared.vec3.Vec3.{Vec3}
use Rattle.wls.specs.declared.fix.Settings.{Settings}
use Rattle.wls.specs.Fix as fix
use Rattle.wls.specs.Fix.{fix_of, position_of, fix_floats, fix_counts, position_floats}
use Rattle.wls.specs.declared.fix.Solution.{Solution}
use Rattle.wls_columns.specs.Columns.{ObservationColumns, observations_of, observations_fit}

-- ---- a fix

-- four floats (sigma_a, sigma_b, huber, mask) and the rounds
abbrev pub fix_settings : List Float → ℕ → Settings
fix_settings s rounds =
    record { sigma_a = get_or s 0 nan; sigma_b = get_or s 1 nan; huber = get_or s 2 nan; mask = get_or s 3 nan; rounds = rounds }

-- the input of a fix: the first n observations
abbrev pub fix_input : ObservationColumns → ℕ → Vec3 → Settings → fix.Input
fix_input c n guess settings = record { observations = observations_of c n; guess = guess; settings = settings }

-- The fix of that input. 2: there are more than 64, or a column is too short.
unfoldable pub column_fix_of : ObservationColumns → ℕ → Vec3 → Settings → Result Solution Refusal
column_fix_of c n guess settings = cond (observations_fit c n) (fix_of (fix_input c n guess settings)) (Err TooMany)

-- ---- the answer in lent memory: the patterns of x, y, z, chi and pdop, and the number of observations used; a refusal leaves every bit

abbrev pub solution_after : Result Solution Refusal → List ℕ → List ℕ
solution_after (Err r) before = before
solution_after (Ok s) before = map pattern_of (fix_floats (Ok s))

abbrev pub used_after : Result Solution Refusal → ℕ → ℕ
used_after f before = get_or (fix_counts f) 0 before

-- the number and the lent results afterwards are those of the fix f
pub record FixLeaves (f : Result Solution Refusal) (number : ℕ) (solution₀ solution : List ℕ) (used₀ used : ℕ) : Type 0 where
  pub number_is : number ≡ answer_number f
  pub solution-is : solution ≡ solution_after f solution₀
  pub used-is : used ≡ used_after f used₀

-- The number and the lent results afterwards are those of the fix of the columns. An accepted one has everything that an accepted fix has, demand 3 included.
pub record FixAnswers (c : ObservationColumns) (n : ℕ) (guess : Vec3) (settings : Settings) (number : ℕ) (solution₀ solution : List ℕ) (used₀ used : ℕ) : Type 0 where
  pub leaves : FixLeaves (column_fix_of c n guess settings) number solution₀ solution used₀ used
  pub accepted : (v : Solution) → column_fix_of c n guess settings ≡ Ok v → fix.Accepted (fix_input c n guess settings) v

-- ---- the position alone: the patterns of x, y and z; a refusal leaves every bit

abbrev pub position_after : Result Vec3 Refusal → List ℕ → List ℕ
position_after (Err r) before = before
position_after (Ok p) before = map pattern_of (position_floats (Ok p))

-- the number and the lent result afterwards are those of the position of the fix f
pub record PositionLeaves (f : Result Solution Refusal) (number : ℕ) (position₀ position : List ℕ) : Type 0 where
  pub number_is : number ≡ answer_number (position_of f)
  pub position-is : position ≡ position_after (position_of f) position₀

-- the number and the lent result afterwards are those of the position of the fix of the columns, with everything that an accepted fix has
pub record PositionAnswers (c : ObservationColumns) (n : ℕ) (guess : Vec3) (settings : Settings) (number : ℕ) (position₀ position : List ℕ) : Type 0 where
  pub leaves : PositionLeaves (column_fix_of c n guess settings) number position₀ position
  pub accepted : (v : Solution) → column_fix_of c n guess settings ≡ Ok v → fix.Accepted (fix_input c n guess settings) v
