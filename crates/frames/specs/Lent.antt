-- North, east, down of a caller's floats: the number, and what the lent result holds afterwards. Definitions only.
use Rattle.numeric.specs.Refusal.{answer_number}
use Rattle.std.specs.Prelude.{Result, Ok, Err}
use Rattle.frames.specs.declared.frames.Ned.{Ned}
use Rattle.numeric.specs.declared.refusal.Refusal.{Refusal}
use Rattle.std.specs.Prelude.{ℕ, ◌≡◌, List, Float}
use Rattle.numeric.specs.Vec3.{vector_at}
use Rattle.frames.specs.Frames.{ned_patterns, north_east_down, DirectionFinite}

-- the patterns of north, east and down; a refusal leaves what was there, to the last bit
abbrev pub ned_after : Result Ned Refusal → List ℕ → List ℕ
ned_after (Err r) before = before
ned_after (Ok v) before = ned_patterns v

-- The number and the lent result afterwards are those of the displacement at the position, and what is given is finite.
pub record DirectionAnswered (position displacement : List Float) (number : ℕ) (ned₀ ned : List ℕ) : Type 0 where
  pub number_is : number ≡ answer_number (north_east_down (vector_at position 0) (vector_at displacement 0))
  pub ned_is : ned ≡ ned_after (north_east_down (vector_at position 0) (vector_at displacement 0)) ned₀
  pub finite-given : DirectionFinite (north_east_down (vector_at position 0) (vector_at displacement 0))
