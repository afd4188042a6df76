-- Lists of nine, by their elements. Definitions only.
use Rattle.std.specs.Prelude.{ℕ, zero, suc, ◌<◌, ◌≡◌, List, [], ◌∷◌, length, Float}
use Rattle.cholesky.specs.Factor.{row}

module _ {A : Type 0} where
  -- f i, f (i + 1), .., n of them
  unfoldable pub from : ℕ → ℕ → (ℕ → A) → List A
  from i zero f = []
  from i (suc n) f = f i ∷ from (suc i) n f

  -- f 0, .., f 8
  unfoldable pub nine : (ℕ → A) → List A
  nine f = from 0 9 f

-- nine rows of nine
pub record Square (a : List (List Float)) : Type 0 where
  pub long : length a ≡ 9
  pub wide : (p : ℕ) → p < 9 → length (row a p) ≡ 9
