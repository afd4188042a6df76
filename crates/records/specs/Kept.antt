-- What the code has of the pairs that the screen keeps, columns of numbers: the contracts of its parts. Definitions only.
use Rattle.std.specs.Prelude.{◌≡◌, ℕ, ◌≤◌, List, map, length, take, Float}
use Rattle.records.specs.declared.pair.Pair.{Pair}

-- the first n places of the columns are the numbers of the pairs ps
pub record Kept (ps : List Pair) (n : ℕ) (x y z : List Float) (constellation : List ℕ) (elevation observed : List Float) : Type 0 where
  pub room : n ≤ 64
  pub count : n ≡ length ps
  pub constellation-long : length constellation ≡ 64
  pub observed-long : length observed ≡ 64
  pub xs : take n x ≡ map (λ (p : Pair). p.unit.x) ps
  pub ys : take n y ≡ map (λ (p : Pair). p.unit.y) ps
  pub zs : take n z ≡ map (λ (p : Pair). p.unit.z) ps
  pub constellations : take n constellation ≡ map (λ (p : Pair). p.constellation) ps
  pub elevations : take n elevation ≡ map (λ (p : Pair). p.elevation) ps
  pub observeds : take n observed ≡ map (λ (p : Pair). p.observed) ps
