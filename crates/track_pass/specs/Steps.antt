-- What each step of a pass leaves in the lent work. Definitions only.
-- The rows of nine come first, then the scales of the anchors, then those of the links.
use Rattle.std.specs.Prelude.{◌≡◌, Bool, true, false, not, ◌&&◌, cond, ◌⊎◌, List, ℕ, ◌+◌, ◌-◌, ◌*◌, ◌≤◌, ◌<◌, length, get_or, set, Float}
use Rattle.std.specs.Float.Ieee.{is_nan}
use Rattle.std.specs.Float.Ieee.Scale.{finite}
use Rattle.lists.specs.Memory.{before, after, LentNumbers}
use Rattle.exact.specs.Float.{◌⊕◌, ◌⊖◌}
use Rattle.numeric.specs.Order.{pattern_of}
use Rattle.numeric.specs.Real.{in_range}
use Rattle.track_tridiagonal.specs.Rows.{float_at, row_cell, axis_in, Axes, SameOutside}
use Rattle.track_tridiagonal.specs.Tridiagonal.{Equations, NoNan, Spoilt}
use Rattle.track_tridiagonal.specs.Steps.{Alike}
use Rattle.track_pass.specs.Input.{Measured, Trajectory, index_at, track_origin, work_need}
use Rattle.track_pass.specs.Equations.{changed, raised_at, lower, Scales, track_weight, anchor_pull, link_diagonal, link_right}
use Rattle.track_pass.specs.Pass.{pass_succeeds, fitted_at}

-- how each measurement in turn changes the rows of axis t
pub record Change : Type 0 where
  pub diagonal : (t : ℕ) → (j k : ℕ) → Float → Float
  pub upper : (t : ℕ) → (j k : ℕ) → Float → Float
  pub right : (t : ℕ) → (j k : ℕ) → Float → Float

-- an anchor leaves the upper diagonal as it is
abbrev pub anchor_change : Measured → (ℕ → Float) → Change
anchor_change m scale = record {
  diagonal = λ t. raised_at (index_at m) (track_weight m scale t);
  upper = λ t j k x. x;
  right = λ t. raised_at (index_at m) (anchor_pull m scale t);
}

abbrev pub link_change : Measured → (ℕ → Float) → Change
link_change m scale = record {
  diagonal = link_diagonal m scale;
  upper = λ t. lower (index_at m) (track_weight m scale t);
  right = link_right m scale;
}

-- the equations of axis t once the first j measurements have changed those of e
abbrev pub changed_by : Change → Equations → (t j : ℕ) → Equations
changed_by c e t j = record {
  diagonal = changed (c.diagonal t) e.diagonal j;
  upper = changed (c.upper t) e.upper j;
  right = changed (c.right t) e.right j;
}

-- the columns hold the measurements that are counted, each with an epoch that there is
pub record Lent (m : Measured) (bound : ℕ) : Type 0 where
  pub indices : m.count ≤ length m.index
  pub values : m.count * 3 ≤ length m.value
  pub sigmas : m.count * 3 ≤ length m.sigma
  pub below : (j : ℕ) → j < m.count → index_at m j < bound

-- there are epochs and anchors, the columns hold the measurements, and the origin is in range
pub record Valid (p : Trajectory) : Type 0 where
  pub epochs : 0 < p.n
  pub some : 0 < p.anchors.count
  pub anchors : Lent p.anchors p.n
  pub links : Lent p.links (p.n - 1)
  pub origin : (t : ℕ) → t < 3 → in_range (track_origin p.anchors t) ≡ true

-- and there is room for the work and for the result
pub record Ready (p : Trajectory) (w r : List ℕ) : Type 0 where
  pub valid : Valid p
  pub work : work_need p ≤ length w
  pub result : p.n * 3 ≤ length r

-- ---- one measurement, of weight a and pull b, on the row of one axis, by the place of its diagonal

-- x is the float that is to be stored at k: not a NaN
abbrev pub number : Float → Bool
number x = not (is_nan x)

-- an anchor, stored unless a NaN would be
pub record AnchorAdded (w : List ℕ) (at : ℕ) (a b : Float) (ok : Bool) (w' : List ℕ) : Type 0 where
  pub answer : ok ≡ (number (float_at w at ⊕ a) && number (float_at w (at + 6) ⊕ b))
  pub stored : w' ≡ cond ok (set (set w at (pattern_of (float_at w at ⊕ a))) (at + 6) (pattern_of (float_at w (at + 6) ⊕ b))) w

-- a link to the next row, stored unless a NaN would be
pub record LinkAdded (w : List ℕ) (at : ℕ) (a b : Float) (ok : Bool) (w' : List ℕ) : Type 0 where
  pub answer : ok ≡ (number (float_at w at ⊕ a) && (number (float_at w (at + 3) ⊖ a) && (number (float_at w (at + 6) ⊖ b)
      && (number (float_at w (at + 9) ⊕ a) && number (float_at w (at + 15) ⊕ b)))))
  pub stored : w' ≡ cond ok
      (set (set (set (set (set w at (pattern_of (float_at w at ⊕ a))) (at + 3) (pattern_of (float_at w (at + 3) ⊖ a))) (at + 6) (pattern_of (float_at w (at + 6) ⊖ b)))
      (at + 9) (pattern_of (float_at w (at + 9) ⊕ a))) (at + 15) (pattern_of (float_at w (at + 15) ⊕ b))) w

-- ---- all of them

-- the first j measurements have changed the n rows of w, in which no NaN stands
pub record Added (c : Change) (w : List ℕ) (n j : ℕ) (w' : List ℕ) : Type 0 where
  pub kept : SameOutside 0 (n * 9) w w'
  pub rows : Axes (λ t. Alike (changed_by c (axis_in w t) t j) (axis_in w' t) n)
  pub numbers : Axes (λ t. NoNan (axis_in w' t) n)

-- all of them have, or they make a NaN somewhere
pub record AddDone (c : Change) (w : List ℕ) (n count : ℕ) (ok : Bool) (w' : List ℕ) : Type 0 where
  pub kept : SameOutside 0 (n * 9) w w'
  pub done : ok ≡ true → Added c w n count w'
  pub ends : ok ≡ false → (Spoilt (changed_by c (axis_in w 0) 0 count) n) ⊎ ((Spoilt (changed_by c (axis_in w 1) 1 count) n) ⊎ (Spoilt (changed_by c (axis_in w 2) 2 count) n))

-- measurements with indices below the bound, numbers in the n rows, and a scale for each from the place `from` on
pub record Addable (m : Measured) (bound n from : ℕ) (w : List ℕ) : Type 0 where
  pub lent : Lent m bound
  pub scales : from + m.count ≤ length w
  pub numbers : Axes (λ t. NoNan (axis_in w t) n)

abbrev pub AddedBy : (Measured → (ℕ → Float) → Change) → Measured → (n from : ℕ) → (w : LentNumbers) → Bool → Type 0
AddedBy change m n from w ok = AddDone (change m (λ j. float_at (before w) (from + j))) (before w) n m.count ok (after w)

-- the scales after the rows
abbrev pub scales_in : Trajectory → List ℕ → Scales
scales_in p w = record { anchors = λ j. float_at w (p.n * 9 + j); links = λ j. float_at w (p.n * 9 + p.anchors.count + j) }

-- ---- the fit of a pass, in the result

-- the unknowns in n rows are finite
pub record FiniteCells (w : List ℕ) (n : ℕ) : Type 0 where
  pub xs : (k : ℕ) → k < n → finite (row_cell w 6 k) ≡ true
  pub ys : (k : ℕ) → k < n → finite (row_cell w 7 k) ≡ true
  pub zs : (k : ℕ) → k < n → finite (row_cell w 8 k) ≡ true

-- n rows of finite unknowns, room for as many points, and an origin in range
pub record Publishable (w : List ℕ) (n : ℕ) (x y z : Float) (r : List ℕ) : Type 0 where
  pub rows : n * 9 ≤ length w
  pub room : n * 3 ≤ length r
  pub cells : FiniteCells w n
  pub on-x : in_range x ≡ true
  pub on-y : in_range y ≡ true
  pub on-z : in_range z ≡ true

-- the list r holds the patterns of the fit f of n epochs
pub record Tabulated (r : List ℕ) (n : ℕ) (f : ℕ → ℕ → Float) : Type 0 where
  pub xs : (k : ℕ) → k < n → get_or r (k * 3) 0 ≡ pattern_of (f 0 k)
  pub ys : (k : ℕ) → k < n → get_or r (k * 3 + 1) 0 ≡ pattern_of (f 1 k)
  pub zs : (k : ℕ) → k < n → get_or r (k * 3 + 2) 0 ≡ pattern_of (f 2 k)

-- the unknowns of the first m epochs, with the origin added to each, in the result
pub record Published (w : List ℕ) (m : ℕ) (x y z : Float) (r r' : List ℕ) : Type 0 where
  pub kept : SameOutside 0 (m * 3) r r'
  pub xs : (k : ℕ) → k < m → get_or r' (k * 3) 0 ≡ pattern_of (row_cell w 6 k ⊕ x)
  pub ys : (k : ℕ) → k < m → get_or r' (k * 3 + 1) 0 ≡ pattern_of (row_cell w 7 k ⊕ y)
  pub zs : (k : ℕ) → k < m → get_or r' (k * 3 + 2) 0 ≡ pattern_of (row_cell w 8 k ⊕ z)

-- A pass by the scales after the rows of w: true where it succeeds, and then the result holds its fit; one that fails leaves the result.
pub record PassDone (p : Trajectory) (w r : List ℕ) (ok : Bool) (w' r' : List ℕ) : Type 0 where
  pub kept : SameOutside 0 (p.n * 9) w w'
  pub result-kept : SameOutside 0 (p.n * 3) r r'
  pub answer : ok ≡ pass_succeeds p (scales_in p w)
  pub fit : ok ≡ true → Tabulated r' p.n (fitted_at p (scales_in p w))
  pub no_same : ok ≡ false → r' ≡ r

abbrev pub Passed : Trajectory → (w r : LentNumbers) → Bool → Type 0
Passed p w r ok = PassDone p (before w) (before r) ok (after w) (after r)
