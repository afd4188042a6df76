-- The equations of one axis, in the order of operations of the reference (smooth.rs, `solve_once`). Definitions only.
use Rattle.std.specs.Prelude.{cond, ℕ, zero, suc, ◌+◌, eqb, Float}
use Rattle.exact.specs.Float.{◌⊕◌, ◌⊖◌, ◌⊗◌, ◌⊘◌, +0}
use Rattle.track_tridiagonal.specs.Tridiagonal.{Equations}
use Rattle.track_pass.specs.Input.{Measured, Trajectory, index_at, value_at, sigma_at, track_origin}

-- A column once the first j measurements have changed it in turn, where step j k changes row k by measurement j.
unfoldable pub changed : (ℕ → ℕ → Float → Float) → (ℕ → Float) → ℕ → ℕ → Float
changed step c zero k = c k
changed step c (suc j) k = step j k (changed step c j k)

-- measurement j raises, or lowers, its own row by its amount
abbrev pub raised_at : (ℕ → ℕ) → (ℕ → Float) → ℕ → ℕ → Float → Float
raised_at row amount j k x = cond (eqb (row j) k) (x ⊕ amount j) x

abbrev pub lower : (ℕ → ℕ) → (ℕ → Float) → ℕ → ℕ → Float → Float
lower row amount j k x = cond (eqb (row j) k) (x ⊖ amount j) x

abbrev pub no_equations : ℕ → Float
no_equations k = +0

-- what scales the weight of each anchor and of each link
pub record Scales : Type 0 where
  pub anchors : ℕ → Float
  pub links : ℕ → Float

-- the weight of measurement j on axis t: its scale over the square of its sigma
abbrev pub track_weight : Measured → (ℕ → Float) → ℕ → ℕ → Float
track_weight m scale t j = scale j ⊘ (sigma_at m t j ⊗ sigma_at m t j)

-- the epoch at which link j ends
abbrev pub next_at : Measured → ℕ → ℕ
next_at m j = index_at m j + 1

-- what an anchor adds to the right side, and what a link takes from it at its start and adds at its end
abbrev pub anchor_pull : Measured → (ℕ → Float) → ℕ → ℕ → Float
anchor_pull m scale t j = track_weight m scale t j ⊗ (value_at m t j ⊖ track_origin m t)

abbrev pub link_pull : Measured → (ℕ → Float) → ℕ → ℕ → Float
link_pull m scale t j = track_weight m scale t j ⊗ value_at m t j

-- a link raises the diagonal at both its ends
abbrev pub link_diagonal : Measured → (ℕ → Float) → ℕ → ℕ → ℕ → Float → Float
link_diagonal m scale t j k x = raised_at (next_at m) (track_weight m scale t) j k (raised_at (index_at m) (track_weight m scale t) j k x)

abbrev pub link_right : Measured → (ℕ → Float) → ℕ → ℕ → ℕ → Float → Float
link_right m scale t j k x = raised_at (next_at m) (link_pull m scale t) j k (lower (index_at m) (link_pull m scale t) j k x)

-- ---- the three columns of axis t: the anchors in turn, then the links in turn

unfoldable pub diagonal : Trajectory → Scales → ℕ → ℕ → Float
diagonal p s t =
    changed (link_diagonal p.links s.links t)
    (changed (raised_at (index_at p.anchors) (track_weight p.anchors s.anchors t)) no_equations p.anchors.count)
    p.links.count

unfoldable pub upper : Trajectory → Scales → ℕ → ℕ → Float
upper p s t = changed (lower (index_at p.links) (track_weight p.links s.links t)) no_equations p.links.count

unfoldable pub right : Trajectory → Scales → ℕ → ℕ → Float
right p s t =
    changed (link_right p.links s.links t)
    (changed (raised_at (index_at p.anchors) (anchor_pull p.anchors s.anchors t)) no_equations p.anchors.count)
    p.links.count

abbrev pub equations_of : Trajectory → Scales → ℕ → Equations
equations_of p s t = record { diagonal = diagonal p s t; upper = upper p s t; right = right p s t }
