-- The steps of forming the normal equations, and what they leave. Definitions only.
use Rattle.std.specs.Prelude.{◌≡◌, ℕ, cond, ◌&&◌, List, ltb, leb, eqb, set, take, get_or, length, Float}
use Rattle.std.specs.Float.{nan}
use Rattle.exact.specs.Float.{◌⊕◌, ◌⊗◌, +0, 1·0}
use Rattle.cholesky.specs.Factor.{at, cell}
use Rattle.cholesky.specs.Steps.{store}
use Rattle.numeric.specs.declared.vec3.Vec3.{Vec3}
use Rattle.normal_equations.specs.Nine.{nine}
use Rattle.normal_equations.specs.Equations.{matrix_of, right_of}
use Rattle.normal_equations.specs.declared.row.Row.{Row}
use Rattle.normal_equations.specs.declared.equations.Corner.{Corner}
use Rattle.lists.specs.Walk.{places}
use Rattle.normal_equations.specs.declared.columns.Columns.{Columns}
use Rattle.normal_equations.specs.declared.columns.Table.{Table}

-- the matrix of n unknowns before any row is added: 1 on the diagonal of the unused ones
unfoldable pub unused : ℕ → List (List Float)
unused n = nine (λ i. nine (λ j. cond (leb n i && eqb i j) 1·0 +0))

-- a and b are the normal equations of the rows
pub record Formed (w : Row → Float) (rows : List Row) (n : ℕ) (a : List (List Float)) (b : List Float) : Type 0 where
  pub matrix-is : a ≡ matrix_of w rows n
  pub right_is : b ≡ right_of w rows n

-- ---- over every place of a row: e is the row nine wide, t the row times its weight

unfoldable pub times : Float → List Float → List Float
times w e = nine (λ i. w ⊗ at e i)

-- t_i · d is added to each of the first n places
unfoldable pub side_added : ℕ → List Float → Float → List Float → List Float
side_added n t d b = nine (λ i. cond (ltb i n) (at b i ⊕ at t i ⊗ d) (at b i))

-- t · e_j is added to each of the first m cells of row i
unfoldable pub row_added : ℕ → ℕ → Float → List Float → List (List Float) → List (List Float)
row_added i m t e a = nine (λ p. nine (λ q. cond (eqb p i && ltb q m) (cell a p q ⊕ t ⊗ at e q) (cell a p q)))

-- t_i · e_j is added to each cell of the lower triangle of n unknowns
unfoldable pub triangle_added : ℕ → List Float → List Float → List (List Float) → List (List Float)
triangle_added n t e a = nine (λ p. nine (λ q. cond (ltb p n && leb q p) (cell a p q ⊕ at t p ⊗ at e q) (cell a p q)))

-- ---- over the places of a row that are not 0

abbrev pub no_corner : Corner
no_corner = record { xx = +0; yx = +0; yy = +0; zx = +0; zy = +0; zz = +0 }

-- one row more, by its line of sight u, and t, the line of sight times the weight
abbrev pub corner_added : Corner → Vec3 → Vec3 → Corner
corner_added s t u =
    record {
      xx = s.xx ⊕ t.x ⊗ u.x;
      yx = s.yx ⊕ t.y ⊗ u.x;
      yy = s.yy ⊕ t.y ⊗ u.y;
      zx = s.zx ⊕ t.z ⊗ u.x;
      zy = s.zy ⊕ t.z ⊗ u.y;
      zz = s.zz ⊕ t.z ⊗ u.z;
    }

abbrev pub vector_times : Float → Vec3 → Vec3
vector_times w u = record { x = w ⊗ u.x; y = w ⊗ u.y; z = w ⊗ u.z }

-- t times the residual d, added to v
abbrev pub vector_added : Vec3 → Vec3 → Float → Vec3
vector_added v t d = record { x = v.x ⊕ t.x ⊗ d; y = v.y ⊕ t.y ⊗ d; z = v.z ⊕ t.z ⊗ d }

-- v added in row i and column j
abbrev pub raise_cell : List (List Float) → ℕ → ℕ → Float → List (List Float)
raise_cell a i j v = store a i j (cell a i j ⊕ v)

-- a row's products at its clock i, by t, the weight there, in the clock's row of the matrix
abbrev pub clock_added : ℕ → Float → Vec3 → List (List Float) → List (List Float)
clock_added i t u a = raise_cell (raise_cell (raise_cell (raise_cell a i 0 (t ⊗ u.x)) i 1 (t ⊗ u.y)) i 2 (t ⊗ u.z)) i i (t ⊗ 1·0)

-- the sums over the first three places, where they belong
abbrev pub corner_put : Corner → List (List Float) → List (List Float)
corner_put s a = store (store (store (store (store (store a 0 0 s.xx) 1 0 s.yx) 1 1 s.yy) 2 0 s.zx) 2 1 s.zy) 2 2 s.zz

abbrev pub corner_sides : Vec3 → List Float → List Float
corner_sides v b = set (set (set b 0 v.x) 1 v.y) 2 v.z

-- the coordinates of the lines of sight, and the rows' other numbers
pub record RoundColumns : Type 0 where
  pub x : List Float
  pub y : List Float
  pub z : List Float
  pub clock : List ℕ
  pub sigma : List Float
  pub residual : List ℕ

abbrev pub columns : List Float → List Float → List Float → List ℕ → List Float → List ℕ → RoundColumns
columns x y z clock sigma residual = record { x = x; y = y; z = z; clock = clock; sigma = sigma; residual = residual }

-- row k
abbrev pub row_in : RoundColumns → ℕ → Row
row_in c k =
    record {
      unit = record { x = get_or c.x k nan; y = get_or c.y k nan; z = get_or c.z k nan };
      clock = get_or c.clock k 0;
      residual = get_or c.residual k 0;
      sigma = get_or c.sigma k nan;
    }

-- as many rows as there are residuals
abbrev pub rows_in : RoundColumns → List Row
rows_in c = places (row_in c) (length c.residual)

-- the columns that a call is lent, and their rows
abbrev pub lent_columns : Columns → RoundColumns
lent_columns c = columns c.x.now c.y.now c.z.now c.clock.now c.sigma.now c.residual.now

-- the columns of the first n rows
abbrev pub first_columns : ℕ → Table → RoundColumns
first_columns n t = columns t.x t.y t.z t.clock t.sigma (take n t.residual)

abbrev pub lent_rows : Columns → List Row
lent_rows c = rows_in (lent_columns c)
