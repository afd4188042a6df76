-- `normal_equations::equations::form` meets its contract. Assumes nothing.
use Prim.Native.Nat.{◌-◌, ◌≤◌}
use mathlib.Core.Path.{◌≡◌}
use Rattle.normal_equations.specs.Nine.{nine}
use Rattle.normal_equations.specs.Equations.{triangle_of}
use Rattle.normal_equations.specs.Steps.{lent_columns, row_in}
use Rattle.normal_equations.proofs.AddedLaws.{in_sides}
use Rattle.normal_equations.proofs.FormedLaws.{cells, sides}
use Rattle.normal_equations.proofs.equations.form.Given as goal

abbrev pub invariant-loop-k : goal.invariant-loop-k
invariant-loop-k l = (l.k ≤ l.count) × (l.a ≡ triangle_of l.n (cells l.c l.huber (row_in (lent_columns l.rows)) l.k)) × (l.b ≡ nine (in_sides l.n (sides l.c l.huber (row_in (lent_columns l.rows)) l.k)))

abbrev pub decreases-loop-k : goal.decreases-loop-k
decreases-loop-k l = l.count - l.k
