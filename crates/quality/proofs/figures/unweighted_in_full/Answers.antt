-- `quality::figures::unweighted_in_full` meets its contract. Assumes nothing.
use mathlib.Core.Path.{ap, ◌∙◌}
use Rattle.normal_equations.specs.Equations.{wide}
use Rattle.normal_equations.specs.Steps.{lent_columns}
use Rattle.normal_equations.proofs.AddedLaws.{triangle-wide}
use Rattle.quality.proofs.QualityLaws.{plain-start, plain-next, plain_end}
use native.Mathlib.Omega.{arith}
use Rattle.quality.proofs.figures.unweighted_in_full.Goals as goal

pub loop-k-init : goal.loop-k-init
loop-k-init c = let s = c in (omega arith, plain-start (lent_columns c.args.rows) s.args.n _ c.unused.ensures)

pub add_triangle-requires : goal.add_triangle-requires
add_triangle-requires c = let h = c.loop-k in (c.requires, triangle-wide _ _ h.a h.invariant.1)

pub loop-k-preserved : goal.loop-k-preserved
loop-k-preserved c = let s = c in let h = c.loop-k in (omega arith, c.add_triangle.ensures ∙ plain-next (lent_columns c.args.rows) s.args.n h.k _ h.a (c.wide.ensures ∙ ap wide c.row_at.ensures) h.invariant.1)

pub returns : goal.returns
returns c = let s = c in let h = c.loop-k in plain_end (lent_columns c.args.rows) s.args.n h.k h.a (omega arith) h.invariant.1
