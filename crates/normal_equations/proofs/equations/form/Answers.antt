-- `normal_equations::equations::form` meets its contract. Assumes nothing.
use mathlib.Core.Path.{ap, ◌∙◌}
use lib.ListN.{length}
use Rattle.exact.specs.Float.{bits}
use Rattle.normal_equations.specs.Weight.{weight}
use Rattle.normal_equations.specs.Equations.{wide}
use Rattle.normal_equations.specs.Steps.{lent_columns, row_in}
use Rattle.normal_equations.specs.declared.row.Row.{Row}
use Rattle.normal_equations.proofs.AddedLaws.{triangle-zero, triangle-wide, side-zero, side-long}
use Rattle.normal_equations.proofs.FormedLaws.{cells, sides, cells-zero, sides-zero, triangle-row, side-row, formed-last}
use native.Mathlib.Omega.{arith}
use Rattle.normal_equations.proofs.equations.form.Goals as goal

pub loop-k-init : goal.loop-k-init
loop-k-init c = let s = c.args in let g = row_in (lent_columns c.args.rows) in (omega arith, c.unused.ensures ∙ triangle-zero s.n (cells s.c s.huber g 0) (cells-zero s.c s.huber g), side-zero s.n (sides s.c s.huber g 0) (sides-zero s.c s.huber g))

pub add_side-requires : goal.add_side-requires
add_side-requires c = let h = c.loop-k in (omega (arith, c.requires), side-long _ _ h.b h.invariant.2)

pub add_triangle-requires : goal.add_triangle-requires
add_triangle-requires c = let h = c.loop-k in (omega (arith, c.requires), triangle-wide _ _ h.a h.invariant.1)

pub loop-k-preserved : goal.loop-k-preserved
loop-k-preserved c = let s = c in
    let g = row_in (lent_columns c.args.rows) in
    let h = c.loop-k in
    let r = c.row_at-r.ensures in
    let w = c.weight-w.ensures ∙ ap (weight s.args.c s.args.huber) r in
    let e = c.wide.ensures ∙ ap wide r in
    let t = c.times-t.ensures in
    let y = c.float.ensures ∙ ap (λ (z : Row). bits z.residual) r in
    (omega arith, c.add_triangle.ensures ∙ triangle-row s.args.c s.args.huber g h.k _ _ w e s.args.n s.requires _ t h.a h.invariant.1, c.add_side.ensures ∙ side-row s.args.c s.args.huber g h.k _ _ w e s.args.n s.requires _ t h.b _ y h.invariant.2)

pub returns : goal.returns
returns c = let s = c in let h = c.loop-k in formed-last s.args.c s.args.huber (row_in (lent_columns c.args.rows)) (length s.args.rows.residual.now) s.args.n h.k h.a h.b (omega arith) h.invariant.1 h.invariant.2
