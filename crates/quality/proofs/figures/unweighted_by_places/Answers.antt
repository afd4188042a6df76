-- `quality::figures::unweighted_by_places` meets its contract. Assumes nothing.
use mathlib.Core.Path.{◌≡◌, sym, subst}
use mathlib.Core.Bool.{true, false}
use lib.Dec.{T}
use Rattle.normal_equations.specs.Steps.{lent_columns, row_in}
use Rattle.normal_equations.proofs.Places.{cells-start}
use Rattle.quality.proofs.QualityLaws.{passed, bare, bare-row, bare-end}
use native.Mathlib.Omega.{arith}
use Rattle.quality.proofs.figures.unweighted_by_places.Goals as goal

pub loop-k-init : goal.loop-k-init
loop-k-init c = let s = c in (omega arith, cells-start bare (row_in (lent_columns c.args.rows)) s.args.n _ _ c.no_corner-s.ensures c.unused.ensures)

pub loop-k-preserved : goal.loop-k-preserved
loop-k-preserved c = let s = c in
    let h = c.loop-k in
    let r = c.row_at-r in
    let low = c.if-i-lt3.false in
    let high = c.if-i-n.false in
    (omega (arith, c.loop-k-test.true), bare-row (lent_columns c.args.rows) s.args.n s.requires.1 h.k r.result r.ensures low high c.with_row-s.ensures c.add_clock.ensures h.invariant.1)

pub returns : goal.returns
returns c = let s = c in
    let h = c.loop-k in
    λ e.
    let f = passed c.is_finite.result c.is_finite-2.result c.is_finite-3.result e in
    bare-end (lent_columns c.args.rows) s.args.n h.k s.requires.1 s.requires.0 (omega arith) h.invariant.1 (subst T c.is_finite.ensures f.0) (subst T c.is_finite-2.ensures f.1) (subst T c.is_finite-3.ensures f.2) c.put_corner.ensures
