-- `normal_equations::equations::form_by_places` meets its contract. Assumes nothing.
use mathlib.Core.Path.{◌≡◌, sym, subst}
use mathlib.Core.Bool.{Bool, true, false, ◌&&◌}
use lib.Dec.{T}
use lib.ListN.{length}
use lib.Ieee.Fits.{and_l, and_r}
use Rattle.normal_equations.specs.Steps.{lent_columns, row_in}
use Rattle.normal_equations.proofs.Places.{cells-start, sides-start, weighted_at, placed_row}
use Rattle.normal_equations.proofs.AllPlaces.{formed-by-places}
use native.Mathlib.Omega.{arith}
use Rattle.normal_equations.proofs.equations.form_by_places.Goals as goal

passed : (p q r s : Bool) → (p && q && r && s) ≡ true → T p × T q × T r × T s
passed p q r s e =
    let t : T (p && q && r && s) = subst T (sym e) tt in
    let u = and_l (p && q && r) s t in
    let v = and_l (p && q) r u in
    (and_l p q v, and_r p q v, and_r (p && q) r u, and_r (p && q && r) s t)

pub loop-k-init : goal.loop-k-init
loop-k-init c = let s = c in
    let t = weighted_at s.args.c s.args.huber (row_in (lent_columns c.args.rows)) s.args.n in (
      omega arith,
      record {
        cells-placed = cells-start t (row_in (lent_columns c.args.rows)) s.args.n _ _ c.no_corner-s.ensures c.unused.ensures;
        sides-placed = sides-start s.args.c s.args.huber (row_in (lent_columns c.args.rows)) s.args.n;
      },
    )

pub loop-k-preserved : goal.loop-k-preserved
loop-k-preserved c = let s = c in
    let h = c.loop-k in
    let r = c.row_at-r in
    let w = c.weight-w in
    let d = c.float-d in
    let low = c.if-i-lt3.false in
    let high = c.if-i-n.false in
    (omega (arith, c.loop-k-test.true), placed_row s.args.c s.args.huber (row_in (lent_columns c.args.rows)) s.args.n s.requires h.k r.result r.ensures low high w.result d.result w.ensures d.ensures c.weighted-t.ensures c.with_row-s.ensures c.with_side-v.ensures c.add_clock.ensures h.invariant.1)

pub returns : goal.returns
returns c = let s = c in
    let h = c.loop-k in
    λ e.
    let f = passed c.is_finite.result c.is_finite-2.result c.is_finite-3.result c.is_finite-4.result e in
    formed-by-places s.args.c s.args.huber (row_in (lent_columns c.args.rows)) s.args.n s.requires c.if-n-lt3.false h.k h.invariant.1 (subst T c.is_finite.ensures f.0) (subst T c.is_finite-2.ensures f.1) (subst T c.is_finite-3.ensures f.2) (subst T c.is_finite-4.ensures f.3) (length s.args.rows.residual.now) (omega arith) c.put_corner.ensures c.put_side.ensures
