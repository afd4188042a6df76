use Rattle.track_tridiagonal.proofs.Substitution.{found_none, substituting_all, row-x-needs, row-y-needs, row-z-needs, substituting_ends, substituting_more, at_next, three-finite}
use Rattle.track_tridiagonal.proofs.Cells.{kept-none}
use mathlib.Core.Path.{refl, ◌∙◌}
use native.Mathlib.Omega.{arith}
use Rattle.track_tridiagonal.proofs.solve.substitute.Goals as goal

pub solve_row-y-requires : goal.solve_row-y-requires
solve_row-y-requires c = (omega (arith, c.solve_row-x.auto.w, c.loop-k-test.true, c.loop-k.invariant.long, c.loop-k.invariant.room, c.loop-k.invariant.inside), row-y-needs _ _ _ _ _ _ _ (at_next _ _ _ _ _ _ _ c.loop-k-test.true c.loop-k.invariant) c.requires.1 _ refl _ refl _ _ c.solve_row-x.ensures)

pub solve_row-z-requires : goal.solve_row-z-requires
solve_row-z-requires c = (omega (arith, c.solve_row-y.auto.w, c.solve_row-x.auto.w, c.loop-k-test.true, c.loop-k.invariant.long, c.loop-k.invariant.room, c.loop-k.invariant.inside), row-z-needs _ _ _ _ _ _ _ (at_next _ _ _ _ _ _ _ c.loop-k-test.true c.loop-k.invariant) c.requires.1 _ refl _ refl _ _ c.solve_row-x.ensures c.solve_row-x.auto.w _ _ c.solve_row-y.ensures)

pub returns-then-not-is_finite : goal.returns-then-not-is_finite
returns-then-not-is_finite c = substituting_ends _ _ _ _ _ _ _ (at_next _ _ _ _ _ _ _ c.loop-k-test.true c.loop-k.invariant) c.requires.1 _ refl _ refl _ _ c.solve_row-x.ensures c.solve_row-x.auto.w _ _ c.solve_row-y.ensures c.solve_row-y.auto.w _ _ c.solve_row-z.ensures c.solve_row-z.auto.w
    (three-finite c.solve_row-x.result c.solve_row-y.result c.solve_row-z.result _ _ _ c.is_finite.ensures c.is_finite-in-loop-k.ensures c.is_finite-in-loop-k-2.ensures ∙ c.if-not-is_finite.true)

pub loop-k-preserved : goal.loop-k-preserved
loop-k-preserved c = substituting_more _ _ _ _ _ _ _ (at_next _ _ _ _ _ _ _ c.loop-k-test.true c.loop-k.invariant) c.requires.1 _ refl _ refl _ _ c.solve_row-x.ensures c.solve_row-x.auto.w _ _ c.solve_row-y.ensures c.solve_row-y.auto.w _ _ c.solve_row-z.ensures c.solve_row-z.auto.w
    (three-finite c.solve_row-x.result c.solve_row-y.result c.solve_row-z.result _ _ _ c.is_finite.ensures c.is_finite-in-loop-k.ensures c.is_finite-in-loop-k-2.ensures ∙ c.if-not-is_finite.false)

pub returns : goal.returns
returns c = substituting_all _ _ _ _ _ _ _ c.loop-k-test.false c.loop-k.invariant
