use Rattle.track_tridiagonal.proofs.Elimination.{reached-none, eliminating_ends, eliminating_done, row-x-needs, row-y-needs, row-z-needs, eliminating_more, first-needs}
use Rattle.track_tridiagonal.proofs.Cells.{kept-none}
use mathlib.Core.Path.{refl}
use native.Mathlib.Omega.{arith}
use Rattle.track_tridiagonal.proofs.solve.eliminate.Goals as goal

pub first_row-y-requires : goal.first_row-y-requires
first_row-y-requires c = (omega arith, first-needs _ _ _ _ refl c.requires.0 c.requires.2.y)

pub first_row-z-requires : goal.first_row-z-requires
first_row-z-requires c = (omega arith, first-needs _ _ _ _ refl c.requires.0 c.requires.2.z)

pub loop-i-init : goal.loop-i-init
loop-i-init c = record {
  inside = c.requires.0;
  room = c.requires.1;
  long = refl;
  kept = kept-none _ _ _;
  on-x = reached-none _ _ _ _ _ refl c.first_row-x.ensures;
  on-y = reached-none _ _ _ _ _ refl c.first_row-y.ensures;
  on-z = reached-none _ _ _ _ _ refl c.first_row-z.ensures;
}

pub eliminate_row-x-requires : goal.eliminate_row-x-requires
eliminate_row-x-requires c = (omega (arith, c.loop-i.invariant.long, c.loop-i.invariant.room, c.loop-i-test.true), row-x-needs _ _ _ _ _ _ _ c.loop-i.invariant c.requires.2 (c.if-not-x-y.false) (omega (arith, c.loop-i-test.true)) _ refl)

pub eliminate_row-y-requires : goal.eliminate_row-y-requires
eliminate_row-y-requires c = (
  omega (arith, c.eliminate_row-x.auto.w, c.loop-i.invariant.long, c.loop-i.invariant.room, c.loop-i-test.true),
  row-y-needs _ _ _ _ _ _ _ c.loop-i.invariant c.requires.2 (c.if-not-x-y.false) (omega (arith, c.loop-i-test.true)) _ refl _ _ c.eliminate_row-x.ensures,
)

pub eliminate_row-z-requires : goal.eliminate_row-z-requires
eliminate_row-z-requires c = (
  omega (arith, c.eliminate_row-y.auto.w, c.eliminate_row-x.auto.w, c.loop-i.invariant.long, c.loop-i.invariant.room, c.loop-i-test.true),
  row-z-needs _ _ _ _ _ _ _ c.loop-i.invariant c.requires.2 (c.if-not-x-y.false) (omega (arith, c.loop-i-test.true)) _ refl _ _ c.eliminate_row-x.ensures c.eliminate_row-x.auto.w _ _ c.eliminate_row-y.ensures,
)

pub loop-i-preserved : goal.loop-i-preserved
loop-i-preserved c = eliminating_more _ _ _ _ _ _ _ c.loop-i.invariant c.requires.2 (c.if-not-x-y.false) (omega (arith, c.loop-i-test.true)) _ refl _ _ c.eliminate_row-x.ensures c.eliminate_row-x.auto.w _ _ c.eliminate_row-y.ensures
    c.eliminate_row-y.auto.w _ _ c.eliminate_row-z.ensures c.eliminate_row-z.auto.w

pub returns-then-not-x-y : goal.returns-then-not-x-y
returns-then-not-x-y c = eliminating_ends _ _ _ _ _ _ _ c.loop-i.invariant c.if-not-x-y.true

pub returns : goal.returns
returns c = eliminating_done _ _ _ _ _ _ _ c.loop-i.invariant (omega (arith, c.loop-i-test.false))
