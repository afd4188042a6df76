-- `line_form::split::fields_of` meets its contract. Assumes nothing.
use native.Mathlib.Omega.{arith}
use mathlib.Core.Path.{refl}
use Rattle.line_form.proofs.SplitLaws.{found-le}
use Rattle.line_form.proofs.PartLaws.{parting_start, parting_more, parting_few, parting_many, parting_end}
use Rattle.line_form.proofs.split.fields_of.Goals as goal

pub loop-k-init : goal.loop-k-init
loop-k-init c = parting_start _ _ refl refl

pub find-e-requires : goal.find-e-requires
find-e-requires c = c.loop-k.invariant.within

pub returns-then-e-line : goal.returns-then-e-line
returns-then-e-line c = parting_few c.args.line.now _ _ _ _ c.loop-k.invariant c.find-e.ensures c.loop-k-test.true c.if-e-line.true

pub overflow_add-at : goal.overflow_add-at
overflow_add-at c = omega (arith, found-le 44 c.args.line.now _ _ c.loop-k.invariant.within c.find-e.ensures)

pub bounds-from-k : goal.bounds-from-k
bounds-from-k c = omega (arith, c.loop-k.invariant.long)

pub loop-k-preserved : goal.loop-k-preserved
loop-k-preserved c = parting_more c.args.line.now _ _ _ _ c.loop-k.invariant c.find-e.ensures c.loop-k-test.true c.if-e-line.false

pub find-e-requires-2 : goal.find-e-requires-2
find-e-requires-2 c = c.loop-k.invariant.within

pub overflow_add-from-2 : goal.overflow_add-from-2
overflow_add-from-2 c = omega (arith, found-le 44 c.args.line.now _ _ c.loop-k.invariant.within c.find-e-2.ensures)

pub bounds-from-11 : goal.bounds-from-11
bounds-from-11 c = omega (arith, c.loop-k.invariant.long)

pub returns-then-e-line-2 : goal.returns-then-e-line-2
returns-then-e-line-2 c = parting_many c.args.line.now _ _ _ _ c.loop-k.invariant c.find-e-2.ensures c.loop-k-test.false c.if-e-line-2.true

pub returns : goal.returns
returns c = parting_end c.args.line.now _ _ _ _ c.loop-k.invariant c.find-e-2.ensures c.loop-k-test.false c.if-e-line-2.false
