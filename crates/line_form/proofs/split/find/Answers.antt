-- `line_form::split::find` meets its contract. Assumes nothing.
use native.Mathlib.Omega.{arith}
use borrow.Author.Rules.{rules}
use Rattle.line_form.proofs.SplitLaws.{before-end, before-yes, before-no}
use Rattle.line_form.proofs.split.find.Goals as goal

pub returns-then-s-i : goal.returns-then-s-i
returns-then-s-i c = let a = c.args in
    let h = c.loop-i in
    omega (arith, before-yes a.c a.s.now h.i c.loop-i-test.true c.if-s-i.true)

pub loop-i-preserved : goal.loop-i-preserved
loop-i-preserved c = let a = c.args in
    let h = c.loop-i in
    (search rules, search rules, omega (arith, before-no a.c a.s.now h.i c.loop-i-test.true c.if-s-i.false))

pub returns : goal.returns
returns c = omega (arith, before-end c.args.c c.args.s.now c.loop-i.i c.loop-i-test.false)
