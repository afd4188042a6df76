-- `order::unsigned_before` meets its contract: each class of the first pattern. Assumes nothing.
use native.Mathlib.Omega.{arith}
use mathlib.Core.Path.{sym, ◌∙◌}
use Rattle.numeric.specs.declared.order.Class.TheVariants.{Zero, Number, Infinity, Signaling, Quiet}
use Rattle.numeric.proofs.OrderCases.{within, comes, follows}
use Rattle.numeric.proofs.order.unsigned_before.Goals as goal

pub number_before-requires : goal.number_before-requires
number_before-requires c = let s = c in (sym c.in-Number.is ∙ s.class_of-x.ensures, s.class_of-y.ensures)

pub signaling_before-requires : goal.signaling_before-requires
signaling_before-requires c = let s = c in (sym c.in-Signaling.is ∙ s.class_of-x.ensures, s.class_of-y.ensures)

pub quiet_before-requires : goal.quiet_before-requires
quiet_before-requires c = let s = c in (sym c.in-Quiet.is ∙ s.class_of-x.ensures, s.class_of-y.ensures)

pub returns-in-Zero : goal.returns-in-Zero
returns-in-Zero c = let s = c in
    comes s.args.a s.args.b (omega (arith, within s.args.a Zero (sym c.in-Zero.is ∙ s.class_of-x.ensures)))

pub returns-in-Zero-y : goal.returns-in-Zero-y
returns-in-Zero-y c = let m = c in
    let s = m in
    let a = s.args.a in
    let b = s.args.b in
    let e = within a Infinity (sym m.in-Infinity.is ∙ s.class_of-x.ensures) in
    let f = within b Zero (sym c.in-Zero-y.is ∙ s.class_of-y.ensures) in
    follows a b (omega arith)

pub returns-in-Number-y : goal.returns-in-Number-y
returns-in-Number-y c = let m = c in
    let s = m in
    let a = s.args.a in
    let b = s.args.b in
    let e = within a Infinity (sym m.in-Infinity.is ∙ s.class_of-x.ensures) in
    let f = within b Number (sym c.in-Number-y.is ∙ s.class_of-y.ensures) in
    follows a b (omega arith)

pub returns-in-Infinity-y : goal.returns-in-Infinity-y
returns-in-Infinity-y c = let m = c in
    let s = m in
    let a = s.args.a in
    let b = s.args.b in
    let e = within a Infinity (sym m.in-Infinity.is ∙ s.class_of-x.ensures) in
    let f = within b Infinity (sym c.in-Infinity-y.is ∙ s.class_of-y.ensures) in
    comes a b (omega arith)

pub returns-in-Signaling-y : goal.returns-in-Signaling-y
returns-in-Signaling-y c = let m = c in
    let s = m in
    let a = s.args.a in
    let b = s.args.b in
    let e = within a Infinity (sym m.in-Infinity.is ∙ s.class_of-x.ensures) in
    let f = within b Signaling (sym c.in-Signaling-y.is ∙ s.class_of-y.ensures) in
    comes a b (omega arith)

pub returns-in-Quiet-y : goal.returns-in-Quiet-y
returns-in-Quiet-y c = let m = c in
    let s = m in
    let a = s.args.a in
    let b = s.args.b in
    let e = within a Infinity (sym m.in-Infinity.is ∙ s.class_of-x.ensures) in
    let f = within b Quiet (sym c.in-Quiet-y.is ∙ s.class_of-y.ensures) in
    comes a b (omega arith)
