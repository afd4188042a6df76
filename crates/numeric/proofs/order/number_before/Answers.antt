-- `order::number_before` meets its contract: each class of the other pattern. Assumes nothing.
use native.Mathlib.Omega.{arith}
use mathlib.Core.Path.{sym, ◌∙◌}
use Rattle.numeric.specs.declared.order.Class.TheVariants.{Zero, Number, Infinity, Signaling, Quiet}
use Rattle.numeric.proofs.OrderCases.{within, without-signs, comes, follows}
use Rattle.numeric.proofs.order.number_before.Goals as goal

pub returns-in-Zero : goal.returns-in-Zero
returns-in-Zero c = let s = c in
    let e = within s.args.a Number s.requires.0 in
    let f = within s.args.b Zero (sym c.in-Zero.is ∙ s.requires.1) in
    follows s.args.a s.args.b (omega arith)

pub returns-in-Number : goal.returns-in-Number
returns-in-Number c = let s = c in c.magnitudes.ensures ∙ sym (without-signs s.args.a s.args.b)

pub returns-in-Infinity : goal.returns-in-Infinity
returns-in-Infinity c = let s = c in
    let e = within s.args.a Number s.requires.0 in
    let f = within s.args.b Infinity (sym c.in-Infinity.is ∙ s.requires.1) in
    comes s.args.a s.args.b (omega arith)

pub returns-in-Signaling : goal.returns-in-Signaling
returns-in-Signaling c = let s = c in
    let e = within s.args.a Number s.requires.0 in
    let f = within s.args.b Signaling (sym c.in-Signaling.is ∙ s.requires.1) in
    comes s.args.a s.args.b (omega arith)

pub returns-in-Quiet : goal.returns-in-Quiet
returns-in-Quiet c = let s = c in
    let e = within s.args.a Number s.requires.0 in
    let f = within s.args.b Quiet (sym c.in-Quiet.is ∙ s.requires.1) in
    comes s.args.a s.args.b (omega arith)
