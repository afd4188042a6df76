-- `order::quiet_before` meets its contract: each class of the other pattern. Assumes nothing.
use native.Mathlib.Omega.{arith}
use mathlib.Core.Path.{sym, ◌∙◌}
use Rattle.numeric.specs.declared.order.Class.TheVariants.{Zero, Number, Infinity, Signaling, Quiet}
use Rattle.numeric.proofs.OrderCases.{within, follows, quiet-payload}
use Rattle.numeric.proofs.order.quiet_before.Goals as goal

pub returns-in-Zero : goal.returns-in-Zero
returns-in-Zero c = let s = c in
    let e = within s.args.a Quiet s.requires.0 in
    let f = within s.args.b Zero (sym c.in-Zero.is ∙ s.requires.1) in
    follows s.args.a s.args.b (omega arith)

pub returns-in-Number : goal.returns-in-Number
returns-in-Number c = let s = c in
    let e = within s.args.a Quiet s.requires.0 in
    let f = within s.args.b Number (sym c.in-Number.is ∙ s.requires.1) in
    follows s.args.a s.args.b (omega arith)

pub returns-in-Infinity : goal.returns-in-Infinity
returns-in-Infinity c = let s = c in
    let e = within s.args.a Quiet s.requires.0 in
    let f = within s.args.b Infinity (sym c.in-Infinity.is ∙ s.requires.1) in
    follows s.args.a s.args.b (omega arith)

pub returns-in-Signaling : goal.returns-in-Signaling
returns-in-Signaling c = let s = c in
    let e = within s.args.a Quiet s.requires.0 in
    let f = within s.args.b Signaling (sym c.in-Signaling.is ∙ s.requires.1) in
    follows s.args.a s.args.b (omega arith)

pub returns-in-Quiet : goal.returns-in-Quiet
returns-in-Quiet c = let m = c in
    let s = m in
    let e = within s.args.a Quiet s.requires.0 in
    let f = within s.args.b Quiet (sym m.in-Quiet.is ∙ s.requires.1) in
    rw (c.payload_of.ensures, c.payload_of-in-Quiet.ensures) (quiet-payload s.args.a s.args.b e f)
