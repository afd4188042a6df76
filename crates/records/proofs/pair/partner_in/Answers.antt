-- `records::pair::partner_in` meets its contract. Assumes nothing.
use borrow.Author.Rules.{rules}
use mathlib.Core.Path.{refl}
use native.Mathlib.Omega.{arith}
use Rattle.records.proofs.CarrierLaws.{sought-start, sought-next, sought-here, sought-end}
use Rattle.records.proofs.pair.partner_in.Goals as goal

pub loop-j-init : goal.loop-j-init
loop-j-init c = let a = c.args in (search rules, sought-start a.signal a.previous.signals.now a.previous.states.now a.previous.floats.now)

pub returns-then-is_partner : goal.returns-then-is_partner
returns-then-is_partner c = let a = c.args in sought-here a.signal a.previous.signals.now a.previous.states.now a.previous.floats.now c.loop-j-test.true c.loop-j.invariant.1 c.is_partner.ensures c.if-is_partner.true

pub loop-j-preserved : goal.loop-j-preserved
loop-j-preserved c = let a = c.args in (search rules, sought-next a.signal a.previous.signals.now a.previous.states.now a.previous.floats.now c.loop-j-test.true c.loop-j.invariant.1 c.is_partner.ensures c.if-is_partner.false)

pub returns : goal.returns
returns c = let a = c.args in sought-end a.signal a.previous.signals.now a.previous.states.now a.previous.floats.now c.loop-j.invariant.1 c.loop-j-test.false
