-- `corrections_directory::sound::in_order` meets its contract. Assumes nothing.
use mathlib.Core.Bool.{not}
use mathlib.Core.Path.{ap}
use Rattle.corrections_directory.proofs.OrderLaws.{ordering-start, ordering-no, ordering-on, ordering-end}
use Rattle.corrections_directory.proofs.sound.in_order.Goals as goal

pub loop-i-init : goal.loop-i-init
loop-i-init g c = let a = c.args.table in ordering-start a.block_first.now a.block_samples.now (g.T.Element.floats a.table_time.now) a.blocks

pub in_turn-requires : goal.in_turn-requires
in_turn-requires g c = c.requires.each c.loop-i.i c.loop-i-test.true

pub returns-then-not-in_turn : goal.returns-then-not-in_turn
returns-then-not-in_turn g c = let a = c.args.table in
    let h = c.loop-i in
    ordering-no a.block_first.now a.block_samples.now (g.T.Element.floats a.table_time.now) a.blocks h.i h.invariant c.loop-i-test.true c.in_turn.result c.in_turn.ensures (ap not c.if-not-in_turn.true)

pub loop-i-preserved : goal.loop-i-preserved
loop-i-preserved g c = let a = c.args.table in
    let h = c.loop-i in
    ordering-on a.block_first.now a.block_samples.now (g.T.Element.floats a.table_time.now) a.blocks h.i h.invariant c.loop-i-test.true c.in_turn.result c.in_turn.ensures (ap not c.if-not-in_turn.false)

pub returns : goal.returns
returns g c = let a = c.args.table in
    ordering-end a.block_first.now a.block_samples.now (g.T.Element.floats a.table_time.now) a.blocks c.loop-i.i c.loop-i.invariant c.loop-i-test.false
