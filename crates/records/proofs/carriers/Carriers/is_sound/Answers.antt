-- `records::carriers::Carriers::is_sound` meets its contract. Assumes nothing.
use borrow.Author.Rules.{rules}
use mathlib.Core.Path.{refl, ap, ◌∙◌}
use native.Mathlib.Omega.{arith}
use lib.ListN.{length}
use Rattle.lists.specs.Walk.{every}
use Rattle.lists.proofs.Walk.{every-yes, every-no, every-end}
use Rattle.records.specs.Record.{sound_carrier}
use Rattle.records.specs.Signals.{carriers_in}
use Rattle.records.proofs.RecordLaws.{blank}
use Rattle.records.proofs.CarrierLaws.{carriers-long, carriers-all, carrier-is}
use Rattle.records.proofs.carriers.Carriers.is_sound.Goals as goal

pub loop-i-init : goal.loop-i-init
loop-i-init c = let a = c.args.self in (search rules, ap (every sound_carrier) (carriers-all a.signals.now a.states.now a.floats.now))

pub returns-then-not-is_sound : goal.returns-then-not-is_sound
returns-then-not-is_sound c = let a = c.args.self in
    let t = c.loop-i-test.true in
    every-no (carriers_in a.signals.now a.states.now a.floats.now) (length a.signals.now) (carriers-long a.signals.now a.states.now a.floats.now) c.loop-i.i blank t sound_carrier c.loop-i.invariant.1 (c.is_sound.ensures ∙ ap sound_carrier (carrier-is a.signals.now a.states.now a.floats.now t c.carrier-c.ensures)) c.if-not-is_sound.true

pub loop-i-preserved : goal.loop-i-preserved
loop-i-preserved c = let a = c.args.self in
    let t = c.loop-i-test.true in
    (search rules, every-yes (carriers_in a.signals.now a.states.now a.floats.now) (length a.signals.now) (carriers-long a.signals.now a.states.now a.floats.now) c.loop-i.i blank t sound_carrier c.loop-i.invariant.1 (c.is_sound.ensures ∙ ap sound_carrier (carrier-is a.signals.now a.states.now a.floats.now t c.carrier-c.ensures)) (search rules))

pub returns : goal.returns
returns c = let a = c.args.self in
    every-end (carriers_in a.signals.now a.states.now a.floats.now) (length a.signals.now) (carriers-long a.signals.now a.states.now a.floats.now) _ sound_carrier c.loop-i.invariant.1 c.loop-i-test.false
