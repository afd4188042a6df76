-- `corrections_epoch::record::states_in_range` meets its contract. Assumes nothing.
use mathlib.Core.Path.{ap}
use native.Mathlib.Nat.{le_refl}
use lib.Seq.{take_all}
use Rattle.lists.specs.Walk.{every}
use Rattle.lists.proofs.Walk.{every-yes, every-no, every-end}
use Rattle.corrections_epoch.specs.Record.{state_in_range}
use Rattle.corrections_epoch.proofs.RawLaws.{blank_state}
use Rattle.corrections_epoch.proofs.record.states_in_range.Goals as goal

pub loop-s-init : goal.loop-s-init
loop-s-init c = ap (every state_in_range) (take_all _ c.args.states.now (le_refl _))

pub returns-then-not-state_in_range : goal.returns-then-not-state_in_range
returns-then-not-state_in_range c = let h = c.loop-s in every-no _ _ (le_refl _) h.s-index blank_state c.loop-s-test.true state_in_range h.invariant c.state_in_range.ensures c.if-not-state_in_range.true

pub loop-s-preserved : goal.loop-s-preserved
loop-s-preserved c = let h = c.loop-s in every-yes _ _ (le_refl _) h.s-index blank_state c.loop-s-test.true state_in_range h.invariant c.state_in_range.ensures c.if-not-state_in_range.false

pub returns : goal.returns
returns c = every-end _ _ (le_refl _) _ state_in_range c.loop-s.invariant c.loop-s-test.false
