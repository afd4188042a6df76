-- `wls::valid::all_sound_observations` meets its contract. Assumes nothing.
use mathlib.Core.Path.{◌≡◌, refl}
use Prim.Native.Nat.{◌≤◌}
use native.Mathlib.Omega.{arith}
use borrow.Author.Rules.{rules}
use lib.ListN.{length}
use Rattle.lists.proofs.Walk.{length-mapped, every-yes, every-no, every-end}
use Rattle.records.specs.Record.{sound_observation}
use Rattle.records.proofs.RecordLaws.{blank_observation}
use Rattle.wls.proofs.valid.all_sound_observations.Goals as goal

fits : (c : goal.Start) → c.args.o.count ≤ length c.args.o.observation
fits c = let e : length c.args.o.observation ≡ 64 = search length-mapped in omega arith

pub loop-i-init : goal.loop-i-init
loop-i-init c = (search rules, refl)

pub returns-then-not-is_sound_observation : goal.returns-then-not-is_sound_observation
returns-then-not-is_sound_observation c = let h = c.loop-i in
    every-no _ _ (fits c.before.before.before.before.before) h.i blank_observation c.loop-i-test.true sound_observation h.invariant.1 c.is_sound_observation.ensures c.if-not-is_sound_observation.true

pub loop-i-preserved : goal.loop-i-preserved
loop-i-preserved c = let h = c.loop-i in
    (search rules, every-yes _ _ (fits c.before.before.before.before.before) h.i blank_observation c.loop-i-test.true sound_observation h.invariant.1 c.is_sound_observation.ensures c.if-not-is_sound_observation.false)

pub returns : goal.returns
returns c = every-end _ _ (fits c.before.before) _ sound_observation c.loop-i.invariant.1 c.loop-i-test.false
