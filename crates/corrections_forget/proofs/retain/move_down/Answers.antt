-- `corrections_forget::retain::move_down` meets its contract. Assumes nothing.
use mathlib.Core.Path.{◌≡◌}
use Prim.Native.Nat.{◌-◌}
use native.Mathlib.Omega.{arith}
use Rattle.corrections_forget.proofs.MoveLaws.{moved_nowhere, moving_start, moving_turn}
use Rattle.corrections_forget.proofs.retain.move_down.Goals as goal

pub loop-i-init : goal.loop-i-init
loop-i-init c = moving_start

pub loop-i-preserved : goal.loop-i-preserved
loop-i-preserved c = moving_turn c.loop-i.invariant 0 c.requires.0 (omega (arith, c.requires, c.loop-i-test.true))

pub returns-else-to-from : goal.returns-else-to-from
returns-else-to-from c =
    let e : c.args.to ≡ c.args.from = omega (arith, c.requires.0, c.if-to-from.false) in
    rw e (moved_nowhere c.args.from (c.args.end - c.args.from) c.args.column.now)
