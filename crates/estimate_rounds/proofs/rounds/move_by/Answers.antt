-- `estimate_rounds::rounds::move_by` meets its contract. Assumes nothing.
use mathlib.Core.Path.{◌≡◌}
use Rattle.estimate_rounds.proofs.RoundsLaws.{moving_start, moving_next, moving_end}
use native.Mathlib.Omega.{arith}
use Rattle.estimate_rounds.proofs.rounds.move_by.Goals as goal

pub loop-i-init : goal.loop-i-init
loop-i-init c = (omega arith, moving_start _ _ (omega arith))

pub loop-i-preserved : goal.loop-i-preserved
loop-i-preserved c = let h = c.loop-i in (omega arith, moving_next _ _ h.i h.y (omega arith) h.invariant.1)

pub returns : goal.returns
returns c = let h = c.loop-i in
    let e : h.i ≡ c.args.n = omega arith in
    moving_end _ _ _ h.y (rw e at h.invariant.1)
