-- `tdcp::rounds::residuals_at` meets its contract. Assumes nothing.
use Rattle.records.proofs.KeepLaws.{filled-start, filled_more}
use native.Mathlib.Omega.{arith}
use Rattle.tdcp.proofs.rounds.residuals_at.Invariants.{residual_at}
use Rattle.tdcp.proofs.rounds.residuals_at.Goals as goal

pub loop-j-init : goal.loop-j-init
loop-j-init c = let s = c.args in (omega arith, filled-start (residual_at s.x.now s.y.now s.z.now s.clock.now s.observed.now s.at) 0 _ c.requires.1)

pub loop-j-preserved : goal.loop-j-preserved
loop-j-preserved c = let s = c.args in
    let h = c.loop-j in
    (omega arith, filled_more (residual_at s.x.now s.y.now s.z.now s.clock.now s.observed.now s.at) 0 h.j h.residual _ (omega arith) c.residual_of-d.ensures h.invariant.1)

pub returns : goal.returns
returns c = let h = c.loop-j in record { long = h.invariant.1.long; residuals = λ i b. h.invariant.1.at i (omega arith) }
