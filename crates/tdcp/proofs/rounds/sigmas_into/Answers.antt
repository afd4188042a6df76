-- `tdcp::rounds::sigmas_into` meets its contract. Assumes nothing.
use lib.Ieee.{nan}
use Rattle.records.proofs.KeepLaws.{filled-start, filled_more}
use native.Mathlib.Omega.{arith}
use Rattle.tdcp.proofs.rounds.sigmas_into.Invariants.{sigma_at}
use Rattle.tdcp.proofs.rounds.sigmas_into.Goals as goal

pub loop-j-init : goal.loop-j-init
loop-j-init c = let s = c.args in (omega arith, filled-start (sigma_at s.settings s.elevation.now) nan _ c.requires.1)

pub loop-j-preserved : goal.loop-j-preserved
loop-j-preserved c = let s = c.args in let h = c.loop-j in (omega arith, filled_more (sigma_at s.settings s.elevation.now) nan h.j h.sigma _ (omega arith) c.elevation_sigma-t.ensures h.invariant.1)

pub returns : goal.returns
returns c = let h = c.loop-j in record { sigmas = λ i b. h.invariant.1.at i (omega arith) }
