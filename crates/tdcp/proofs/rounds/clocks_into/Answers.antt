-- `tdcp::rounds::clocks_into` meets its contract. Assumes nothing.
use Rattle.records.proofs.KeepLaws.{filled-start, filled_more}
use native.Mathlib.Omega.{arith}
use Rattle.tdcp.proofs.rounds.clocks_into.Invariants.{clock_at}
use Rattle.tdcp.proofs.rounds.clocks_into.Goals as goal

pub loop-j-init : goal.loop-j-init
loop-j-init c = let s = c.args in (omega arith, filled-start (clock_at s.k s.constellation.now) 0 _ c.requires.1)

pub loop-j-preserved : goal.loop-j-preserved
loop-j-preserved c = let s = c.args in let h = c.loop-j in (omega arith, filled_more (clock_at s.k s.constellation.now) 0 h.j h.clock _ (omega arith) c.slot-s.ensures h.invariant.1)

pub returns : goal.returns
returns c = let h = c.loop-j in record { clocks = λ i b. h.invariant.1.at i (omega arith) }
