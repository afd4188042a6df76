-- `normal_equations::equations::unused` meets its contract. Assumes nothing.
use Rattle.normal_equations.proofs.UnusedLaws.{marking_start, marking_next, marking_end}
use native.Mathlib.Omega.{arith}
use Rattle.normal_equations.proofs.equations.unused.Goals as goal

pub returns : goal.returns
returns c = let h = c.loop-i in marking_end c.args.n h.i h.a (omega arith) h.invariant.1
