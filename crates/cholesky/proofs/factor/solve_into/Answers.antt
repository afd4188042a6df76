use native.Mathlib.Omega.{arith}
use Rattle.cholesky.specs.Factor.{solution_of}
use Rattle.cholesky.proofs.SolveUsed.{all-used, all-places, forward-fits}
use Rattle.cholesky.proofs.factor.solve_into.Goals as goal

pub back-requires : goal.back-requires
back-requires c = let s = c.args in
    (omega arith, all-used _, all-places _, rw c.forward.ensures (forward-fits 9 s.l.now s.x.now (omega arith)))

pub returns : goal.returns
unfolding solution_of
returns c = cc
