use Rattle.track_tridiagonal.proofs.Substitution.{Substituting}
use Rattle.track_tridiagonal.proofs.solve.substitute.Given as goal

abbrev pub invariant-loop-k : goal.invariant-loop-k
invariant-loop-k l = Substituting l.initial.w l.n l.k l.w l.x l.y l.z
