use Rattle.track_tridiagonal.proofs.Elimination.{Eliminating}
use Rattle.track_tridiagonal.proofs.solve.eliminate.Given as goal

abbrev pub invariant-loop-i : goal.invariant-loop-i
invariant-loop-i l = Eliminating l.initial.w l.n l.i l.w l.x l.y l.z
