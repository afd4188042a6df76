use Rattle.track_tridiagonal.proofs.Substitution.{left-numbers, solved, unsolved}
use native.Mathlib.Omega.{arith}
use Rattle.track_tridiagonal.proofs.solve.solve.Goals as goal

pub substitute-requires : goal.substitute-requires
substitute-requires c = let l = c.eliminate.ensures.left c.if-eliminate.true in
    (omega (arith, c.eliminate.auto.w, c.requires.1), record { x = left-numbers _ _ _ c.requires.2.x l.x; y = left-numbers _ _ _ c.requires.2.y l.y; z = left-numbers _ _ _ c.requires.2.z l.z })

pub returns-then-eliminate : goal.returns-then-eliminate
returns-then-eliminate c = solved _ _ _ _ _ c.requires.0 c.eliminate.ensures c.if-eliminate.true _ c.substitute.ensures
