use mathlib.Core.Path.{sym, ◌∙◌, subst}
use lib.Dec.{T}
use Rattle.cholesky.proofs.SolveUsed.{forward-places, forward-fits, solution-used}
use Rattle.cholesky.proofs.factor.solve_used.Goals as goal

pub back-requires : goal.back-requires
back-requires c = let y = c in
    let h = y.requires in
    (h.1, h.2, rw y.forward.ensures (forward-places _ _ _ h.3), rw y.forward.ensures (forward-fits _ _ _ h.0))

pub returns-then-is_finite : goal.returns-then-is_finite
returns-then-is_finite c = let t = c in
    let y = t in
    let h = y.requires in
    let f = subst T (sym (sym t.is_finite.ensures ∙ t.if-is_finite.true)) tt in
    solution-used _ _ _ _ _ h.0 h.1 h.2 h.3 y.forward.ensures f c.back.ensures
