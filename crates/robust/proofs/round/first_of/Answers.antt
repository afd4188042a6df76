-- `robust::round::first_of` meets its contract. Assumes nothing.
use Rattle.robust.proofs.RowLaws.{cutting_start, cutting_next, cutting_end}
use native.Mathlib.Omega.{arith}
use Rattle.robust.proofs.round.first_of.Goals as goal

pub returns : goal.returns
returns c = let h = c.loop-i in cutting_end _ _ h.i h.x (omega arith) h.invariant.1
