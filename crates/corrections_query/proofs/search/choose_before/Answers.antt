-- `corrections_query::search::choose_before` meets its contract. Assumes nothing.
use native.Mathlib.Nat.{le_refl}
use Rattle.corrections_query.proofs.search.choose_before.Goals as goal

pub returns-then-x-t : goal.returns-then-x-t
returns-then-x-t c = (rw c.if-x-t.true, (c.requires, le_refl _))

pub returns-else-x-t : goal.returns-else-x-t
returns-else-x-t c = (rw c.if-x-t.false, (le_refl _, c.requires))
