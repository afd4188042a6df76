-- `corrections_query::search::choose_up_to` meets its contract. Assumes nothing.
use native.Mathlib.Nat.{le_refl}
use borrow.Author.Tests.{le-leb, lt-leb}
use Rattle.corrections_query.proofs.search.choose_up_to.Goals as goal

pub returns-then-s-g : goal.returns-then-s-g
returns-then-s-g c = (rw (le-leb _ _ c.if-s-g.true), (c.requires, le_refl _))

pub returns-else-s-g : goal.returns-else-s-g
returns-else-s-g c = (rw (lt-leb _ _ c.if-s-g.false), (le_refl _, c.requires))
