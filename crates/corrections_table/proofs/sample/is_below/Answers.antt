-- `corrections_table::sample::is_below` meets its contract. Assumes nothing.
use mathlib.Core.Path.{sym}
use native.Mathlib.Omega.{arith}
use borrow.Author.Tests.{le-ltb, eq-eqb, ne_eqb}
use Rattle.corrections_table.proofs.Lex.{or_no}
use Rattle.corrections_table.proofs.sample.is_below.Goals as goal

pub returns-then-s-h : goal.returns-then-s-h
returns-then-s-h c = let a = c.args in rw (ne_eqb a.s a.h c.if-s-h.true) (sym (or_no _))

pub returns : goal.returns
returns c = let a = c.args in rw (le-ltb a.s a.h (omega arith), eq-eqb a.s a.h c.if-s-h.false) c.is_earlier.ensures
