-- `tdcp::valid::check_pairs` meets its contract. Assumes nothing.
use mathlib.Core.Path.{sym, ◌∙◌}
use Rattle.std.proofs.lemmas.Result.{err_from_is_err_and}
use borrow.Author.Tests.{lt-ltb, le-ltb}
use Rattle.tdcp.proofs.FrontLaws.{counts-short, counts-refused, counts_twenty, counts_all}
use Rattle.tdcp.proofs.valid.check_pairs.Goals as goal

pub returns-then-pairs-lt6 : goal.returns-then-pairs-lt6
returns-then-pairs-lt6 c = counts-short _ _ _ _ (lt-ltb _ _ c.if-pairs-lt6.true)

pub returns-in_err-check_rows : goal.returns-in_err-check_rows
returns-in_err-check_rows c = let p = err_from_is_err_and c.from_residual.result c.from_residual.ensures.1 in rw (p.1, p.2) (counts-refused _ _ _ _ (le-ltb _ _ c.if-pairs-lt6.false) (sym c.in_err-check_rows.was ∙ c.check_rows.ensures))

pub returns-then-uncertified : goal.returns-then-uncertified
returns-then-uncertified c = counts_twenty _ _ _ _ (le-ltb _ _ c.if-pairs-lt6.false) (sym c.in_ok-check_rows.was ∙ c.check_rows.ensures) c.if-uncertified.true

pub returns : goal.returns
returns c = counts_all _ _ _ _ (le-ltb _ _ c.if-pairs-lt6.false) (sym c.in_ok-check_rows.was ∙ c.check_rows.ensures) c.if-uncertified.false
