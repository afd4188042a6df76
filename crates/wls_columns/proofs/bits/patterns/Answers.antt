-- `wls_columns::bits::patterns` meets its contract. Assumes nothing.
use borrow.Author.Rules.{rules}
use lib.Ieee.{nan}
use Rattle.numeric.specs.Order.{pattern_of}
use Rattle.wls_columns.proofs.BitLaws.{nine-mapped}
use Rattle.wls_columns.proofs.bits.patterns.Goals as goal

pub returns : goal.returns
returns c = nine-mapped pattern_of nan c.args.x (search rules) c.pattern-a.ensures c.pattern-b.ensures c.pattern-c.ensures c.pattern-d.ensures c.pattern-e.ensures c.pattern-f.ensures c.pattern-g.ensures c.pattern-h.ensures c.pattern-k.ensures
