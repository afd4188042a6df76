-- `wire::columns::column_record` meets its contract. Assumes nothing.
use borrow.Author.Rules.{rules}
use Rattle.wire.specs.Columns.{column_record}
use Rattle.wire.proofs.columns.column_record.Goals as goal

pub returns : goal.returns
unfolding column_record
returns c = search rules
