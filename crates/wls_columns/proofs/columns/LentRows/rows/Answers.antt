-- `wls_columns::columns::LentRows::rows` meets its contract: its loop stores one place after the other. Assumes nothing.
use mathlib.Core.Path.{refl}
use borrow.Author.Rules.{rules}
use Rattle.wls_columns.specs.Columns.{row_from}
use Rattle.wls_columns.specs.Steps.{lent_row_columns}
use Rattle.lists.proofs.Filling.{filling_start, filling_next}
use Rattle.wls_columns.proofs.ColumnLaws.{rows-room, filling_end}
use Rattle.wls_columns.proofs.columns.LentRows.rows.Goals as goal

pub loop-i-init : goal.loop-i-init
loop-i-init c = filling_start _ _ _ refl

pub row_at-requires : goal.row_at-requires
row_at-requires c = let r = rows-room _ _ c.requires in search rules

pub offset_bounds-out-i : goal.offset_bounds-out-i
offset_bounds-out-i c = let r = rows-room _ _ c.requires in search rules

pub bounds-out-i : goal.bounds-out-i
bounds-out-i c = let r = rows-room _ _ c.requires in search rules

pub loop-i-preserved : goal.loop-i-preserved
loop-i-preserved c =
    rw c.row_at.ensures (filling_next (row_from (lent_row_columns c.args.self)) _ _ (rows-room _ _ c.requires).few c.loop-i.invariant c.loop-i-test.true)

pub returns : goal.returns
returns c =
    filling_end (row_from (lent_row_columns c.args.self)) _ _ (rows-room _ _ c.requires).few c.loop-i.invariant c.loop-i-test.false
