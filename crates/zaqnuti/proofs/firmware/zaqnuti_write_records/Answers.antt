-- `zaqnuti::firmware::zaqnuti_write_records` meets its contract. Assumes nothing.
use mathlib.Core.Path.{sym, ◌∙◌}
use native.Mathlib.Omega.{arith}
use Rattle.wire.proofs.ColumnLaws.{columns-room}
use Rattle.wire.proofs.LentLaws.{write-many, write-short, write_done}
use Rattle.zaqnuti.proofs.firmware.zaqnuti_write_records.Goals as goal

pub returns-then-not-columns_fit : goal.returns-then-not-columns_fit
returns-then-not-columns_fit c = let s = c in write-many _ _ s.args.bytes.now c.columns_fit.ensures c.if-not-columns_fit.true c.number.ensures

pub overflow_mul-count : goal.overflow_mul-count
overflow_mul-count c = let r = columns-room _ _ (sym c.columns_fit.ensures ∙ c.if-not-columns_fit.false) in record { fits = omega (arith, r.few) }

pub returns-then-count-bytes : goal.returns-then-count-bytes
returns-then-count-bytes c = let s = c in write-short _ _ s.args.bytes.now c.columns_fit.ensures c.if-not-columns_fit.false c.if-count-bytes.true c.number-then-count-bytes.ensures

pub put_records-requires : goal.put_records-requires
put_records-requires c = record { n_value = sym c.columns_fit.ensures ∙ c.if-not-columns_fit.false; n_in_bounds = c.if-count-bytes.false }

pub returns : goal.returns
returns c = let s = c in write_done _ _ s.args.bytes.now c.columns_fit.ensures c.if-not-columns_fit.false c.if-count-bytes.false c.put_records.ensures
