-- `zaqnuti::firmware::zaqnuti_read_records` meets its contract. Assumes nothing.
use mathlib.Core.Path.{sym, ◌∙◌}
use native.Mathlib.Omega.{arith}
use Rattle.wire.proofs.LentLaws.{read-broken, read-many, read_done}
use Rattle.zaqnuti.proofs.firmware.zaqnuti_read_records.Goals as goal

pub returns-then-bytes-ne0 : goal.returns-then-bytes-ne0
returns-then-bytes-ne0 c = let s = c in read-broken s.args.bytes.now _ _ c.if-bytes-ne0.true c.number.ensures

pub returns-then-not-columns_fit : goal.returns-then-not-columns_fit
returns-then-not-columns_fit c = let s = c in
    read-many s.args.bytes.now _ _ c.if-bytes-ne0.false c.columns_fit.ensures c.if-not-columns_fit.true c.number-then-not-columns_fit.ensures

pub fill-requires : goal.fill-requires
fill-requires c = record { n_value = sym c.columns_fit.ensures ∙ c.if-not-columns_fit.false; n_in_bounds = omega arith }

pub returns : goal.returns
returns c = let s = c in
    read_done s.args.bytes.now _ _ c.if-bytes-ne0.false c.columns_fit.ensures c.if-not-columns_fit.false c.fill.ensures
