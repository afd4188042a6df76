-- `wire_tdcp::displacement::displacement_records` meets its contract. Assumes nothing.
use mathlib.Core.Path.{refl, subst}
use Rattle.tdcp.specs.Displacement.{Promised}
use Rattle.wire_tdcp.specs.Displacement.{handed, record_input}
use Rattle.wire_tdcp.proofs.DisplacementLaws.{previous-broken, current-broken, previous-many, current-many, result-short, displacement-answers, result-is}
use Rattle.wire_tdcp.proofs.displacement.displacement_records.Goals as goal

pub returns-then-previous-ne0 : goal.returns-then-previous-ne0
returns-then-previous-ne0 c = previous-broken (handed c.args.previous.now c.args.current.now c.args.dt c.args.receiver c.args.settings) c.args.res.now c.if-previous-ne0.true c.number.ensures

pub returns-then-current-ne0 : goal.returns-then-current-ne0
returns-then-current-ne0 c = current-broken (handed c.args.previous.now c.args.current.now c.args.dt c.args.receiver c.args.settings) c.args.res.now c.if-previous-ne0.false c.if-current-ne0.true c.number-then-current-ne0.ensures

pub returns-then-previous-gt64 : goal.returns-then-previous-gt64
returns-then-previous-gt64 c = previous-many (handed c.args.previous.now c.args.current.now c.args.dt c.args.receiver c.args.settings) c.args.res.now c.if-previous-ne0.false c.if-current-ne0.false c.if-previous-gt64.true c.number-then-previous-gt64.ensures

pub returns-then-current-gt64 : goal.returns-then-current-gt64
returns-then-current-gt64 c = current-many (handed c.args.previous.now c.args.current.now c.args.dt c.args.receiver c.args.settings) c.args.res.now c.if-previous-ne0.false c.if-current-ne0.false c.if-previous-gt64.false c.if-current-gt64.true c.number-then-current-gt64.ensures

pub returns-then-res-lt40 : goal.returns-then-res-lt40
returns-then-res-lt40 c = result-short (handed c.args.previous.now c.args.current.now c.args.dt c.args.receiver c.args.settings) c.args.res.now c.if-previous-ne0.false c.if-current-ne0.false c.if-previous-gt64.false c.if-current-gt64.false c.if-res-lt40.true c.number-then-res-lt40.ensures

pub displacement_of-requires : goal.displacement_of-requires
displacement_of-requires c = (c.if-previous-gt64.false, c.if-current-gt64.false)

pub returns-in-Ok : goal.returns-in-Ok
returns-in-Ok c = let made = subst (Promised (record_input (handed c.args.previous.now c.args.current.now c.args.dt c.args.receiver c.args.settings))) c.in-Ok.is c.displacement_of.ensures in
    displacement-answers (handed c.args.previous.now c.args.current.now c.args.dt c.args.receiver c.args.settings) c.args.res.now c.if-previous-ne0.false c.if-current-ne0.false c.if-previous-gt64.false c.if-current-gt64.false c.if-res-lt40.false made refl
    (result-is c.args.res.now c.in-Ok.d _ c.if-res-lt40.false c.patterns.ensures c.put_five.ensures)

pub returns-in-Err : goal.returns-in-Err
returns-in-Err c = let made = subst (Promised (record_input (handed c.args.previous.now c.args.current.now c.args.dt c.args.receiver c.args.settings))) c.in-Err.is c.displacement_of.ensures in
    displacement-answers (handed c.args.previous.now c.args.current.now c.args.dt c.args.receiver c.args.settings) c.args.res.now c.if-previous-ne0.false c.if-current-ne0.false c.if-previous-gt64.false c.if-current-gt64.false c.if-res-lt40.false made c.number-in-Err.ensures refl
