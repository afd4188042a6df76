-- `median::centre::centre_scale` meets its contract. Assumes nothing.
use native.Mathlib.Omega.{arith}
use mathlib.Core.Path.{sym, ap, ◌∙◌}
use lib.ListN.{length-map}
use Rattle.exact.specs.Float.{bits}
use Rattle.median.specs.Centre.{deviation_of, deviations_of}
use Rattle.median.proofs.CentreLaws.{centred, centre-refused, centre-none, centre-some}
use Rattle.median.proofs.MedianSigns.{front_median, deviation_patterns}
use Rattle.median.proofs.centre.centre_scale.Goals as goal

pub returns-then-n-gt64 : goal.returns-then-n-gt64
returns-then-n-gt64 c = centred (centre-refused c.args.residuals.now c.if-n-gt64.true)

pub returns-then-n-eq0 : goal.returns-then-n-eq0
returns-then-n-eq0 c = centred (centre-none c.args.residuals.now c.if-n-eq0.true)

pub of_like_sign-requires : goal.of_like_sign-requires
of_like_sign-requires c = let d = c in
    let f = d in
    let e = f in
    let xs = e.args.residuals.now in
    (omega arith, d.deviations.ensures.few, d.deviations.ensures.long, rw d.deviations.ensures.is (deviation_patterns f.float-centre.result xs))

pub returns : goal.returns
returns c = let d = c in
    let f = d in
    let e = f in
    let xs = e.args.residuals.now in
    let devs = deviations_of f.float-centre.result xs in
    centred
    (centre-some xs f.float-centre.result c.float-deviation.result (omega arith) e.if-n-gt64.false
    (f.float-centre.ensures ∙ ap bits f.middle.ensures.0)
    (c.float-deviation.ensures
    ∙ ap bits (c.of_like_sign.ensures.0 ∙ front_median devs _ _ (sym (length-map xs (deviation_of f.float-centre.result))) d.deviations.ensures)))
