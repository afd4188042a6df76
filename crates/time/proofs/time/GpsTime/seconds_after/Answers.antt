-- `time::time::GpsTime::seconds_after` meets its contract. Assumes nothing.
use Rattle.std.proofs.Common.{ℤ, ap, ◌∙◌}
use lib.Ieee.{binary64, of_int}
use Rattle.time.proofs.DifferenceLaws.{after_kept, seconds-are}
use Rattle.time.proofs.time.GpsTime.seconds_after.Goals as goal

pub returns : goal.returns
returns c = let d = c in
    let a = d.args.self in
    let b = d.args.earlier in
    seconds-are a b c.nearest_i64_to_f64.result
    (c.nearest_i64_to_f64.ensures ∙ ap (λ (z : ℤ). of_int binary64 z) (after_kept a b c.nanos_after.result d.requires.0 d.requires.1 c.nanos_after.ensures))
