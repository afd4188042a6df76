-- `time::time::GpsTime::nanos_since` meets its contract. Assumes nothing.
use Rattle.std.specs.Prelude.{Ok}
use Rattle.std.proofs.Common.{◌≡◌, true, ◌&&◌, ℤ, sym, ap, ◌∙◌, ap₂}
use Rattle.time.specs.Time.{is_dated}
use Rattle.time.proofs.WeekLaws.{both}
use Rattle.time.proofs.DifferenceLaws.{after_kept, nanos-given, nanos-refused}
use Rattle.time.proofs.time.GpsTime.nanos_since.Goals as goal

dated : (c : goal.Then-is_dated) → (is_dated c.args.self ≡ true) × (is_dated c.args.earlier ≡ true)
dated c = both _ _ (ap₂ ◌&&◌ (sym c.is_dated.ensures) (sym c.is_dated-2.ensures) ∙ c.if-is_dated.true)

pub nanos_after-requires : goal.nanos_after-requires
nanos_after-requires c = dated c

pub returns-then-is_dated : goal.returns-then-is_dated
returns-then-is_dated c = let d = c in
    let a = d.args in
    ap (λ (z : ℤ). Ok z) (after_kept a.self a.earlier c.nanos_after.result (dated d.before).0 (dated d.before).1 c.nanos_after.ensures) ∙ sym (nanos-given a.self a.earlier (dated d.before).0 (dated d.before).1)

pub returns : goal.returns
returns c = let a = c.args in
    sym (nanos-refused a.self a.earlier (ap₂ ◌&&◌ (sym c.is_dated.ensures) (sym c.is_dated-2.ensures) ∙ c.if-is_dated.false))
