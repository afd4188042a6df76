-- `time::time::GpsTime::new` meets its contract. Assumes nothing.
use Rattle.std.proofs.Common.{◌≡◌, true, false, leb, sym, ◌∙◌, arith, leb-true}
use Rattle.time.specs.Time.{is_time, time_of, in_week}
use Rattle.time.proofs.WeekLaws.{both, nanos-upto}
use Rattle.time.proofs.time.GpsTime.new.Goals as goal

pub returns-then-not-is_time : goal.returns-then-not-is_time
unfolding time_of
returns-then-not-is_time c = let h : is_time c.args.week c.args.tow ≡ false = sym c.is_time.ensures ∙ c.if-not-is_time.true in rw h

passed : (c : goal.Else-not-is_time) → is_time c.args.week c.args.tow ≡ true
passed c = sym c.is_time.ensures ∙ c.if-not-is_time.false

parts : (c : goal.Else-not-is_time) → (leb c.args.week 15000 ≡ true) × (in_week c.args.tow ≡ true)
parts c = both (leb c.args.week 15000) (in_week c.args.tow) (passed c)

pub overflow_mul-result : goal.overflow_mul-result
overflow_mul-result c = omega (arith, leb-true c.args.week 15000 (parts c).0)

pub nanos_of-requires : goal.nanos_of-requires
nanos_of-requires c = (parts c).1

pub overflow_add-result : goal.overflow_add-result
overflow_add-result c = let d = c in omega (arith, leb-true d.args.week 15000 (parts d.before).0, nanos-upto d.args.tow (parts d.before).1, c.nanos_of.ensures)

pub returns : goal.returns
unfolding time_of
returns c = rw (passed c.before, c.nanos_of.ensures)
