-- `mileage::mileage::Mileage::report` meets its contract. Assumes nothing.
use mathlib.Core.Path.{sym, ◌∙◌}
use native.Mathlib.Omega.{arith}
use Rattle.mileage.specs.Mileage.{mileage_reported}
use Rattle.mileage.proofs.BoundsLaws.{bounds}
use Rattle.mileage.proofs.mileage.Mileage.report.Goals as goal

pub returns-then-not-is_sound : goal.returns-then-not-is_sound
unfolding mileage_reported
returns-then-not-is_sound c = rw (sym c.is_sound.ensures ∙ c.if-not-is_sound.true)

pub overflow_add-result : goal.overflow_add-result
overflow_add-result c = let s = c in omega (arith, bounds s.args.self (sym s.is_sound.ensures ∙ c.if-not-is_sound.false))

pub returns : goal.returns
unfolding mileage_reported
returns c = rw (sym c.is_sound.ensures ∙ c.if-not-is_sound.false)
