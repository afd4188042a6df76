-- `mileage::mileage::Mileage::start` meets its contract. Assumes nothing.
use mathlib.Core.Path.{sym, ◌∙◌}
use Rattle.mileage.specs.Mileage.{in_places, sum, mileage_report, mileage_of, mileage_started}
use Rattle.mileage.proofs.mileage.Mileage.start.Goals as goal

pub returns-then-in_range : goal.returns-then-in_range
unfolding mileage_started mileage_of mileage_report in_places sum
returns-then-in_range c = rw (sym c.in_range.ensures ∙ c.if-in_range.true)

pub returns : goal.returns
unfolding mileage_started
returns c = rw (sym c.in_range.ensures ∙ c.if-in_range.false)
