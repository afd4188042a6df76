-- `tdcp::valid::apart` meets its contract. Assumes nothing.
use mathlib.Core.Path.{◌∙◌}
use Rattle.numeric.specs.Rules.{ruled}
use Rattle.tdcp.proofs.IntervalLaws.{since-times}
use Rattle.tdcp.proofs.valid.apart.Goals as goal

pub returns-in-Seconds : goal.returns-in-Seconds
unfolding ruled
returns-in-Seconds c = rw c.in-Seconds.is

pub returns-in-Between : goal.returns-in-Between
returns-in-Between c = rw c.in-Between.is (c.seconds_since.ensures ∙ since-times _ _)
