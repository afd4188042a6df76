-- `tdcp::moved::moved_to` meets its contract. Assumes nothing.
use Rattle.numeric.specs.Rules.{ruled}
use Rattle.estimate_rounds.specs.Rounds.{finite_at}
use Rattle.tdcp.specs.Displacement.{end_rules}
use Rattle.tdcp.proofs.moved.moved_to.Goals as goal

pub returns-then-is_finite : goal.returns-then-is_finite
unfolding end_rules finite_at ruled
returns-then-is_finite c = rw (rw c.is_finite.ensures at c.if-is_finite.true)

pub returns : goal.returns
unfolding end_rules finite_at ruled
returns c = rw (rw c.is_finite.ensures at c.if-is_finite.false)
