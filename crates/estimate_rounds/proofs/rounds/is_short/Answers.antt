-- `estimate_rounds::rounds::is_short` meets its contract. Assumes nothing.
use Rattle.estimate_rounds.specs.Rounds.{short_step}
use Rattle.estimate_rounds.proofs.rounds.is_short.Goals as goal

pub returns : goal.returns
unfolding short_step
returns c = rw (c.hypot-2.ensures, c.hypot.ensures)
