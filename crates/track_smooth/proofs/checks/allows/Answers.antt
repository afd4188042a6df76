use Rattle.track_smooth.specs.Answer.{settings_ok}
use Rattle.track_smooth.proofs.checks.allows.Goals as goal

pub returns : goal.returns
unfolding settings_ok
returns c = rw c.in_range.ensures
