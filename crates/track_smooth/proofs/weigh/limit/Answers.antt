use Rattle.track_smooth.proofs.Weights.{no-limit, some-limit}
use Rattle.track_smooth.proofs.weigh.limit.Goals as goal

pub returns-then-h-c : goal.returns-then-h-c
returns-then-h-c c = some-limit _ _ c.sqrt-z.ensures c.if-h-c.true
