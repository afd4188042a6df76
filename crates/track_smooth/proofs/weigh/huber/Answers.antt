use Rattle.track_smooth.proofs.Weights.{huber-near, huber-far}
use Rattle.track_smooth.proofs.weigh.huber.Goals as goal

pub returns-then-z-h : goal.returns-then-z-h
returns-then-z-h c = huber-near _ _ c.if-z-h.true

pub returns : goal.returns
returns c = huber-far _ _ _ c.if-z-h.false c.max.ensures
