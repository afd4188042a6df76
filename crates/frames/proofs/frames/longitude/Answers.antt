-- `frames::frames::longitude` meets its contract. Assumes nothing.
use Rattle.frames.specs.Frames.{longitude}
use Rattle.frames.proofs.FramesValues.{axis_limit}
use Rattle.frames.proofs.frames.longitude.Goals as goal

pub returns-then-p : goal.returns-then-p
unfolding longitude
returns-then-p c = rw (axis_limit, c.if-p.true)

pub returns : goal.returns
unfolding longitude
returns c = rw (axis_limit, c.if-p.false)
