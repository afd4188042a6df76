-- `frames::frames::latitude` meets its contract. Assumes nothing.
use lib.Ieee.{neg, of_bits}
use Rattle.frames.specs.Frames.{latitude}
use Rattle.frames.proofs.FramesValues.{axis_limit}
use Rattle.frames.proofs.frames.latitude.Goals as goal

pub returns-then-z : goal.returns-then-z
unfolding latitude
returns-then-z c = rw (axis_limit, c.if-p.true, c.if-z.true)

pub returns-then-p : goal.returns-then-p
unfolding latitude neg of_bits
returns-then-p c = rw (axis_limit, c.if-p.true, c.if-z.false)

pub returns : goal.returns
unfolding latitude
returns c = rw (axis_limit, c.if-p.false, c.bowring.ensures, c.helper.ensures)
