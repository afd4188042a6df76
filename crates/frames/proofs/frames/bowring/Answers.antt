-- `frames::frames::bowring` meets its contract. Assumes nothing.
use Rattle.frames.specs.Frames.{bowring}
use Rattle.frames.proofs.FramesValues.{major, minor, first, second}
use Rattle.frames.proofs.frames.bowring.Goals as goal

pub returns : goal.returns
unfolding bowring
returns c = rw (major, minor, first, second, c.towards.ensures)
