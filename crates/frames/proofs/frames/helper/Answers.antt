-- `frames::frames::helper` meets its contract. Assumes nothing.
use Rattle.frames.specs.Frames.{helper}
use Rattle.frames.proofs.FramesValues.{major, minor}
use Rattle.frames.proofs.frames.helper.Goals as goal

pub returns : goal.returns
unfolding helper
returns c = rw (major, minor, c.towards.ensures)
