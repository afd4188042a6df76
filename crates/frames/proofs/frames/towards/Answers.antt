-- `frames::frames::towards` meets its contract. Assumes nothing.
use Rattle.frames.specs.Frames.{towards}
use Rattle.frames.proofs.frames.towards.Goals as goal

pub returns : goal.returns
unfolding towards
returns c = rw c.hypot-h.ensures
