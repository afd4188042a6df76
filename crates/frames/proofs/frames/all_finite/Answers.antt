-- `frames::frames::all_finite` meets its contract. Assumes nothing.
use Rattle.frames.specs.Frames.{all_finite}
use Rattle.frames.proofs.frames.all_finite.Goals as goal

pub returns : goal.returns
unfolding all_finite
returns c = cc
