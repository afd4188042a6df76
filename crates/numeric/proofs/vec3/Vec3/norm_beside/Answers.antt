-- `numeric::vec3::Vec3::norm_beside` meets its contract. Assumes nothing.
use Rattle.numeric.specs.Vec3.{norm}
use Rattle.numeric.proofs.vec3.Vec3.norm_beside.Goals as goal

pub returns : goal.returns
unfolding norm
returns c = rw c.sqrt_beside.ensures
