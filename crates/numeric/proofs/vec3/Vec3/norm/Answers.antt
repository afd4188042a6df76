-- `numeric::vec3::Vec3::norm` meets its contract. Assumes nothing.
use Rattle.numeric.specs.Vec3.{norm}
use Rattle.numeric.proofs.vec3.Vec3.norm.Goals as goal

pub returns : goal.returns
unfolding norm
returns c = rw c.sqrt.ensures
