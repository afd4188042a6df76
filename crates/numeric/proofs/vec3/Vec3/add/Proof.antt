-- `numeric::vec3::Vec3::add` meets its contract. Assumes nothing.
use mathlib.Core.Path.{refl}
use Rattle.numeric.specs.Vec3.{add}
use Rattle.numeric.proofs.vec3.Vec3.add.Statement.{statement}
use Rattle.numeric.proofs.vec3.Vec3.add.Tie as tie

returns : tie.Need-returns
unfolding add
returns c = refl

pub add_spec : {M : Type 1} → statement M
add_spec = tie.close (tie.spec returns)
