-- `numeric::vec3::Vec3::sub` meets its contract. Assumes nothing.
use mathlib.Core.Path.{refl}
use Rattle.numeric.specs.Vec3.{sub}
use Rattle.numeric.proofs.vec3.Vec3.sub.Statement.{statement}
use Rattle.numeric.proofs.vec3.Vec3.sub.Tie as tie

returns : tie.Need-returns
unfolding sub
returns c = refl

pub sub_spec : {M : Type 1} → statement M
sub_spec = tie.close (tie.spec returns)
