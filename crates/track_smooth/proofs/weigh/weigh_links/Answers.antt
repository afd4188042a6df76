use Rattle.numeric.specs.Vec3.{sub}
use Rattle.numeric.specs.declared.vec3.Vec3.{Vec3}
use Rattle.track_smooth.proofs.Weights.{weighed_none, weighed_all, link_weighed, at-point}
use Rattle.track_pass.specs.Input.{measured_in}
use lib.ListN.{length-set}
use mathlib.Core.Path.{refl, ap}
use native.Mathlib.Omega.{arith}
use Rattle.track_smooth.proofs.weigh.weigh_links.Goals as goal

pub loop-j-preserved : goal.loop-j-preserved
unfolding sub
loop-j-preserved c = let i = c.loop-j.invariant in (
  omega (arith, c.loop-j-test.true),
  simp length-set i.1,
  link_weighed (measured_in c.args.links) _ c.args.r.now _ _ _ _ (omega (arith, c.loop-j-test.true, c.requires.room, i.1)) c.scale.result c.sub.result.x c.sub.result.y c.sub.result.z _ c.pattern.ensures c.scale.ensures c.point-f.result.x c.point-f.result.y c.point-f.result.z c.point-g.result.x c.point-g.result.y c.point-g.result.z (ap (λ (v : Vec3). v.x) c.sub.ensures) (ap (λ (v : Vec3). v.y) c.sub.ensures) (ap (λ (v : Vec3). v.z) c.sub.ensures) (at-point c.args.r.now _ _ c.point-f.ensures) (at-point c.args.r.now _ _ c.point-g.ensures) i.2,
)
