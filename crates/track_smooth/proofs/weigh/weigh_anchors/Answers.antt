use Rattle.track_smooth.proofs.Weights.{weighed_none, weighed_all, anchor_weighed, at-point}
use Rattle.track_pass.specs.Input.{measured_in}
use lib.ListN.{length-set}
use mathlib.Core.Path.{refl}
use native.Mathlib.Omega.{arith}
use Rattle.track_smooth.proofs.weigh.weigh_anchors.Goals as goal

pub loop-j-preserved : goal.loop-j-preserved
loop-j-preserved c = let i = c.loop-j.invariant in (
  omega (arith, c.loop-j-test.true),
  simp length-set i.1,
  anchor_weighed (measured_in c.args.anchors) _ c.args.r.now _ _ _ _ (omega (arith, c.loop-j-test.true, c.requires.room, i.1)) c.scale.result c.point-f.result.x c.point-f.result.y c.point-f.result.z _ c.pattern.ensures c.scale.ensures (at-point c.args.r.now _ _ c.point-f.ensures) i.2,
)
