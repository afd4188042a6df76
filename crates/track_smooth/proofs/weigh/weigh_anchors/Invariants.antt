use Rattle.track_smooth.specs.Steps.{Weighed, fit_in}
use Rattle.track_smooth.specs.Track.{anchor_scale}
use Rattle.track_pass.specs.Input.{measured_in}
use lib.ListN.{length}
use Prim.Native.Nat.{◌≤◌}
use mathlib.Core.Path.{◌≡◌}
use Rattle.track_smooth.proofs.weigh.weigh_anchors.Given as goal

abbrev pub invariant-loop-j : goal.invariant-loop-j
invariant-loop-j l = (l.j ≤ l.anchors.count) × (length l.w ≡ length l.initial.w) × Weighed (anchor_scale (measured_in l.anchors) l.h (fit_in l.r)) l.from l.j l.initial.w l.w
