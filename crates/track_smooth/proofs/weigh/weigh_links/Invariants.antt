use Rattle.track_smooth.specs.Steps.{Weighed, fit_in}
use Rattle.track_smooth.specs.Track.{link_scale}
use Rattle.track_pass.specs.Input.{measured_in}
use lib.ListN.{length}
use Prim.Native.Nat.{◌≤◌}
use mathlib.Core.Path.{◌≡◌}
use Rattle.track_smooth.proofs.weigh.weigh_links.Given as goal

abbrev pub invariant-loop-j : goal.invariant-loop-j
invariant-loop-j l = (l.j ≤ l.links.count) × (length l.w ≡ length l.initial.w) × Weighed (link_scale (measured_in l.links) l.h (fit_in l.r)) l.from l.j l.initial.w l.w
