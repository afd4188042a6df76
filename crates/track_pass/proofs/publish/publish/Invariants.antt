use Rattle.track_pass.specs.Steps.{Published}
use lib.ListN.{length}
use Prim.Native.Nat.{◌≤◌}
use mathlib.Core.Path.{◌≡◌}
use Rattle.track_pass.proofs.publish.publish.Given as goal

abbrev pub invariant-loop-k : goal.invariant-loop-k
invariant-loop-k l = (l.k ≤ l.n) × (length l.r ≡ length l.initial.r) × Published l.w l.k l.origin.x l.origin.y l.origin.z l.initial.r l.r
