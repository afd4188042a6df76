use Rattle.track_pass.proofs.Adding.{Adding}
use Rattle.track_pass.specs.Input.{measured_in}
use Rattle.track_pass.specs.Steps.{link_change}
use Rattle.track_tridiagonal.specs.Rows.{float_at}
use Prim.Native.Nat.{◌+◌, ◌*◌}
use Rattle.track_pass.proofs.system.add_links.Given as goal

abbrev pub invariant-loop-j : goal.invariant-loop-j
invariant-loop-j l = Adding (link_change (measured_in l.links) (λ j. float_at l.initial.w (l.n * 9 + l.skip + j))) l.initial.w l.n l.links.count l.j l.w
