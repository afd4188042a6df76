-- Every coordinate of a track is finite. Assumes nothing.
use mathlib.Core.Path.{◌≡◌}
use mathlib.Core.Bool.{true, ◌&&◌}
use Prim.Native.Nat.{ℕ, ◌+◌, ◌-◌, ◌*◌, ◌<◌}
use native.Mathlib.Omega.{arith}
use lib.Ieee.{Float, nan}
use lib.Ieee.Scale.{finite}
use lib.ListN.{get_or}
use Rattle.numeric.specs.Real.{in_range}
use Rattle.track_tridiagonal.proofs.EachBelow.{left-true, each_at}
use Rattle.track_pass.specs.Input.{Trajectory, track_origin}
use Rattle.track_pass.specs.Pass.{pass_succeeds}
use Rattle.track_pass.proofs.Finite.{pass-finite}
use Rattle.track_smooth.specs.Track.{ones, smoothed, passes_from, last_pass}
use Rattle.track_smooth.specs.Answer.{in_range_below, measured_ok, records_ok}
use Rattle.track_smooth.proofs.Passes.{last-good}

pub smoothed-finite : (p : Trajectory) → ((t : ℕ) → t < 3 → in_range (track_origin p.anchors t) ≡ true) → (h : Float) (its : ℕ) → pass_succeeds p ones ≡ true
    → (t : ℕ) → t < 3 → (k : ℕ) → k < p.n → finite (smoothed p h its t k) ≡ true
unfolding smoothed
smoothed-finite p small h its e = pass-finite p small (last_pass ones (passes_from p h (its - 1) ones)) (last-good p h (its - 1) e)

-- the origin is one of the anchors' floats
pub origin-small : (p : Trajectory) → 0 < p.anchors.count → records_ok p ≡ true → (t : ℕ) → t < 3 → in_range (track_origin p.anchors t) ≡ true
unfolding records_ok
origin-small p h e t l =
    let A = in_range_below p.anchors.value (p.anchors.count * 3) in
    let B = in_range_below p.anchors.sigma (p.anchors.count * 3) in
    each_at (λ k. in_range (get_or p.anchors.value k nan)) (p.anchors.count * 3) (left-true A B (left-true (A && B) (measured_ok p.links) e)) (0 * 3 + t) (omega arith)
