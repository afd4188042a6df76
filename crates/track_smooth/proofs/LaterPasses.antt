-- THE LAW: a later pass that fails never fails the track. Where 2 to 6 pass and the first pass is good, the track is given, and it is that of the last pass before the first
-- that fails, or of the last pass where none fails; no iterations run one pass. Assumes nothing.
use mathlib.Core.Path.{◌≡◌, refl, ◌∙◌, ap}
use mathlib.Core.Bool.{true, false}
use mathlib.Core.Logic.{◌⊎◌, inl, inr, ⊎_elim}
use Prim.Native.Nat.{ℕ, zero, suc, ◌+◌, ◌-◌, ◌≤◌, ◌<◌}
use native.Mathlib.Omega.{arith}
use lib.Ieee.{Float}
use Rattle.track_pass.specs.Input.{Trajectory}
use Rattle.track_pass.specs.Pass.{pass_succeeds, fitted_at}
use Rattle.track_smooth.specs.declared.Settings.{Settings}
use Rattle.track_smooth.specs.Track.{ones, smoothed, points, pass_at}
use Rattle.numeric.specs.Rules.{ruled}
use Rattle.track_smooth.proofs.Passes.{track_from, from-none, from-yes, from-no}
use Rattle.track_smooth.specs.Answer.{counts_ok, settings_ok, records_ok, track_ok, Points, track_of}

module _ (p : Trajectory) (h : Float) where
  abbrev pass_fit : ℕ → ℕ → ℕ → Float
  pass_fit i = fitted_at p (pass_at p h i)

  -- k good passes after pass i, and then none more is left or the next one fails
  track-at : (k i r : ℕ) → ((j : ℕ) → i < j → j ≤ i + k → pass_succeeds p (pass_at p h j) ≡ true) → k ≤ r → (k ≡ r) ⊎ (pass_succeeds p (pass_at p h (suc (i + k))) ≡ false)
      → track_from p h r (pass_at p h i) ≡ pass_fit (i + k)
  unfolding pass_at
  track-at zero i zero good l end = let e : i ≡ i + 0 = omega arith in from-none p h 0 (pass_at p h i) refl ∙ ap pass_fit e
  track-at zero i (suc r) good l end =
      let e : i ≡ i + 0 = omega arith in
      ⊎_elim
      (λ q. absurd (omega arith))
      (λ q. from-no p h (suc r) (pass_at p h i) (ap (λ (j : ℕ). pass_succeeds p (pass_at p h (suc j))) e ∙ q) (omega arith) ∙ ap pass_fit e)
      end
  track-at (suc k) i zero good l end = absurd (omega arith)
  track-at (suc k) i (suc r) good l end =
      let e : suc i + k ≡ i + suc k = omega arith in
      let q : suc r - 1 ≡ r = omega arith in
      from-yes p h (suc r) (pass_at p h i) (good (suc i) (omega arith) (omega arith)) (omega arith)
      ∙ ap (λ (m : ℕ). track_from p h m (pass_at p h (suc i))) q
      ∙ track-at k (suc i) r (λ j a b. good j (omega arith) (omega arith)) (omega arith) (⊎_elim (λ q. inl (omega arith)) (λ q. inr (ap (λ (j : ℕ). pass_succeeds p (pass_at p h (suc j))) e ∙ q)) end)
      ∙ ap pass_fit e

pub track-of-last : (p : Trajectory) (s : Settings) (r w : ℕ) → counts_ok p r w ≡ true → settings_ok s ≡ true → records_ok p ≡ true → track_ok p ≡ true
    → (m : ℕ) → m ≤ s.iterations - 1 → ((j : ℕ) → j ≤ m → pass_succeeds p (pass_at p s.huber j) ≡ true)
    → (m ≡ s.iterations - 1) ⊎ (pass_succeeds p (pass_at p s.huber (suc m)) ≡ false)
    → track_of p s r w ≡ Points (points (fitted_at p (pass_at p s.huber m)) p.n)
unfolding track_of ruled smoothed pass_at
track-of-last p s r w e2 e3 e4 e6 m l good end =
    let first : pass_succeeds p ones ≡ true = good 0 (omega arith) in
    let z : 0 + m ≡ m = omega arith in
    rw (e2, e3, e4, e6, first)
    (ap (λ (f : ℕ → ℕ → Float). Points (points f p.n))
    (track-at p s.huber m 0 (s.iterations - 1) (λ j a b. good j (omega arith)) l (⊎_elim inl (λ q. inr (ap (λ (j : ℕ). pass_succeeds p (pass_at p s.huber (suc j))) z ∙ q)) end)
    ∙ ap (λ (j : ℕ). fitted_at p (pass_at p s.huber j)) z))
