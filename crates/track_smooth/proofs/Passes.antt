-- The good passes of a track: the track is the fit of the last, and each meets its equations. Assumes nothing.
use mathlib.Core.Path.{◌≡◌, refl, ◌∙◌, ap}
use mathlib.Core.Bool.{Bool, true, false, cond}
use mathlib.Core.List.{List, [], ◌∷◌}
use Prim.Native.Nat.{ℕ, zero, suc, ◌-◌, ◌<◌}
use native.Mathlib.Omega.{arith}
use lib.Ieee.{Float}
use Rattle.track_pass.specs.Input.{Trajectory}
use Rattle.track_pass.specs.Equations.{Scales}
use Rattle.track_pass.specs.Pass.{pass_succeeds, fitted_at, PassAccurate}
use Rattle.track_pass.proofs.Accuracy.{pass-accurate}
use Rattle.track_smooth.specs.Track.{scales_of, ones, smoothed, passes_from, good_passes, last_pass, EachPass}

-- ---- the track from a pass on

-- the fit of the last good pass, of up to m after the one with the scales s
abbrev pub track_from : Trajectory → Float → ℕ → Scales → ℕ → ℕ → Float
track_from p h m s = fitted_at p (last_pass s (passes_from p h m s))

module _ (p : Trajectory) (h : Float) where
  -- the scales of the pass after one with the scales s
  abbrev pub next_scales : Scales → Scales
  next_scales s = scales_of p h (fitted_at p s)

  some-last : (m : ℕ) (d s : Scales) → last_pass d (passes_from p h m s) ≡ last_pass s (passes_from p h m s)
  unfolding passes_from last_pass
  some-last zero d s = refl
  some-last (suc m) d s = refl

  chosen : (b c : Bool) (m : ℕ) (s : Scales) → b ≡ c → fitted_at p (last_pass s (cond b (passes_from p h m (next_scales s)) [])) ≡ fitted_at p (last_pass s (cond c (passes_from p h m (next_scales s)) []))
  chosen b c m s e = ap (λ (b : Bool). fitted_at p (last_pass s (cond b (passes_from p h m (next_scales s)) []))) e

  pub from-none : (m : ℕ) (s : Scales) → m ≡ 0 → track_from p h m s ≡ fitted_at p s
  unfolding passes_from last_pass
  from-none m s e = rw e

  more_yes : (m : ℕ) (s : Scales) → pass_succeeds p (next_scales s) ≡ true → track_from p h (suc m) s ≡ track_from p h m (next_scales s)
  unfolding passes_from last_pass
  more_yes m s e = chosen (pass_succeeds p (next_scales s)) true m s e ∙ ap (fitted_at p) (some-last m s (next_scales s))

  more_no : (m : ℕ) (s : Scales) → pass_succeeds p (next_scales s) ≡ false → track_from p h (suc m) s ≡ fitted_at p s
  unfolding passes_from last_pass
  more_no m s e = chosen (pass_succeeds p (next_scales s)) false m s e

  pub from-yes : (m : ℕ) (s : Scales) → pass_succeeds p (next_scales s) ≡ true → 0 < m → track_from p h m s ≡ track_from p h (m - 1) (next_scales s)
  from-yes zero s e l = absurd (omega arith)
  from-yes (suc m) s e l = let i : m ≡ suc m - 1 = omega arith in more_yes m s e ∙ ap (λ (k : ℕ). track_from p h k (next_scales s)) i

  pub from-no : (m : ℕ) (s : Scales) → pass_succeeds p (next_scales s) ≡ false → 0 < m → track_from p h m s ≡ fitted_at p s
  from-no zero s e l = absurd (omega arith)
  from-no (suc m) s e l = more_no m s e

-- ---- the good passes

pub track-is-last : (p : Trajectory) (h : Float) (its : ℕ) → pass_succeeds p ones ≡ true → smoothed p h its ≡ fitted_at p (last_pass ones (good_passes p h its))
unfolding smoothed good_passes
track-is-last p h its e = rw e

from-pass : (p : Trajectory) (h : Float) (r : ℕ) (s : Scales) → pass_succeeds p s ≡ true → EachPass (λ s. pass_succeeds p s ≡ true) (passes_from p h r s)
unfolding passes_from EachPass
from-pass p h zero s e = (e, tt)
from-pass p h (suc r) s e = (e, go (pass_succeeds p (scales_of p h (fitted_at p s))) (from-pass p h r (scales_of p h (fitted_at p s))))
  where
    go : (b : Bool) → (b ≡ true → EachPass (λ s. pass_succeeds p s ≡ true) (passes_from p h r (scales_of p h (fitted_at p s)))) → EachPass (λ s. pass_succeeds p s ≡ true) (cond b (passes_from p h r (scales_of p h (fitted_at p s))) [])
    go true f = f refl
    go false f = tt

of-each : (P : Scales → Type 0) (s : Scales) (ss : List Scales) → P s → EachPass P ss → P (last_pass s ss)
unfolding last_pass EachPass
of-each P s [] x a = x
of-each P s (t ∷ ts) x a = of-each P t ts a.0 a.1

-- the last of them is good where the first is
pub last-good : (p : Trajectory) (h : Float) (m : ℕ) → pass_succeeds p ones ≡ true → pass_succeeds p (last_pass ones (passes_from p h m ones)) ≡ true
last-good p h m e = of-each (λ s. pass_succeeds p s ≡ true) ones (passes_from p h m ones) e (from-pass p h m ones e)

-- each of them passes
pub good-pass : (p : Trajectory) (h : Float) (its : ℕ) → EachPass (λ s. pass_succeeds p s ≡ true) (good_passes p h its)
unfolding good_passes EachPass
good-pass p h its = go (pass_succeeds p ones) refl
  where
    go : (b : Bool) → pass_succeeds p ones ≡ b → EachPass (λ s. pass_succeeds p s ≡ true) (cond b (passes_from p h (its - 1) ones) [])
    go true e = from-pass p h (its - 1) ones e
    go false e = tt

-- THE LAW: each of a list of passes meets its equations
pub all-accurate : (p : Trajectory) (ss : List Scales) → EachPass (PassAccurate p) ss
unfolding EachPass
all-accurate p [] = tt
all-accurate p (s ∷ ss) = (pass-accurate p s, all-accurate p ss)
