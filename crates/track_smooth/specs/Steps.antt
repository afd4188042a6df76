-- What each step of the fit leaves in the lent memory. Definitions only.
use Rattle.std.specs.Prelude.{Result, Ok, Err, ⊤, Option, Some}
use Rattle.numeric.specs.declared.refusal.Refusal.{Refusal}
use Rattle.std.specs.Prelude.{◌≡◌, Bool, true, false, List, ℕ, ◌+◌, ◌*◌, ◌≤◌, ◌<◌, T, length, get_or, Float}
use Rattle.std.specs.Float.{nan, binary64}
use Rattle.std.specs.Float.Ieee.{fits, is_nan, lt, le}
use Rattle.lists.specs.Memory.{before, after, LentNumbers}
use Rattle.exact.specs.Float.{◌⊕◌, ◌⊖◌, ◌⊘◌, +0}
use Rattle.root.specs.Root.{root_of}
use Rattle.numeric.specs.Real.{square}
use Rattle.numeric.specs.Rules.{ruled}
use Rattle.numeric.specs.declared.vec3.Vec3.{Vec3}
use Rattle.track_tridiagonal.specs.Rows.{float_at, SameOutside}
use Rattle.track_pass.specs.Input.{Measured, Trajectory, work_need}
use Rattle.track_pass.specs.Pass.{pass_succeeds}
use Rattle.track_pass.specs.Steps.{Lent, Valid, Tabulated}
use Rattle.track_smooth.specs.declared.Settings.{Settings}
use Rattle.track_smooth.specs.Track.{huber_of, anchor_scale, link_scale, ones, smoothed}
use Rattle.track_smooth.specs.Answer.{track_rules}

-- the refusal before the fit, `Ok` where there is none
abbrev pub track_checked : Trajectory → Settings → (r w : ℕ) → Result ⊤ Refusal
track_checked p s r w = ruled Err (track_rules p s r w) (Ok tt)

-- the fit in a list
abbrev pub fit_in : List ℕ → ℕ → ℕ → Float
fit_in r t k = float_at r (k * 3 + t)

-- x, y, z from place i on
abbrev pub point_in : List ℕ → ℕ → Vec3
point_in r i = record { x = float_at r i; y = float_at r (i + 1); z = float_at r (i + 2) }

-- no pattern of a list is a NaN's
pub record Numbers (r : List ℕ) : Type 0 where
  pub number : (k : ℕ) → k < length r → is_nan (float_at r k) ≡ false

-- the root of a positive float up to the limit c, where there is one, is within the threshold h
pub record Limit (h : Float) (c : Option Float) : Type 0 where
  pub within : (most q : Float) → c ≡ Some most → T (fits binary64 q) → lt +0 q ≡ true → le q most ≡ true → le (root_of q) h ≡ true

-- the scale of a measurement that the fit has at f, its floats from place a on
abbrev pub point_scale : Float → Vec3 → (value sigma : List Float) → ℕ → Float
point_scale h f v s a =
    huber_of h (root_of (square ((f.x ⊖ get_or v a nan) ⊘ get_or s a nan) ⊕ square ((f.y ⊖ get_or v (a + 1) nan) ⊘ get_or s (a + 1) nan)
    ⊕ square ((f.z ⊖ get_or v (a + 2) nan) ⊘ get_or s (a + 2) nan)))

-- measurements with indices below the bound, a limit c of h, room for their scales from the place `from` on, and numbers in the fit r
pub record Weighable (m : Measured) (bound : ℕ) (h : Float) (c : Option Float) (from : ℕ) (w r : List ℕ) : Type 0 where
  pub lent : Lent m bound
  pub limit : Limit h c
  pub room : from + m.count ≤ length w
  pub numbers : Numbers r

-- the scales f of the first m measurements, from the place `from` on
pub record Weighed (f : ℕ → Float) (from m : ℕ) (w w' : List ℕ) : Type 0 where
  pub kept : SameOutside from (from + m) w w'
  pub scales : (j : ℕ) → j < m → float_at w' (from + j) ≡ f j

-- by the fit that r is lent with, the scales of all
abbrev pub WeighedBy : (Measured → Float → (ℕ → ℕ → Float) → ℕ → Float) → Measured → Float → (r : LentNumbers) → (from : ℕ) → (w : LentNumbers) → Type 0
WeighedBy scale m h r from w = Weighed (scale m h (fit_in (before r))) from m.count (before w) (after w)

-- a trajectory with room for its scales, and its fit in r
pub record Reweighable (p : Trajectory) (w r : List ℕ) : Type 0 where
  pub valid : Valid p
  pub work : work_need p ≤ length w
  pub long : length r ≡ p.n * 3
  pub numbers : Numbers r

-- the scales of all measurements by the fit in r, after the rows
pub record Reweighed (p : Trajectory) (h : Float) (r w w' : List ℕ) : Type 0 where
  pub kept : SameOutside 0 (work_need p) w w'
  pub anchors : (j : ℕ) → j < p.anchors.count → float_at w' (p.n * 9 + j) ≡ anchor_scale p.anchors h (fit_in r) j
  pub links : (j : ℕ) → j < p.links.count → float_at w' (p.n * 9 + p.anchors.count + j) ≡ link_scale p.links h (fit_in r) j

-- The track, or a first pass that failed and left r unchanged.
pub record FitDone (p : Trajectory) (h : Float) (iterations : ℕ) (w w' r : List ℕ) (ok : Bool) (r' : List ℕ) : Type 0 where
  pub work-kept : SameOutside 0 (work_need p) w w'
  pub kept : SameOutside 0 (p.n * 3) r r'
  pub answer : ok ≡ pass_succeeds p ones
  pub yes-holds : ok ≡ true → Tabulated r' p.n (smoothed p h iterations)
  pub no_same : ok ≡ false → r' ≡ r

abbrev pub Fitted : Trajectory → Settings → (w r : LentNumbers) → Bool → Type 0
Fitted p s w r ok = FitDone p s.huber s.iterations (before w) (after w) (before r) ok (after r)
