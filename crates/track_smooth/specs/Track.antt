-- The track, in the order of operations of the reference (smooth.rs, `huber` and `smooth`). Definitions only.
-- A fit is a function of the axis, 0 for x, 1 for y and 2 for z, and of the epoch.
use Rattle.std.specs.Prelude.{cond, List, [], ◌∷◌, ◌++◌, ℕ, zero, suc, ◌-◌, Float}
use Rattle.std.specs.Float.Ieee.{le}
use Rattle.exact.specs.Float.{◌⊕◌, ◌⊖◌, ◌⊘◌, 1·0, decimal}
use Rattle.root.specs.Root.{root_of}
use Rattle.numeric.specs.Real.{square, max}
use Rattle.track_pass.specs.Input.{Measured, Trajectory, index_at, value_at, sigma_at}
use Rattle.track_pass.specs.Equations.{Scales, next_at}
use Rattle.track_pass.specs.Pass.{pass_succeeds, fitted_at}

-- ---- how much a measurement counts, by the fit before

-- how far residuals r lie off, in sigmas s
abbrev pub scaled_distance : (r s : ℕ → Float) → Float
scaled_distance r s = root_of (square (r 0 ⊘ s 0) ⊕ square (r 1 ⊘ s 1) ⊕ square (r 2 ⊘ s 2))

-- `huber`: 1 up to the threshold h, and beyond it h over the distance z, which counts as 1e-12 at least; a NaN distance does too
unfoldable pub huber_of : Float → Float → Float
huber_of h z = cond (le z h) 1·0 (h ⊘ max z (decimal 1 12))

-- the residuals of anchor j and of link j in the fit f
abbrev pub anchor_off : Measured → (ℕ → ℕ → Float) → ℕ → ℕ → Float
anchor_off m f j t = f t (index_at m j) ⊖ value_at m t j

abbrev pub link_off : Measured → (ℕ → ℕ → Float) → ℕ → ℕ → Float
link_off m f j t = f t (next_at m j) ⊖ f t (index_at m j) ⊖ value_at m t j

unfoldable pub anchor_scale : Measured → Float → (ℕ → ℕ → Float) → ℕ → Float
anchor_scale m h f j = huber_of h (scaled_distance (anchor_off m f j) (λ t. sigma_at m t j))

unfoldable pub link_scale : Measured → Float → (ℕ → ℕ → Float) → ℕ → Float
link_scale m h f j = huber_of h (scaled_distance (link_off m f j) (λ t. sigma_at m t j))

abbrev pub scales_of : Trajectory → Float → (ℕ → ℕ → Float) → Scales
scales_of p h f = record { anchors = anchor_scale p.anchors h f; links = link_scale p.links h f }

-- ---- the passes

-- in the first pass each measurement counts once
abbrev pub ones : Scales
ones = record { anchors = λ j. 1·0; links = λ j. 1·0 }

-- The passes from one with the scales s, which is good, on: each is weighed by the fit before it, and one that fails ends the work. A pass is given by its scales: its
-- equations on axis t are `equations_of p s t`; `pivot`, `factor` and `solution` of them are its elimination's.
unfoldable pub passes_from : Trajectory → Float → ℕ → Scales → List Scales
passes_from p h zero s = s ∷ []
passes_from p h (suc r) s = let s' = scales_of p h (fitted_at p s) in s ∷ cond (pass_succeeds p s') (passes_from p h r s') []

-- the last of a list of passes, s where there is none
unfoldable pub last_pass : Scales → List Scales → Scales
last_pass s [] = s
last_pass s (t ∷ ts) = last_pass t ts

-- The fit after the given iterations: that of the last good pass. The first pass is one of them, and also runs with none.
unfoldable pub smoothed : Trajectory → Float → ℕ → ℕ → ℕ → Float
smoothed p h iterations = fitted_at p (last_pass ones (passes_from p h (iterations - 1) ones))

-- a fit of n epochs as a list: x, y, z of the first epoch, then of the next, and so on
unfoldable pub points : (ℕ → ℕ → Float) → ℕ → List Float
points f zero = []
points f (suc k) = points f k ++ (f 0 k ∷ f 1 k ∷ f 2 k ∷ [])

-- ---- the passes in the laws

-- the scales of pass i, where all before it are good: the first counts each measurement once, and each later one weighs by the fit before it
unfoldable pub pass_at : Trajectory → Float → ℕ → Scales
pass_at p h zero = ones
pass_at p h (suc i) = scales_of p h (fitted_at p (pass_at p h i))

-- all the good passes of a track, none where the first fails
unfoldable pub good_passes : Trajectory → Float → ℕ → List Scales
good_passes p h iterations = cond (pass_succeeds p ones) (passes_from p h (iterations - 1) ones) []

-- P holds of each pass of a list
unfoldable pub EachPass : (Scales → Type 0) → List Scales → Type 0
EachPass P [] = Unit
EachPass P (s ∷ ss) = P s × EachPass P ss
