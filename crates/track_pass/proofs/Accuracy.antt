-- THE LAW: every pass meets its equations as closely as its bounds say, whatever was measured. Its columns are sums that begin at 0, so they fit binary64. Assumes nothing.
use Prim.Native.Nat.{ℕ, zero, suc}
use lib.Dec.{T, eqb}
use lib.Ieee.{Float, binary64, of_bits, fits}
use lib.Ieee.Fits.{cond-fits, add-fits, sub-fits}
use Rattle.exact.specs.Float.{◌⊕◌, ◌⊖◌}
use Rattle.track_tridiagonal.proofs.RowAccuracy.{Fitting, rows-accurate}
use Rattle.track_pass.specs.Input.{Trajectory, index_at}
use Rattle.track_pass.specs.Equations.{changed, raised_at, lower, no_equations, Scales, track_weight, next_at, anchor_pull, link_pull, link_diagonal, link_right, diagonal, upper, right, equations_of}
use Rattle.track_pass.specs.Pass.{PassAccurate}

-- every float of a column fits
abbrev Fit : Float → Type 0
Fit x = T (fits binary64 x)

changed-fits : (step : ℕ → ℕ → Float → Float) (c : ℕ → Float) → ((j k : ℕ) (x : Float) → Fit x → Fit (step j k x)) → ((k : ℕ) → Fit (c k)) → (j k : ℕ) → Fit (changed step c j k)
unfolding changed
changed-fits step c f g zero k = g k
changed-fits step c f g (suc j) k = f j k (changed step c j k) (changed-fits step c f g j k)

raise-fits : (row : ℕ → ℕ) (amount : ℕ → Float) (j k : ℕ) (x : Float) → Fit x → Fit (raised_at row amount j k x)
raise-fits row amount j k x f = cond-fits binary64 (eqb (row j) k) (x ⊕ amount j) x (add-fits binary64 x (amount j)) f

lower-fits : (row : ℕ → ℕ) (amount : ℕ → Float) (j k : ℕ) (x : Float) → Fit x → Fit (lower row amount j k x)
lower-fits row amount j k x f = cond-fits binary64 (eqb (row j) k) (x ⊖ amount j) x (sub-fits binary64 x (amount j)) f

zeros-fit : (k : ℕ) → Fit (no_equations k)
unfolding of_bits fits
zeros-fit k = tt

module _ (p : Trajectory) (s : Scales) (t : ℕ) where
  diagonal-fits : (k : ℕ) → Fit (diagonal p s t k)
  unfolding diagonal
  diagonal-fits k =
      changed-fits (link_diagonal p.links s.links t) (changed (raised_at (index_at p.anchors) (track_weight p.anchors s.anchors t)) no_equations p.anchors.count)
      (λ j k x f. raise-fits (next_at p.links) (track_weight p.links s.links t) j k (raised_at (index_at p.links) (track_weight p.links s.links t) j k x) (raise-fits (index_at p.links) (track_weight p.links s.links t) j k x f))
      (changed-fits (raised_at (index_at p.anchors) (track_weight p.anchors s.anchors t)) no_equations (raise-fits (index_at p.anchors) (track_weight p.anchors s.anchors t)) zeros-fit p.anchors.count) p.links.count k

  upper_fits : (k : ℕ) → Fit (upper p s t k)
  unfolding upper
  upper_fits k = changed-fits (lower (index_at p.links) (track_weight p.links s.links t)) no_equations (lower-fits (index_at p.links) (track_weight p.links s.links t)) zeros-fit p.links.count k

  right-fits : (k : ℕ) → Fit (right p s t k)
  unfolding right
  right-fits k =
      changed-fits (link_right p.links s.links t) (changed (raised_at (index_at p.anchors) (anchor_pull p.anchors s.anchors t)) no_equations p.anchors.count)
      (λ j k x f. raise-fits (next_at p.links) (link_pull p.links s.links t) j k (lower (index_at p.links) (link_pull p.links s.links t) j k x) (lower-fits (index_at p.links) (link_pull p.links s.links t) j k x f))
      (changed-fits (raised_at (index_at p.anchors) (anchor_pull p.anchors s.anchors t)) no_equations (raise-fits (index_at p.anchors) (anchor_pull p.anchors s.anchors t)) zeros-fit p.anchors.count) p.links.count k

  fitting : (n : ℕ) → Fitting (equations_of p s t) n
  fitting n = record { diagonal-fits = λ i h. diagonal-fits i; upper_fits = λ i h. upper_fits i; right-fits = λ i h. right-fits i }

pub pass-accurate : (p : Trajectory) (s : Scales) → PassAccurate p s
pass-accurate p s t h = rows-accurate (equations_of p s t) p.n (fitting p s t p.n)
