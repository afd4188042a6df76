-- The unknowns of a pass that succeeds are finite, and so is its fit. Assumes nothing.
use mathlib.Core.Path.{◌≡◌}
use mathlib.Core.Bool.{true, ◌&&◌}
use Prim.Native.Nat.{ℕ, zero, suc, ◌-◌, ◌<◌}
use native.Mathlib.Omega.{arith}
use lib.Dec.{T}
use lib.Ieee.{binary64, fits}
use lib.Ieee.Scale.{finite}
use lib.Ieee.Fits.{div-fits}
use Rattle.numeric.specs.Real.{in_range}
use Rattle.track_tridiagonal.specs.Tridiagonal.{Equations, eliminated, solvable, back, solution, held, finite_solution, axis_solved}
use Rattle.track_tridiagonal.proofs.EachBelow.{left-true, right-true, each_at}
use Rattle.track_pass.specs.Input.{Trajectory, track_origin}
use Rattle.track_pass.specs.Equations.{Scales, equations_of}
use Rattle.track_pass.specs.Pass.{pass_succeeds, fitted_at}
use Rattle.track_pass.proofs.FiniteSum.{add-finite}

back_fits : (e : Equations) (m j : ℕ) → T (fits binary64 (back e m j))
unfolding back
back_fits e m zero = div-fits binary64 (e.right m) (e.diagonal m)
back_fits e m (suc j) = div-fits binary64 _ (e.diagonal (m - suc j))

solution-fits : (e : Equations) (n i : ℕ) → T (fits binary64 (solution e n i))
unfolding solution
solution-fits e n i = go (n - 1 - i)
  where
    go : (j : ℕ) → T (fits binary64 (back (eliminated e) (n - 1) j))
    go j = back_fits (eliminated e) (n - 1) j

-- each axis of a good pass is solved
axis_of : (p : Trajectory) (s : Scales) → pass_succeeds p s ≡ true → (t : ℕ) → t < 3 → axis_solved (equations_of p s t) p.n ≡ true
unfolding pass_succeeds
axis_of p s h t l =
    let A = axis_solved (equations_of p s 0) p.n in
    let B = axis_solved (equations_of p s 1) p.n in
    let C = axis_solved (equations_of p s 2) p.n in
    go t l (left-true A (B && C) h) (left-true B C (right-true A (B && C) h)) (right-true B C (right-true A (B && C) h))
  where
    go : (t : ℕ) → t < 3 → axis_solved (equations_of p s 0) p.n ≡ true → axis_solved (equations_of p s 1) p.n ≡ true → axis_solved (equations_of p s 2) p.n ≡ true → axis_solved (equations_of p s t) p.n ≡ true
    go zero l x y z = x
    go (suc zero) l x y z = y
    go (suc (suc zero)) l x y z = z
    go (suc (suc (suc t))) l x y z = absurd (omega arith)

-- and its unknowns are finite
pub solution-finite : (p : Trajectory) (s : Scales) → pass_succeeds p s ≡ true → (t : ℕ) → t < 3 → (k : ℕ) → k < p.n → finite (solution (equations_of p s t) p.n k) ≡ true
solution-finite p s h t l k g =
    let e = equations_of p s t in
    let A = held e p.n in
    let B = solvable e p.n in
    let C = finite_solution e p.n in
    each_at (λ k. finite (solution e p.n k)) p.n (right-true B C (right-true A (B && C) (axis_of p s h t l))) k g

module _ (p : Trajectory) (small-origin : (t : ℕ) → t < 3 → in_range (track_origin p.anchors t) ≡ true) where
  pub pass-finite : (s : Scales) → pass_succeeds p s ≡ true → (t : ℕ) → t < 3 → (k : ℕ) → k < p.n → finite (fitted_at p s t k) ≡ true
  unfolding fitted_at
  pass-finite s h t l k g =
      add-finite (solution (equations_of p s t) p.n k) (track_origin p.anchors t) (solution-fits (equations_of p s t) p.n k) (solution-finite p s h t l k g) (small-origin t l)
