-- The residuals of a round whose step's entry 0 is finite are finite: one that is not would make the right side's entry 0 so, by a product and the sum. Assumes nothing.
use mathlib.Core.Path.{◌≡◌, refl, sym, ap, ◌∙◌, subst}
use Prim.Native.Nat.{ℕ, ◌<◌}
use native.Mathlib.Omega.{arith}
use mathlib.Core.Bool.{Bool, true, cond, ◌&&◌}
use mathlib.Core.List.{List, [], ◌∷◌, map, foldl}
use lib.Dec.{T, ltb, lt→ltb}
use lib.Ieee.{Float, nan}
use lib.Ieee.Bits.{is_true}
use lib.Ieee.Scale.{finite}
use Rattle.exact.specs.Float.{◌⊕◌, ◌⊗◌, +0, bits}
use Rattle.exact.proofs.Ops.{add-finite, mul-finite}
use Rattle.lists.specs.Walk.{every}
use Rattle.cholesky.specs.Factor.{at, Factored, Refused, Lower, factor_of}
use Rattle.median.specs.Centre.{centre_and_scale_of}
use Rattle.normal_equations.specs.Weight.{weight}
use Rattle.normal_equations.specs.Equations.{wide, total, side_of, matrix_of, right_of}
use Rattle.robust.specs.Round.{Round, Solved, made, solved, round_by, round_of, FiniteResiduals}
use Rattle.normal_equations.specs.declared.row.Row.{Row}
use Rattle.normal_equations.proofs.NineLaws.{nine-at}
use Rattle.robust.proofs.RoundSound.{round-sound, round-rows}

-- where a sum is finite so is each of its terms, and what each term tells
module _ (f g : Row → Float) (tells : (r : Row) → T (finite (f r)) → T (finite (g r))) where
  terms-finite : (rows : List Row) (s : Float) → T (finite (foldl (λ s r. s ⊕ f r) s rows)) → T (finite s) × (every (λ (r : Row). finite (g r)) rows ≡ true)
  unfolding every
  terms-finite [] s h = (h, refl)
  terms-finite (r ∷ rs) s h =
      let ih = terms-finite rs (s ⊕ f r) h in
      let p = add-finite s (f r) ih.0 in
      (p.0, ap (λ (b : Bool). b && every (λ (r : Row). finite (g r)) rs) (is_true (finite (g r)) (tells r p.1)) ∙ ih.1)

module _ (w : Row → Float) (rows : List Row) (n : ℕ) (used : 0 < n) where
  side-first : at (right_of w rows n) 0 ≡ side_of w rows 0
  unfolding right_of
  side-first = nine-at (λ i. cond (ltb i n) (side_of w rows i) +0) nan 0 (omega arith) ∙ ap (λ (b : Bool). cond b (side_of w rows 0) +0) (is_true (ltb 0 n) (lt→ltb 0 n used))

  side-finite : T (finite (at (right_of w rows n) 0)) → every (λ (r : Row). finite (bits r.residual)) rows ≡ true
  unfolding side_of total
  side-finite h =
      (terms-finite (λ r. w r ⊗ at (wide r) 0 ⊗ bits r.residual) (λ r. bits r.residual) (λ r t. (mul-finite (w r ⊗ at (wide r) 0) (bits r.residual) t).1) rows +0
      (subst (λ (z : Float). T (finite z)) side-first h)).1

-- the right side of a round is that of its rows
round-right : (rows : List Row) (n : ℕ) (huber : Float) (r : Round) → round_of rows n huber ≡ Solved r → r.right ≡ right_of (weight (centre_and_scale_of (map (λ (r : Row). r.residual) rows)) huber) rows n
unfolding round_of round_by
round-right rows n huber r e = go (factor_of (matrix_of w rows n)) e
  where
    w : Row → Float
    w = weight (centre_and_scale_of (map (λ (r : Row). r.residual) rows)) huber

    go : (v : Factored) → solved rows (matrix_of w rows n) (right_of w rows n) v ≡ Solved r → r.right ≡ right_of w rows n
    go Refused d = absurd (let z : ◌≡◌ {A = ℕ} 0 1 = cc in omega arith)
    go (Lower l) d = let p : made rows (matrix_of w rows n) (right_of w rows n) l ≡ r = cc in sym (ap (λ (z : Round). z.right) p)

pub round-residuals : (rows : List Row) (n : ℕ) (huber : Float) → 0 < n → (r : Round) → round_of rows n huber ≡ Solved r → T (finite (at r.step 0)) → FiniteResiduals r
unfolding FiniteResiduals
round-residuals rows n huber used r e f =
    let w = weight (centre_and_scale_of (map (λ (r : Row). r.residual) rows)) huber in
    let h = subst (λ (b : List Float). T (finite (at b 0))) (round-right rows n huber r e) ((round-sound rows n huber r e f).right-finite 0 (omega arith)) in
    subst (λ (z : List Row). every (λ (row : Row). finite (bits row.residual)) z ≡ true) (sym (round-rows rows n huber r e)) (side-finite w rows n used h)
