-- THE LAW of a round for demand 3: a round whose matrix has a factor and whose step's entry 0 is finite is sound. Assumes nothing.
use mathlib.Core.Path.{◌≡◌, refl, sym, ap, subst}
use Prim.Native.Nat.{ℕ}
use native.Mathlib.Omega.{arith}
use mathlib.Core.Bool.{cond, ◌&&◌}
use mathlib.Core.List.{List, [], ◌∷◌, map, foldl}
use lib.Dec.{T, ltb, leb, eqb}
use lib.ListN.{length}
use lib.Ieee.{Float, nan, binary64, fits}
use lib.Ieee.Fits.{add-fits, cond-fits}
use lib.Ieee.Bits.{of_bits-fits}
use lib.Ieee.Scale.{finite}
use Rattle.exact.specs.Float.{◌⊕◌, +0, 1·0}
use Rattle.cholesky.specs.Factor.{at, Factored, Refused, Lower, factor_of}
use Rattle.cholesky.proofs.SoundSystem.{Held, sound}
use Rattle.median.specs.Centre.{centre_and_scale_of}
use Rattle.normal_equations.specs.Weight.{weight}
use Rattle.normal_equations.specs.Equations.{total, cell_of, side_of, triangle_of, matrix_of, right_of}
use Rattle.robust.specs.Round.{Round, Solved, made, solved, round_by, round_of, SoundRound}
use Rattle.normal_equations.specs.declared.row.Row.{Row}
use Rattle.normal_equations.proofs.NineLaws.{nine-at, nine-length, cell_at}

-- ---- what a round forms are sums, or 0 or 1: each is a binary64
zero-fits : T (fits binary64 +0)
zero-fits = of_bits-fits binary64 0

one-fits : T (fits binary64 1·0)
one-fits = of_bits-fits binary64 0x3ff0_0000_0000_0000

sum_fits : (f : Row → Float) (rows : List Row) (s : Float) → T (fits binary64 s) → T (fits binary64 (foldl (λ s r. s ⊕ f r) s rows))
sum_fits f [] s h = h
sum_fits f (r ∷ rs) s h = sum_fits f rs (s ⊕ f r) (add-fits binary64 s (f r))

total-fits : (f : Row → Float) (rows : List Row) → T (fits binary64 (total f rows))
unfolding total
total-fits f rows = sum_fits f rows +0 zero-fits

cell-fits : (w : Row → Float) (rows : List Row) (i j : ℕ) → T (fits binary64 (cell_of w rows i j))
unfolding cell_of
cell-fits w rows i j = total-fits _ rows

side-fits : (w : Row → Float) (rows : List Row) (i : ℕ) → T (fits binary64 (side_of w rows i))
unfolding side_of
side-fits w rows i = total-fits _ rows

module _ (w : Row → Float) (rows : List Row) (n : ℕ) where
  held : Held (matrix_of w rows n) (right_of w rows n)
  unfolding matrix_of triangle_of right_of
  held =
      record {
        matrix-fits = λ i j ib jb. subst (λ (z : Float). T (fits binary64 z)) (sym (cell_at (λ i j. cond (ltb i n && leb j i) (cell_of w rows i j) (cond (leb n i && eqb i j) 1·0 +0)) i j ib (omega arith)))
            (cond-fits binary64 (ltb i n && leb j i) (cell_of w rows i j) (cond (leb n i && eqb i j) 1·0 +0) (cell-fits w rows i j) (cond-fits binary64 (leb n i && eqb i j) 1·0 +0 one-fits zero-fits));
        right-fits = λ i ib. subst (λ (z : Float). T (fits binary64 z)) (sym (nine-at (λ i. cond (ltb i n) (side_of w rows i) +0) nan i ib)) (cond-fits binary64 (ltb i n) (side_of w rows i) +0 (side-fits w rows i) zero-fits);
      }

  right-length : length (right_of w rows n) ≡ 9
  unfolding right_of
  right-length = nine-length (λ i. cond (ltb i n) (side_of w rows i) +0)

  pub round_by-sound : (r : Round) → round_by w rows n ≡ Solved r → T (finite (at r.step 0)) → SoundRound r
  unfolding round_by
  round_by-sound r e f = go (factor_of (matrix_of w rows n)) refl e
    where
      go : (v : Factored) → factor_of (matrix_of w rows n) ≡ v → solved rows (matrix_of w rows n) (right_of w rows n) v ≡ Solved r → SoundRound r
      go Refused q d = absurd (let z : ◌≡◌ {A = ℕ} 0 1 = cc in omega arith)
      go (Lower l) q d =
          let p : made rows (matrix_of w rows n) (right_of w rows n) l ≡ r = cc in
          subst SoundRound p (sound (matrix_of w rows n) l (right_of w rows n) right-length q held (subst (λ (z : Round). T (finite (at z.step 0))) (sym p) f))

pub round-sound : (rows : List Row) (n : ℕ) (huber : Float) (r : Round) → round_of rows n huber ≡ Solved r → T (finite (at r.step 0)) → SoundRound r
unfolding round_of
round-sound rows n huber r e f = round_by-sound (weight (centre_and_scale_of (map (λ (r : Row). r.residual) rows)) huber) rows n r e f

-- a round has the rows that it was made of
pub round-rows : (rows : List Row) (n : ℕ) (huber : Float) (r : Round) → round_of rows n huber ≡ Solved r → r.rows ≡ rows
unfolding round_of round_by
round-rows rows n huber r e = go (factor_of (matrix_of w rows n)) e
  where
    w : Row → Float
    w = weight (centre_and_scale_of (map (λ (r : Row). r.residual) rows)) huber

    go : (v : Factored) → solved rows (matrix_of w rows n) (right_of w rows n) v ≡ Solved r → r.rows ≡ rows
    go Refused d = absurd (let z : ◌≡◌ {A = ℕ} 0 1 = cc in omega arith)
    go (Lower l) d = let p : made rows (matrix_of w rows n) (right_of w rows n) l ≡ r = cc in sym (ap (λ (z : Round). z.rows) p)
