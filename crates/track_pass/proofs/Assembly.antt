-- The equations of the three axes, from the steps that put them together, and what they depend on. Assumes nothing.
use mathlib.Core.Bool.{false}
use mathlib.Core.Path.{◌≡◌, refl, ◌∙◌, ap, fun_ext}
use mathlib.Core.Logic.{inl, inr, ⊎_elim}
use mathlib.Core.List.{List}
use Prim.Native.Nat.{ℕ, zero, suc, ◌+◌, ◌*◌, ◌<◌}
use native.Mathlib.Omega.{arith}
use lib.Ieee.{Float, is_nan, of_bits}
use Rattle.exact.specs.Float.{+0, bits}
use Rattle.track_tridiagonal.specs.Rows.{float_at, row_cell, axis_in}
use Rattle.track_tridiagonal.specs.Tridiagonal.{Equations, NoNan, Spoilt}
use Rattle.track_tridiagonal.specs.Steps.{Alike, Filled}
use Rattle.track_tridiagonal.proofs.Cells.{same_float}
use Rattle.track_tridiagonal.proofs.Alike.{alike_then}
use Rattle.track_pass.specs.Input.{Measured, Trajectory, index_at}
use Rattle.track_pass.specs.Equations.{changed, raised_at, lower, no_equations, Scales, track_weight, anchor_pull, link_diagonal, link_right, diagonal, upper, right, equations_of}
use Rattle.track_pass.specs.Steps.{scales_in, anchor_change, link_change, changed_by}
use Rattle.track_pass.proofs.Changed.{changed-same}
use Rattle.track_pass.proofs.Adding.{links-steady, changed-keeps}

-- ---- the same scales give the same steps

module _ (m : Measured) (scale scale' : ℕ → Float) (t j : ℕ) (e : scale j ≡ scale' j) where
  same_anchor : (k : ℕ) (x : Float) → raised_at (index_at m) (track_weight m scale t) j k x ≡ raised_at (index_at m) (track_weight m scale' t) j k x
  same_anchor k x = rw e

  same-pull : (k : ℕ) (x : Float) → raised_at (index_at m) (anchor_pull m scale t) j k x ≡ raised_at (index_at m) (anchor_pull m scale' t) j k x
  same-pull k x = rw e

  same-diagonal : (k : ℕ) (x : Float) → link_diagonal m scale t j k x ≡ link_diagonal m scale' t j k x
  same-diagonal k x = rw e

  same-upper : (k : ℕ) (x : Float) → lower (index_at m) (track_weight m scale t) j k x ≡ lower (index_at m) (track_weight m scale' t) j k x
  same-upper k x = rw e

  same-right : (k : ℕ) (x : Float) → link_right m scale t j k x ≡ link_right m scale' t j k x
  same-right k x = rw e

-- ---- the whole equations

-- an anchor leaves the upper diagonal as it is
upper-kept : (c : ℕ → Float) (j k : ℕ) → changed (λ j k x. x) c j k ≡ c k
unfolding changed
upper-kept c zero k = refl
upper-kept c (suc j) k = upper-kept c j k

zero_number : is_nan +0 ≡ false
unfolding is_nan of_bits
zero_number = refl

module _ (p : Trajectory) (w w1 : List ℕ) (f : Filled 0 (p.n * 9) 0 w w1) (t : ℕ) (small : t < 3) where
  abbrev s : Scales
  s = scales_in p w

  -- the equations once the anchors are in
  abbrev pub anchored : Equations
  anchored = record {
    diagonal = changed (raised_at (index_at p.anchors) (track_weight p.anchors s.anchors t)) no_equations p.anchors.count;
    upper = no_equations;
    right = changed (raised_at (index_at p.anchors) (anchor_pull p.anchors s.anchors t)) no_equations p.anchors.count;
  }

  abbrev scale1 : ℕ → Float
  scale1 j = float_at w1 (p.n * 9 + j)

  anchor_scale_lem : (j : ℕ) → scale1 j ≡ s.anchors j
  anchor_scale_lem j = same_float w w1 (p.n * 9 + j) (f.kept.high (p.n * 9 + j) (omega arith))

  cleared : (q k : ℕ) → q < 9 → k < p.n → row_cell w1 q k ≡ +0
  cleared q k a b = ap bits (f.filled (k * 9 + q) (omega arith) (omega arith))

  pub anchored-alike : Alike anchored (changed_by (anchor_change p.anchors scale1) (axis_in w1 t) t p.anchors.count) p.n
  anchored-alike = record {
    diagonal = λ k g. changed-same _ _ (row_cell w1 t) no_equations p.anchors.count k (λ j q i. same_anchor p.anchors scale1 s.anchors t j (anchor_scale_lem j) k q) (cleared t k (omega arith) g);
    upper = λ k g. upper-kept (row_cell w1 (3 + t)) p.anchors.count k ∙ cleared (3 + t) k (omega arith) g;
    right = λ k g. changed-same _ _ (row_cell w1 (6 + t)) no_equations p.anchors.count k (λ j q i. same-pull p.anchors scale1 s.anchors t j (anchor_scale_lem j) k q) (cleared (6 + t) k (omega arith) g);
  }

  -- the links make no number of a NaN
  pub anchored-spoilt : Spoilt anchored p.n → Spoilt (equations_of p s t) p.n
  unfolding diagonal upper right
  anchored-spoilt x =
      let k = links-steady p.links s.links in
      record {
        row = x.row;
        inside = x.inside;
        spoilt = ⊎_elim
            (λ g. inl (changed-keeps (link_diagonal p.links s.links t) (k.diagonal t) anchored.diagonal p.links.count x.row g))
            (λ r. inr (⊎_elim
            (λ g. inl (changed-keeps (link_right p.links s.links t) (k.right t) anchored.right p.links.count x.row g))
            (λ g. inr (g.0, changed-keeps (lower (index_at p.links) (track_weight p.links s.links t)) (k.upper t) no_equations p.links.count x.row g.1)) r))
            x.spoilt;
      }

  module _ (w2 : List ℕ) (a : Alike (changed_by (anchor_change p.anchors scale1) (axis_in w1 t) t p.anchors.count) (axis_in w2 t) p.n)
      (kept : (j : ℕ) → float_at w2 (p.n * 9 + p.anchors.count + j) ≡ s.links j) where
    abbrev scale2 : ℕ → Float
    scale2 j = float_at w2 (p.n * 9 + p.anchors.count + j)

    pub linked-alike : Alike (equations_of p s t) (changed_by (link_change p.links scale2) (axis_in w2 t) t p.links.count) p.n
    unfolding diagonal upper right
    linked-alike =
        let x : Alike anchored (axis_in w2 t) p.n = alike_then anchored _ (axis_in w2 t) p.n anchored-alike a in
        record {
          diagonal = λ k g. changed-same _ _ (row_cell w2 t) anchored.diagonal p.links.count k (λ j q i. same-diagonal p.links scale2 s.links t j (kept j) k q) (x.diagonal k g);
          upper = λ k g. changed-same _ _ (row_cell w2 (3 + t)) no_equations p.links.count k (λ j q i. same-upper p.links scale2 s.links t j (kept j) k q) (x.upper k g);
          right = λ k g. changed-same _ _ (row_cell w2 (6 + t)) anchored.right p.links.count k (λ j q i. same-right p.links scale2 s.links t j (kept j) k q) (x.right k g);
        }

  pub cleared-numbers : NoNan (axis_in w1 t) p.n
  cleared-numbers = record {
    diagonal = λ k h. ap is_nan (cleared t k (omega arith) h) ∙ zero_number;
    upper = λ k h. ap is_nan (cleared (3 + t) k (omega arith) h) ∙ zero_number;
    right = λ k h. ap is_nan (cleared (6 + t) k (omega arith) h) ∙ zero_number;
  }

-- ---- the equations look at the scales of the anchors and the links that there are

module _ (p : Trajectory) (s s' : Scales) (ea : (j : ℕ) → j < p.anchors.count → s.anchors j ≡ s'.anchors j) (el : (j : ℕ) → j < p.links.count → s.links j ≡ s'.links j) where
  diagonals : (t : ℕ) → diagonal p s t ≡ diagonal p s' t
  unfolding diagonal
  diagonals t = fun_ext (λ k. changed-same _ _ _ _ p.links.count k (λ j q i. same-diagonal p.links s.links s'.links t j (el j i) k q)
      (changed-same _ _ no_equations no_equations p.anchors.count k (λ j q i. same_anchor p.anchors s.anchors s'.anchors t j (ea j i) k q) refl))

  uppers : (t : ℕ) → upper p s t ≡ upper p s' t
  unfolding upper
  uppers t = fun_ext (λ k. changed-same _ _ no_equations no_equations p.links.count k (λ j q i. same-upper p.links s.links s'.links t j (el j i) k q) refl)

  rights : (t : ℕ) → right p s t ≡ right p s' t
  unfolding right
  rights t = fun_ext (λ k. changed-same _ _ _ _ p.links.count k (λ j q i. same-right p.links s.links s'.links t j (el j i) k q)
      (changed-same _ _ no_equations no_equations p.anchors.count k (λ j q i. same-pull p.anchors s.anchors s'.anchors t j (ea j i) k q) refl))

  pub equations_same : (t : ℕ) → equations_of p s t ≡ equations_of p s' t
  equations_same t = rw (diagonals t, uppers t, rights t)
