-- The pass as a whole, from its steps. Assumes nothing.
use mathlib.Core.Path.{◌≡◌, sym, ◌∙◌, ap}
use mathlib.Core.Bool.{Bool, true, false}
use mathlib.Core.Logic.{◌⊎◌, inl, inr, ⊎_elim}
use mathlib.Core.List.{List}
use Prim.Native.Nat.{ℕ, zero, suc, ◌+◌, ◌*◌, ◌<◌}
use native.Mathlib.Omega.{arith}
use Rattle.track_tridiagonal.specs.Rows.{float_at, row_cell, axis_in, Axes, on_axes, SameOutside, Solved}
use Rattle.track_tridiagonal.specs.Tridiagonal.{Equations, solution, axis_solved, NoNan, Spoilt}
use Rattle.track_tridiagonal.specs.Steps.{Alike, Filled}
use Rattle.track_tridiagonal.proofs.EachBelow.{first-fails, second-fails, third-fails}
use Rattle.track_tridiagonal.proofs.Cells.{kept_then, same_float}
use Rattle.track_tridiagonal.proofs.Alike.{alike_then, spoilt-same, axis_same, solution-same}
use Rattle.track_tridiagonal.proofs.Nan.{spoilt-fails}
use Rattle.track_pass.specs.Input.{Trajectory}
use Rattle.track_pass.specs.Equations.{Scales, equations_of}
use Rattle.track_pass.specs.Pass.{pass_succeeds, fitted_at}
use Rattle.track_pass.specs.Steps.{AddDone, scales_in, anchor_change, link_change, changed_by}
use Rattle.track_pass.proofs.Assembly.{anchored-alike, anchored-spoilt, linked-alike, cleared-numbers, equations_same}

three : (f g : ℕ → Bool) → f 0 ≡ g 0 → f 1 ≡ g 1 → f 2 ≡ g 2 → on_axes f ≡ on_axes g
three f g e h i = rw (e, h, i)

of_axis : (P : ℕ → Type 0) → Axes P → (t : ℕ) → t < 3 → P t
of_axis P s zero h = s.x
of_axis P s (suc zero) h = s.y
of_axis P s (suc (suc zero)) h = s.z
of_axis P s (suc (suc (suc t))) h = absurd (omega arith)

-- ---- a pass

-- the rows of a pass: true where it succeeds, and then the solutions replace the right sides
pub record AxesDone (p : Trajectory) (w : List ℕ) (ok : Bool) (w' : List ℕ) : Type 0 where
  pub kept : SameOutside 0 (p.n * 9) w w'
  pub answer : ok ≡ pass_succeeds p (scales_in p w)
  pub solutions : ok ≡ true → Axes (λ t. (k : ℕ) → k < p.n → row_cell w' (6 + t) k ≡ solution (equations_of p (scales_in p w) t) p.n k)

-- a NaN in the equations of an axis
abbrev SomeSpoilt : (ℕ → Equations) → ℕ → Type 0
SomeSpoilt e n = (Spoilt (e 0) n) ⊎ ((Spoilt (e 1) n) ⊎ (Spoilt (e 2) n))

map-spoilt : (e e' : ℕ → Equations) (n : ℕ) → ((t : ℕ) → t < 3 → Spoilt (e t) n → Spoilt (e' t) n) → SomeSpoilt e n → SomeSpoilt e' n
map-spoilt e e' n f s = ⊎_elim (λ x. inl (f 0 (omega arith) x)) (λ r. inr (⊎_elim (λ x. inl (f 1 (omega arith) x)) (λ x. inr (f 2 (omega arith) x)) r)) s

spoilt-pass : (p : Trajectory) (s : Scales) → SomeSpoilt (equations_of p s) p.n → pass_succeeds p s ≡ false
unfolding pass_succeeds
spoilt-pass p s x =
    let A : ℕ → Bool = λ t. axis_solved (equations_of p s t) p.n in
    ⊎_elim
    (λ y. first-fails (A 0) (A 1) (A 2) (spoilt-fails (equations_of p s 0) p.n y))
    (λ r. ⊎_elim (λ y. second-fails (A 0) (A 1) (A 2) (spoilt-fails (equations_of p s 1) p.n y)) (λ y. third-fails (A 0) (A 1) (A 2) (spoilt-fails (equations_of p s 2) p.n y)) r)
    x

module _ (p : Trajectory) (w w1 : List ℕ) (f : Filled 0 (p.n * 9) 0 w w1) where
  pub cleared-all : Axes (λ t. NoNan (axis_in w1 t) p.n)
  cleared-all = record { x = cleared-numbers p w w1 f 0 (omega arith); y = cleared-numbers p w w1 f 1 (omega arith); z = cleared-numbers p w w1 f 2 (omega arith) }

  failed : (w' : List ℕ) → SameOutside 0 (p.n * 9) w w' → SomeSpoilt (equations_of p (scales_in p w)) p.n → AxesDone p w false w'
  failed w' k s = record { kept = k; answer = sym (spoilt-pass p (scales_in p w) s); solutions = λ q. let z : ◌≡◌ {A = ℕ} 0 1 = cc in absurd (omega arith) }

  module _ (b1 : Bool) (w2 : List ℕ) (a : AddDone (anchor_change p.anchors (λ j. float_at w1 (p.n * 9 + j))) w1 p.n p.anchors.count b1 w2) where
    kept2 : SameOutside 0 (p.n * 9) w w2
    kept2 = kept_then 0 (p.n * 9) 0 (p.n * 9) w w1 w2 (omega arith) (omega arith) f.kept a.kept

    pub anchors_fail : b1 ≡ false → AxesDone p w false w2
    anchors_fail h = failed w2 kept2 (map-spoilt _ (equations_of p (scales_in p w)) p.n (λ t l x. anchored-spoilt p w w1 f t l (spoilt-same _ _ p.n (anchored-alike p w w1 f t l) x)) (a.ends h))

    module _ (y1 : b1 ≡ true) (b2 : Bool) (w3 : List ℕ) (l : AddDone (link_change p.links (λ j. float_at w2 (p.n * 9 + p.anchors.count + j))) w2 p.n p.links.count b2 w3) where
      link-scale : (j : ℕ) → float_at w2 (p.n * 9 + p.anchors.count + j) ≡ (scales_in p w).links j
      link-scale j = same_float w w2 (p.n * 9 + p.anchors.count + j) (kept2.high (p.n * 9 + p.anchors.count + j) (omega arith))

      linked : (t : ℕ) → t < 3 → Alike (equations_of p (scales_in p w) t) (changed_by (link_change p.links (λ j. float_at w2 (p.n * 9 + p.anchors.count + j))) (axis_in w2 t) t p.links.count) p.n
      linked t h = linked-alike p w w1 f t h w2 (of_axis (λ t. Alike (changed_by (anchor_change p.anchors (λ j. float_at w1 (p.n * 9 + j))) (axis_in w1 t) t p.anchors.count) (axis_in w2 t) p.n) (a.done y1).rows t h) link-scale

      kept3 : SameOutside 0 (p.n * 9) w w3
      kept3 = kept_then 0 (p.n * 9) 0 (p.n * 9) w w2 w3 (omega arith) (omega arith) kept2 l.kept

      pub links_fail : b2 ≡ false → AxesDone p w false w3
      links_fail h = failed w3 kept3 (map-spoilt _ (equations_of p (scales_in p w)) p.n (λ t g x. spoilt-same _ _ p.n (linked t g) x) (l.ends h))

      module _ (y2 : b2 ≡ true) (some : 0 < p.n) (ok : Bool) (w4 : List ℕ) (s : Solved w3 p.n ok w4) where
        same_at : (t : ℕ) → t < 3 → Alike (equations_of p (scales_in p w) t) (axis_in w3 t) p.n
        same_at t h = alike_then (equations_of p (scales_in p w) t) _ (axis_in w3 t) p.n (linked t h)
            (of_axis (λ t. Alike (changed_by (link_change p.links (λ j. float_at w2 (p.n * 9 + p.anchors.count + j))) (axis_in w2 t) t p.links.count) (axis_in w3 t) p.n) (l.done y2).rows t h)

        pub pass-done : AxesDone p w ok w4
        unfolding pass_succeeds
        pass-done = record {
          kept = kept_then 0 (p.n * 9) 0 (p.n * 9) w w3 w4 (omega arith) (omega arith) kept3 s.kept;
          answer = s.answer ∙ three (λ t. axis_solved (axis_in w3 t) p.n) (λ t. axis_solved (equations_of p (scales_in p w) t) p.n)
              (axis_same (equations_of p (scales_in p w) 0) (axis_in w3 0) p.n (same_at 0 (omega arith)) some)
              (axis_same (equations_of p (scales_in p w) 1) (axis_in w3 1) p.n (same_at 1 (omega arith)) some)
              (axis_same (equations_of p (scales_in p w) 2) (axis_in w3 2) p.n (same_at 2 (omega arith)) some);
          solutions = λ y. record {
            x = λ k h. (s.solutions y).x k h ∙ solution-same (equations_of p (scales_in p w) 0) (axis_in w3 0) p.n (same_at 0 (omega arith)) some k;
            y = λ k h. (s.solutions y).y k h ∙ solution-same (equations_of p (scales_in p w) 1) (axis_in w3 1) p.n (same_at 1 (omega arith)) some k;
            z = λ k h. (s.solutions y).z k h ∙ solution-same (equations_of p (scales_in p w) 2) (axis_in w3 2) p.n (same_at 2 (omega arith)) some k;
          };
        }

-- ---- the same scales give the same pass

module _ (p : Trajectory) (s s' : Scales) (ea : (j : ℕ) → j < p.anchors.count → s.anchors j ≡ s'.anchors j) (el : (j : ℕ) → j < p.links.count → s.links j ≡ s'.links j) where
  pub pass_succeeds-same : pass_succeeds p s ≡ pass_succeeds p s'
  unfolding pass_succeeds
  pass_succeeds-same = three (λ t. axis_solved (equations_of p s t) p.n) (λ t. axis_solved (equations_of p s' t) p.n) (at 0) (at 1) (at 2)
    where
      at : (t : ℕ) → axis_solved (equations_of p s t) p.n ≡ axis_solved (equations_of p s' t) p.n
      at t = ap (λ (e : Equations). axis_solved e p.n) (equations_same p s s' ea el t)

  pub fit_same : (t k : ℕ) → fitted_at p s t k ≡ fitted_at p s' t k
  unfolding fitted_at
  fit_same t k = rw (equations_same p s s' ea el t)
