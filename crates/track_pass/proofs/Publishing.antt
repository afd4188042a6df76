-- The fit of a pass in the result, one point at a time. Assumes nothing.
use mathlib.Core.Path.{◌≡◌, refl, sym, ◌∙◌, ap}
use mathlib.Core.Bool.{Bool, true, false}
use mathlib.Core.Logic.{⊎_elim}
use mathlib.Core.List.{List}
use Prim.Native.Nat.{ℕ, ◌+◌, ◌*◌, ◌<◌}
use native.Mathlib.Nat.{eq-or-lt_of_le}
use native.Mathlib.Omega.{arith}
use lib.ListN.{length, get_or, set, length-set}
use lib.Ieee.{Float, nan}
use lib.Ieee.Scale.{finite}
use Rattle.exact.specs.Float.{◌⊕◌}
use Rattle.numeric.specs.Order.{pattern_of}
use Rattle.track_tridiagonal.specs.Rows.{row_cell}
use Rattle.track_tridiagonal.specs.Tridiagonal.{solution}
use Rattle.track_tridiagonal.proofs.Cells.{hit, miss, miss2, miss3, kept-none}
use Rattle.track_pass.specs.Input.{Trajectory, track_origin}
use Rattle.track_pass.specs.Equations.{equations_of}
use Rattle.track_pass.specs.Pass.{pass_succeeds, fitted_at}
use Rattle.track_pass.specs.Steps.{scales_in, FiniteCells, Published, PassDone}
use Rattle.track_pass.proofs.Finite.{solution-finite}
use Rattle.track_pass.proofs.Passing.{AxesDone}

-- ---- the copy

module _ (w : List ℕ) (x y z : Float) (r₀ : List ℕ) where
  pub published_none : Published w 0 x y z r₀ r₀
  published_none = record { kept = kept-none 0 (0 * 3) r₀; xs = λ k h. absurd (omega arith); ys = λ k h. absurd (omega arith); zs = λ k h. absurd (omega arith) }

  last_of : (j k : ℕ) {A : Type 0} → j < k + 1 → (j ≡ k → A) → (j < k → A) → A
  last_of j k h f g = ⊎_elim (λ e. f (omega arith)) (λ l. g (omega arith)) (eq-or-lt_of_le h)

  module _ (k : ℕ) (r : List ℕ) (room : k * 3 + 2 < length r) (a b c : ℕ) (ea : a ≡ pattern_of (row_cell w 6 k ⊕ x)) (eb : b ≡ pattern_of (row_cell w 7 k ⊕ y)) (ec : c ≡ pattern_of (row_cell w 8 k ⊕ z)) where
    moved : (s j : ℕ) (o : Float) → j ≡ k → pattern_of (row_cell w s k ⊕ o) ≡ pattern_of (row_cell w s j ⊕ o)
    moved s j o e = ap (λ (i : ℕ). pattern_of (row_cell w s i ⊕ o)) (sym e)

    pub published_more : Published w k x y z r₀ r → Published w (k + 1) x y z r₀ (set (set (set r (k * 3) a) (k * 3 + 1) b) (k * 3 + 2) c)
    published_more s =
        let r1 = set r (k * 3) a in
        let r2 = set r1 (k * 3 + 1) b in
        record {
          kept = record {
            low = λ q h. absurd (omega arith);
            high = λ q h. miss3 r (k * 3) (k * 3 + 1) (k * 3 + 2) q a b c (omega arith) (omega arith) (omega arith) ∙ s.kept.high q (omega arith);
          };
          xs = λ j h. last_of j k h
              (λ e. miss2 r1 (k * 3 + 1) (k * 3 + 2) (j * 3) b c (omega arith) (omega arith) ∙ hit r (k * 3) (j * 3) a (omega arith) (omega arith) ∙ ea ∙ moved 6 j x e)
              (λ l. miss3 r (k * 3) (k * 3 + 1) (k * 3 + 2) (j * 3) a b c (omega arith) (omega arith) (omega arith) ∙ s.xs j l);
          ys = λ j h. last_of j k h
              (λ e. miss r2 (k * 3 + 2) (j * 3 + 1) c (omega arith) ∙ hit r1 (k * 3 + 1) (j * 3 + 1) b (simp length-set (omega arith)) (omega arith) ∙ eb ∙ moved 7 j y e)
              (λ l. miss3 r (k * 3) (k * 3 + 1) (k * 3 + 2) (j * 3 + 1) a b c (omega arith) (omega arith) (omega arith) ∙ s.ys j l);
          zs = λ j h. last_of j k h
              (λ e. hit r2 (k * 3 + 2) (j * 3 + 2) c (simp length-set (omega arith)) (omega arith) ∙ ec ∙ moved 8 j z e)
              (λ l. miss3 r (k * 3) (k * 3 + 1) (k * 3 + 2) (j * 3 + 2) a b c (omega arith) (omega arith) (omega arith) ∙ s.zs j l);
        }

  pub published_all : (k n : ℕ) (r : List ℕ) → k ≡ n → Published w k x y z r₀ r → Published w n x y z r₀ r
  published_all k n r e s = rw e at s

-- ---- a pass, from its solutions

module _ (p : Trajectory) (w w' : List ℕ) (ok : Bool) (d : AxesDone p w ok w') where
  pub pass-fails : (r : List ℕ) → ok ≡ false → PassDone p w r false w' r
  pass-fails r e = record {
    kept = d.kept;
    result-kept = kept-none 0 (p.n * 3) r;
    answer = sym e ∙ d.answer;
    fit = λ q. let z : ◌≡◌ {A = ℕ} 0 1 = cc in absurd (omega arith);
    no_same = λ q. refl;
  }

  module _ (y : ok ≡ true) where
    good : pass_succeeds p (scales_in p w) ≡ true
    good = sym d.answer ∙ y

    pub pass-cells : FiniteCells w' p.n
    pass-cells =
        let u = d.solutions y in
        record {
          xs = λ k h. ap finite (u.x k h) ∙ solution-finite p (scales_in p w) good 0 (omega arith) k h;
          ys = λ k h. ap finite (u.y k h) ∙ solution-finite p (scales_in p w) good 1 (omega arith) k h;
          zs = λ k h. ap finite (u.z k h) ∙ solution-finite p (scales_in p w) good 2 (omega arith) k h;
        }

    module _ (r r' : List ℕ) (q : Published w' p.n (get_or p.anchors.value 0 nan) (get_or p.anchors.value 1 nan) (get_or p.anchors.value 2 nan) r r') where
      placed : (t k : ℕ) (x : Float) → x ≡ solution (equations_of p (scales_in p w) t) p.n k → pattern_of (x ⊕ track_origin p.anchors t) ≡ pattern_of (fitted_at p (scales_in p w) t k)
      unfolding fitted_at
      placed t k x g = ap (λ (y : Float). pattern_of (y ⊕ track_origin p.anchors t)) g

      pub pass_publishes : PassDone p w r true w' r'
      pass_publishes =
          let u = d.solutions y in
          record {
            kept = d.kept;
            result-kept = q.kept;
            answer = sym good;
            fit = λ _. record {
              xs = λ k g. q.xs k g ∙ placed 0 k _ (u.x k g);
              ys = λ k g. q.ys k g ∙ placed 1 k _ (u.y k g);
              zs = λ k g. q.zs k g ∙ placed 2 k _ (u.z k g);
            };
            no_same = λ f. let z : ◌≡◌ {A = ℕ} 0 1 = cc in absurd (omega arith);
          }
