-- The definitions look at the first n rows of the equations alone. Assumes nothing.
use mathlib.Core.Path.{◌≡◌, sym, ◌∙◌, ap}
use mathlib.Core.Bool.{not}
use mathlib.Core.Logic.{inl, inr, ⊎_elim}
use Prim.Native.Nat.{ℕ, zero, suc, ◌-◌, ◌<◌}
use native.Mathlib.Omega.{arith}
use lib.Ieee.{Float, is_nan, le}
use lib.Ieee.Scale.{finite}
use Rattle.exact.specs.Float.{+0}
use Rattle.track_tridiagonal.specs.Tridiagonal.{Equations, vanishing, pivot, reduced, eliminated, solvable, back, solution, held, finite_solution, axis_solved, Spoilt}
use Rattle.track_tridiagonal.specs.Steps.{Alike}
use Rattle.track_tridiagonal.proofs.EachBelow.{each_same}

pub back-same : (e e' : Equations) (m n : ℕ) → m < n → Alike e e' n → (j : ℕ) → back e' m j ≡ back e m j
unfolding back
back-same e e' m n h s zero = rw (s.diagonal m h, s.right m h)
back-same e e' m n h s (suc j) = rw (s.diagonal (m - suc j) (omega arith), s.upper (m - suc j) (omega arith), s.right (m - suc j) (omega arith), back-same e e' m n h s j)

module _ (e e' : Equations) (n : ℕ) (s : Alike e e' n) where
  pivot-same : (k : ℕ) → k < n → pivot e' k ≡ pivot e k
  unfolding pivot
  pivot-same zero h = s.diagonal 0 h
  pivot-same (suc k) h = rw (s.diagonal (suc k) h, s.upper k (omega arith), pivot-same k (omega arith))

  pub solvable-same : solvable e' n ≡ solvable e n
  solvable-same = each_same (λ k. not (vanishing (pivot e' k))) (λ k. not (vanishing (pivot e k))) n (λ k h. ap (λ (x : Float). not (vanishing x)) (pivot-same k h))

  reduced-same : (k : ℕ) → k < n → reduced e' k ≡ reduced e k
  unfolding reduced
  reduced-same zero h = s.right 0 h
  reduced-same (suc k) h = rw (s.right (suc k) h, s.upper k (omega arith), pivot-same k (omega arith), reduced-same k (omega arith))

  pub solution-same : 0 < n → (i : ℕ) → solution e' n i ≡ solution e n i
  unfolding solution
  solution-same h i = back-same (eliminated e) (eliminated e') (n - 1) n (omega arith) (record { diagonal = pivot-same; upper = s.upper; right = reduced-same }) (n - 1 - i)

  held_same : held e' n ≡ held e n
  held_same = each_same (λ k. not (le (e'.diagonal k) +0)) (λ k. not (le (e.diagonal k) +0)) n (λ k h. ap (λ (x : Float). not (le x +0)) (s.diagonal k h))

  finite-same : 0 < n → finite_solution e' n ≡ finite_solution e n
  finite-same h = each_same (λ k. finite (solution e' n k)) (λ k. finite (solution e n k)) n (λ k l. ap finite (solution-same h k))

  pub axis_same : 0 < n → axis_solved e' n ≡ axis_solved e n
  axis_same h = rw (held_same, solvable-same, finite-same h)

  pub spoilt-same : Spoilt e' n → Spoilt e n
  spoilt-same p = record {
    row = p.row;
    inside = p.inside;
    spoilt = ⊎_elim
        (λ g. inl (ap is_nan (sym (s.diagonal p.row p.inside)) ∙ g))
        (λ r. inr (⊎_elim
        (λ g. inl (ap is_nan (sym (s.right p.row p.inside)) ∙ g))
        (λ g. inr (g.0, ap is_nan (sym (s.upper p.row p.inside)) ∙ g.1)) r))
        p.spoilt;
  }

pub alike_then : (e e' e'' : Equations) (n : ℕ) → Alike e e' n → Alike e' e'' n → Alike e e'' n
alike_then e e' e'' n s t = record {
  diagonal = λ k h. t.diagonal k h ∙ s.diagonal k h;
  upper = λ k h. t.upper k h ∙ s.upper k h;
  right = λ k h. t.right k h ∙ s.right k h;
}
