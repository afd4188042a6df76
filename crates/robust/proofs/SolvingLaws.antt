-- The round, by what factoring the matrix that was formed gives. Assumes nothing.
use Rattle.std.specs.Prelude.{Ok, Err}
use mathlib.Core.Path.{◌≡◌, refl, sym, ap, ◌∙◌}
use Prim.Native.Nat.{ℕ}
use native.Mathlib.Omega.{arith}
use mathlib.Core.Bool.{Bool, true, false}
use mathlib.Core.List.{List}
use lib.Ieee.{Float}
use Rattle.numeric.specs.declared.refusal.Refusal.TheVariants.{FitFailed}
use Rattle.cholesky.specs.Factor.{Factored, Refused, Lower, factor_of, solution_of}
use Rattle.cholesky.specs.Answer.{rows_after}
use Rattle.cholesky.specs.Answer as factor
use Rattle.normal_equations.specs.Steps.{Formed}
use Rattle.normal_equations.specs.declared.row.Row.{Row}
use Rattle.robust.specs.Round.{solved, round_by}
use Rattle.robust.specs.Steps.{stepping_of}

module _ (w : Row → Float) (rows : List Row) (n : ℕ) (a : List (List Float)) (b : List Float) (ok : Bool) (f : Formed w rows n a b) (ok-is : ok ≡ factor.accepted (factor_of a)) where
  round_is : round_by w rows n ≡ solved rows a b (factor_of a)
  unfolding round_by
  round_is = rw (f.matrix-is, f.right_is)

  pub solving-yes : (l z : List (List Float)) (s : List Float) → l ≡ rows_after (factor_of a) z → ok ≡ true → s ≡ solution_of l b → Ok s ≡ stepping_of (round_by w rows n)
  solving-yes l z s l-is t e = go (factor_of a) ok-is l-is ∙ ap stepping_of (sym round_is)
    where
      go : (v : Factored) → ok ≡ factor.accepted v → l ≡ rows_after v z → Ok s ≡ stepping_of (solved rows a b v)
      go Refused p q = absurd (let z : ◌≡◌ {A = ℕ} 0 1 = cc in omega arith)
      go (Lower k) p q = ap Ok (e ∙ ap (λ (z : List (List Float)). solution_of z b) q)

  pub solving-no : ok ≡ false → Err FitFailed ≡ stepping_of (round_by w rows n)
  solving-no t = go (factor_of a) ok-is ∙ ap stepping_of (sym round_is)
    where
      go : (v : Factored) → ok ≡ factor.accepted v → Err FitFailed ≡ stepping_of (solved rows a b v)
      go Refused p = refl
      go (Lower k) p = absurd (let z : ◌≡◌ {A = ℕ} 0 1 = cc in omega arith)
