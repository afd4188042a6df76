-- The cases of an answer of factoring: whether there is a factor, and what the lent rows hold. Assumes nothing.
use Rattle.numeric.specs.Refusal.{answer_number}
use Rattle.std.specs.Prelude.{Result, Ok, Err, ⊤}
use Rattle.numeric.specs.declared.refusal.Refusal.{Refusal}
use Prim.Native.Nat.{ℕ}
use native.Mathlib.Omega.{arith}
use mathlib.Core.Path.{◌≡◌, refl, sym, ap}
use mathlib.Core.List.{List}
use lib.Ieee.{Float}
use mathlib.Core.Bool.{true, false}
use Rattle.numeric.specs.declared.refusal.Refusal.TheVariants.{FitFailed}
use Rattle.cholesky.specs.Factor.{Factored, Refused, Lower, factor_of}
use Rattle.cholesky.specs.Answer.{accepted, factoring_of, rows_after, FactorPromised}

-- one case of what factoring gives is ruled out by the answer
never : {A : Type 0} → false ≡ true → A
never e = let z : ◌≡◌ {A = ℕ} 0 1 = cc in absurd (omega arith)

pub done : (w : Factored) → true ≡ accepted w → (Ok tt) ≡ factoring_of w
done Refused e = never (sym e)
done (Lower l) e = refl

pub refused : (w : Factored) → false ≡ accepted w → Err FitFailed ≡ factoring_of w
refused Refused e = refl
refused (Lower l) e = never e

pub rows-done : (w : Factored) (m n : List (List Float)) → true ≡ accepted w → rows_after w m ≡ rows_after w n
rows-done Refused m n e = never (sym e)
rows-done (Lower l) m n e = refl

pub rows-refused : (w : Factored) (m : List (List Float)) → false ≡ accepted w → m ≡ rows_after w m
rows-refused Refused m e = refl
rows-refused (Lower l) m e = never e

-- the number follows the answer
pub promised : (a : List (List Float)) {r : Result ⊤ Refusal} {m l : List (List Float)} → r ≡ factoring_of (factor_of a) → l ≡ rows_after (factor_of a) m → FactorPromised a r m l
promised a e f = record { answer = e; number_is = ap answer_number e; rows_are = f }
