-- The constants of a sigma, and a step cut off at the unknowns. Assumes nothing.
use mathlib.Core.Path.{◌≡◌, refl, ◌∙◌}
use Prim.Native.Nat.{ℕ, ◌+◌, ◌≤◌, ◌<◌}
use native.Mathlib.Decide.{ℕ_discrete, dec_lt}
use native.Mathlib.Omega.{arith}
use mathlib.Core.Bool.{cond}
use mathlib.Core.List.{List}
use lib.Dec.{ltb}
use borrow.Author.Tests.{lt-ltb, le-ltb}
use lib.ListN.{length, set, length-set}
use lib.Seq.{get_or-set_same, get_or-set_other}
use lib.Ieee.{Float, nan, div, of_int, of_bits}
use Rattle.exact.specs.Float.{+0, bits, whole, decimal}
use Rattle.cholesky.specs.Factor.{at}
use Rattle.robust.specs.Step.{padded_step}
use Rattle.normal_equations.proofs.NineLaws.{nine-is}

pub three : bits 0x4008_0000_0000_0000 ≡ whole 3
unfolding of_int of_bits
three = refl

-- 0.05
pub least_sine : bits 0x3FA9_9999_9999_999A ≡ decimal 5 2
unfolding div of_int of_bits
least_sine = refl

-- ---- a step cut off at n unknowns: zeros from n up to, not including, i
pub record Cutting (n : ℕ) (step : List Float) (i : ℕ) (x : List Float) : Type 0 where
  pub long : length x ≡ 9
  pub cut : (p : ℕ) → n ≤ p → p < i → at x p ≡ +0
  pub rest : (p : ℕ) → p < n → at x p ≡ at step p

pub cutting_start : (n : ℕ) (step : List Float) → length step ≡ 9 → Cutting n step n step
cutting_start n step e = record { long = e; cut = λ p h k. absurd (let z : n < n = omega arith in omega arith); rest = λ p h. refl }

pub cutting_next : (n : ℕ) (step : List Float) (i : ℕ) (x : List Float) → n ≤ i → i < 9 → Cutting n step i x → Cutting n step (i + 1) (set x i +0)
cutting_next n step i x h ib m = record { long = length-set x i +0 ∙ m.long; cut = λ p l u. go p l u (ℕ_discrete p i); rest = λ p l. get_or-set_other x i p +0 nan (omega arith) ∙ m.rest p l }
  where
    go : (p : ℕ) → n ≤ p → p < i + 1 → Dec (p ≡ i) → at (set x i +0) p ≡ +0
    go p l u (yes e) = rw e (get_or-set_same x i +0 nan (omega (arith, m.long)))
    go p l u (no e) = get_or-set_other x i p +0 nan e ∙ m.cut p l (omega arith)

pub cutting_end : (n : ℕ) (step : List Float) (i : ℕ) (x : List Float) → 9 ≤ i → Cutting n step i x → x ≡ padded_step n step
unfolding padded_step
cutting_end n step i x h m = nine-is (λ i. cond (ltb i n) (at step i) +0) nan x m.long (λ p pb. go p pb (dec_lt p n))
  where
    go : (p : ℕ) → p < 9 → Dec (p < n) → at x p ≡ cond (ltb p n) (at step p) +0
    go p pb (yes l) = m.rest p l ∙ rw (lt-ltb p n l)
    go p pb (no l) = let u : n ≤ p = omega arith in m.cut p u (omega arith) ∙ rw (le-ltb p n u)
