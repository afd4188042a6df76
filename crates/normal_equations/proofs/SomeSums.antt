-- Sums that leave terms out, and when they are the whole sums. Assumes nothing.
use mathlib.Core.Path.{◌≡◌, refl, sym, ap, ◌∙◌, subst}
use Prim.Native.Nat.{ℕ, zero, suc, ◌+◌, ◌<◌}
use native.Mathlib.Nat.{not-suc-le-zero}
use native.Mathlib.Numerals.{add-one}
use native.Mathlib.Decide.{ℕ_discrete}
use native.Mathlib.Omega.{arith}
use mathlib.Core.Bool.{Bool, true, false, cond}
use lib.Dec.{T}
use lib.Ieee.{Float, binary64, of_bits, fits}
use lib.Ieee.Fits.{add-fits}
use lib.Ieee.Bits.{of_bits-fits}
use lib.Ieee.Scale.{finite}
use Rattle.exact.specs.Float.{◌⊕◌, +0}
use Rattle.exact.proofs.Ops.{add-finite}
use Rattle.numeric.proofs.Zeros.{is_zero}
use Rattle.normal_equations.proofs.Zeros.{is_minus_zero, plus-zero, plus_not_minus}
use Rattle.normal_equations.proofs.Sums.{sum_to}

-- v, and f 0, .., f (n - 1) added to it where t says so
unfoldable pub some_to : Float → (ℕ → Bool) → (ℕ → Float) → ℕ → Float
some_to v t f zero = v
some_to v t f (suc k) = cond (t k) (some_to v t f k ⊕ f k) (some_to v t f k)

module _ (v : Float) (t : ℕ → Bool) (f : ℕ → Float) where
  pub some-taken : (k : ℕ) → t k ≡ true → some_to v t f (k + 1) ≡ some_to v t f k ⊕ f k
  unfolding some_to
  some-taken k e = rw (add-one, e)

  pub some_left : (k : ℕ) → t k ≡ false → some_to v t f (k + 1) ≡ some_to v t f k
  unfolding some_to
  some_left k e = rw (add-one, e)

  pub some-none : (n : ℕ) → ((k : ℕ) → k < n → t k ≡ false) → some_to v t f n ≡ v
  unfolding some_to
  some-none zero h = refl
  some-none (suc n) h = rw (h n (omega arith)) (some-none n (λ k kb. h k (omega arith)))

sum_fits : (f : ℕ → Float) (n : ℕ) → T (fits binary64 (sum_to f n))
unfolding sum_to
sum_fits f zero = of_bits-fits binary64 0
sum_fits f (suc n) = add-fits binary64 (sum_to f n) (f n)

sum_not_minus : (f : ℕ → Float) (n : ℕ) → ((k : ℕ) → T (fits binary64 (f k))) → is_minus_zero (sum_to f n) ≡ false
unfolding sum_to of_bits
sum_not_minus f zero h = refl
sum_not_minus f (suc n) h = plus_not_minus (sum_to f n) (f n) (sum_fits f n) (h n) (sum_not_minus f n h)

-- terms that are zeros may be left out
pub some-all : (t : ℕ → Bool) (f : ℕ → Float) (n : ℕ) → ((k : ℕ) → T (fits binary64 (f k))) → ((k : ℕ) → k < n → t k ≡ false → T (is_zero (f k))) → some_to +0 t f n ≡ sum_to f n
unfolding some_to sum_to
some-all t f zero h z = refl
some-all t f (suc n) h z = go (some-all t f n h (λ k kb. z k (omega arith))) (t n) refl
  where
    go : some_to +0 t f n ≡ sum_to f n → (b : Bool) → t n ≡ b → cond b (some_to +0 t f n ⊕ f n) (some_to +0 t f n) ≡ sum_to f n ⊕ f n
    go before true e = ap (λ (s : Float). s ⊕ f n) before
    go before false e = before ∙ sym (plus-zero (sum_to f n) (f n) (sum_fits f n) (sum_not_minus f n h) (z n (omega arith) e))

-- the terms of a finite sum are finite
pub sum-finite : (f : ℕ → Float) (n : ℕ) → T (finite (sum_to f n)) → (k : ℕ) → k < n → T (finite (f k))
unfolding sum_to
sum-finite f zero h k kb = absurd (not-suc-le-zero kb)
sum-finite f (suc n) h k kb = go (λ l. sum-finite f n (add-finite (sum_to f n) (f n) h).0 k l) (ℕ_discrete k n)
  where
    go : (k < n → T (finite (f k))) → Dec (k ≡ n) → T (finite (f k))
    go before (yes e) = subst (λ (z : ℕ). T (finite (f z))) (sym e) (add-finite (sum_to f n) (f n) h).1
    go before (no e) = before (omega arith)
