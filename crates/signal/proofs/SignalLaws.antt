-- The digits of a signal: those that it was made of, and equal digits are one signal. Assumes nothing.
use mathlib.Core.Path.{◌≡◌, refl, sym, ap, ◌∙◌}
use mathlib.Core.Bool.{Bool, true, false, ◌&&◌}
use Prim.Native.Nat.{ℕ, ◌+◌, ◌*◌, ◌/◌, ◌%◌, ◌^◌, ◌<◌}
use native.Mathlib.Nat.{div-div-eq-div-mul}
use native.Mathlib.Omega.{arith}
use lib.Dec.{eqb}
use borrow.Author.Tests.{eqb-true, eqb-false, eq-eqb, ne_eqb}
use Rattle.signal.specs.Signal.{signal, constellation_in, svid_in, band_in}

module _ (c v b : ℕ) (vl : v < 2 ^ 16) (bl : b < 2 ^ 32) where
  upper : signal c v b / 2 ^ 32 ≡ c * 2 ^ 16 + v
  upper = omega arith

  pub band-is : band_in (signal c v b) ≡ b
  band-is = omega arith

  pub svid-is : svid_in (signal c v b) ≡ v
  svid-is = ap (λ (n : ℕ). n % 2 ^ 16) upper ∙ omega arith

  pub constellation-is : constellation_in (signal c v b) ≡ c
  constellation-is = sym (div-div-eq-div-mul (signal c v b) (2 ^ 32) (2 ^ 16)) ∙ ap (λ (n : ℕ). n / 2 ^ 16) upper ∙ omega arith

  pub signal-small : c < 2 ^ 8 → signal c v b < 2 ^ 56
  signal-small cl = omega arith

-- equal digits are one signal
digits-one : (s t : ℕ) → constellation_in s ≡ constellation_in t → svid_in s ≡ svid_in t → band_in s ≡ band_in t → s ≡ t
digits-one s t a b c = join32 s t (join16 (s / 2 ^ 32) (t / 2 ^ 32) (up s ∙ a ∙ sym (up t)) b) c
  where
    join16 : (m n : ℕ) → m / 2 ^ 16 ≡ n / 2 ^ 16 → m % 2 ^ 16 ≡ n % 2 ^ 16 → m ≡ n
    join16 m n p q = omega arith

    join32 : (m n : ℕ) → m / 2 ^ 32 ≡ n / 2 ^ 32 → m % 2 ^ 32 ≡ n % 2 ^ 32 → m ≡ n
    join32 m n p q = omega arith

    up : (m : ℕ) → m / 2 ^ 32 / 2 ^ 16 ≡ m / 2 ^ 48
    up m = div-div-eq-div-mul m (2 ^ 32) (2 ^ 16)

-- two signals are equal where their digits are
pub same_digits : (s t : ℕ) → eqb s t ≡ (eqb (constellation_in s) (constellation_in t) && eqb (svid_in s) (svid_in t) && eqb (band_in s) (band_in t))
same_digits s t = go _ _ _ refl refl refl
  where
    go : (x y z : Bool) → eqb (constellation_in s) (constellation_in t) ≡ x → eqb (svid_in s) (svid_in t) ≡ y → eqb (band_in s) (band_in t) ≡ z → eqb s t ≡ (x && y && z)
    go true true true a b c = eq-eqb s t (digits-one s t (eqb-true _ _ a) (eqb-true _ _ b) (eqb-true _ _ c))
    go false y z a b c = ne_eqb s t (λ (e : s ≡ t). eqb-false _ _ a (ap constellation_in e))
    go true false z a b c = ne_eqb s t (λ (e : s ≡ t). eqb-false _ _ b (ap svid_in e))
    go true true false a b c = ne_eqb s t (λ (e : s ≡ t). eqb-false _ _ c (ap band_in e))
