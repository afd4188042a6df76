-- A fraction rounded to a grid of floats is the nearest of them, and of two that are equally near the even one. Numbers only, no floats. Assumes nothing.
use mathlib.Core.Path.{◌≡◌, refl, sym, ap, subst}
use mathlib.Core.Logic.{◌⊎◌, inl, inr}
use Prim.Native.Nat.{ℕ, zero, suc, ◌+◌, ◌-◌, ◌*◌, ◌/◌, ◌%◌, ◌≤◌, ◌<◌, compare, Ordering}
use native.Mathlib.Nat.{mul-le-mul_right, div-add-mod', mod-lt, eq-or-lt_of_le}
use native.Mathlib.Omega.{arith}
use mathlib.Core.Bool.{Bool, true, false, not}
use lib.Dec.{T, is_le, compare_is_eq, leb, leb→le, nleb→lt, eqb, eqb→eq, eqb_refl}
use lib.Arith.{lt_of_le-ne}
use lib.Ieee.{nearest}
use lib.Ieee.Nearest.{closest}
use Rattle.exact.proofs.Num.{apart}

-- ---- the nearest whole number
abbrev Cmp : Ordering → ℕ → ℕ → Type 0
Cmp Ordering.lt a b = a < b
Cmp Ordering.eq a b = a ≡ b
Cmp Ordering.gt a b = b < a

cmp : (a b : ℕ) → Cmp (compare a b) a b
cmp a b = go (compare a b) (leb→le a b) (nleb→lt a b) (eqb→eq a b) (λ (e : a ≡ b). subst (λ (x : ℕ). T (eqb a x)) e (eqb_refl a))
  where
    go : (o : Ordering) → (T (is_le o) → a ≤ b) → (T (not (is_le o)) → b < a) → (T (compare_is_eq o) → a ≡ b) → (a ≡ b → T (compare_is_eq o)) → Cmp o a b
    go Ordering.lt h k e n = lt_of_le-ne (h tt) n
    go Ordering.eq h k e n = e tt
    go Ordering.gt h k e n = k tt

-- where v stands to w and the next number
data Place (w v : ℕ) : Type 0 where
  under : v < w → Place w v
  at : v ≡ w → Place w v
  next : v ≡ suc w → Place w v
  over : suc w < v → Place w v

place : (w v : ℕ) → Place w v
place w v = go (leb v w) (leb→le v w) (nleb→lt v w)
  where
    high : (suc w ≡ v) ⊎ (suc w < v) → Place w v
    high (inl e) = next (sym e)
    high (inr l) = over l

    low : (v ≡ w) ⊎ (v < w) → Place w v
    low (inl e) = at e
    low (inr l) = under l

    go : (b : Bool) → (T b → v ≤ w) → (T (not b) → w < v) → Place w v
    go true h k = low (eq-or-lt_of_le (h tt))
    go false h k = high (eq-or-lt_of_le (k tt))

-- q is the whole number nearest to (w * u + r) / u. Another number is farther; or it is as far, q is even, it is odd, and it is w or the next.
pub record Tie (w q v : ℕ) : Type 0 where
  pub even : q % 2 ≡ 0
  pub odd : v % 2 ≡ 1
  pub least : w ≤ v
  pub most : v ≤ suc w

pub data Rival (d e w q v : ℕ) : Type 0 where
  same : v ≡ q → Rival d e w q v
  farther : d < e → Rival d e w q v
  tie : d ≡ e → Tie w q v → Rival d e w q v

module _ (w r u : ℕ) (R : r < u) where
  -- the distances of the four places
  below-far : (v : ℕ) → v < w → u + r ≤ apart (v * u) (w * u + r)
  below-far v l = omega (arith, mul-le-mul_right u l)

  at-far : (v : ℕ) → v ≡ w → apart (v * u) (w * u + r) ≡ r
  at-far v e = omega (arith, ap (λ (z : ℕ). z * u) e)

  next-far : (v : ℕ) → v ≡ suc w → apart (v * u) (w * u + r) ≡ u - r
  next-far v e = omega (arith, ap (λ (z : ℕ). z * u) e)

  over-far : (v : ℕ) → suc w < v → u + (u - r) ≤ apart (v * u) (w * u + r)
  over-far v l = omega (arith, mul-le-mul_right u l)

  rival : (o : Ordering) → Cmp o (r * 2) u → (v : ℕ) → Place w v → Rival (apart (nearest w o * u) (w * u + r)) (apart (v * u) (w * u + r)) w (nearest w o) v
  rival Ordering.lt c v (under l) = farther (omega (arith, below-far v l, at-far w refl))
  rival Ordering.lt c v (at e) = same e
  rival Ordering.lt c v (next e) = farther (omega (arith, next-far v e, at-far w refl))
  rival Ordering.lt c v (over l) = farther (omega (arith, over-far v l, at-far w refl))
  rival Ordering.gt c v (under l) = farther (omega (arith, below-far v l, next-far (suc w) refl))
  rival Ordering.gt c v (at e) = farther (omega (arith, at-far v e, next-far (suc w) refl))
  rival Ordering.gt c v (next e) = same e
  rival Ordering.gt c v (over l) = farther (omega (arith, over-far v l, next-far (suc w) refl))
  rival Ordering.eq c v p = go (w % 2) refl (mod-lt w (omega arith)) p
    where
      half : (q : ℕ) → (q ≡ w) ⊎ (q ≡ suc w) → apart (q * u) (w * u + r) ≡ r
      half q (inl e) = at-far q e
      half q (inr e) = omega (arith, next-far q e)

      go : (b : ℕ) → w % 2 ≡ b → b < 2 → Place w v → Rival (apart ((w + b) * u) (w * u + r)) (apart (v * u) (w * u + r)) w (w + b) v
      go zero e l (under k) = farther (omega (arith, below-far v k, half (w + 0) (inl (omega arith))))
      go zero e l (at k) = same (omega arith)
      go zero e l (next k) = tie (omega (arith, half (w + 0) (inl (omega arith)), half v (inr k))) (omega arith)
      go zero e l (over k) = farther (omega (arith, over-far v k, half (w + 0) (inl (omega arith))))
      go (suc zero) e l (under k) = farther (omega (arith, below-far v k, half (w + 1) (inr (omega arith))))
      go (suc zero) e l (at k) = tie (omega (arith, half (w + 1) (inr (omega arith)), half v (inl k))) (omega arith)
      go (suc zero) e l (next k) = same (omega arith)
      go (suc zero) e l (over k) = farther (omega (arith, over-far v k, half (w + 1) (inr (omega arith))))
      go (suc (suc b)) e l k = absurd (omega arith)

pub closest-rival : (n u v : ℕ) → 0 < u → Rival (apart (closest n u * u) n) (apart (v * u) n) (n / u) (closest n u) v
closest-rival n u v U =
    subst (λ (z : ℕ). Rival (apart (closest n u * u) z) (apart (v * u) z) (n / u) (closest n u) v) (div-add-mod' n u)
    (rival (n / u) (n % u) u (mod-lt n U) (compare (n % u * 2) u) (cmp (n % u * 2) u) v (place (n / u) v))
