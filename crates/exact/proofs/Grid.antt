-- The fraction n / den in units of binary64's smallest value, rounded by `round`, against every other number of at most 53 digits times a power of two. Assumes nothing.
use mathlib.Core.Path.{◌≡◌, refl, sym, ap, ◌∙◌, subst}
use mathlib.Core.Logic.{◌⊎◌, inl, inr}
use Prim.Native.Nat.{ℕ, suc, ◌+◌, ◌-◌, ◌*◌, ◌/◌, ◌%◌, ◌^◌, ◌≤◌, ◌<◌, zero-le, compare}
use native.Mathlib.Nat.{le_trans, le_of_lt, le_of_eq, lt_of_lt_of_le, lt_of_le_of_lt, lt_of_not-le, not-le_of_lt, eq-zero-or-pos, eq-or-lt_of_le, mul-le-mul_right, mul-lt-mul_of_pos_right, mul_assoc, mul_comm, mul-pos, mul-div_cancel, div-div-eq-div-mul, le-div_iff_mul-le}
use native.Mathlib.Omega.{arith}
use mathlib.Core.Bool.{Bool, true, false, not}
use lib.Dec.{T, leb, leb→le, nleb→lt}
use lib.Pow.{pow-add, pow_pos, pow_mono, shl_lt}
use lib.Ieee.{size}
use lib.Ieee.Digits.{size-lt, size-le, size_reaches, back}
use lib.Ieee.Fits.{kept-lt, nearest-le}
use lib.Ieee.Nearest.{closest, nearest-ge}
use lib.Ieee.Order.{drop, kept}
use Rattle.exact.proofs.Num.{apart}
use Rattle.exact.proofs.Closest.{Rival, same, farther, tie, closest-rival}

-- ---- the last of the digits that a format of 53 keeps
size-gt : (n j : ℕ) → 2 ^ j ≤ n → j < size n
size-gt n j h = lt_of_not-le (λ (g : size n ≤ j). not-le_of_lt (lt_of_lt_of_le (size-lt n) (pow_mono g)) h)

-- q has 53 digits, or fewer where nothing is dropped
pub record Digits (q k : ℕ) : Type 0 where
  pub few : q ≤ 2 ^ 53
  pub all : (k ≡ 0) ⊎ (2 ^ 52 ≤ q)

dropped : (q k : ℕ) → q < 2 ^ 53 → (k ≡ 0) ⊎ (2 ^ 52 ≤ q) → size (q * 2 ^ k) - 53 ≡ k
dropped q k l (inl z) = omega (arith, size-le (q * 2 ^ k) (53 + k) (shl_lt 53 k l))
dropped q k l (inr m) =
    omega (arith, size-le (q * 2 ^ k) (53 + k) (shl_lt 53 k l), size-gt (q * 2 ^ k) (52 + k) (le_trans (le_of_eq (pow-add 2 52 k)) (mul-le-mul_right (2 ^ k) m)))

power : (k : ℕ) → 2 ^ 53 * 2 ^ k ≡ 2 ^ 52 * 2 ^ suc k
power k = sym (pow-add 2 53 k) ∙ ap (λ (z : ℕ). 2 ^ z) (one k) ∙ pow-add 2 52 (suc k)
  where
    one : (k : ℕ) → 53 + k ≡ 52 + suc k
    one k = omega arith

pub last-digit : (q k : ℕ) → Digits q k → q * 2 ^ k / 2 ^ (size (q * 2 ^ k) - 53) % 2 ≡ q % 2
last-digit q k h = go (eq-or-lt_of_le h.few)
  where
    at : (q k : ℕ) → q < 2 ^ 53 → (k ≡ 0) ⊎ (2 ^ 52 ≤ q) → q * 2 ^ k / 2 ^ (size (q * 2 ^ k) - 53) ≡ q
    at q k l m = ap (λ (z : ℕ). q * 2 ^ k / 2 ^ z) (dropped q k l m) ∙ mul-div_cancel q (pow_pos k)

    go : (q ≡ 2 ^ 53) ⊎ (q < 2 ^ 53) → q * 2 ^ k / 2 ^ (size (q * 2 ^ k) - 53) % 2 ≡ q % 2
    go (inr l) = ap (λ (z : ℕ). z % 2) (at q k l h.all)
    go (inl e) =
        ap (λ (z : ℕ). z / 2 ^ (size z - 53) % 2) (ap (λ (z : ℕ). z * 2 ^ k) e ∙ power k)
        ∙ ap (λ (z : ℕ). z % 2) (at (2 ^ 52) (suc k) (omega arith) (inr (omega arith)))
        ∙ sym (ap (λ (z : ℕ). z % 2) e)

-- ---- n / den, rounded: g units
abbrev pub grid : ℕ → ℕ → ℕ
grid n den = kept 53 n den * 2 ^ drop 53 n den

-- how g stands to another number v that a format of 53 digits has: v is farther, or it is as far and has an odd last digit
pub data Against (n den v : ℕ) : Type 0 where
  equal : v ≡ grid n den → Against n den v
  beaten : apart (grid n den * den) n < apart (v * den) n → Against n den v
  tied : (c : ℕ) → apart (grid n den * den) n ≡ apart (v * den) n → kept 53 n den % 2 ≡ 0 → v ≡ c * 2 ^ drop 53 n den → c % 2 ≡ 1 → Digits c (drop 53 n den) → Against n den v

module _ (n den : ℕ) (D : 0 < den) where
  k : ℕ
  k = drop 53 n den

  u : ℕ
  u = den * 2 ^ k

  u-pos : 0 < u
  unfolding u
  u-pos = mul-pos D (pow_pos k)

  -- where digits are dropped, the fraction is 2 ^ 52 times the last place kept at least
  reached : 0 < k → 2 ^ 52 * 2 ^ k * den ≤ n
  unfolding k
  reached h = (le-div_iff_mul-le D).0 (subst (λ (x : ℕ). x ≤ n / den) (pow-add 2 52 k) (size_reaches (n / den) (52 + k) (more (size (n / den)) h)))
    where
      more : (z : ℕ) → 0 < z - 53 → 52 + (z - 53) < z
      more z h = omega arith

  whole-few : n / u < 2 ^ 53
  unfolding u k
  whole-few = subst (λ (x : ℕ). x < 2 ^ 53) (div-div-eq-div-mul n den (2 ^ k)) (kept-lt 53 (n / den))

  whole-all : (k ≡ 0) ⊎ (2 ^ 52 ≤ n / u)
  unfolding u
  whole-all = go (eq-zero-or-pos k)
    where
      go : (k ≡ 0) ⊎ (0 < k) → (k ≡ 0) ⊎ (2 ^ 52 ≤ n / u)
      go (inl z) = inl z
      go (inr l) = inr ((le-div_iff_mul-le u-pos).1 (le_trans (le_of_eq (swap (2 ^ k))) (reached l)))
        where
          swap : (x : ℕ) → 2 ^ 52 * (den * x) ≡ 2 ^ 52 * x * den
          swap x = omega arith

  digits : (c : ℕ) → n / u ≤ c → c ≤ suc (n / u) → Digits c k
  digits c l m = record { few = le_trans m whole-few; all = go whole-all }
    where
      go : (k ≡ 0) ⊎ (2 ^ 52 ≤ n / u) → (k ≡ 0) ⊎ (2 ^ 52 ≤ c)
      go (inl z) = inl z
      go (inr h) = inr (le_trans h l)

  pub kept-digits : Digits (kept 53 n den) (drop 53 n den)
  unfolding u k
  kept-digits = digits (closest n u) (nearest-ge (n / u) (compare (n % u * 2) u)) (nearest-le (n / u) (compare (n % u * 2) u))

  -- a multiple of the last place kept
  along : (c : ℕ) → c * u ≡ c * 2 ^ k * den
  unfolding u
  along c = ap (λ (z : ℕ). c * z) (mul_comm den (2 ^ k)) ∙ sym (mul_assoc c (2 ^ k) den)

  multiple : (c : ℕ) → Against n den (c * 2 ^ k)
  unfolding u k
  multiple c = go (closest-rival n u c u-pos)
    where
      go : Rival (apart (closest n u * u) n) (apart (c * u) n) (n / u) (closest n u) c → Against n den (c * 2 ^ k)
      go (same e) = equal (ap (λ (z : ℕ). z * 2 ^ k) e)
      go (farther l) = beaten (rw (along c, along (closest n u)) at l)
      go (tie e t) = tied c (rw (along c, along (closest n u)) at e) t.even refl t.odd (digits c t.least t.most)

  pub no-farther : {v : ℕ} → Against n den v → apart (grid n den * den) n ≤ apart (v * den) n
  no-farther {v} (equal e) = le_of_eq (ap (λ (z : ℕ). apart (z * den) n) (sym e))
  no-farther {v} (beaten l) = le_of_lt l
  no-farther {v} (tied c e a b d f) = le_of_eq e

  -- a number with a finer last place is smaller than all that have this one, and so is farther
  finer : (v : ℕ) → v < 2 ^ 52 * 2 ^ k → 2 ^ 52 * 2 ^ k * den ≤ n → apart (grid n den * den) n < apart (v * den) n
  finer v l h = further (grid n den * den) (2 ^ 52 * 2 ^ k * den) (v * den) (no-farther (multiple (2 ^ 52))) (mul-lt-mul_of_pos_right l D) h
    where
      further : (g w v : ℕ) → apart g n ≤ apart w n → v < w → w ≤ n → apart g n < apart v n
      further g w v a b c = omega arith

  pub against : (a j : ℕ) → a < 2 ^ 53 → Against n den (a * 2 ^ j)
  against a j l = go (leb k j) (leb→le k j) (nleb→lt k j)
    where
      go : (b : Bool) → (T b → k ≤ j) → (T (not b) → j < k) → Against n den (a * 2 ^ j)
      go true h m =
          subst (λ (z : ℕ). Against n den z) (mul_assoc a (2 ^ (j - k)) (2 ^ k) ∙ ap (λ (z : ℕ). a * z) (sym (pow-add 2 (j - k) k) ∙ ap (λ (z : ℕ). 2 ^ z) (back j k (h tt))))
          (multiple (a * 2 ^ (j - k)))
      go false h m =
          beaten (finer (a * 2 ^ j) (lt_of_lt_of_le (shl_lt 53 j l) (le_trans (pow_mono (room j k (m tt))) (le_of_eq (pow-add 2 52 k)))) (reached (lt_of_le_of_lt zero-le (m tt))))
        where
          room : (j k : ℕ) → j < k → 53 + j ≤ 52 + k
          room j k h = omega arith

  -- G is the largest number, L the half way from it to M, the next
  pub below_next : (G h L M : ℕ) → 0 < h → Against n den G → G + h ≡ L → L + h ≡ M → n < L * den → grid n den < M
  below_next G h L M H v e f l = lt_of_not-le (λ (t : M ≤ grid n den). nearer (grid n den) G h L M (mul-pos H D) e f l t (no-farther v))
    where
      nearer : (g G h L M : ℕ) → 0 < h * den → G + h ≡ L → L + h ≡ M → n < L * den → M ≤ g → apart (g * den) n ≤ apart (G * den) n → ⊥
      nearer g G h L M H e f l t a = omega (arith, ap (λ (z : ℕ). z * den) e, ap (λ (z : ℕ). z * den) f, mul-le-mul_right den t)
