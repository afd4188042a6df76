-- The root of a pivot, in units of 2 ^ -1074: from `root_of`'s theorem to the form that the error bound reads. Assumes nothing.
use mathlib.Core.Path.{◌≡◌, refl, sym, ap, ◌∙◌, subst}
use Prim.Native.Nat.{ℕ, zero, suc, ◌+◌, ◌*◌, ◌^◌, ◌<◌}
use native.Mathlib.Nat.{le_of_lt, eq_of_mul-eq-mul_right, zero-mul}
use native.Mathlib.Omega.{arith}
use mathlib.Core.Bool.{true, false}
use lib.Dec.{T, ltb→lt}
use lib.Pow.{pow-add, pow_pos}
use lib.IntN.{pos}
use lib.Ieee.{Float, nan, inf, fin, up, down, binary64, fits, lt, of_bits}
use lib.Ieee.Fits.{down_pos}
use lib.Ieee.Exact.{HasValue}
use lib.Ieee.Scale.{finite}
use Rattle.exact.specs.Value.{scale, magnitude, value}
use Rattle.root.specs.Root.{IsPositiveRoot, root_of}
use Rattle.cholesky.specs.Factor.{is_pivot}
use Rattle.exact.proofs.Steps.{RootInUnits}
use Rattle.exact.proofs.Ops.{exact}
use Rattle.root.proofs.RootLaws.{r-scaled, four-pow}
use Rattle.root.proofs.Theorems.{root_of-root}

across : (M d n S c a : ℕ) → M * d ≡ n * S → n * c ≡ a * d → M * c * d ≡ a * S * d
across M d n S c a h k = omega (arith, ap (λ (t : ℕ). t * c) h, ap (λ (t : ℕ). t * S) k)

-- x is a / c and positive
pub record Stated (x : Float) (a c : ℕ) : Type 0 where
  pub is_finite : T (finite x)
  pub is_positive : value x ≡ pos (magnitude x)
  pub size : magnitude x * c ≡ a * scale

pub stated : (x : Float) (a c : ℕ) → T (fits binary64 x) → HasValue x false a c → Stated x a c
unfolding value
stated nan a c f h = absurd h
stated (inf s) a c f h = absurd h
stated (fin false m e) a c f h =
    record {
      is_finite = tt;
      is_positive = refl;
      size = eq_of_mul-eq-mul_right (down e) (down_pos e) (magnitude (fin false m e) * c) (a * scale) (across (magnitude (fin false m e)) (down e) (m * up e) scale c a (exact false m e f) h.1);
    }
stated (fin true m e) a c f h = absurd (let z : ◌≡◌ {A = ℕ} 0 1 = cc h.0 in omega arith)

-- (S * M) * c, from M * c
squared : (M n f S c t u : ℕ) → M * c ≡ n * f * S → t * t ≡ f * u → S * S ≡ u * c → S * M * c ≡ n * (t * t) * c
squared M n f S c t u h k e = omega (arith, ap (λ (z : ℕ). S * z) h, ap (λ (z : ℕ). n * z * c) k, ap (λ (z : ℕ). n * f * z) e)

scale-is : scale ≡ 2 ^ 1074
unfolding scale
scale-is = refl

twice : scale * scale ≡ 2 ^ 970 * 4 ^ 589
unfolding scale
twice = refl

doubled : (k : ℕ) → 2 ^ (k + 485) * 2 ^ (k + 485) ≡ 4 ^ k * 2 ^ 970
doubled k = sym (pow-add 2 (k + 485) (k + 485)) ∙ ap (λ (z : ℕ). 2 ^ z) (regroup k) ∙ pow-add 2 (k + k) 970 ∙ ap (λ (z : ℕ). z * 2 ^ 970) (sym (four-pow k))
  where
    regroup : (k : ℕ) → k + 485 + (k + 485) ≡ k + k + 970
    regroup k = omega arith

four-pos : 0 < 4 ^ 589
four-pos = pow_pos 1178

pub positive-root : (s r : Float) → T (fits binary64 s) → IsPositiveRoot s r → RootInUnits s r
positive-root s r f h =
    let k = h.k in
    let S = stated s (h.n * 4 ^ k) (4 ^ 589) f h.x-is in
    let R = stated r (h.q * 2 ^ k) (2 ^ 589) h.r-fits h.r-is in
    let M : magnitude r ≡ h.q * 2 ^ (k + 485) =
    eq_of_mul-eq-mul_right (2 ^ 589) (pow_pos 589) (magnitude r) (h.q * 2 ^ (k + 485)) (R.size ∙ ap (λ (z : ℕ). h.q * 2 ^ k * z) scale-is ∙ r-scaled h.q k) in
    record {
      q = h.q;
      m = h.n;
      t = 2 ^ (k + 485);
      s-finite = S.is_finite;
      r-finite = R.is_finite;
      r-fits = h.r-fits;
      s-positive = S.is_positive;
      r-is = R.is_positive ∙ ap pos M;
      s-is = eq_of_mul-eq-mul_right (4 ^ 589) four-pos (scale * magnitude s) (h.n * (2 ^ (k + 485) * 2 ^ (k + 485))) (squared (magnitude s) h.n (4 ^ k) scale (4 ^ 589) (2 ^ (k + 485)) (2 ^ 970) S.size (doubled k) twice);
      large = h.q-from;
      low = le_of_lt h.nearest.above;
      high = le_of_lt h.nearest.below;
    }

-- a pivot has a root
pub pivot-root : (s : Float) → T (fits binary64 s) → is_pivot s ≡ true → RootInUnits s (root_of s)
unfolding is_pivot lt of_bits
pivot-root nan f h = absurd (let z : ◌≡◌ {A = ℕ} 0 1 = cc in omega arith)
pivot-root (inf s) f h = absurd (let z : ◌≡◌ {A = ℕ} 0 1 = cc in omega arith)
pivot-root (fin true m e) f h = absurd (let z : ◌≡◌ {A = ℕ} 0 1 = cc in omega arith)
pivot-root (fin false zero e) f h = absurd (none (ltb→lt (0 * 1 * down e) (0 * up e * 1) (subst T (sym h) tt)))
  where
    none : 0 * 1 * down e < 0 * up e * 1 → ⊥
    none l = omega (arith, zero-mul (up e))
pivot-root (fin false (suc m) e) f h = positive-root (fin false (suc m) e) (root_of (fin false (suc m) e)) f (root_of-root (fin false (suc m) e) f)
