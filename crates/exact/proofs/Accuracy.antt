-- The accuracy of a solution in exact numbers, from the sharper bound in units. Assumes nothing.
use mathlib.Core.Path.{◌≡◌, refl, ap, ◌∙◌}
use Prim.Native.Nat.{ℕ, zero, suc, ◌+◌, ◌*◌, ◌^◌, ◌≤◌}
use native.Mathlib.Nat.{le_trans, mul-le-mul_left, mul-pos, mul_assoc}
use native.Mathlib.Omega.{arith}
use mathlib.Core.Bool.{Bool, true, false, cond}
use lib.Dec.{leb}
use lib.Pow.{pow_pos}
use lib.IntN.{pos, ◌-ℤ◌, ◌*ℤ◌, nat_abs}
use lib.Ieee.{Float}
use Rattle.exact.specs.Value.{scale, magnitude, value}
use Rattle.exact.specs.Number.{Number, ◌+ₑ◌, ◌-ₑ◌, ◌*ₑ◌, ∣◌∣, 0ₑ, Σ, exactly}
use Rattle.exact.specs.Accuracy.{entry, column, symmetric, triangle, Accurate}
use Rattle.exact.proofs.Sharper.{sumℤ, sum, lower, size_l, size_x, Sharper}
use Rattle.exact.proofs.Num.{Num, num, ◌∸◌, ◌·◌}
use Rattle.exact.proofs.Ops.{val, scale-pos}
use Rattle.exact.proofs.Products.{dot}
use Rattle.exact.proofs.Bridge.{stands-minus, stands-dot, stands-scaled, stands-val}
use Rattle.exact.proofs.Number.{Is, gap, nat_abs-gap, is-+, is-minus, is-*ℕ, is-∣∣, is-scaled, is_scaledℕ, is-over, is-0, is-1, is-2^-, is-Σ, is-dot, is-exactly, is-∣exactly∣, le-of-is}

-- ---- the bound as it is claimed, from the sharper one: M is 2 ^ 48, N is 2 ^ 52, K is 2 ^ 1070, c is 2 ^ 1022
loosen : (M N K c S R P F X : ℕ) → K ≡ M * c → c * N ≡ S → R * M ≤ P + N * ((S + F) * (S + F + X)) → K * R ≤ c * P + (S + F) * (S + F) * (S + X)
loosen M N K c S R P F X k n h =
    le_trans (first (mul-le-mul_left c h))
    (second (mul-le-mul_left (S + F) (third S F X)))
  where
    first : c * (R * M) ≤ c * (P + N * ((S + F) * (S + F + X))) → K * R ≤ c * P + S * ((S + F) * (S + F + X))
    first h = omega (arith, ap (λ (z : ℕ). z * R) k, ap (λ (z : ℕ). z * ((S + F) * (S + F + X))) n)

    third : (S F X : ℕ) → S * (S + F + X) ≤ (S + F) * (S + X)
    third S F X = omega arith

    second : (S + F) * (S * (S + F + X)) ≤ (S + F) * ((S + F) * (S + X)) → c * P + S * ((S + F) * (S + F + X)) ≤ c * P + (S + F) * (S + F) * (S + X)
    second h = omega arith

thousand : 2 ^ 1070 ≡ 2 ^ 48 * 2 ^ 1022
thousand = refl

whole : 2 ^ 1022 * 2 ^ 52 ≡ scale
unfolding scale
whole = refl

-- ---- |L| |L^T| |x|, summed first over L's columns or first over x's rows
sum-none : (r : ℕ → ℕ) (n : ℕ) → 0 ≡ sum (λ k. r k * 0) n
unfolding sum
sum-none r zero = refl
sum-none r (suc n) = omega (arith, sum-none r n)

sum_more : (r f g : ℕ → ℕ) (c n : ℕ) → sum (λ k. r k * f k) n + sum (λ k. r k * g k) n * c ≡ sum (λ k. r k * (f k + g k * c)) n
unfolding sum
sum_more r f g c zero = omega arith
sum_more r f g c (suc n) = omega (arith, sum_more r f g c n)

exchange : (r : ℕ → ℕ) (l : ℕ → ℕ → ℕ) (x : ℕ → ℕ) (n m : ℕ) → sum (λ j. sum (λ k. r k * l j k) n * x j) m ≡ sum (λ k. r k * sum (λ j. l j k * x j) m) n
unfolding sum
exchange r l x n zero = sum-none r n
exchange r l x n (suc m) = ap (λ (z : ℕ). z + sum (λ k. r k * l m k) n * x m) (exchange r l x n m) ∙ sum_more r (λ k. sum (λ j. l j k * x j) m) (l m) (x m) n

-- ---- the two sides as fractions
triangle-is : (l : ℕ → ℕ → Float) (i k : ℕ) → Is ∣ triangle l i k ∣ (num (lower l i k) 0) scale
triangle-is l i k = go (leb k i)
  where
    go : (b : Bool) → Is ∣ cond b (exactly (l i k)) 0ₑ ∣ (num (cond b (magnitude (l i k)) 0) 0) scale
    go true = is-∣exactly∣ (l i k)
    go false = is-∣∣ (is-0 scale)

module _ (n : ℕ) (a l : ℕ → ℕ → Float) (b x : ℕ → Float) (i : ℕ) where
  -- A x - b, as a pair
  residual : Num
  residual = dot (λ j. val (entry a i j)) (λ j. val (x j)) n ∸ scale · val (b i)

  residual-is : Is (Σ n (λ j. symmetric a i j *ₑ column x j) -ₑ column b i) residual (scale * scale)
  unfolding residual
  residual-is =
      is-minus (is-dot (λ j. symmetric a i j) (column x) (λ j. val (entry a i j)) (λ j. val (x j)) scale scale n (λ j. is-exactly (entry a i j)) (λ j. is-exactly (x j))) (is-scaled scale (is-exactly (b i)))

  error : ℕ
  error = nat_abs (sumℤ (λ j. value (entry a i j) *ℤ value (x j)) n -ℤ pos scale *ℤ value (b i))

  error-is : error + 0 ≡ gap residual
  unfolding error residual
  error-is =
      nat_abs-gap (sumℤ (λ j. value (entry a i j) *ℤ value (x j)) n -ℤ pos scale *ℤ value (b i)) (dot (λ j. val (entry a i j)) (λ j. val (x j)) n ∸ scale · val (b i))
      (stands-minus (sumℤ (λ j. value (entry a i j) *ℤ value (x j)) n) (pos scale *ℤ value (b i)) (dot (λ j. val (entry a i j)) (λ j. val (x j)) n) (scale · val (b i))
      (stands-dot (λ j. value (entry a i j)) (λ j. value (x j)) (λ j. val (entry a i j)) (λ j. val (x j)) n (λ k. stands-val (entry a i k)) (λ k. stands-val (x k)))
      (stands-scaled scale (value (b i)) (val (b i)) (stands-val (b i))))

  -- |L| |L^T| |x|
  P : ℕ
  P = sum (λ k. lower l i k * sum (λ j. lower l j k * magnitude (x j)) n) n

  product_is : Is (Σ n (λ k. ∣ triangle l i k ∣ *ₑ Σ n (λ j. ∣ triangle l j k ∣ *ₑ ∣ column x j ∣))) (num P 0) (scale * (scale * scale))
  unfolding P
  product_is =
      is-Σ (λ k. ∣ triangle l i k ∣ *ₑ Σ n (λ j. ∣ triangle l j k ∣ *ₑ ∣ column x j ∣)) (λ k. lower l i k * sum (λ j. lower l j k * magnitude (x j)) n) (scale * (scale * scale)) n
      (λ k. is-*ℕ (triangle-is l i k)
      (is-Σ (λ j. ∣ triangle l j k ∣ *ₑ ∣ column x j ∣) (λ j. lower l j k * magnitude (x j)) (scale * scale) n (λ j. is-*ℕ (triangle-is l j k) (is-∣exactly∣ (x j)))))

total-is : (n : ℕ) (l : ℕ → ℕ → Float) → Is (Σ n (λ i. Σ n (λ k. ∣ triangle l i k ∣))) (num (size_l l n) 0) scale
total-is n l = is-Σ (λ i. Σ n (λ k. ∣ triangle l i k ∣)) (λ i. sum (λ k. lower l i k) n) scale n (λ i. is-Σ (λ k. ∣ triangle l i k ∣) (λ k. lower l i k) scale n (λ k. triangle-is l i k))

sizes-is : (n : ℕ) (x : ℕ → Float) → Is (Σ n (λ j. ∣ column x j ∣)) (num (size_x x n) 0) scale
sizes-is n x = is-Σ (λ j. ∣ column x j ∣) (λ j. magnitude (x j)) scale n (λ j. is-∣exactly∣ (x j))

-- a bound's two terms over one denominator: t is 1 / M, r is 1 / K
pub bound-is : (K c M S P F G X : ℕ) {t r T f g h : Number} → c * M ≡ K → Is t (num 1 0) M → Is r (num 1 0) K → Is T (num P 0) (S * (S * S)) → Is f (num F 0) S → Is g (num G 0) S → Is h (num X 0) S
    → Is (t *ₑ T +ₑ r *ₑ f *ₑ g *ₑ h) (num (c * 1 * P + 1 * F * G * X) 0) (K * (S * (S * S)))
bound-is K c M S P F G X e ht hr hT hf hg hh = is-+ (is-*ℕ (is-over (is_scaledℕ c ht) e) hT) (is-over (is-*ℕ (is-*ℕ (is-*ℕ hr hf) hg) hh) (cube K S))
  where
    cube : (K S : ℕ) → K * S * S * S ≡ K * (S * (S * S))
    cube K S = omega arith

finish : (K c S P Q F X R G : ℕ) → R + 0 ≡ G → P ≡ Q → K * (R * S) ≤ c * P + (S + F) * (S + F) * (S + X) → K * S * G + 0 ≤ c * 1 * Q + 1 * (S + F) * (S + F) * (S + X) + 0
finish K c S P Q F X R G e q h = omega (arith, ap (λ (z : ℕ). K * S * z) e, ap (λ (z : ℕ). c * z) q)

pub accurate-of : (n : ℕ) (a l : ℕ → ℕ → Float) (b x : ℕ → Float) → Sharper n a l b x → Accurate n a l b x
unfolding error P
accurate-of n a l b x h i g =
    let K = 2 ^ 1070 in
    let c = 2 ^ 1022 in
    le-of-is (mul-pos (pow_pos 1070) (mul-pos scale-pos (mul-pos scale-pos scale-pos)))
    (is-over (is_scaledℕ (K * scale) (is-∣∣ (residual-is n a l b x i))) (mul_assoc K scale (scale * scale)))
    (bound-is K c (2 ^ 48) scale (P n a l b x i) (scale + size_l l n) (scale + size_l l n) (scale + size_x x n) refl (is-2^- 48) (is-2^- 1070) (product_is n a l b x i) (is-+ (is-1 scale) (total-is n l)) (is-+ (is-1 scale) (total-is n l)) (is-+ (is-1 scale) (sizes-is n x)))
    (finish K c scale (sum (λ j. sum (λ k. lower l i k * lower l j k) n * magnitude (x j)) n) (P n a l b x i) (size_l l n) (size_x x n) (error n a l b x i) (gap (residual n a l b x i)) (error-is n a l b x i)
    (exchange (lower l i) (lower l) (λ j. magnitude (x j)) n n)
    (loosen (2 ^ 48) (2 ^ 52) K c scale (error n a l b x i * scale) (sum (λ j. sum (λ k. lower l i k * lower l j k) n * magnitude (x j)) n) (size_l l n) (size_x x n) thousand whole (h i g)))
