-- The gap of a row in exact numbers, from the rounding error of each operation that went into it. Assumes nothing.
use mathlib.Core.Path.{◌≡◌, ap, ◌∙◌, subst, subst₂}
use Prim.Native.Nat.{ℕ, ◌+◌, ◌*◌, ◌≤◌}
use native.Mathlib.Nat.{le_refl, le_trans, le_of_eq, mul-le-mul_right, mul-le-mul_left, mul-sub, le_of_mul-le-mul_right}
use native.Mathlib.Omega.{arith}
use Rattle.exact.proofs.Num.{Num, num-path, none, ◌∔◌, ◌∸◌, ◌⊙◌, ◌·◌, abs, apart, Near, Plain, ⊙-comm, ·-⊙, abs-⊙, near-swap, near-⊙, near-·, near-to, size_of}
use Rattle.exact.proofs.Number.{gap}
use Rattle.exact.proofs.Products.{one-step}

-- The two terms of the bound in units, by the sizes of the numbers: S is the scale, and y the size of the product on the right.
abbrev pub first : ℕ → ℕ → ℕ → ℕ → ℕ → ℕ → ℕ → ℕ → ℕ
first S f c d e w v y = f * c * w + f * e * v + S * (d * v) + S * y

abbrev pub second : ℕ → ℕ → ℕ → ℕ → ℕ → ℕ → ℕ
second S f c d w v = (S + f) * (S + c + d) * (S + w + v)

-- W is 2 ^ 53 and S the scale. Large numerals stop `omega`, so the two are variables.
module _ (W S : ℕ) (wide : 16 ≤ W) where
  -- a row that is solved: r is near to X + Y, where X is the pivot times the row's unknown and Y what the next unknown adds; D is the pivot's size
  abbrev pub Back : Num → Num → Num → ℕ → Type 0
  Back r X Y D = Near (5 * abs X + 2 * abs Y + (W + 1) * D + W * S) (2 * W · (S · r)) (2 * W · (X ∔ Y))

  dividend : (t X : Num) (D : ℕ) → Plain t → Near (2 * abs X + W * D) (2 * W · X) (2 * W · (S · t)) → 2 * (S * abs t) ≤ 3 * abs X + D
  dividend t X D pl h =
      le_of_mul-le-mul_right {k = W}
      (omega (arith, size_of (2 * W) S t X (2 * abs X + W * D) pl (near-swap h), mul-le-mul_right (abs X) wide)) (omega arith)

  pub back-row : (r m t X Y : Num) (D : ℕ) → Plain t
      → Near (2 * abs Y + W * S) (2 * W · (S · m)) (2 * W · Y)
      → Near (abs t) (W · t) (W · (r ∸ m))
      → Near (2 * abs X + W * D) (2 * W · X) (2 * W · (S · t)) → Back r X Y D
  back-row r m t X Y D pl h k q = join (one-step W S r m t Y k h) q (dividend t X D pl q)
    where
      join : Near (2 * (S * abs t + abs Y) + W * S) (2 * W · (S · r)) (2 * W · (S · t ∔ Y)) → Near (2 * abs X + W * D) (2 * W · X) (2 * W · (S · t)) → 2 * (S * abs t) ≤ 3 * abs X + D → Back r X Y D
      join h q l = omega arith

  -- the last row: no unknown comes after
  pub back_last : (r X : Num) (D : ℕ) → Near (2 * abs X + W * D) (2 * W · X) (2 * W · (S · r)) → Back r X none D
  back_last r X D h = omega arith

  -- how large the right side of a solved row is
  pub right-size : (r X Y : Num) (D : ℕ) → Plain r → Back r X Y D → 2 * (S * abs r) ≤ 3 * abs X + 3 * abs Y + 2 * D + S
  right-size r X Y D pl h =
      le_of_mul-le-mul_right {k = W}
      (omega (arith, size_of (2 * W) S r (X ∔ Y) (5 * abs X + 2 * abs Y + (W + 1) * D + W * S) pl h, mul-le-mul_right (abs X) wide, mul-le-mul_right (abs Y) wide, mul-le-mul_right D wide)) (omega arith)

  -- ---- a row that is eliminated and solved. f is the factor, c the pivot above, d the row's own, e the entry on the left; D is the diagonal, and r the right side.
  -- p and q are f e and f R rounded, R and b the right sides of the row above and of this one once eliminated.
  pub record Steps (f c d e D r p q R b w v Y : Num) : Type 0 where
    pub factor : Near (2 * abs (f ⊙ c) + W * abs c) (2 * W · (f ⊙ c)) (2 * W · (S · e))
    pub taken : Near (2 * abs (f ⊙ e) + W * S) (2 * W · (S · p)) (2 * W · (f ⊙ e))
    pub pivot : Near (abs d) (W · d) (W · (D ∸ p))
    pub taken-right : Near (2 * abs (f ⊙ R) + W * S) (2 * W · (S · q)) (2 * W · (f ⊙ R))
    pub right : Near (abs b) (W · b) (W · (r ∸ q))
    pub row-above : Back R (w ⊙ c) (e ⊙ v) (abs c)
    pub row : Back b (v ⊙ d) Y (abs d)
    pub R-plain : Plain R
    pub b-plain : Plain b

  twice : (x z : Num) → (2 * W · (S · x)) ⊙ z ≡ 2 * W · (S · (x ⊙ z))
  twice x z = ·-⊙ (2 * W) (S · x) z ∙ ap (λ (y : Num). 2 * W · y) (·-⊙ S x z)

  spread-⊙ : (d x v : Num) → (S · d ∔ x) ⊙ v ≡ S · (d ⊙ v) ∔ x ⊙ v
  spread-⊙ d x v = num-path (omega arith) (omega arith)

  -- the left entry's part
  left-part : (x c e w : Num) → Near (2 * abs x + W * abs c) (2 * W · x) (2 * W · (S · e)) → Near ((2 * abs x + W * abs c) * abs w) (2 * W · (x ⊙ w)) (2 * W · (S · (e ⊙ w)))
  left-part x c e w h = near-to (·-⊙ (2 * W) x w) (twice e w) (near-⊙ w h) (le_refl ((2 * abs x + W * abs c) * abs w))

  -- the diagonal's part
  middle-part : (D d x v : Num) (n : ℕ) → Near n (2 * W · (S · D)) (2 * W · (S · d ∔ x)) → Near (n * abs v) (2 * W · (S · (D ⊙ v))) (2 * W · (S · (d ⊙ v) ∔ x ⊙ v))
  middle-part D d x v n h = near-to (twice D v) (·-⊙ (2 * W) (S · d ∔ x) v ∙ ap (λ (z : Num). 2 * W · z) (spread-⊙ d x v)) (near-⊙ v h) (le_refl (n * abs v))

  -- the right side's part: z is f R
  right-part : (r z b : Num) (n : ℕ) → Near n (2 * W · (S · r)) (2 * W · (S · b ∔ z)) → Near (S * n) (2 * W · (S · (S · r))) (2 * W · (S · (S · b) ∔ S · z))
  right-part r z b n h = omega (arith, near-· S h)

  above-part : (R x f : Num) (n : ℕ) → Near n (2 * W · (S · R)) (2 * W · x) → Near (n * abs f) (2 * W · (S · (f ⊙ R))) (2 * W · (x ⊙ f))
  above-part R x f n h = near-to (twice R f ∙ ap (λ (z : Num). 2 * W · (S · z)) (⊙-comm R f)) (·-⊙ (2 * W) x f) (near-⊙ f h) (le_refl (n * abs f))

  own-part : (b x : Num) (n : ℕ) → Near n (2 * W · (S · b)) (2 * W · x) → Near (S * n) (2 * W · (S · (S · b))) (2 * W · (S · x))
  own-part b x n h = omega (arith, near-· S h)

  -- A, B and Y are the row's three products, r its right side, each times what it takes to have one unit; P + Q + M + O is what both sides are near to
  meet : (A B Y r P Q M Z N : Num) (k l m n o : ℕ)
      → Near k (2 * W · P) (2 * W · A)
      → Near l (2 * W · B) (2 * W · (M ∔ Q))
      → Near m (2 * W · r) (2 * W · (N ∔ Z))
      → Near n (2 * W · Z) (2 * W · (P ∔ Q))
      → Near o (2 * W · N) (2 * W · (M ∔ Y))
      → Near (k + l + m + n + o) (2 * W · (A ∔ B ∔ Y)) (2 * W · r)
  meet A B Y r P Q M Z N k l m n o g h i j u = omega arith

  -- the error that the steps add up to
  abbrev pub error : Num → Num → Num → Num → Num → Num → Num → Num → Num → ℕ
  error f c d e R b w v Y =
      (2 * abs (f ⊙ c) + W * abs c) * abs w
      + (2 * (S * abs d + abs (f ⊙ e)) + W * S) * abs v
      + S * (2 * (S * abs b + abs (f ⊙ R)) + W * S)
      + (5 * abs (w ⊙ c) + 2 * abs (e ⊙ v) + (W + 1) * abs c + W * S) * abs f
      + S * (5 * abs (v ⊙ d) + 2 * abs Y + (W + 1) * abs d + W * S)

  -- both sides are near to f c w + f e v + S d v + S Y
  crossed : (f c e w v : Num) → (w ⊙ c ∔ e ⊙ v) ⊙ f ≡ f ⊙ c ⊙ w ∔ f ⊙ e ⊙ v
  crossed f c e w v = num-path (omega arith) (omega arith)

  own : (d v Y : Num) → S · (v ⊙ d ∔ Y) ≡ S · (d ⊙ v) ∔ S · Y
  own d v Y = num-path (omega arith) (omega arith)

  gathered : (x y z : Num) → S · x ∔ S · y ∔ S · z ≡ S · (x ∔ y ∔ z)
  gathered x y z = num-path (omega arith) (omega arith)

  pub gap-near : (f c d e D r p q R b w v Y : Num) → Steps f c d e D r p q R b w v Y
      → Near (error f c d e R b w v Y) (2 * W · (S · (e ⊙ w ∔ D ⊙ v ∔ Y))) (2 * W · (S · (S · r)))
  gap-near f c d e D r p q R b w v Y s =
      subst (λ (x : Num). Near (error f c d e R b w v Y) (2 * W · x) (2 * W · (S · (S · r)))) (gathered (e ⊙ w) (D ⊙ v) Y)
      (meet (S · (e ⊙ w)) (S · (D ⊙ v)) (S · Y) (S · (S · r)) (f ⊙ c ⊙ w) (f ⊙ e ⊙ v) (S · (d ⊙ v)) (S · (f ⊙ R)) (S · (S · b)) k l m n o
      (left-part (f ⊙ c) c e w s.factor)
      (middle-part D d (f ⊙ e) v l' (one-step W S D p d (f ⊙ e) s.pivot s.taken))
      (right-part r (f ⊙ R) b m' (one-step W S r q b (f ⊙ R) s.right s.taken-right))
      (subst (λ (x : Num). Near n (2 * W · (S · (f ⊙ R))) (2 * W · x)) (crossed f c e w v) (above-part R (w ⊙ c ∔ e ⊙ v) f n' s.row-above))
      (subst (λ (x : Num). Near o (2 * W · (S · (S · b))) (2 * W · x)) (own d v Y) (own-part b (v ⊙ d ∔ Y) o' s.row)))
    where
      k : ℕ
      k = (2 * abs (f ⊙ c) + W * abs c) * abs w

      l' : ℕ
      l' = 2 * (S * abs d + abs (f ⊙ e)) + W * S

      l : ℕ
      l = l' * abs v

      m' : ℕ
      m' = 2 * (S * abs b + abs (f ⊙ R)) + W * S

      m : ℕ
      m = S * m'

      n' : ℕ
      n' = 5 * abs (w ⊙ c) + 2 * abs (e ⊙ v) + (W + 1) * abs c + W * S

      n : ℕ
      n = n' * abs f

      o' : ℕ
      o' = 5 * abs (v ⊙ d) + 2 * abs Y + (W + 1) * abs d + W * S

      o : ℕ
      o = S * o'

  -- ---- the error against the bound, by sizes
  abbrev sized : ℕ → ℕ → ℕ → ℕ → ℕ → ℕ → ℕ → ℕ → ℕ → ℕ → ℕ → ℕ → ℕ → ℕ
  sized FC FE FR WC EV VD F C d b w v y =
      (2 * FC + W * C) * w + (2 * (S * d + FE) + W * S) * v + S * (2 * (S * b + FR) + W * S) + (5 * WC + 2 * EV + (W + 1) * C + W * S) * F + S * (5 * VD + 2 * y + (W + 1) * d + W * S)

  abbrev rest : ℕ → ℕ → ℕ → ℕ → ℕ → ℕ
  rest F C d w v = C * w + S * v + 3 * (S * S) + 2 * (F * C) + 2 * (F * S) + 2 * (S * d)

  same : (FC FC' FE FE' FR FR' WC WC' EV EV' VD VD' F C d b w v y : ℕ) → FC ≡ FC' → FE ≡ FE' → FR ≡ FR' → WC ≡ WC' → EV ≡ EV' → VD ≡ VD'
      → sized FC FE FR WC EV VD F C d b w v y ≡ sized FC' FE' FR' WC' EV' VD' F C d b w v y
  same FC FC' FE FE' FR FR' WC WC' EV EV' VD VD' F C d b w v y i j k l m n =
      ap (λ (z : ℕ). sized z FE FR WC EV VD F C d b w v y) i
      ∙ ap (λ (z : ℕ). sized FC' z FR WC EV VD F C d b w v y) j
      ∙ ap (λ (z : ℕ). sized FC' FE' z WC EV VD F C d b w v y) k
      ∙ ap (λ (z : ℕ). sized FC' FE' FR' z EV VD F C d b w v y) l
      ∙ ap (λ (z : ℕ). sized FC' FE' FR' WC' z VD F C d b w v y) m
      ∙ ap (λ (z : ℕ). sized FC' FE' FR' WC' EV' z F C d b w v y) n

  cost₁ : (F C w : ℕ) → (2 * (F * C) + W * C) * w ≡ 2 * (F * C * w) + W * (C * w)
  cost₁ F C w = omega arith

  cost₂ : (F d e v : ℕ) → (2 * (S * d + F * e) + W * S) * v ≡ 2 * (S * (d * v)) + 2 * (F * e * v) + W * (S * v)
  cost₂ F d e v = omega arith

  cost₃ : (F C d e a b w v y : ℕ) → 2 * (S * b) ≤ 3 * (v * d) + 3 * y + 2 * d + S → 2 * (S * a) ≤ 3 * (w * C) + 3 * (e * v) + 2 * C + S
      → S * (2 * (S * b + F * a) + W * S) ≤ 3 * (S * (d * v)) + 3 * (S * y) + 2 * (S * d) + S * S + 3 * (F * C * w) + 3 * (F * e * v) + 2 * (F * C) + F * S + W * (S * S)
  cost₃ F C d e a b w v y hb ha = omega (arith, mul-le-mul_left S hb, mul-le-mul_left F ha)

  cost₄ : (F C e w v : ℕ) → (5 * (w * C) + 2 * (e * v) + (W + 1) * C + W * S) * F ≡ 5 * (F * C * w) + 2 * (F * e * v) + W * (F * C) + F * C + W * (F * S)
  cost₄ F C e w v = omega arith

  cost₅ : (d v y : ℕ) → S * (5 * (v * d) + 2 * y + (W + 1) * d + W * S) ≡ 5 * (S * (d * v)) + 2 * (S * y) + W * (S * d) + S * d + W * (S * S)
  cost₅ d v y = omega arith

  room : (k : ℕ) → W * k + 3 * k ≤ W * (2 * k)
  room k = omega (arith, mul-le-mul_right k wide)

  gather : {p q r s t : ℕ} (A B G Y Cw Sv SS FC FS Sd : ℕ) → p ≡ 2 * A + W * Cw → q ≡ 2 * G + 2 * B + W * Sv → r ≤ 3 * G + 3 * Y + 2 * Sd + SS + 3 * A + 3 * B + 2 * FC + FS + W * SS
      → s ≡ 5 * A + 2 * B + W * FC + FC + W * FS → t ≡ 5 * G + 2 * Y + W * Sd + Sd + W * SS
      → p + q + r + s + t ≤ 16 * (A + B + G + Y) + (W * Cw + W * Sv + (W * SS + (W * SS + 3 * SS)) + (W * FC + 3 * FC) + (W * FS + 3 * FS) + (W * Sd + 3 * Sd))
  gather A B G Y Cw Sv SS FC FS Sd h i j k l = omega arith

  gather' : (A Cw Sv SS FC FS Sd : ℕ) → W * SS + 3 * SS ≤ W * (2 * SS) → W * FC + 3 * FC ≤ W * (2 * FC) → W * FS + 3 * FS ≤ W * (2 * FS) → W * Sd + 3 * Sd ≤ W * (2 * Sd)
      → A + (W * Cw + W * Sv + (W * SS + (W * SS + 3 * SS)) + (W * FC + 3 * FC) + (W * FS + 3 * FS) + (W * Sd + 3 * Sd)) ≤ A + W * (Cw + Sv + 3 * SS + 2 * FC + 2 * FS + 2 * Sd)
  gather' A Cw Sv SS FC FS Sd h i j k = omega arith

  cost : (F C d e a b w v y : ℕ) → 2 * (S * b) ≤ 3 * (v * d) + 3 * y + 2 * d + S → 2 * (S * a) ≤ 3 * (w * C) + 3 * (e * v) + 2 * C + S
      → sized (F * C) (F * e) (F * a) (w * C) (e * v) (v * d) F C d b w v y ≤ 16 * first S F C d e w v y + W * rest F C d w v
  cost F C d e a b w v y hb ha =
      le_trans
      (gather (F * C * w) (F * e * v) (S * (d * v)) (S * y) (C * w) (S * v) (S * S) (F * C) (F * S) (S * d) (cost₁ F C w) (cost₂ F d e v) (cost₃ F C d e a b w v y hb ha) (cost₄ F C e w v) (cost₅ d v y))
      (gather' (16 * first S F C d e w v y) (C * w) (S * v) (S * S) (F * C) (F * S) (S * d) (room (S * S)) (room (F * C)) (room (F * S)) (room (S * d)))

  spread : (F C d w v : ℕ) → S * rest F C d w v ≤ 32 * second S F C d w v
  spread F C d w v = omega arith

  scaled : (L A B M : ℕ) → L ≤ 16 * A + W * B → S * B ≤ 32 * M → S * L ≤ 16 * (S * A) + 32 * (W * M)
  scaled L A B M h k = omega (arith, mul-le-mul_left S h, mul-le-mul_left W k)

  pub error-small : (f c d e D r p q R b w v Y : Num) → Steps f c d e D r p q R b w v Y
      → S * error f c d e R b w v Y ≤ 16 * (S * first S (abs f) (abs c) (abs d) (abs e) (abs w) (abs v) (abs Y)) + 32 * (W * second S (abs f) (abs c) (abs d) (abs w) (abs v))
  error-small f c d e D r p q R b w v Y s =
      scaled (error f c d e R b w v Y) (first S (abs f) (abs c) (abs d) (abs e) (abs w) (abs v) (abs Y)) (rest (abs f) (abs c) (abs d) (abs w) (abs v)) (second S (abs f) (abs c) (abs d) (abs w) (abs v))
      (le_trans
      (le_of_eq (same (abs (f ⊙ c)) (abs f * abs c) (abs (f ⊙ e)) (abs f * abs e) (abs (f ⊙ R)) (abs f * abs R) (abs (w ⊙ c)) (abs w * abs c) (abs (e ⊙ v)) (abs e * abs v) (abs (v ⊙ d)) (abs v * abs d) (abs f) (abs c) (abs d) (abs b) (abs w) (abs v) (abs Y)
      (abs-⊙ f c) (abs-⊙ f e) (abs-⊙ f R) (abs-⊙ w c) (abs-⊙ e v) (abs-⊙ v d)))
      (cost (abs f) (abs c) (abs d) (abs e) (abs R) (abs b) (abs w) (abs v) (abs Y) own-size above-size))
      (spread (abs f) (abs c) (abs d) (abs w) (abs v))
    where
      own-size : 2 * (S * abs b) ≤ 3 * (abs v * abs d) + 3 * abs Y + 2 * abs d + S
      own-size = subst (λ (z : ℕ). 2 * (S * abs b) ≤ 3 * z + 3 * abs Y + 2 * abs d + S) (abs-⊙ v d) (right-size b (v ⊙ d) Y (abs d) s.b-plain s.row)

      above-size : 2 * (S * abs R) ≤ 3 * (abs w * abs c) + 3 * (abs e * abs v) + 2 * abs c + S
      above-size =
          subst₂ (λ (y z : ℕ). 2 * (S * abs R) ≤ 3 * y + 3 * z + 2 * abs c + S) (abs-⊙ w c) (abs-⊙ e v)
          (right-size R (w ⊙ c) (e ⊙ v) (abs c) s.R-plain s.row-above)

  -- ---- the gap: x is the left side, r the right
  far : (k p n L : ℕ) → k * p ≤ k * n + L → k * n ≤ k * p + L → k * apart p n ≤ L
  far k p n L h l = omega (arith, mul-sub k p n, mul-sub k n p)

  near-far : (x r : Num) (L : ℕ) → Near L (2 * W · (S · x)) (2 * W · (S · (S · r))) → 2 * W * S * apart (x.p + S * r.n) (x.n + S * r.p) ≤ L
  near-far x r L h = far (2 * W * S) (x.p + S * r.n) (x.n + S * r.p) L (omega arith) (omega arith)

  -- K is 2 ^ 1070, and k is 2 ^ 1020
  settle : (K k L G A M : ℕ) → k * (2 * W) ≡ S → K * 16 ≡ S → 2 * W * S * G ≤ L → S * L ≤ 16 * (S * A) + 32 * (W * M) → K * S * G ≤ k * A + M
  settle K k L G A M i j h l =
      le_of_mul-le-mul_right {k = 32 * W}
      (le_trans (omega arith) (le_trans (mul-le-mul_left (K * 16) h) (omega (arith, l, ap (λ (z : ℕ). z * L) j, ap (λ (z : ℕ). z * A) i)))) (omega arith)

  pub gap-small : (K k : ℕ) → k * (2 * W) ≡ S → K * 16 ≡ S → (f c d e D r p q R b w v Y : Num) → Steps f c d e D r p q R b w v Y
      → K * S * gap (e ⊙ w ∔ D ⊙ v ∔ Y ∸ S · r) ≤ k * first S (abs f) (abs c) (abs d) (abs e) (abs w) (abs v) (abs Y) + second S (abs f) (abs c) (abs d) (abs w) (abs v)
  gap-small K k i j f c d e D r p q R b w v Y s =
      settle K k (error f c d e R b w v Y) (gap (e ⊙ w ∔ D ⊙ v ∔ Y ∸ S · r)) (first S (abs f) (abs c) (abs d) (abs e) (abs w) (abs v) (abs Y)) (second S (abs f) (abs c) (abs d) (abs w) (abs v)) i j
      (near-far (e ⊙ w ∔ D ⊙ v ∔ Y) r (error f c d e R b w v Y) (gap-near f c d e D r p q R b w v Y s))
      (error-small f c d e D r p q R b w v Y s)
