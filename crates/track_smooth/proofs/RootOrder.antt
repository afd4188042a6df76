-- A smaller positive number has no larger root, so that a root need not be taken to see that it is within a threshold. Assumes nothing.
use mathlib.Core.Path.{◌≡◌, refl, sym, ◌∙◌, ap, subst}
use mathlib.Core.Bool.{Bool, true, false, ◌&&◌, ◌||◌}
use Prim.Native.Nat.{ℕ, zero, suc, ◌+◌, ◌-◌, ◌*◌, ◌^◌, ◌≤◌, ◌<◌}
use native.Mathlib.Nat.{le_trans, lt_of_lt_of_le, lt_irrefl, mul-le-mul, mul-le-mul_left, mul-le-mul_right, le_of_mul-le-mul_right, mul-pos, mul_assoc, mul_comm, le_of_lt, zero-mul, pow-succ', pow-le-pow_right}
use native.Mathlib.Decide.{dec_lt}
use native.Mathlib.Omega.{arith}
use lib.Dec.{T, ltb, eqb}
use lib.Pow.{pow_mono, pow_pos, pow-add}
use lib.IntN.{ℤ}
use lib.Ieee.{Float, nan, inf, fin, up, down, binary64, fits, lt, le, of_bits}
use lib.Ieee.Fits.{down_pos}
use lib.Ieee.Exact.{HasValue}
use borrow.Author.Tests.{ltb-true, eqb-true, lt-ltb, le-ltb, eq-eqb}
use Rattle.exact.specs.Float.{+0}
use Rattle.root.specs.Root.{NearestWhole, IsPositiveRoot, root_of}
use Rattle.root.proofs.Theorems.{root_of-root}

never : {A : Type 0} → false ≡ true → A
never e = absurd (let z : ◌≡◌ {A = ℕ} 0 1 = cc in omega arith)

-- ---- whole numbers

nearest-mono : (n o q r : ℕ) → n ≤ o → NearestWhole n q → NearestWhole o r → q ≤ r
nearest-mono n o q r h a b = go (dec_lt r q)
  where
    go : Dec (r < q) → q ≤ r
    go (no f) = omega arith
    go (yes l) =
        let s : (2 * r + 1) * (2 * r + 1) ≤ (2 * q - 1) * (2 * q - 1) = mul-le-mul (omega arith) (omega arith) in
        absurd (lt_irrefl (4 * o) (lt_of_lt_of_le b.below (le_trans s (le_trans (le_of_lt a.above) (mul-le-mul_left 4 h)))))

-- four to a power
four-pos : (k : ℕ) → 0 < 4 ^ k
four-pos k = pow-le-pow_right {n = 4} (omega arith) {i = 0} {j = k} (omega arith)

-- the larger scale has the larger number
scales : (n k o d : ℕ) → 2 ^ 104 ≤ n → o < 2 ^ 106 → n * 4 ^ (k + suc d) ≤ o * 4 ^ k → ⊥
scales n k o d l h e =
    let f : n * 4 ^ (k + suc d) ≡ n * 4 ^ suc d * 4 ^ k = ap (λ (z : ℕ). n * z) (pow-add 4 k (suc d) ∙ mul_comm (4 ^ k) (4 ^ suc d)) ∙ sym (mul_assoc n (4 ^ suc d) (4 ^ k)) in
    let g : n * 4 ^ suc d ≤ o = le_of_mul-le-mul_right (rw f at e) (four-pos k) in
    let j : 4 ≤ 4 ^ suc d = pow-le-pow_right {n = 4} (omega arith) {i = 1} {j = suc d} (omega arith) in
    omega (arith, mul-le-mul l j)

roots-mono : (n k q o l r : ℕ) → 2 ^ 104 ≤ n → o < 2 ^ 106 → q < 2 ^ 53 → 2 ^ 52 ≤ r → NearestWhole n q → NearestWhole o r → n * 4 ^ k ≤ o * 4 ^ l → q * 2 ^ k ≤ r * 2 ^ l
roots-mono n k q o l r nf ob qb rf a b h = go (dec_lt k l) (dec_lt l k)
  where
    step : q ≤ r * 2
    step = omega arith

    apart : (a b : ℕ) → a < b → b ≡ a + suc (b - suc a)
    apart a b h = omega arith

    go : Dec (k < l) → Dec (l < k) → q * 2 ^ k ≤ r * 2 ^ l
    go (yes f) d =
        let e : r * 2 * 2 ^ k ≡ r * 2 ^ suc k = mul_assoc r 2 (2 ^ k) ∙ ap (λ (z : ℕ). r * z) (sym (pow-succ' 2 k)) in
        le_trans (mul-le-mul_right (2 ^ k) step) (rw e (mul-le-mul_left r (pow_mono f)))
    go (no f) (yes g) = absurd (scales n l o (k - suc l) nf ob (subst (λ (z : ℕ). n * 4 ^ z ≤ o * 4 ^ l) (apart l k g) h))
    go (no f) (no g) =
        let e : k ≡ l = omega arith in
        let i : n * 4 ^ k ≤ o * 4 ^ k = subst (λ (z : ℕ). n * 4 ^ k ≤ o * 4 ^ z) (sym e) h in
        subst (λ (z : ℕ). q * 2 ^ k ≤ r * 2 ^ z) e (mul-le-mul_right (2 ^ k) (nearest-mono n o q r (le_of_mul-le-mul_right i (four-pos k)) a b))

-- ---- floats without a sign

or-le : (a b : ℕ) → (ltb a b || (eqb a b && true)) ≡ true → a ≤ b
or-le a b = go (ltb a b) refl (eqb a b) refl
  where
    go : (t : Bool) → ltb a b ≡ t → (u : Bool) → eqb a b ≡ u → (t || (u && true)) ≡ true → a ≤ b
    go true et u eu h = le_of_lt (ltb-true a b et)
    go false et true eu h = omega (arith, eqb-true a b eu)
    go false et false eu h = never h

le-or : (a b : ℕ) → a ≤ b → (ltb a b || (eqb a b && true)) ≡ true
le-or a b h = go (dec_lt a b)
  where
    go : Dec (a < b) → (ltb a b || (eqb a b && true)) ≡ true
    go (yes l) = rw (lt-ltb a b l)
    go (no f) = let e : a ≡ b = omega arith in rw (le-ltb a b (omega arith), eq-eqb a b e)

to_le : (m n : ℕ) (e d : ℤ) → le (fin false m e) (fin false n d) ≡ true → m * up e * down d ≤ n * up d * down e
unfolding le
to_le m n e d h = or-le (m * up e * down d) (n * up d * down e) h

of_le : (m n : ℕ) (e d : ℤ) → m * up e * down d ≤ n * up d * down e → le (fin false m e) (fin false n d) ≡ true
unfolding le
of_le m n e d h = le-or (m * up e * down d) (n * up d * down e) h

-- M / E and N / D at most each other, and both over c
over : (M N E D a b c : ℕ) → 0 < E → 0 < D → M * c ≡ a * E → N * c ≡ b * D → M * D ≤ N * E → a ≤ b
over M N E D a b c pe pd x y h =
    let s : M * D * c ≤ N * E * c = mul-le-mul_right c h in
    let u : M * D * c ≡ a * (E * D) = omega (arith, ap (λ (z : ℕ). z * D) x) in
    let v : N * E * c ≡ b * (E * D) = omega (arith, ap (λ (z : ℕ). z * E) y) in
    le_of_mul-le-mul_right (rw (u, v) at s) (mul-pos pe pd)

-- a / c at most b / c, and b / c = N / D at most L / G: M / E = a / c is at most L / G
under : (M N E D a b c L G : ℕ) → 0 < c → 0 < D → M * c ≡ a * E → N * c ≡ b * D → a ≤ b → N * G ≤ L * D → M * G ≤ L * E
under M N E D a b c L G pc pd x y h g =
    let s : M * G * (c * D) ≡ a * (E * G * D) = omega (arith, ap (λ (z : ℕ). z * (G * D)) x) in
    let t : a * (E * G * D) ≤ b * (E * G * D) = mul-le-mul_right (E * G * D) h in
    let u : b * (E * G * D) ≡ N * G * (c * E) = omega (arith, ap (λ (z : ℕ). z * (E * G)) y) in
    let v : N * G * (c * E) ≤ L * D * (c * E) = mul-le-mul_right (c * E) g in
    let w : L * D * (c * E) ≡ L * E * (c * D) = omega arith in
    le_of_mul-le-mul_right (le_trans (rw (s, ← u) t) (rw w at v)) (mul-pos pc pd)

-- ---- roots

-- r at most t, of which both are known over c, and t at most h
within : (r t h : Float) (a b c : ℕ) → 0 < c → HasValue r false a c → HasValue t false b c → a ≤ b → lt +0 h ≡ true → le t h ≡ true → le r h ≡ true
unfolding le lt of_bits
within nan t h a b c p x y l s e = absurd x
within (inf z) t h a b c p x y l s e = absurd x
within (fin z m i) nan h a b c p x y l s e = absurd y
within (fin z m i) (inf u) h a b c p x y l s e = absurd y
within (fin z m i) (fin u n j) nan a b c p x y l s e = never s
within (fin z m i) (fin u n j) (inf true) a b c p x y l s e = never s
within (fin z m i) (fin u n j) (inf false) a b c p x y l s e = refl
within (fin z m i) (fin u n j) (fin true o k) a b c p x y l s e = never s
within (fin true m i) (fin u n j) (fin false o k) a b c p x y l s e = never (sym x.0)
within (fin false m i) (fin true n j) (fin false o k) a b c p x y l s e = never (sym y.0)
within (fin false m i) (fin false n j) (fin false o k) a b c p x y l s e =
    of_le m o i k (under (m * up i) (n * up j) (down i) (down j) a b c (o * up k) (down k) p (down_pos j) x.1 y.1 l (to_le n o j k e))

-- a positive q at most c, whose root is at most a positive h
pub root-within : (q c h : Float) → T (fits binary64 q) → T (fits binary64 c) → lt +0 q ≡ true → lt c (inf false) ≡ true → lt +0 c ≡ true → lt +0 h ≡ true → le q c ≡ true → le (root_of c) h ≡ true → le (root_of q) h ≡ true
unfolding lt le of_bits
root-within nan c h fq fc pq bc pc ph l e = never pq
root-within (inf true) c h fq fc pq bc pc ph l e = never pq
root-within (inf false) nan h fq fc pq bc pc ph l e = never bc
root-within (inf false) (inf true) h fq fc pq bc pc ph l e = never l
root-within (inf false) (inf false) h fq fc pq bc pc ph l e = never bc
root-within (inf false) (fin s n d) h fq fc pq bc pc ph l e = never l
root-within (fin true m i) c h fq fc pq bc pc ph l e = never pq
root-within (fin false m i) nan h fq fc pq bc pc ph l e = never bc
root-within (fin false m i) (inf true) h fq fc pq bc pc ph l e = never pc
root-within (fin false m i) (inf false) h fq fc pq bc pc ph l e = never bc
root-within (fin false m i) (fin true n j) h fq fc pq bc pc ph l e = never pc
root-within (fin false zero i) (fin false n j) h fq fc pq bc pc ph l e = never (sym (le-ltb (0 * 1 * down i) (0 * up i * 1) (omega (arith, zero-mul (down i), zero-mul (up i)))) ∙ pq)
root-within (fin false (suc m) i) (fin false zero j) h fq fc pq bc pc ph l e = never (sym (le-ltb (0 * 1 * down j) (0 * up j * 1) (omega (arith, zero-mul (down j), zero-mul (up j)))) ∙ pc)
root-within (fin false (suc m) i) (fin false (suc n) j) h fq fc pq bc pc ph l e =
    let p : IsPositiveRoot (fin false (suc m) i) (root_of (fin false (suc m) i)) = root_of-root (fin false (suc m) i) fq in
    let o : IsPositiveRoot (fin false (suc n) j) (root_of (fin false (suc n) j)) = root_of-root (fin false (suc n) j) fc in
    let g : p.n * 4 ^ p.k ≤ o.n * 4 ^ o.k =
    over (suc m * up i) (suc n * up j) (down i) (down j) (p.n * 4 ^ p.k) (o.n * 4 ^ o.k) (4 ^ 589) (down_pos i) (down_pos j) p.x-is.1 o.x-is.1 (to_le (suc m) (suc n) i j l) in
    within (root_of (fin false (suc m) i)) (root_of (fin false (suc n) j)) h (p.q * 2 ^ p.k) (o.q * 2 ^ o.k) (2 ^ 589) (pow_pos 589) p.r-is o.r-is
    (roots-mono p.n p.k p.q o.n o.k o.q p.n-from o.n-below p.q-below o.q-from p.nearest o.nearest g) ph e
