-- For every x that binary64 holds, `root_of x` is the root of x, and nothing else is. Assumes nothing.
use Rattle.std.proofs.Common.{◌≡◌, ℕ, zero, suc, ◌+◌, ◌-◌, ◌*◌, ◌/◌, ◌%◌, ◌^◌, ◌<◌, ◌≤◌, Bool, true, false, cond, T, eqb, sym, refl, ap, ◌∙◌, subst, mul_assoc, mul_comm, mul-le-mul, arith, pow_pos, pow-add}
use native.Mathlib.Nat.{eq_of_mul-eq-mul_right, pow-le-pow_right}
use native.Mathlib.Decide.{dec_lt}
use lib.Count.{count_leading_zeros}
use lib.Ieee.{Float, nan, inf, fin, down, binary64, odd, fits, of_fields, of_bits, to_bits}
use lib.Ieee.Fits.{down_pos}
use lib.Ieee.Exact.{HasValue}
use lib.Ieee.Bits.{of_bits-to_bits}
use Rattle.root.specs.Root.{NearestWhole, IsPositiveRoot, IsRoot, root_of}
use Rattle.root.specs.Steps.{IsParts}
use Rattle.root.proofs.Reading.{rescale, value-unique, read-nan, read-signed}
use Rattle.root.proofs.RootLaws.{nearest-unique, root_of-positive, r-scaled}
use Rattle.root.proofs.Parts.{normal-parts, leading}

-- ---- the bits of a positive finite number

abbrev Positive : Float → Type 0
Positive nan = ⊥
Positive (inf s) = ⊥
Positive (fin true m e) = ⊥
Positive (fin false zero e) = ⊥
Positive (fin false (suc m) e) = Unit

not_inf : Positive (of_bits binary64 0x7ff0_0000_0000_0000) → ⊥
unfolding of_bits
not_inf h = h

not-zero : Positive (of_bits binary64 0) → ⊥
unfolding of_bits
not-zero h = h

odd-signed : (q k : ℕ) → Positive (odd 53 true q k 1074) → ⊥
unfolding odd
odd-signed zero k h = h
odd-signed (suc q) k h = h

picked : (b c : Bool) (v : Float) → (Positive v → ⊥) → Positive (cond b (cond c (inf true) nan) v) → ⊥
picked true true v f h = h
picked true false v f h = h
picked false c v f h = f h

signed : (e t : ℕ) → Positive (of_fields binary64 true e t) → ⊥
unfolding of_fields
signed zero t h = odd-signed t 0 h
signed (suc e) t h = picked (eqb (suc e) 2047) (eqb t 0) (odd 53 true (2 ^ 52 + t) e 1074) (odd-signed (2 ^ 52 + t) e) h

range : (b : ℕ) → Positive (of_bits binary64 b) → (0 < b) × (b < 0x7ff0_0000_0000_0000)
range b h = (low (dec_lt 0 b), high (dec_lt b 0x7ff0_0000_0000_0000) (dec_lt 0x7ff0_0000_0000_0000 b) (dec_lt b (2 ^ 63)))
  where
    low : Dec (0 < b) → 0 < b
    low (yes l) = l
    low (no f) = let e : b ≡ 0 = omega arith in absurd (not-zero (subst (λ (z : ℕ). Positive (of_bits binary64 z)) e h))

    high : Dec (b < 0x7ff0_0000_0000_0000) → Dec (0x7ff0_0000_0000_0000 < b) → Dec (b < 2 ^ 63) → b < 0x7ff0_0000_0000_0000
    high (yes l) d s = l
    high (no f) (no g) s = let e : b ≡ 0x7ff0_0000_0000_0000 = omega arith in absurd (not_inf (subst (λ (z : ℕ). Positive (of_bits binary64 z)) e h))
    high (no f) (yes l) (yes s) = absurd (subst Positive (read-nan b l s) h)
    high (no f) (yes l) (no s) = absurd (signed (b % 2 ^ 63 / 2 ^ 52) (b % 2 ^ 52) (subst Positive (read-signed b (omega arith)) h))

parts-of : (b : ℕ) → 0 < b → b < 0x7ff0_0000_0000_0000 → (m : ℕ) × (y : ℕ) × IsParts (of_bits binary64 b) m y
parts-of b p h = go (dec_lt b (2 ^ 52))
  where
    go : Dec (b < 2 ^ 52) → (m : ℕ) × (y : ℕ) × IsParts (of_bits binary64 b) m y
    go (yes l) = (b * 2 ^ (count_leading_zeros 64 b - 11), 63 - count_leading_zeros 64 b, (leading b p l).parts)
    go (no f) = (b % 2 ^ 52 + 2 ^ 52, b / 2 ^ 52 + 51, normal-parts b (b % 2 ^ 52 + 2 ^ 52) (omega arith) h refl)

positive : (x : Float) → T (fits binary64 x) → Positive x → IsPositiveRoot x (root_of x)
positive x h p =
    let e : of_bits binary64 (to_bits binary64 x) ≡ x = of_bits-to_bits binary64 x h in
    let r = range (to_bits binary64 x) (subst Positive (sym e) p) in
    let t = parts-of (to_bits binary64 x) r.0 r.1 in
    root_of-positive x t.0 t.1 (subst (λ (z : Float). IsParts z t.0 t.1) e t.2)

-- ---- `root_of x` is the root of x

pub root_of-root : (x : Float) → T (fits binary64 x) → IsRoot x (root_of x)
root_of-root nan h = unfold root_of in refl
root_of-root (inf false) h = unfold root_of in refl
root_of-root (inf true) h = unfold root_of in refl
root_of-root (fin s zero e) h = unfold root_of in refl
root_of-root (fin true (suc m) e) h = unfold root_of in refl
root_of-root (fin false (suc m) e) h = positive (fin false (suc m) e) h tt

-- ---- there is one root

same-value : (x : Float) (s : Bool) (a b c : ℕ) → HasValue x s a c → HasValue x s b c → a ≡ b
same-value nan s a b c v w = absurd v
same-value (inf t) s a b c v w = absurd v
same-value (fin t m e) s a b c v w = eq_of_mul-eq-mul_right (down e) (down_pos e) a b (sym v.1 ∙ w.1)

four-pos : (k : ℕ) → 0 < 4 ^ k
four-pos k = pow-le-pow_right {n = 4} (omega arith) {i = 0} {j = k} (omega arith)

-- two n in the range, at scales that differ, are two numbers
scales : (n k o d : ℕ) → n < 2 ^ 106 → 2 ^ 104 ≤ o → n * 4 ^ k ≡ o * 4 ^ (k + suc d) → ⊥
scales n k o d h l e =
    let f : o * 4 ^ (k + suc d) ≡ o * 4 ^ suc d * 4 ^ k =
    ap (λ (z : ℕ). o * z) (pow-add 4 k (suc d) ∙ mul_comm (4 ^ k) (4 ^ suc d)) ∙ sym (mul_assoc o (4 ^ suc d) (4 ^ k)) in
    let g : n ≡ o * 4 ^ suc d = eq_of_mul-eq-mul_right (4 ^ k) (four-pos k) n (o * 4 ^ suc d) (e ∙ f) in
    let j : 4 ≤ 4 ^ suc d = pow-le-pow_right {n = 4} (omega arith) {i = 1} {j = suc d} (omega arith) in
    omega (arith, mul-le-mul l j)

same_scale : (n k o l : ℕ) → 2 ^ 104 ≤ n → n < 2 ^ 106 → 2 ^ 104 ≤ o → o < 2 ^ 106 → n * 4 ^ k ≡ o * 4 ^ l → k ≡ l
same_scale n k o l n1 n2 o1 o2 e = go (dec_lt k l) (dec_lt l k)
  where
    apart : (a b : ℕ) → a < b → b ≡ a + suc (b - suc a)
    apart a b h = omega arith

    go : Dec (k < l) → Dec (l < k) → k ≡ l
    go (yes h) d = absurd (scales n k o (l - suc k) n2 o1 (e ∙ ap (λ (z : ℕ). o * 4 ^ z) (apart k l h)))
    go (no f) (yes h) = absurd (scales o l n (k - suc l) o2 n1 (sym e ∙ ap (λ (z : ℕ). n * 4 ^ z) (apart l k h)))
    go (no f) (no g) = omega arith

positive-unique : (x r t : Float) → IsPositiveRoot x r → IsPositiveRoot x t → r ≡ t
positive-unique x r t p o =
    let e : p.n * 4 ^ p.k ≡ o.n * 4 ^ o.k = same-value x false (p.n * 4 ^ p.k) (o.n * 4 ^ o.k) (4 ^ 589) p.x-is o.x-is in
    let k : p.k ≡ o.k = same_scale p.n p.k o.n o.k p.n-from p.n-below o.n-from o.n-below e in
    let n : p.n ≡ o.n = eq_of_mul-eq-mul_right (4 ^ o.k) (four-pos o.k) p.n o.n (ap (λ (z : ℕ). p.n * 4 ^ z) (sym k) ∙ e) in
    let q : p.q ≡ o.q = nearest-unique o.n p.q o.q (subst (λ (z : ℕ). NearestWhole z p.q) n p.nearest) o.nearest in
    let v : HasValue r false (o.q * 2 ^ o.k) (2 ^ 589) = subst (λ (z : ℕ). HasValue r false (o.q * 2 ^ z) (2 ^ 589)) k (subst (λ (z : ℕ). HasValue r false (z * 2 ^ p.k) (2 ^ 589)) q p.r-is) in
    value-unique r t false (o.q * 2 ^ (o.k + 485)) p.r-fits o.r-fits (units r o.q o.k v) (units t o.q o.k o.r-is)
  where
    units : (z : Float) (q k : ℕ) → HasValue z false (q * 2 ^ k) (2 ^ 589) → HasValue z false (q * 2 ^ (k + 485)) (2 ^ 1074)
    units z q k v = rescale z false (q * 2 ^ k) (2 ^ 589) (q * 2 ^ (k + 485)) (2 ^ 1074) (pow_pos 589) (sym (r-scaled q k)) v

pub root-unique : (x r t : Float) → IsRoot x r → IsRoot x t → r ≡ t
root-unique nan r t p o = p ∙ sym o
root-unique (inf false) r t p o = p ∙ sym o
root-unique (inf true) r t p o = p ∙ sym o
root-unique (fin s zero e) r t p o = p ∙ sym o
root-unique (fin true (suc m) e) r t p o = p ∙ sym o
root-unique (fin false (suc m) e) r t p o = positive-unique (fin false (suc m) e) r t p o
