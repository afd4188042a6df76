-- A finite double and one of at most 1e9 in magnitude have a finite sum. Assumes nothing.
use mathlib.Core.Path.{◌≡◌, refl, sym, ◌∙◌, ap, subst}
use mathlib.Core.Bool.{Bool, true, false, ◌&&◌, ◌||◌, cond, beq}
use Prim.Native.Nat.{ℕ, zero, suc, zero-le, ◌+◌, ◌-◌, ◌*◌, ◌%◌, ◌^◌, ◌≤◌, ◌<◌}
use native.Mathlib.Nat.{mul-le-mul, mul_assoc, mul-le-mul_right, lt_of_mul-lt-mul_right, mul_right_comm, mul-one, zero-mul, add-mul, add-le-add, mul-pos}
use native.Mathlib.Decide.{dec_le}
use native.Mathlib.Omega.{arith}
use lib.Dec.{T, ltb, eqb, leb, lit≤, ltb→lt}
use lib.IntN.{ℤ, pos, negsuc}
use lib.Pow.{pow_mono, pow_pos, pow-add}
use lib.Ieee.{Float, nan, inf, fin, binary64, Format, add, sum, le, lt, eq, up, down, fits, round, units, odd, size, span, climb, of_int}
use lib.Ieee.Scale.{finite}
use lib.Ieee.Order.{round_mono}
use lib.Ieee.Fits.{down_pos, and_l, and_r}
use lib.Count.{count_trailing_zeros}
use borrow.Author.Tests.{ltb-true, eqb-true}
use Rattle.exact.specs.Float.{◌⊕◌, whole}
use Rattle.numeric.specs.Real.{abs, in_range}
use Rattle.track_tridiagonal.proofs.EachBelow.{right-true}

-- ---- rounding

odd-finite : (d : ℕ) (s : Bool) (q k l : ℕ) → finite (odd d s q k l) ≡ true
unfolding odd
odd-finite d s zero k l = refl
odd-finite d s (suc q) k l = refl

units-finite : (f : Format) (s t : Bool) (q k : ℕ) → finite (units f s q k) ≡ finite (units f t q k)
unfolding units
units-finite f s t q k = go (ltb (q * 2 ^ k) (2 ^ (lib.Ieee.low f + suc (lib.Ieee.emax f))))
  where
    go : (b : Bool) → finite (cond b (odd (suc (lib.Ieee.prec f)) s q k (lib.Ieee.low f)) (inf s)) ≡ finite (cond b (odd (suc (lib.Ieee.prec f)) t q k (lib.Ieee.low f)) (inf t))
    go true = odd-finite (suc (lib.Ieee.prec f)) s q k (lib.Ieee.low f) ∙ sym (odd-finite (suc (lib.Ieee.prec f)) t q k (lib.Ieee.low f))
    go false = refl

round-sign : (f : Format) (s t : Bool) (a c : ℕ) → finite (round f s a c) ≡ finite (round f t a c)
unfolding round
round-sign f s t a c = units-finite f s t _ _

-- the largest number, and 2 ^ 30 above it, which rounds to it
most : ℕ
most = (2 ^ 53 - 1) * 2 ^ 971

edge : ℕ
unfolding most
edge = most + 2 ^ 30

edge-is : round binary64 false edge 1 ≡ fin false (2 ^ 53 - 1) (pos 971)
unfolding edge round units size span climb odd count_trailing_zeros
edge-is = refl

units-top : (f : Format) (q k : ℕ) (y : Float) → finite y ≡ true → T (le (units f false q k) y) → finite (units f false q k) ≡ true
unfolding units le lt eq
units-top f q k y h = go (ltb (q * 2 ^ k) (2 ^ (lib.Ieee.low f + suc (lib.Ieee.emax f))))
  where
    none : (y : Float) → finite y ≡ true → T (le (inf false) y) → finite (inf false) ≡ true
    none nan h t = h
    none (inf s) h t = h
    none (fin s m e) h t = absurd t

    go : (b : Bool) → T (le (cond b (odd (suc (lib.Ieee.prec f)) false q k (lib.Ieee.low f)) (inf false)) y) → finite (cond b (odd (suc (lib.Ieee.prec f)) false q k (lib.Ieee.low f)) (inf false)) ≡ true
    go true t = odd-finite (suc (lib.Ieee.prec f)) false q k (lib.Ieee.low f)
    go false t = none y h t

round-top : (f : Format) (a c : ℕ) (y : Float) → finite y ≡ true → T (le (round f false a c) y) → finite (round f false a c) ≡ true
unfolding round
round-top f a c y h t = units-top f _ _ y h t

round-finite : (s : Bool) (a c : ℕ) → 0 < c → a ≤ edge * c → finite (round binary64 s a c) ≡ true
round-finite s a c h g =
    round-sign binary64 s false a c
    ∙ round-top binary64 a c (fin false (2 ^ 53 - 1) (pos 971)) refl
    (subst (λ (y : Float). T (le (round binary64 false a c) y)) edge-is (round_mono binary64 a c edge 1 h (omega arith) (rw mul-one g)))

cond-finite : (b : Bool) (x y : Float) → finite x ≡ true → finite y ≡ true → finite (cond b x y) ≡ true
cond-finite true x y h g = h
cond-finite false x y h g = g

sum-finite : (s t : Bool) (a b c : ℕ) → 0 < c → a + b ≤ edge * c → finite (sum binary64 s a t b c) ≡ true
unfolding sum
sum-finite s t a b c h g =
    cond-finite (beq s t) _ _ (round-finite s (a + b) c h g)
    (cond-finite (ltb a b) _ _ (round-finite t (b - a) c h (omega arith)) (round-finite (s && ltb b a) (a - b) c h (omega arith)))

-- ---- how large a number is

-- omega takes no number of more than 38 digits, so these stand by themselves
at-most-53 : (m : ℕ) → m < 2 ^ 53 → m ≤ 2 ^ 53 - 1
at-most-53 m h = omega arith

doubled : (q : ℕ) → q < 2 ^ 52 → q * 2 ≤ 2 ^ 53 - 1
doubled q h = omega arith

beyond-971 : (k : ℕ) → (k ≤ 971 → ⊥) → k ≡ k - 972 + 972
beyond-971 k h = omega arith

bound-pos : (m k : ℕ) → m < 2 ^ 53 → m * 2 ^ k < 2 ^ 1024 → m * 2 ^ k ≤ most
unfolding most
bound-pos m k h g = go (dec_le k 971)
  where
    go : Dec (k ≤ 971) → m * 2 ^ k ≤ (2 ^ 53 - 1) * 2 ^ 971
    go (yes l) = mul-le-mul (at-most-53 m h) (pow_mono l)
    go (no n) =
        let q : m * 2 ^ k ≡ m * 2 ^ (k - 972) * 2 ^ 972 = ap (λ (i : ℕ). m * 2 ^ i) (beyond-971 k n) ∙ ap (λ (i : ℕ). m * i) (pow-add 2 (k - 972) 972) ∙ sym (mul_assoc m (2 ^ (k - 972)) (2 ^ 972)) in
        let l : m * 2 ^ (k - 972) < 2 ^ 52 = lt_of_mul-lt-mul_right (2 ^ 972) {n = 2 ^ 52} (rw q at g) in
        let r : m * 2 ^ (k - 972) * 2 * 2 ^ 971 ≡ m * 2 ^ (k - 972) * 2 ^ 972 = mul_assoc (m * 2 ^ (k - 972)) 2 (2 ^ 971) in
        rw (q, ← r) (mul-le-mul_right (2 ^ 971) (doubled (m * 2 ^ (k - 972)) l))

most-large : 2 ^ 53 ≤ most
unfolding most
most-large = lit≤ tt

module _ (s : Bool) (m : ℕ) (e : ℤ) (t : T (fits binary64 (fin s (suc m) e))) where
  digits : suc m < 2 ^ 53
  unfolding fits
  digits =
      let A = eqb (suc m % 2) 1 in
      let B = ltb (suc m) (2 ^ 53) in
      let C = leb (down e) (2 ^ 1074) in
      let D = ltb (suc m * up e) (2 ^ 1024 * down e) in
      ltb→lt (suc m) (2 ^ 53) (and_r A B (and_l (A && B) C (and_l (A && B && C) D t)))

  reaches : suc m * up e < 2 ^ 1024 * down e
  unfolding fits
  reaches =
      let A = eqb (suc m % 2) 1 in
      let B = ltb (suc m) (2 ^ 53) in
      let C = leb (down e) (2 ^ 1074) in
      let D = ltb (suc m * up e) (2 ^ 1024 * down e) in
      ltb→lt (suc m * up e) (2 ^ 1024 * down e) (and_r (A && B && C) D t)

at_most : (a b : ℕ) → a < 2 ^ 53 → 2 ^ 53 ≤ b → a ≤ b
at_most a b h g = omega arith

bound : (s : Bool) (m : ℕ) (e : ℤ) → T (fits binary64 (fin s m e)) → m * up e ≤ most * down e
bound s zero (pos k) t = rw zero-mul zero-le
bound s zero (negsuc k) t = rw zero-mul zero-le
bound s (suc m) (pos k) t = rw mul-one (bound-pos (suc m) k (digits s m (pos k) t) (reaches s m (pos k) t))
bound s (suc m) (negsuc k) t = mul-le-mul (at_most (suc m) most (digits s m (negsuc k) t) most-large) (pow_pos (suc k))

or-le : (a b : ℕ) → (ltb a b || (eqb a b && true)) ≡ true → a ≤ b
or-le a b = go (ltb a b) refl (eqb a b) refl
  where
    go : (t : Bool) → ltb a b ≡ t → (u : Bool) → eqb a b ≡ u → (t || (u && true)) ≡ true → a ≤ b
    go true et u eu h = omega (arith, ltb-true a b et)
    go false et true eu h = omega (arith, eqb-true a b eu)
    go false et false eu h = let z : ◌≡◌ {A = ℕ} 0 1 = cc in absurd (omega arith)

within : (n : ℕ) (d : ℤ) → le (fin false n d) (fin false 1953125 (pos 9)) ≡ true → n * up d ≤ 2 ^ 30 * down d
unfolding le lt eq
within n d h = omega (arith, or-le (n * up d * 1) (1000000000 * down d) h)

not_flag : {A : Type 0} → ◌≡◌ {A = Bool} false true → A
not_flag e = let z : ◌≡◌ {A = ℕ} 0 1 = cc in absurd (omega arith)

limit_is : whole 1000000000 ≡ fin false 1953125 (pos 9)
unfolding of_int round units size span climb odd count_trailing_zeros
limit_is = refl

is-small : (o : Float) → in_range o ≡ true → le (abs o) (fin false 1953125 (pos 9)) ≡ true
unfolding in_range
is-small o h = rw limit_is at (right-true (finite o) (le (abs o) (whole 1000000000)) h)

both : (m n e d : ℕ) (x y : ℕ) → x ≤ most * e → y ≤ 2 ^ 30 * d → x * d + y * e ≤ edge * (e * d)
unfolding edge
both m n e d x y h g =
    rw (add-mul, ← mul_assoc, ← mul_assoc (2 ^ 30) e d, mul_right_comm (2 ^ 30) e d)
    (add-le-add (mul-le-mul_right d h) (mul-le-mul_right e g))

pub add-finite : (x o : Float) → T (fits binary64 x) → finite x ≡ true → in_range o ≡ true → finite (x ⊕ o) ≡ true
unfolding add abs le lt eq
add-finite nan o t f h = f
add-finite (inf s) o t f h = not_flag f
add-finite (fin s m e) nan t f h = is-small nan h
add-finite (fin s m e) (inf u) t f h = is-small (inf u) h
add-finite (fin s m e) (fin u n d) t f h =
    sum-finite s u (m * up e * down d) (n * up d * down e) (down e * down d) (mul-pos (down_pos e) (down_pos d))
    (both m n (down e) (down d) (m * up e) (n * up d) (bound s m e t) (within n d (is-small (fin u n d) h)))
