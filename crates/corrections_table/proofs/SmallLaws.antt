-- Floats of a bounded magnitude: sums, differences, products and quotients stay so. Assumes nothing.
use mathlib.Core.Path.{◌≡◌, refl, sym, ap, ◌∙◌, subst}
use mathlib.Core.Bool.{Bool, true, false, cond, ◌&&◌, ◌||◌, beq, true≢false}
use Prim.Native.Nat.{ℕ, zero, suc, ◌+◌, ◌*◌, ◌^◌, ◌-◌, ◌≤◌, ◌<◌}
use native.Mathlib.Nat.{le_trans, le_of_eq, le_of_lt, mul_comm, mul_assoc, mul_right_comm, mul-le-mul_right, mul-le-mul, mul-pos, le_of_mul-le-mul_right, mul-one, one-mul, mul-mul-mul_comm}
use native.Mathlib.Omega.{arith}
use lib.Dec.{T, ltb, eqb, ltb→lt, eqb→eq, lit≤, lit<}
use borrow.Author.Tests.{ltb-true, ne_eqb}
use lib.Ieee.{Float, nan, inf, fin, le, binary64, up, down, round, sum, add, sub, neg, mul, div, odd, unlike, of_int}
use lib.Ieee as Ieee
use lib.Ieee.Fits.{down_pos, up_pos, and_l, round_is}
use lib.Ieee.Exact.{HasValue}
use lib.Ieee.Back.{round_whole}
use lib.Ieee.Order.{round_mono}
use lib.Ieee.Positive.{positive, num, den}
use lib.Ieee.Scale.{finite}
use Rattle.exact.specs.Float.{whole, ◌⊖◌, ◌⊗◌, ◌⊘◌}
use Rattle.numeric.specs.Real.{abs, in_range}
use Rattle.corrections_table.proofs.TableLaws.{and_right}
use Rattle.corrections_table.proofs.UnitLaws.{not_nan, not_inf}

-- finite, and of magnitude at most b
abbrev pub Small : ℕ → Float → Type 0
Small b nan = ⊥
Small b (inf s) = ⊥
Small b (fin s m e) = m * up e ≤ b * down e

pub small-finite : (b : ℕ) (x : Float) → Small b x → finite x ≡ true
small-finite b nan h = absurd h
small-finite b (inf s) h = absurd h
small-finite b (fin s m e) h = refl

-- ---- rounding
odd-small : (d b : ℕ) (s t : Bool) (q k l : ℕ) → Small b (odd d s q k l) → Small b (odd d t q k l)
unfolding odd
odd-small d b s t zero k l h = h
odd-small d b s t (suc q) k l h = h

units_small : (b : ℕ) (s t : Bool) (q k : ℕ) → Small b (Ieee.units binary64 s q k) → Small b (Ieee.units binary64 t q k)
unfolding Ieee.units
units_small b s t q k = go (ltb (q * 2 ^ k) (2 ^ 2098))
  where
    go : (x : Bool) → Small b (cond x (odd 54 s q k 1074) (inf s)) → Small b (cond x (odd 54 t q k 1074) (inf t))
    go true h = odd-small 54 b s t q k 1074 h
    go false h = h

-- not negative
abbrev pub Up : Float → Type 0
Up nan = ⊥
Up (inf s) = s ≡ false
Up (fin s m e) = s ≡ false

odd-up : (d q k l : ℕ) → Up (odd d false q k l)
unfolding odd
odd-up d zero k l = refl
odd-up d (suc q) k l = refl

units-up : (q k : ℕ) → Up (Ieee.units binary64 false q k)
unfolding Ieee.units
units-up q k = go (ltb (q * 2 ^ k) (2 ^ 2098))
  where
    go : (x : Bool) → Up (cond x (odd 54 false q k 1074) (inf false))
    go true = odd-up 54 q k 1074
    go false = refl

pub round_up : (a c : ℕ) → Up (round binary64 false a c)
round_up a c = rw (round_is binary64 false a c) (units-up _ _)

pub at_most : (a b : ℕ) (z : Bool) → T (ltb a b || (eqb a b && z)) → a ≤ b
at_most a b z t = go (ltb a b) refl t
  where
    go : (x : Bool) → ltb a b ≡ x → T (x || (eqb a b && z)) → a ≤ b
    go true e u = le_of_lt (ltb-true a b e)
    go false e u = le_of_eq (eqb→eq a b (and_l (eqb a b) z u))

pub le-small : (b : ℕ) (x y : Float) → Up x → HasValue y false b 1 → T (le x y) → Small b x
unfolding le
le-small b nan y p v h = absurd p
le-small b (inf true) y p v h = absurd (true≢false p)
le-small b (inf false) nan p v h = absurd h
le-small b (inf false) (inf t) p v h = absurd v
le-small b (inf false) (fin t n d) p v h = absurd h
le-small b (fin true m e) y p v h = absurd (true≢false p)
le-small b (fin false m e) nan p v h = absurd v
le-small b (fin false m e) (inf t) p v h = absurd v
le-small b (fin false m e) (fin true n d) p v h = absurd (true≢false v.0)
le-small b (fin false m e) (fin false n d) p v h =
    let a : m * up e * down d ≤ n * up d * down e = at_most (m * up e * down d) (n * up d * down e) true h in
    let w : n * up d ≡ b * down d = sym (mul-one (n * up d)) ∙ v.1 in
    le_of_mul-le-mul_right (le_trans a (le_of_eq (ap (λ (z : ℕ). z * down e) w ∙ mul_right_comm b (down d) (down e)))) (down_pos d)

pub round-small : (s : Bool) (a c b : ℕ) → 0 < c → b ≤ 2 ^ 53 → a ≤ b * c → Small b (round binary64 s a c)
round-small s a c b C B h =
    let plain : Small b (round binary64 false a c) = le-small b (round binary64 false a c) (round binary64 false b 1) (round_up a c) (round_whole binary64 false b B) (round_mono binary64 a c b 1 C (lit< tt) (le_trans (le_of_eq (mul-one a)) h)) in
    rw (round_is binary64 s a c) (units_small b false s _ _ (rw (round_is binary64 false a c) at plain))

-- ---- sums, differences, products, quotients
sum-small : (s : Bool) (a : ℕ) (t : Bool) (b c k : ℕ) → 0 < c → k ≤ 2 ^ 53 → a + b ≤ k * c → Small k (sum binary64 s a t b c)
unfolding sum
sum-small s a t b c k C K h = go (beq s t) (ltb a b)
  where
    go : (x y : Bool) → Small k (cond x (round binary64 s (a + b) c) (cond y (round binary64 t (b - a) c) (round binary64 (s && ltb b a) (a - b) c)))
    go true y = round-small s (a + b) c k C K h
    go false true = round-small t (b - a) c k C K (omega arith)
    go false false = round-small (s && ltb b a) (a - b) c k C K (omega arith)

pub add_small : (a b : ℕ) (x y : Float) → a + b ≤ 2 ^ 53 → Small a x → Small b y → Small (a + b) (add binary64 x y)
unfolding add
add_small a b nan y k h g = absurd h
add_small a b (inf s) y k h g = absurd h
add_small a b (fin s m e) nan k h g = absurd g
add_small a b (fin s m e) (inf t) k h g = absurd g
add_small a b (fin s m e) (fin t n d) k h g = sum-small s (m * up e * down d) t (n * up d * down e) (down e * down d) (a + b) (mul-pos (down_pos e) (down_pos d)) k
    (both (m * up e * down d) (n * up d * down e) (a * (down e * down d)) (b * (down e * down d)) ((a + b) * (down e * down d))
    (le_trans (mul-le-mul_right (down d) h) (le_of_eq (mul_assoc a (down e) (down d))))
    (le_trans (mul-le-mul_right (down e) g) (le_of_eq (mul_assoc b (down d) (down e) ∙ ap (λ (z : ℕ). b * z) (mul_comm (down d) (down e)))))
    (native.Mathlib.Nat.add-mul a b (down e * down d)))
  where
    both : (p q r s w : ℕ) → p ≤ r → q ≤ s → w ≡ r + s → p + q ≤ w
    both p q r s w i j l = omega arith

neg_small : (b : ℕ) (y : Float) → Small b y → Small b (neg y)
unfolding neg
neg_small b nan h = absurd h
neg_small b (inf s) h = absurd h
neg_small b (fin s m e) h = h

pub sub_small : (a b : ℕ) (x y : Float) → a + b ≤ 2 ^ 53 → Small a x → Small b y → Small (a + b) (x ⊖ y)
unfolding sub
sub_small a b x y k h g = add_small a b x (neg y) k h (neg_small b y g)

pub mul_small : (a b : ℕ) (x y : Float) → a * b ≤ 2 ^ 53 → Small a x → Small b y → Small (a * b) (x ⊗ y)
unfolding mul
mul_small a b nan y k h g = absurd h
mul_small a b (inf s) y k h g = absurd h
mul_small a b (fin s m e) nan k h g = absurd g
mul_small a b (fin s m e) (inf t) k h g = absurd g
mul_small a b (fin s m e) (fin t n d) k h g =
    round-small (unlike s t) (m * up e * (n * up d)) (down e * down d) (a * b) (mul-pos (down_pos e) (down_pos d)) k
    (le_trans (mul-le-mul h g) (le_of_eq (mul-mul-mul_comm a (down e) b (down d))))

-- of two positive numbers the smaller by the larger
pub div-small : (x y : Float) → T (positive x) → T (positive y) → num x * den y ≤ num y * den x → Small 1 (x ⊘ y)
unfolding div
div-small nan y p q h = absurd p
div-small (inf s) y p q h = absurd p
div-small (fin true m e) y p q h = absurd p
div-small (fin false m e) nan p q h = absurd q
div-small (fin false m e) (inf t) p q h = absurd q
div-small (fin false m e) (fin true n d) p q h = absurd q
div-small (fin false m e) (fin false n d) p q h =
    let N : 0 < n = ltb→lt 0 n q in
    rw (ne_eqb n 0 (λ (z : n ≡ 0). omega arith))
    (round-small false (m * up e * down d) (n * up d * down e) 1 (mul-pos (mul-pos N (up_pos d)) (down_pos e)) (lit≤ tt) (le_trans h (le_of_eq (sym (one-mul (n * up d * down e))))))

-- ---- a table's floats
range-least : (x : Float) → in_range x ≡ true → T (le (abs x) (whole 1000000000))
unfolding in_range
range-least x h = subst T (sym (and_right (finite x) _ h)) tt

pub range_small : (x : Float) → in_range x ≡ true → Small 1000000000 x
unfolding le of_int abs
range_small nan h = not_nan h
range_small (inf s) h = not_inf s h
range_small (fin s m e) h =
    le_trans (le_of_eq (sym (mul-one (m * up e))))
    (at_most (m * up e * 1) (1000000000 * down e) true (range-least (fin s m e) h))
