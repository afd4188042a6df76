-- `root::root::slow` meets its contract. At the loop's head s is the whole part of the root of the number made of w's first 2 * i binary digits, and rem is what that number has over s * s.
-- Assumes nothing.
use Rattle.std.proofs.Common.{◌≡◌, ℕ, ◌+◌, ◌-◌, ◌*◌, ◌/◌, ◌%◌, ◌^◌, ◌<◌, ◌≤◌, ap, ◌∙◌, mul-one, mul_left_comm, add-one, arith, pow_mono}
use native.Mathlib.Nat.{pow-succ'}
use Rattle.root.proofs.Squares.{double, up-square, nearest-same, nearest-next}
use Rattle.root.proofs.sqrt.slow.Invariants.{Sofar}
use Rattle.root.proofs.sqrt.slow.Goals as goal
use Rattle.root.proofs.sqrt.slow.Goals.{then-rem-s, else-rem-s}

pub loop-i-init : goal.loop-i-init
loop-i-init c = record { turns = omega arith; rest_lt = omega arith; rem-le = omega arith; s-lt = omega arith; sum = omega (arith, mul-one c.args.w) }

s-small : (c : goal.In-loop-i) → c.loop-i.s < 2 ^ 53
s-small c = omega (arith, pow_mono {j = 53} c.loop-i.invariant.turns)

pub overflow_mul-rem : goal.overflow_mul-rem
overflow_mul-rem c = omega (arith, s-small c)

pub overflow_add-rem : goal.overflow_add-rem
overflow_add-rem c = omega (arith, s-small c)

pub overflow_mul-s : goal.overflow_mul-s
overflow_mul-s c = omega (arith, s-small c)

pub overflow_mul-rem-then-rem-s : goal.overflow_mul-rem-then-rem-s
overflow_mul-rem-then-rem-s c = omega (arith, s-small c.before)

pub overflow_mul-s-then-rem-s : goal.overflow_mul-s-then-rem-s
overflow_mul-s-then-rem-s c = omega (arith, s-small c.before)

pub overflow_add-s : goal.overflow_add-s
overflow_add-s c = omega (arith, s-small c.before)

pub overflow_mul-s-else-rem-s : goal.overflow_mul-s-else-rem-s
overflow_mul-s-else-rem-s c = omega (arith, s-small c.before)

times-four : (w i : ℕ) → w * 4 ^ (i + 1) ≡ 4 * (w * 4 ^ i)
times-four w i = ap (λ (x : ℕ). w * 4 ^ x) (add-one i) ∙ ap (λ (x : ℕ). w * x) (pow-succ' 4 i) ∙ mul_left_comm w 4 (4 ^ i)

twice-pow : (i : ℕ) → 2 ^ (i + 1) ≡ 2 * 2 ^ i
twice-pow i = ap (λ (x : ℕ). 2 ^ x) (add-one i) ∙ pow-succ' 2 i

yes-square : (s t : ℕ) → t ≡ s * 2 + 1 → t * t ≡ 4 * (s * s) + 4 * s + 1
yes-square s t e = let f : t ≡ 2 * s + 1 = omega arith in ap (λ (x : ℕ). x * x) f ∙ up-square s

no-square : (s t : ℕ) → t ≡ s * 2 → t * t ≡ 4 * (s * s)
no-square s t e = let f : t ≡ 2 * s = omega arith in ap (λ (x : ℕ). x * x) f ∙ double s

module _ (w s rem rest i t rem' : ℕ) (inv : Sofar w s rem rest i) (more : i < 53) where
  taken : s * 4 < rem * 4 + rest / 4503599627370496 → t ≡ s * 2 + 1 → rem' ≡ rem * 4 + rest / 4503599627370496 - s * 4 - 1 → Sofar w t rem' (rest % 4503599627370496 * 4) (i + 1)
  taken h e f = record {
    turns = omega arith;
    rest_lt = omega arith;
    rem-le = omega arith;
    s-lt = omega (arith, twice-pow i);
    sum = omega (arith, times-four w i, yes-square s t e);
  }

  left : rem * 4 + rest / 4503599627370496 ≤ s * 4 → t ≡ s * 2 → rem' ≡ rem * 4 + rest / 4503599627370496 → Sofar w t rem' (rest % 4503599627370496 * 4) (i + 1)
  left h e f = record {
    turns = omega arith;
    rest_lt = omega arith;
    rem-le = omega arith;
    s-lt = omega (arith, twice-pow i);
    sum = omega (arith, times-four w i, no-square s t e);
  }

pub loop-i-preserved : goal.loop-i-preserved
loop-i-preserved c =
    elim c.if-rem-s.branch [
      | then-rem-s v ↦ taken c.args.w c.loop-i.s c.loop-i.rem c.loop-i.rest c.loop-i.i c.if-rem-s.s c.if-rem-s.rem c.loop-i.invariant c.loop-i-test.true v.if-rem-s.true v.s-is v.rem-is
      | else-rem-s v ↦ left c.args.w c.loop-i.s c.loop-i.rem c.loop-i.rest c.loop-i.i c.if-rem-s.s c.if-rem-s.rem c.loop-i.invariant c.loop-i-test.true v.if-rem-s.false v.s-is v.rem-is
    ]

-- the loop's end: all the digits of w * 2 ^ 52 are passed
ended : (w s rem rest i : ℕ) → Sofar w s rem rest i → 53 ≤ i → s * s + rem ≡ w * 2 ^ 52
ended w s rem rest i inv h =
    let e : i ≡ 53 = omega arith in
    let f : (s * s + rem) * 2 ^ 54 + rest ≡ w * 4 ^ 53 = inv.sum ∙ ap (λ (x : ℕ). w * 4 ^ x) e in
    omega arith

positive : (w n : ℕ) → 2 ^ 52 ≤ w → 0 < w * 2 ^ 52
positive w n h = omega arith

pub overflow_add-result : goal.overflow_add-result
overflow_add-result c = omega (arith, pow_mono {j = 53} c.loop-i.invariant.turns)

pub returns-then-rem-s-2 : goal.returns-then-rem-s-2
returns-then-rem-s-2 c = let a = c in
    nearest-next (a.args.w * 2 ^ 52) a.loop-i.s a.loop-i.rem (ended a.args.w a.loop-i.s a.loop-i.rem a.loop-i.rest a.loop-i.i a.loop-i.invariant c.loop-i-test.false) a.loop-i.invariant.rem-le c.if-rem-s-2.true

pub returns-else-rem-s-2 : goal.returns-else-rem-s-2
returns-else-rem-s-2 c = let a = c in
    nearest-same (a.args.w * 2 ^ 52) a.loop-i.s a.loop-i.rem (omega (arith, a.requires.0)) (ended a.args.w a.loop-i.s a.loop-i.rem a.loop-i.rest a.loop-i.i a.loop-i.invariant c.loop-i-test.false) a.loop-i.invariant.rem-le c.if-rem-s-2.false
