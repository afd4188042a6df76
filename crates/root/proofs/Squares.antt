-- Squares of whole numbers, and the whole number nearest to a root. Assumes nothing.
use Rattle.std.proofs.Common.{◌≡◌, ℕ, zero, suc, ◌+◌, ◌-◌, ◌*◌, ◌/◌, ◌%◌, ◌^◌, ◌<◌, ◌≤◌, sym, refl, ap, ◌∙◌, add_assoc, mul_assoc, mul_comm, add-mul, mul-le-mul, add_comm, mul-add, mul_right_comm, arith}
use native.Mathlib.Nat.{add_left_comm}
use Rattle.root.specs.Root.{NearestWhole}

crossed : (a b : ℕ) → (a + b) * (a + b) ≡ a * a + a * b + (a * b + b * b)
crossed a b = simp (mul-add, add-mul, mul_comm, add_assoc, add_comm, add_left_comm) refl

pub square-sum : (a b : ℕ) → (a + b) * (a + b) ≡ a * a + 2 * (a * b) + b * b
square-sum a b = omega (arith, crossed a b)

pub double : (q : ℕ) → (2 * q) * (2 * q) ≡ 4 * (q * q)
double q =
    let e : 2 * q ≡ q + q = omega arith in
    rw e (omega (arith, square-sum q q))

pub up-square : (q : ℕ) → (2 * q + 1) * (2 * q + 1) ≡ 4 * (q * q) + 4 * q + 1
up-square q = omega (arith, square-sum (2 * q) 1, double q)

pub down-square : (q : ℕ) → 0 < q → (2 * q - 1) * (2 * q - 1) + 4 * q ≡ 4 * (q * q) + 1
down-square q h =
    let a = 2 * q - 1 in
    let e : a + 1 ≡ 2 * q = omega arith in
    let s : (a + 1) * (a + 1) ≡ 4 * (q * q) = ap (λ (x : ℕ). x * x) e ∙ double q in
    omega (arith, square-sum a 1)

-- the nearest, by q * q - q < n ≤ q * q + q
pub nearest-of : (n q : ℕ) → 0 < q → q * q < n + q → n ≤ q * q + q → NearestWhole n q
nearest-of n q p a b = record { above = omega (arith, down-square q p); below = omega (arith, up-square q) }

pub square-next : (s : ℕ) → (s + 1) * (s + 1) ≡ s * s + 2 * s + 1
square-next s = omega (arith, square-sum s 1)

-- the nearest, from the root's whole part s and what is left over
pub nearest-same : (n s rem : ℕ) → 0 < n → s * s + rem ≡ n → rem ≤ 2 * s → rem ≤ s → NearestWhole n s
nearest-same n zero rem p e l h = absurd (omega arith)
nearest-same n (suc s) rem p e l h = nearest-of n (suc s) (omega arith) (omega arith) (omega arith)

pub nearest-next : (n s rem : ℕ) → s * s + rem ≡ n → rem ≤ 2 * s → s < rem → NearestWhole n (s + 1)
nearest-next n s rem e l h = nearest-of n (s + 1) (omega arith) (omega (arith, square-next s)) (omega (arith, square-next s))

-- ---- the square of the digits q of n, from the parts of q

shifted : (a c : ℕ) → a * c * (a * c) ≡ a * a * (c * c)
shifted a c = mul_right_comm a c (a * c) ∙ ap (λ (z : ℕ). z * c) (sym (mul_assoc a a c)) ∙ mul_assoc (a * a) c c

pub record Cut (q a b : ℕ) : Type 0 where
  pub cross : a * b < 2 ^ 53
  pub high-from : 2 ^ 62 ≤ a * a
  pub high : a * a < 2 ^ 64
  pub low : b * b < 2 ^ 42
  pub join : q ≡ a * 2 ^ 21 + b
  pub square : q * q ≡ a * a * 2 ^ 42 + 2 ^ 22 * (a * b) + b * b
  pub middle : a * (b * 2 + 1) ≡ 2 * (a * b) + a

twice-and-one : (a b : ℕ) → a * (b * 2 + 1) ≡ 2 * (a * b) + a
twice-and-one a b = omega (arith, mul-add a (b * 2) 1, mul_assoc a b 2)

pub cut : (n : ℕ) → Cut (n % 2 ^ 52 + 2 ^ 52) (n / 2 ^ 21 % 2 ^ 31 + 2 ^ 31) (n % 2 ^ 21)
cut n =
    let q = n % 2 ^ 52 + 2 ^ 52 in
    let a = n / 2 ^ 21 % 2 ^ 31 + 2 ^ 31 in
    let b = n % 2 ^ 21 in
    let a-ge : 2 ^ 31 ≤ a = omega arith in
    let a-le : a ≤ 2 ^ 32 - 1 = omega arith in
    let b-le : b ≤ 2 ^ 21 - 1 = omega arith in
    let e : q ≡ a * 2 ^ 21 + b = omega arith in
    record {
      cross = omega (arith, mul-le-mul a-le b-le);
      high-from = omega (arith, mul-le-mul a-ge a-ge);
      high = omega (arith, mul-le-mul a-le a-le);
      low = omega (arith, mul-le-mul b-le b-le);
      join = e;
      square = ap (λ (z : ℕ). z * z) e ∙ omega (arith, square-sum (a * 2 ^ 21) b, shifted a (2 ^ 21), mul_right_comm a (2 ^ 21) b);
      middle = twice-and-one a b;
    }

-- s - w + v, with sums that wrap, is what it is without where it is small
unwrapped : (s w v over x : ℕ) → 2 ^ 62 ≤ s → s < 2 ^ 64 → 2 ^ 62 ≤ w → w < 2 ^ 64 → v < 2 ^ 34 → over < 2 ^ 64 → (over + w) % 2 ^ 64 ≡ s → x ≡ (over + v) % 2 ^ 64 → x < 2 ^ 12 → s + v ≡ w + x
unwrapped s w v over x s-from s-lt w-from w-lt v-lt o_lt e f h = omega arith

pub agreed : (w q a b v over x : ℕ) → Cut q a b → a < 2 ^ 32 → 2 ^ 52 ≤ w → w < 2 ^ 54 → v ≡ a * (b * 2 + 1) / 2 ^ 21 → over < 2 ^ 64 → (over + w * 1024) % 2 ^ 64 ≡ a * a → x ≡ (over + v) % 2 ^ 64 → x < a / 2 ^ 20 - 1
    → NearestWhole (w * 2 ^ 52) q
agreed w q a b v over x c a_lt l h v-is o_lt e f t =
    let d : v * 2 ^ 21 ≤ 2 * (a * b) + a = omega (arith, c.middle) in
    let u : 2 * (a * b) + a < (v + 1) * 2 ^ 21 = omega (arith, c.middle) in
    let v-lt : v < 2 ^ 34 = omega (arith, c.cross) in
    let x_lt : x < 2 ^ 12 = omega arith in
    let s : a * a + v ≡ w * 1024 + x = unwrapped (a * a) (w * 1024) v over x c.high-from c.high (omega arith) (omega arith) v-lt o_lt e f x_lt in
    let room : (x + 2) * 2 ^ 20 ≤ a = omega arith in
    nearest-of (w * 2 ^ 52) q (omega (arith, c.join, c.high-from)) (omega (arith, c.square, c.join, c.low, s, d, u, room)) (omega (arith, c.square, c.join, s, d))
