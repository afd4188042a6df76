-- The order of times: what is before one time is before every later one. Assumes nothing.
use mathlib.Core.Path.{◌≡◌, refl, sym, ◌∙◌}
use mathlib.Core.Bool.{Bool, true, false, not, ◌&&◌}
use Prim.Native.Nat.{ℕ, ◌+◌, ◌*◌, ◌≤◌, ◌<◌}
use native.Mathlib.Nat.{mul-le-mul_right, mul-pos}
use native.Mathlib.Omega.{arith}
use lib.Dec.{ltb}
use borrow.Author.Tests.{ltb-true, ltb-false, lt-ltb, le-ltb}
use lib.Ieee.{Float, nan, inf, fin, is_nan, lt, below, up, down}
use lib.Ieee.Fits.{down_pos}
use lib.Ieee.Positive.{first_pos}
use Rattle.corrections_table.proofs.UnitLaws.{never}

-- ---- fractions x / a, y / b and z / c
module _ (x y z a b c : ℕ) (pa : 0 < a) (pb : 0 < b) (pc : 0 < c) where
  through : x * b < y * a → y * c ≤ z * b → ltb (x * c) (z * a) ≡ true
  through h k = go (ltb (x * c) (z * a)) refl
    where
      go : (t : Bool) → ltb (x * c) (z * a) ≡ t → t ≡ true
      go true e = refl
      go false e =
          let l : z * a ≤ x * c = ltb-false (x * c) (z * a) e in
          absurd (omega (arith, mul-le-mul_right c h, mul-le-mul_right a k, mul-le-mul_right b l))

  back : y * a < x * b → z * b ≤ y * c → ltb (z * a) (x * c) ≡ true
  back h k = go (ltb (z * a) (x * c)) refl
    where
      go : (t : Bool) → ltb (z * a) (x * c) ≡ t → t ≡ true
      go true e = refl
      go false e =
          let l : x * c ≤ z * a = ltb-false (z * a) (x * c) e in
          absurd (omega (arith, mul-le-mul_right c h, mul-le-mul_right a k, mul-le-mul_right b l))

  -- of a product of numbers above 0 the first is above 0, so it is above 0 times another
  moved : (u d e : ℕ) → 0 < e → 0 < u * d → 0 < u * e
  moved u d e pe h = mul-pos (first_pos u d h) pe

  signed : (s t r : Bool) → below s (x * b) t (y * a) ≡ true → below r (z * b) t (y * c) ≡ false → below s (x * c) r (z * a) ≡ true
  signed false false false e f = through (ltb-true (x * b) (y * a) e) (ltb-false (z * b) (y * c) f)
  signed false false true e f =
      let h : x * b < y * a = ltb-true (x * b) (y * a) e in
      let p : 0 < y * c = moved y a c pc (omega arith) in
      absurd (omega (arith, ltb-false 0 (z * b + y * c) f))
  signed false true r e f = never e
  signed true false false e f = go (ltb 0 (x * b)) refl
    where
      go : (t : Bool) → ltb 0 (x * b) ≡ t → ltb 0 (x * c + z * a) ≡ true
      go true q = let p : 0 < x * c = moved x b c pc (ltb-true 0 (x * b) q) in lt-ltb 0 (x * c + z * a) (omega arith)
      go false q =
          let n : x * b ≤ 0 = ltb-false 0 (x * b) q in
          let h : 0 < x * b + y * a = ltb-true 0 (x * b + y * a) e in
          let k : y * c ≤ z * b = ltb-false (z * b) (y * c) f in
          let p : 0 < y * c = moved y a c pc (omega arith) in
          let w : 0 < z * a = moved z b a pa (omega arith) in
          lt-ltb 0 (x * c + z * a) (omega arith)
  signed true false true e f = go (ltb 0 (z * a)) (ltb 0 (y * a)) refl refl
    where
      k : z * b + y * c ≤ 0
      k = ltb-false 0 (z * b + y * c) f

      go : (t u : Bool) → ltb 0 (z * a) ≡ t → ltb 0 (y * a) ≡ u → ltb (z * a) (x * c) ≡ true
      go true u q w = let p : 0 < z * b = moved z a b pb (ltb-true 0 (z * a) q) in absurd (omega (arith, k))
      go false true q w = let p : 0 < y * c = moved y a c pc (ltb-true 0 (y * a) w) in absurd (omega (arith, k))
      go false false q w =
          let h : 0 < x * b + y * a = ltb-true 0 (x * b + y * a) e in
          let p : 0 < x * c = moved x b c pc (omega (arith, ltb-false 0 (y * a) w)) in
          lt-ltb (z * a) (x * c) (omega (arith, ltb-false 0 (z * a) q))
  signed true true false e f =
      let h : y * a < x * b = ltb-true (y * a) (x * b) e in
      let p : 0 < x * c = moved x b c pc (omega arith) in
      lt-ltb 0 (x * c + z * a) (omega arith)
  signed true true true e f = back (ltb-true (y * a) (x * b) e) (ltb-false (y * c) (z * b) f)

infinities : (s t r : Bool) → (s && not t) ≡ true → (r && not t) ≡ false → (s && not r) ≡ true
infinities true false false e f = refl
infinities true false true e f = never (sym f)
infinities true true r e f = never e
infinities false t r e f = never e

upward : (t r : Bool) → not t ≡ true → (r && not t) ≡ false → not r ≡ true
upward false false e f = refl
upward false true e f = never (sym f)
upward true r e f = never e

downward : (s r : Bool) → s ≡ true → r ≡ false → (s && not r) ≡ true
downward true false e f = refl
downward true true e f = never (sym f)
downward false r e f = never e

turned : (r : Bool) → r ≡ false → not r ≡ true
turned false f = refl
turned true f = never (sym f)

first_of : (s t : Bool) → (s && not t) ≡ true → s ≡ true
first_of true t e = refl
first_of false t e = e

-- x before t, and q not before t: x is before q
pub lt-through : (x t q : Float) → is_nan q ≡ false → lt x t ≡ true → lt q t ≡ false → lt x q ≡ true
unfolding lt is_nan
lt-through nan t q n e f = never e
lt-through (inf s) nan q n e f = never e
lt-through (inf s) (inf t) nan n e f = never (sym n)
lt-through (inf s) (inf t) (inf r) n e f = infinities s t r e f
lt-through (inf s) (inf t) (fin r u k) n e f = first_of s t e
lt-through (inf s) (fin t w d) nan n e f = never (sym n)
lt-through (inf s) (fin t w d) (inf r) n e f = downward s r e f
lt-through (inf s) (fin t w d) (fin r u k) n e f = e
lt-through (fin s m j) nan q n e f = never e
lt-through (fin s m j) (inf t) nan n e f = never (sym n)
lt-through (fin s m j) (inf t) (inf r) n e f = upward t r e f
lt-through (fin s m j) (inf t) (fin r u k) n e f = never (sym f ∙ e)
lt-through (fin s m j) (fin t w d) nan n e f = never (sym n)
lt-through (fin s m j) (fin t w d) (inf r) n e f = turned r f
lt-through (fin s m j) (fin t w d) (fin r u k) n e f =
    signed (m * up j) (w * up d) (u * up k) (down j) (down d) (down k) (down_pos j) (down_pos d) (down_pos k) s t r e f

-- no time is before NaN
pub not_before-nan : (x q : Float) → is_nan q ≡ true → lt x q ≡ false
unfolding lt is_nan
not_before-nan nan q n = refl
not_before-nan (inf s) nan n = refl
not_before-nan (inf s) (inf t) n = never n
not_before-nan (inf s) (fin t m e) n = never n
not_before-nan (fin s m e) nan n = refl
not_before-nan (fin s m e) (inf t) n = never n
not_before-nan (fin s m e) (fin t u k) n = never n

both : (a b : ℕ) → ltb a b ≡ true → ltb b a ≡ false
both a b e = le-ltb b a (native.Mathlib.Nat.le_of_lt (ltb-true a b e))

other_way : (s t : Bool) (a b : ℕ) → below s a t b ≡ true → below t b s a ≡ false
other_way false false a b e = both a b e
other_way false true a b e = never e
other_way true false a b e = refl
other_way true true a b e = both b a e

-- of two times at most one is before the other
pub lt_asym : (x y : Float) → lt x y ≡ true → lt y x ≡ false
unfolding lt
lt_asym nan y e = never e
lt_asym (inf s) nan e = never e
lt_asym (inf true) (inf true) e = never e
lt_asym (inf true) (inf false) e = refl
lt_asym (inf false) (inf t) e = never e
lt_asym (inf true) (fin t w d) e = refl
lt_asym (inf false) (fin t w d) e = never e
lt_asym (fin s m j) nan e = never e
lt_asym (fin s m j) (inf true) e = never e
lt_asym (fin s m j) (inf false) e = refl
lt_asym (fin s m j) (fin t w d) e = other_way s t (m * up j * down d) (w * up d * down j) e

pub lt-self : (x : Float) → lt x x ≡ false
lt-self x = go (lt x x) refl
  where
    go : (b : Bool) → lt x x ≡ b → b ≡ false
    go true e = sym e ∙ lt_asym x x e
    go false e = refl
