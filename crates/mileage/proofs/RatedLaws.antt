-- An infinite chi or pdop makes the predicted error an infinity or a NaN, which is below no limit. Assumes nothing.
use mathlib.Core.Path.{◌≡◌, refl}
use mathlib.Core.Bool.{Bool, true, false, cond, ◌&&◌, and-false}
use Prim.Native.Nat.{ℕ, zero, suc, ◌*◌, ◌<◌}
use native.Mathlib.Nat.{zero-mul, mul-pos}
use native.Mathlib.Omega.{arith}
use lib.Dec.{eqb}
use lib.IntN.{ℤ, negsuc}
use borrow.Author.Tests.{ne_eqb}
use lib.Ieee.{Float, nan, inf, fin, up, down, lt, le, eq, mul, div, of_bits, of_int}
use lib.Ieee.Fits.{up_pos}
use Rattle.exact.specs.Float.{◌⊗◌, +0, 1·0, decimal}
use Rattle.mileage.specs.Rated.{at_least_one, predicted_error, rated}

-- ---- infinity times a float that is not below 0, times a positive number

past-zero : (n : ℕ) → eqb (suc n) 0 ≡ false
past-zero n = ne_eqb (suc n) 0 (λ (e : suc n ≡ 0). omega arith)

-- a number with a minus is below 0
minus-below : (m : ℕ) (e : ℤ) → le +0 (fin true (suc m) e) ≡ false
unfolding le lt eq of_bits
minus-below m e =
    let p : 0 < suc m * up e = mul-pos (omega arith) (up_pos e) in
    rw (ne_eqb (0 * 1 * down e) (suc m * up e * 1) (λ (h : 0 * 1 * down e ≡ suc m * up e * 1). omega (arith, zero-mul (down e))))

top : (limit : Float) → lt (inf false) limit ≡ false
unfolding lt
top nan = refl
top (inf t) = refl
top (fin t n d) = refl

module _ (n : ℕ) (positive : eqb n 0 ≡ false) (d : ℤ) (limit : Float) where
  abbrev h : Float
  h = fin false n d

  infinite : lt (inf false ⊗ h) limit ≡ false
  unfolding mul
  infinite = rw positive (top limit)

  -- an infinite chi
  chi-infinite : (p : Float) → (le +0 p && lt ((p ⊗ inf false) ⊗ h) limit) ≡ false
  unfolding mul le lt eq of_bits
  chi-infinite nan = refl
  chi-infinite (inf true) = refl
  chi-infinite (inf false) = infinite
  chi-infinite (fin s zero e) = and-false (le +0 (fin s zero e))
  chi-infinite (fin false (suc m) e) = rw (past-zero m, infinite) (and-false (le +0 (fin false (suc m) e)))
  chi-infinite (fin true (suc m) e) = rw (minus-below m e)

  -- an infinite pdop
  pdop-infinite : (b s : Bool) (m : ℕ) (e : ℤ) → (le +0 (fin s m e) && lt ((inf false ⊗ cond b 1·0 (fin s m e)) ⊗ h) limit) ≡ false
  unfolding mul lt of_bits
  pdop-infinite true s m e = rw infinite (and-false (le +0 (fin s m e)))
  pdop-infinite false s zero e = and-false (le +0 (fin s zero e))
  pdop-infinite false false (suc m) e = rw (past-zero m, infinite) (and-false (le +0 (fin false (suc m) e)))
  pdop-infinite false true (suc m) e = rw (minus-below m e)

-- ---- the tests of the code are those of the definition

abbrev digits : ℕ
digits = 5764607523034235

hundredth : decimal 1 2 ≡ fin false digits (negsuc 58)
unfolding div of_int
hundredth = refl

neither : (x y z : Bool) → (x && false && y) ≡ (x && false && z && y)
neither true y z = refl
neither false y z = refl

not-both : (x y : Bool) → (x && y) ≡ false → (x && true && y) ≡ (x && false && true && y)
not-both true y h = h
not-both false y h = refl

same : (x y z : Bool) → (x && z && y) ≡ (x && true && z && y)
same true y z = refl
same false y z = refl

pub rated-is : (limit chi pdop : Float) → (le +0 chi && le +0 pdop && lt (predicted_error chi pdop) limit) ≡ rated limit chi pdop
unfolding rated predicted_error at_least_one le lt eq of_bits
rated-is limit nan p = refl
rated-is limit (inf true) p = refl
rated-is limit (inf false) p = rw hundredth (chi-infinite digits refl (negsuc 58) limit p)
rated-is limit (fin s m e) nan = neither (le +0 (fin s m e)) _ _
rated-is limit (fin s m e) (inf true) = neither (le +0 (fin s m e)) _ _
rated-is limit (fin s m e) (inf false) = rw hundredth (not-both (le +0 (fin s m e)) _ (pdop-infinite digits refl (negsuc 58) limit (lt (fin s m e) 1·0) s m e))
rated-is limit (fin s m e) (fin t n d) = same (le +0 (fin s m e)) _ _
