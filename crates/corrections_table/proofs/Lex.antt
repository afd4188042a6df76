-- Two numbers in one: by the first, and where that is equal by the second. Assumes nothing.
use mathlib.Core.Path.{◌≡◌, refl, sym}
use mathlib.Core.Bool.{Bool, true, false, ◌&&◌, ◌||◌}
use Prim.Native.Nat.{ℕ, suc, ◌+◌, ◌*◌, ◌≤◌, ◌<◌}
use native.Mathlib.Omega.{arith}
use lib.Dec.{ltb, eqb}
use borrow.Author.Tests.{ltb-true, ltb-false, eqb-true, eqb-false, lt-ltb, le-ltb}

pub lex : (g h j k w : ℕ) → j < w → k < w → (ltb g h || (eqb g h && ltb j k)) ≡ ltb (g * w + j) (h * w + k)
lex g h j k w jl kl = first (ltb g h) refl
  where
    up_by : (x y : ℕ) → x ≤ y → x * w ≤ y * w
    up_by x y q = native.Mathlib.Nat.mul-le-mul_right w q

    above : (a b i l : ℕ) → a < b → i < w → a * w + i < b * w + l
    above a b i l p q = omega (arith, up_by (suc a) b p)

    third : (t : Bool) → ltb j k ≡ t → g ≡ h → t ≡ ltb (g * w + j) (h * w + k)
    third true e q = rw q (sym (lt-ltb (h * w + j) (h * w + k) (omega (arith, ltb-true j k e))))
    third false e q = rw q (sym (le-ltb (h * w + j) (h * w + k) (omega (arith, ltb-false j k e))))

    second : (t : Bool) → eqb g h ≡ t → h ≤ g → (t && ltb j k) ≡ ltb (g * w + j) (h * w + k)
    second true e l = third (ltb j k) refl (eqb-true g h e)
    second false e l =
        let ne : g ≡ h → ⊥ = eqb-false g h e in
        let s : h < g = omega arith in
        sym (le-ltb (g * w + j) (h * w + k) (omega (arith, above h g k j s kl)))

    first : (t : Bool) → ltb g h ≡ t → (t || (eqb g h && ltb j k)) ≡ ltb (g * w + j) (h * w + k)
    first true e = sym (lt-ltb (g * w + j) (h * w + k) (above g h j k (ltb-true g h e) jl))
    first false e = second (eqb g h) refl (ltb-false g h e)

pub or_no : (a : Bool) → (a || false) ≡ a
or_no true = refl
or_no false = refl
