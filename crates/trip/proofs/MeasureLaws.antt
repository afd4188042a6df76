-- A length is not below 0, its whole millimetres are at most 1,000,000, and they are its exact value rounded down. Assumes nothing.
use mathlib.Core.Path.{◌≡◌, refl, sym, ap, ◌∙◌, subst}
use Prim.Native.Nat.{ℕ, zero, suc, ◌*◌, ◌/◌, ◌^◌, ◌≤◌, ◌<◌}
use native.Mathlib.Nat.{le_refl, zero-mul, zero-div, mul-le-mul_right, div-le_of_le-mul}
use native.Mathlib.Omega.{arith}
use mathlib.Core.Bool.{Bool, true, false, true≢false, false≢true, and-false, cond, ◌&&◌, ◌||◌}
use lib.Dec.{T, leb, eqb, lit≤}
use lib.Pow.{pow_pos}
use lib.IntN.{ℤ, pos}
use borrow.Author.Tests.{eq-eqb, eqb-true, le-leb}
use lib.Ieee.{Float, nan, inf, fin, up, down, binary64, lt, le, mul, of_bits, of_int}
use lib.Ieee.Exact.{HasValue}
use lib.Ieee.Fits.{down_pos, add-fits}
use lib.Ieee.Scale.{finite}
use Rattle.exact.specs.Float.{◌⊕◌, ◌⊗◌, whole, +0}
use Rattle.exact.specs.Value.{scale, magnitude, value}
use Rattle.root.specs.Root.{IsRoot, root_of}
use Rattle.root.proofs.Theorems.{root_of-root}
use Rattle.lists.proofs.Walk.{and_both}
use Rattle.numeric.specs.Vec3.{norm}
use Rattle.numeric.specs.Whole.{whole_times}
use Rattle.numeric.specs.declared.vec3.Vec3.{Vec3}
use Rattle.numeric.proofs.RealLaws.{sum-finite-left, sum-finite-right}
use Rattle.numeric.proofs.Growing.{at_most, le_below, from_zero}
use Rattle.numeric.proofs.WholeLaws.{Greatest, whole-greatest}
use Rattle.trip.specs.Measure.{millimetres, millimetres_of, measurable}
use Rattle.trip.specs.Steps.{way_of}

-- ---- a root is not below 0

plain-from-zero : (m : ℕ) (e : ℤ) → le +0 (fin false m e) ≡ true
plain-from-zero m e = from_zero (fin false m e) (fin false m e) (le_refl (m * up e * down e))

none-from-zero : (s : Bool) (e : ℤ) → le +0 (fin s zero e) ≡ true
unfolding le of_bits
none-from-zero false e = plain-from-zero zero e
none-from-zero true e =
    let a : 0 * 1 * down e ≡ 0 * up e * 1 = omega (arith, zero-mul (down e), zero-mul (up e)) in
    let b : 0 * 1 * down e ≡ 0 = omega (arith, zero-mul (down e)) in
    rw (eq-eqb (0 * 1 * down e) (0 * up e * 1) a, eq-eqb (0 * 1 * down e) 0 b)

valued-from-zero : (r : Float) (a c : ℕ) → HasValue r false a c → le +0 r ≡ true
valued-from-zero nan a c h = absurd h
valued-from-zero (inf s) a c h = absurd h
valued-from-zero (fin false m e) a c h = plain-from-zero m e
valued-from-zero (fin true m e) a c h = absurd (true≢false h.0)

no_nan : (r y : Float) → r ≡ nan → le r y ≡ true → ⊥
unfolding le
no_nan r y e h = false≢true (ap (λ (z : Float). le z y) (sym e) ∙ h)

infinity-from-zero : le +0 (inf false) ≡ true
unfolding le of_bits
infinity-from-zero = refl

pub root-from-zero : (x r y : Float) → IsRoot x r → le r y ≡ true → le +0 r ≡ true
root-from-zero nan r y i h = absurd (no_nan r y i h)
root-from-zero (inf false) r y i h = rw i infinity-from-zero
root-from-zero (inf true) r y i h = absurd (no_nan r y i h)
root-from-zero (fin s zero e) r y i h = rw i (none-from-zero s e)
root-from-zero (fin true (suc m) e) r y i h = absurd (no_nan r y i h)
root-from-zero (fin false (suc m) e) r y i h = valued-from-zero r _ _ i.r-is

-- ---- a length of at most 1,000 m has at most 1,000,000 millimetres

thousand : whole 1000 ≡ fin false 125 (pos 3)
unfolding of_int
thousand = refl

thousand-below : lt (whole 1000) (whole (2 ^ 53)) ≡ true
unfolding lt of_int
thousand-below = refl

-- so that its whole millimetres can be read from its pattern
pub below-limit : (x : Float) → le x (whole 1000) ≡ true → lt x (whole (2 ^ 53)) ≡ true
below-limit x h = le_below x 125 (pos 3) (whole (2 ^ 53)) (rw thousand at h) (rw thousand at thousand-below)

-- p / d in units, where that is at most 1,000 wholes of s units
few-units : (p d s : ℕ) → 0 < s → 0 < d → p ≤ 1000 * d → 1000 * (p * s / d) / s ≤ 1000000
few-units p d s hs hd h =
    let a : p * s ≤ 1000 * d * s = mul-le-mul_right s h in
    let b : p * s / d ≤ 1000 * s = div-le_of_le-mul d (omega (arith, a)) in
    div-le_of_le-mul s (omega arith)

-- −p at least 0 is 0
minus-none : (p d : ℕ) → (false || (eqb (0 * 1 * d) p && (false || eqb (0 * 1 * d) 0))) ≡ true → p ≡ 0
minus-none p d h = let e : 0 * 1 * d ≡ p = eqb-true (0 * 1 * d) p (and_both (eqb (0 * 1 * d) p) (false || eqb (0 * 1 * d) 0) h).0 in omega (arith, zero-mul d)

-- the size of what is at least 0 and has a minus
pub minus-units : (m : ℕ) (e : ℤ) → le +0 (fin true m e) ≡ true → magnitude (fin true m e) ≡ 0
unfolding le of_bits magnitude
minus-units m e h =
    let z : m * up e * 1 ≡ 0 = minus-none (m * up e * 1) (down e) h in
    let y : m * up e ≡ 0 = omega arith in
    ap (λ (p : ℕ). p * scale / down e) y ∙ ap (λ (p : ℕ). p / down e) (zero-mul scale) ∙ zero-div (down e)

pub few : (x : Float) → le +0 x ≡ true → le x (whole 1000) ≡ true → millimetres x ≤ 1000000
unfolding whole_times magnitude scale le
few nan z h = lit≤ tt
few (inf s) z h = lit≤ tt
few (fin true m e) z h = rw (minus-units m e z) (lit≤ tt)
few (fin false m e) z h =
    let k : le (fin false m e) (fin false 125 (pos 3)) ≡ true = rw thousand at h in
    let l : m * up e * 1 ≤ 125 * 2 ^ 3 * down e = at_most (m * up e * 1) (125 * 2 ^ 3 * down e) true (subst T (sym k) tt) in few-units (m * up e) (down e) (2 ^ 1074) (pow_pos 1074) (down_pos e) (omega arith)

-- what is between 0 and a finite number is finite
between-finite : (x y : Float) → le +0 x ≡ true → le x y ≡ true → T (finite y) → T (finite x)
unfolding le of_bits
between-finite nan y z h f = absurd (false≢true z)
between-finite (inf true) y z h f = absurd (false≢true z)
between-finite (inf false) nan z h f = absurd f
between-finite (inf false) (inf t) z h f = absurd f
between-finite (inf false) (fin t n d) z h f = absurd (false≢true h)
between-finite (fin s m e) y z h f = tt

thousand-finite : T (finite (whole 1000))
unfolding of_int
thousand-finite = tt

-- what is not below 0 is as much as its magnitude
plain : (x : Float) → le +0 x ≡ true → value x ≡ pos (magnitude x)
unfolding value magnitude
plain nan h = refl
plain (inf s) h = refl
plain (fin false m e) h = refl
plain (fin true m e) h = rw (minus-units m e h)

-- ---- a displacement

-- What a measurable displacement's length is: from 0 up to 1,000 m, finite, of at most 1,000,000 millimetres. Its exact value is at least its millimetres, and less than one more.
pub record Measured (d : Vec3) : Type 0 where
  pub from : le +0 (norm d) ≡ true
  pub upto : le (norm d) (whole 1000) ≡ true
  pub is_finite : T (finite (norm d))
  pub short : millimetres_of d ≤ 1000000
  pub exact : value (norm d) ≡ pos (magnitude (norm d))
  pub rounded-down : Greatest (millimetres_of d) 1000 (norm d)

pub length-from-zero : (d : Vec3) → le (norm d) (whole 1000) ≡ true → le +0 (norm d) ≡ true
unfolding norm
length-from-zero d h =
    let squares = d.x ⊗ d.x ⊕ d.y ⊗ d.y in
    let x = squares ⊕ d.z ⊗ d.z in
    root-from-zero x (root_of x) (whole 1000) (root_of-root x (add-fits binary64 squares (d.z ⊗ d.z))) h

-- the way of a length tells whether it is at most 1,000 m
pub way-within-is : (d : Vec3) → leb (way_of (norm d)) 1000000 ≡ le (norm d) (whole 1000)
unfolding way_of
way-within-is d = go (le (norm d) (whole 1000)) refl
  where
    go : (w : Bool) → le (norm d) (whole 1000) ≡ w → leb (cond w (millimetres (norm d)) 1000001) 1000000 ≡ w
    go true e = le-leb _ _ (few (norm d) (length-from-zero d e) e)
    go false e = refl

pub measured : (d : Vec3) → measurable d ≡ true → Measured d
unfolding measurable millimetres_of
measured d h =
    let k : le (norm d) (whole 1000) ≡ true = (and_both (finite d.x && finite d.y && finite d.z) (le (norm d) (whole 1000)) h).1 in
    let z : le +0 (norm d) ≡ true = length-from-zero d k in
    record { from = z; upto = k; is_finite = between-finite (norm d) (whole 1000) z k thousand-finite; short = few (norm d) z k; exact = plain (norm d) z; rounded-down = whole-greatest 1000 (norm d) }

-- ---- a length of at most 1,000 m is that of a finite displacement

root-of-finite : (x r : Float) → IsRoot x r → finite r ≡ true → finite x ≡ true
root-of-finite nan r i h = absurd (false≢true (ap finite (sym i) ∙ h))
root-of-finite (inf false) r i h = absurd (false≢true (ap finite (sym i) ∙ h))
root-of-finite (inf true) r i h = absurd (false≢true (ap finite (sym i) ∙ h))
root-of-finite (fin s m e) r i h = refl

square-of-finite : (x : Float) → finite (x ⊗ x) ≡ true → finite x ≡ true
unfolding mul
square-of-finite nan h = absurd (false≢true h)
square-of-finite (inf s) h = absurd (false≢true h)
square-of-finite (fin s m e) h = refl

length-finite : (d : Vec3) → le (norm d) (whole 1000) ≡ true → finite (norm d) ≡ true
length-finite d h = truth (finite (norm d)) (between-finite (norm d) (whole 1000) (length-from-zero d h) h thousand-finite)
  where
    truth : (b : Bool) → T b → b ≡ true
    truth true t = refl
    truth false t = absurd t

components_finite : (d : Vec3) → finite (norm d) ≡ true → (finite d.x && finite d.y && finite d.z) ≡ true
unfolding norm
components_finite d h =
    let a = d.x ⊗ d.x in
    let b = d.y ⊗ d.y in
    let c = d.z ⊗ d.z in
    let all = root-of-finite (a ⊕ b ⊕ c) (root_of (a ⊕ b ⊕ c)) (root_of-root (a ⊕ b ⊕ c) (add-fits binary64 (a ⊕ b) c)) h in
    let two = sum-finite-left (a ⊕ b) c all in
    rw (square-of-finite d.x (sum-finite-left a b two), square-of-finite d.y (sum-finite-right a b two), square-of-finite d.z (sum-finite-right (a ⊕ b) c all))

-- the length alone decides
pub by_length : (d : Vec3) → measurable d ≡ le (norm d) (whole 1000)
unfolding measurable
by_length d = go (le (norm d) (whole 1000)) (λ h. components_finite d (length-finite d h))
  where
    go : (b : Bool) → (b ≡ true → (finite d.x && finite d.y && finite d.z) ≡ true) → (finite d.x && finite d.y && finite d.z && b) ≡ b
    go true f = rw (f refl)
    go false f = and-false (finite d.x && finite d.y && finite d.z)

-- a displacement with a component that is not finite is not measurable
pub component_not_finite : (d : Vec3) → (finite d.x && finite d.y && finite d.z) ≡ false → measurable d ≡ false
unfolding measurable
component_not_finite d h = rw h
