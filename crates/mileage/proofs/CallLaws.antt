-- One call: what it finds of an epoch, what it adds, and the distance in 64 bits. Assumes nothing.
use Rattle.std.specs.Prelude.{Ok, Err}
use mathlib.Core.Path.{◌≡◌, refl, sym, ap, ap₂, ◌∙◌}
use Prim.Native.Nat.{ℕ, ◌+◌, ◌-◌, ◌*◌, ◌/◌, ◌%◌, ◌^◌, ◌≤◌, ◌<◌}
use native.Mathlib.Nat.{mul-le-mul, mul-le-mul_right, add-mul-div_right, div-add-mod', div-le_of_le-mul, div-lt_iff_lt-mul, le-div_iff_mul-le, mod-lt, add-mul, mul_assoc, mul_comm}
use native.Mathlib.Numerals.{unary_clauses}
use native.Mathlib.Omega.{arith}
use mathlib.Core.Bool.{Bool, true, false, cond, not, ◌&&◌, ◌||◌, or-true}
use lib.Dec.{leb, ltb, eqb}
use lib.Ieee.{Float, le}
use borrow.Author.Tests.{lt-ltb, le-ltb, not-true, not-false}
use Rattle.exact.specs.Float.{whole}
use Rattle.lists.proofs.Walk.{and_both}
use Rattle.numeric.specs.Vec3.{norm}
use Rattle.numeric.specs.declared.refusal.Refusal.TheVariants.{BadTrip}
use Rattle.trip.specs.Measure.{millimetres_of}
use Rattle.trip.specs.Steps.{way_of}
use Rattle.trip.proofs.MeasureLaws.{by_length, way-within-is}
use Rattle.mileage.specs.Rated.{rated}
use Rattle.mileage.specs.Mileage.{is_refused, is_usable, length_of, is_taken, sound_mileage, grown, mileage_added, scaled, distance_held}
use Rattle.mileage.specs.Steps.{way_for}
use Rattle.mileage.specs.declared.mileage.Epoch.{Epoch}
use Rattle.mileage.specs.declared.mileage.Mileage.{Mileage}

-- ---- an addition

-- where an epoch's displacement is of no use its length is of no account
unused : (m : Mileage) (r u : Bool) (x y p : ℕ) → (u ≡ true → x ≡ y) → grown m r u x p ≡ grown m r u y p
unfolding grown
unused m r true x y p h = ap (λ (z : ℕ). grown m r true z p) (h refl)
unused m r false x y p h = refl

-- an epoch that counts, with a pulse
pub driven_is : (m : Mileage) (millimetres p : ℕ) → 0 < p
    → record {
      limit = m.limit;
      epochs = m.epochs + 1;
      refused = m.refused;
      aside = m.aside;
      counted = m.counted + m.waiting + millimetres;
      covered = m.covered + p;
      standing = m.standing;
      pulses = m.pulses + p;
      moved = 1;
      waiting = 0;
    } ≡ grown m false true millimetres p
unfolding grown
driven_is m millimetres p h = rw (lt-ltb 0 p h, or-true (ltb 0 m.moved)) (simp unary_clauses refl)

module _ (e : Epoch) {way : ℕ} (way-is : way ≡ way_for e.refused e.displacement) where
  pub way-taken : leb way 1000000 ≡ is_taken e
  unfolding is_taken is_refused way_for
  way-taken = rw (way-is, by_length e.displacement) (go (eqb e.refused 0))
    where
      go : (b : Bool) → leb (cond b (way_of (norm e.displacement)) 0) 1000000 ≡ (not b || le (norm e.displacement) (whole 1000))
      go true = way-within-is e.displacement
      go false = refl

  way-length : leb way 1000000 ≡ true → (limit : Float) → is_usable limit e ≡ true → way ≡ length_of e
  unfolding way_for way_of millimetres_of is_usable is_refused
  way-length w limit u =
      let a : eqb e.refused 0 ≡ true = not-false _ (not-true _ (and_both _ _ u).0) in
      let i : way ≡ way_of (norm e.displacement) = way-is ∙ rw a in
      let n : le (norm e.displacement) (whole 1000) ≡ true = sym (way-within-is e.displacement) ∙ ap (λ (z : ℕ). leb z 1000000) (sym i) ∙ w in
      rw (i, n)

  module _ (m : Mileage) {s : Bool} (s-is : s ≡ sound_mileage m) where
    test-is : (s && ltb m.epochs 65535 && leb way 1000000) ≡ (sound_mileage m && ltb m.epochs 65535 && is_taken e)
    test-is = rw (s-is, way-taken)

    pub add-refused : (s && ltb m.epochs 65535 && leb way 1000000) ≡ false → Err BadTrip ≡ mileage_added m e
    unfolding mileage_added
    add-refused h = rw (sym test-is ∙ h)

    -- what an accepted addition tells
    pub record Accepted : Type 0 where
      pub is-sound : sound_mileage m ≡ true
      pub room : ltb m.epochs 65535 ≡ true
      pub within : leb way 1000000 ≡ true

    pub accepted : (s && ltb m.epochs 65535 && leb way 1000000) ≡ true → Accepted
    accepted h =
        let p = and_both (s && ltb m.epochs 65535) (leb way 1000000) h in
        let q = and_both s (ltb m.epochs 65535) p.0 in
        record { is-sound = sym s-is ∙ q.0; room = q.1; within = p.1 }

    pub add_goes : {u : Bool} → u ≡ rated m.limit e.chi e.pdop → (s && ltb m.epochs 65535 && leb way 1000000) ≡ true
        → Ok (grown m (not (eqb e.refused 0)) (not (not (eqb e.refused 0)) && u) way e.pulses) ≡ mileage_added m e
    unfolding mileage_added is_refused is_usable
    add_goes u-is h =
        rw (u-is, sym test-is ∙ h)
        (ap Ok (unused m (not (eqb e.refused 0)) (is_usable m.limit e) way (millimetres_of e.displacement) e.pulses (way-length (accepted h).within m.limit)))

    -- an epoch of use with a pulse
    pub add_driven : {u : Bool} → u ≡ rated m.limit e.chi e.pdop → (s && ltb m.epochs 65535 && leb way 1000000) ≡ true
        → (not (not (eqb e.refused 0)) && u && ltb 0 e.pulses) ≡ true → Ok (grown m false true way e.pulses) ≡ mileage_added m e
    add_driven {u} u-is h d =
        let p = (and_both (not (not (eqb e.refused 0)) && u) (ltb 0 e.pulses) d).0 in
        let q : not (eqb e.refused 0) ≡ false = not-true _ (and_both (not (not (eqb e.refused 0))) u p).0 in
        ap₂ (λ (a b : Bool). Ok (grown m a b way e.pulses)) (sym q) (sym p) ∙ add_goes u-is h

-- ---- the distance

-- a product divided, part by part
split : (a b c : ℕ) → 0 < c → a * b / c ≡ a / c * b + a % c * b / c
split a b c h =
    let e : a * b ≡ a % c * b + a / c * b * c = omega (arith, ap (λ (z : ℕ). z * b) (sym (div-add-mod' a c)), add-mul (a / c * c) (a % c) b, mul_assoc (a / c) c b, mul_assoc (a / c) b c, ap (λ (z : ℕ). a / c * z) (mul_comm c b)) in
    ap (λ (z : ℕ). z / c) e ∙ add-mul-div_right (a % c * b) (a / c * b) h ∙ omega arith

-- of numbers as the contract has them
module _ (a b c : ℕ) (pos : 0 < c) (few : c ≤ b) (small : b ≤ 4294836225) where
  pub product-fits : a % c * b ≤ 4294836225 * 4294836225
  product-fits = let l : a % c ≤ 4294836225 = omega (arith, mod-lt a pos) in mul-le-mul l small

  pub rest-small : a % c * b / c ≤ b
  rest-small = let l : a % c ≤ c = omega (arith, mod-lt a pos) in div-le_of_le-mul c (mul-le-mul_right b l)

  pub fits : a / c ≤ (9223372036854775807 - a % c * b / c) / b → a / c * b ≤ 9223372036854775807 - a % c * b / c
  fits h = let p : 0 < b = omega arith in (le-div_iff_mul-le p).0 h

  pub too_far : (9223372036854775807 - a % c * b / c) / b < a / c → Err BadTrip ≡ distance_held (scaled a b c)
  unfolding distance_held scaled
  too_far h =
      let p : 0 < b = omega arith in
      let g : 9223372036854775807 - a % c * b / c < a / c * b = (div-lt_iff_lt-mul p).0 h in
      let k : 2 ^ 63 ≤ a * b / c = omega (arith, split a b c pos, g, rest-small) in
      rw (le-ltb (a * b / c) (2 ^ 63) k)

  pub near : a / c ≤ (9223372036854775807 - a % c * b / c) / b → Ok (a / c * b + a % c * b / c) ≡ distance_held (scaled a b c)
  unfolding distance_held scaled
  near h =
      let k : a * b / c < 2 ^ 63 = omega (arith, split a b c pos, fits h, rest-small) in
      rw (lt-ltb (a * b / c) (2 ^ 63) k) (ap Ok (sym (split a b c pos)))
