-- What users of a trip lean on: its carrier total is the sum of its epochs' millimetres, each below the exact length by less than a millimetre, and a displacement that is
-- not finite enters no total. Assumes nothing.
use Rattle.std.specs.Prelude.{Ok, Err}
use mathlib.Core.Path.{◌≡◌, refl, ap, subst}
use mathlib.Core.List.{List, [], ◌∷◌}
use mathlib.Core.Bool.{Bool, true, false, cond, and-false, ◌&&◌, ◌||◌}
use Prim.Native.Nat.{ℕ, ◌+◌, ◌-◌, ◌*◌, ◌≤◌, ◌<◌}
use native.Mathlib.Nat.{le_trans, div-le_self, add-mul}
use native.Mathlib.Omega.{arith}
use lib.Dec.{ltb, eqb, lit≤}
use lib.ListN.{length}
use borrow.Author.Tests.{leb-true}
use lib.Ieee.Scale.{finite}
use Rattle.exact.specs.Value.{scale, magnitude}
use Rattle.lists.specs.Walk.{fold, every}
use Rattle.lists.proofs.Walk.{and_both}
use Rattle.numeric.specs.Vec3.{norm}
use Rattle.numeric.specs.Whole.{whole_times}
use Rattle.numeric.specs.declared.refusal.Refusal.TheVariants.{BadTrip}
use Rattle.numeric.proofs.WholeLaws.{Greatest, whole-greatest}
use Rattle.trip.specs.Measure.{millimetres_of, measurable}
use Rattle.trip.specs.Trip.{Leg, carrier_millimetres, pulses_of, odometer, apart, greatest, greatest_of, report_of, trip_of, sound_trip, with_epoch, added, trip_left, with_leg, counting, narrow}
use Rattle.trip.specs.declared.trip.Trip.{Trip}
use Rattle.trip.specs.declared.trip.Report.{Report}
use Rattle.trip.proofs.MeasureLaws.{measured, component_not_finite}
use Rattle.trip.proofs.BoundsLaws.{Accepted, bounds, counted-sound, accepted}
use Rattle.trip.proofs.TripLaws.{after-refused, start-sound, trip_law}

-- ---- the carrier total

-- for every list of calls, from the start: the millimetres of the epochs that count, added
pub carrier-law : (rate : ℕ) (legs : List Leg) → 0 < rate → every narrow legs ≡ true → (fold with_leg (trip_of rate []) legs).carrier ≡ carrier_millimetres (counting legs)
unfolding trip_of
carrier-law rate legs h n = ap (λ (t : Trip). t.carrier) (trip_law rate legs h n)

-- the exact lengths of some epochs in units, of which a metre has `scale`, added
abbrev exact_of : List Leg → ℕ
exact_of [] = 0
exact_of (l ∷ legs) = magnitude (norm l.displacement) + exact_of legs

-- a total is not above the exact one, and less than a millimetre for each epoch below it
pub record Near (total epochs exact : ℕ) : Type 0 where
  pub not-above : total * scale ≤ 1000 * exact
  pub near : 1000 * exact ≤ (total + epochs) * scale

one_more : (a b s m n p q : ℕ) → a * s ≤ 1000 * m → 1000 * m ≤ (a + 1) * s → b * s ≤ 1000 * n → 1000 * n ≤ (b + p) * s → q ≡ p + 1 → ((a + b) * s ≤ 1000 * (m + n)) × (1000 * (m + n) ≤ ((a + b) + q) * s)
one_more a b s m n p q h i j k e =
    let u : (a + b) * s ≡ a * s + b * s = add-mul a b s in
    let v : (a + 1) * s ≡ a * s + 1 * s = add-mul a 1 s in
    let w : (b + p) * s ≡ b * s + p * s = add-mul b p s in
    let x : ((a + b) + (p + 1)) * s ≡ (a + b) * s + (p + 1) * s = add-mul (a + b) (p + 1) s in
    let y : (p + 1) * s ≡ p * s + 1 * s = add-mul p 1 s in
    (omega arith, rw e (omega arith))

pub carrier-near : (legs : List Leg) → Near (carrier_millimetres legs) (length legs) (exact_of legs)
unfolding carrier_millimetres millimetres_of
carrier-near [] = record { not-above = omega arith; near = omega arith }
carrier-near (l ∷ legs) =
    let g : Greatest (whole_times 1000 (norm l.displacement)) 1000 (norm l.displacement) = whole-greatest 1000 (norm l.displacement) in
    let r = carrier-near legs in
    let both = one_more _ _ scale _ _ (length legs) (length (l ∷ legs)) g.not-above (omega (arith, g.next-above)) r.not-above r.near (omega arith) in
    record { not-above = both.0; near = both.1 }

-- ---- 16

-- an epoch with a component that is an infinity or a NaN is refused by every trip, and leaves it
module _ (t : Trip) (l : Leg) (h : (finite l.displacement.x && finite l.displacement.y && finite l.displacement.z) ≡ false) where
  fails : (sound_trip t && ltb t.epochs 65535 && measurable l.displacement) ≡ false
  fails = rw (component_not_finite l.displacement h) (and-false (sound_trip t && ltb t.epochs 65535))

  pub not_finite-refused : added t l.displacement l.pulses ≡ Err BadTrip
  unfolding added
  not_finite-refused = rw fails

  pub not_finite-left : with_leg t l ≡ t
  not_finite-left = after-refused t l fails

-- ---- nothing overflows: 64 bits hold every total and difference

record Small (t : Trip) : Type 0 where
  is-sound : sound_trip t ≡ true
  greatest : t.greatest ≤ 4294836225000000

apart-small : (a b m : ℕ) → a ≤ m → b ≤ m → apart a b ≤ m
unfolding apart
apart-small a b m h k = go (ltb a b)
  where
    go : (c : Bool) → cond c (b - a) (a - b) ≤ m
    go true = omega arith
    go false = omega arith

odometer-small : (rate pulses : ℕ) → pulses ≤ 4294836225 → odometer rate pulses ≤ 4294836225000000
unfolding odometer
odometer-small rate pulses h = le_trans (div-le_self (pulses * 1000000) rate) (omega arith)

counted-small : (t : Trip) (millimetres pulses : ℕ) → Small t → t.epochs < 65535 → millimetres ≤ 1000000 → pulses ≤ 65535 → Small (with_epoch t millimetres pulses)
unfolding with_epoch
counted-small t millimetres pulses s l h k =
    let b = bounds t s.is-sound in
    let d = apart (t.carrier + millimetres) (odometer t.rate (t.pulses + pulses)) in
    let m : d ≤ 4294836225000000 = apart-small (t.carrier + millimetres) (odometer t.rate (t.pulses + pulses)) 4294836225000000 (omega (arith, b)) (odometer-small t.rate (t.pulses + pulses) (omega (arith, b))) in
    record { is-sound = counted-sound t millimetres pulses s.is-sound l h k; greatest = go (eqb t.epochs 0 || ltb t.greatest d) m }
  where
    go : (c : Bool) {d : ℕ} → d ≤ 4294836225000000 → cond c d t.greatest ≤ 4294836225000000
    go true m = m
    go false m = s.greatest

after_small : (t : Trip) (l : Leg) → Small t → narrow l ≡ true → Small (with_leg t l)
unfolding with_leg added trip_left narrow
after_small t l s n = go (sound_trip t && ltb t.epochs 65535 && measurable l.displacement) (accepted t l.displacement)
  where
    go : (b : Bool) → (b ≡ true → Accepted t l.displacement) → Small (trip_left t (cond b (Ok (with_epoch t (millimetres_of l.displacement) l.pulses)) (Err BadTrip)))
    go false f = s
    go true f =
        let a = f refl in counted-small t (millimetres_of l.displacement) l.pulses s a.room (measured l.displacement a.is-measurable).short (leb-true l.pulses 65535 n)

fold_small : (legs : List Leg) (t : Trip) → Small t → every narrow legs ≡ true → Small (fold with_leg t legs)
unfolding fold every
fold_small [] t s n = s
fold_small (l ∷ legs) t s n = let m = and_both (narrow l) (every narrow legs) n in fold_small legs (with_leg t l) (after_small t l s m.0) m.1

-- the report of a trip, for every list of calls from the start
pub record Bounded (r : Report) : Type 0 where
  pub carrier : r.carrier ≤ 65535000000
  pub odometer : r.odometer ≤ 4294836225000000
  pub greatest : r.greatest ≤ 4294836225000000

list-bounded : (rate : ℕ) (legs : List Leg) → Small (trip_of rate legs) → Bounded (report_of rate legs)
unfolding trip_of report_of
list-bounded rate legs s =
    let b = bounds (trip_of rate legs) s.is-sound in
    record { carrier = omega (arith, b); odometer = odometer-small rate (pulses_of legs) (omega (arith, b)); greatest = s.greatest }

start_small : (rate : ℕ) → 0 < rate → Small (trip_of rate [])
unfolding trip_of greatest_of greatest
start_small rate h = record { is-sound = start-sound rate h; greatest = lit≤ tt }

pub report-bounded : (rate : ℕ) (legs : List Leg) → 0 < rate → every narrow legs ≡ true → Bounded (report_of rate (counting legs))
report-bounded rate legs h n = list-bounded rate (counting legs) (subst Small (trip_law rate legs h n) (fold_small legs (trip_of rate []) (start_small rate h) n))
