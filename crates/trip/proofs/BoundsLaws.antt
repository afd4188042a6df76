-- What 16 lets pass: the bounds of a trip, which no addition leaves. Assumes nothing.
use Rattle.std.specs.Prelude.{Ok, Err}
use mathlib.Core.Path.{◌≡◌, refl}
use Prim.Native.Nat.{ℕ, ◌*◌, ◌≤◌, ◌<◌}
use native.Mathlib.Omega.{arith}
use mathlib.Core.Bool.{Bool, true, false, cond, ◌&&◌}
use lib.Dec.{ltb}
use borrow.Author.Tests.{lt-ltb, le-leb, ltb-true, leb-true}
use Rattle.lists.proofs.Walk.{and_both}
use Rattle.numeric.specs.declared.vec3.Vec3.{Vec3}
use Rattle.numeric.specs.declared.refusal.Refusal.TheVariants.{BadTrip}
use Rattle.trip.specs.Measure.{millimetres_of, measurable}
use Rattle.trip.specs.Trip.{Leg, sound_trip, with_epoch, added, trip_left, with_leg, narrow}
use Rattle.trip.specs.declared.trip.Trip.{Trip}
use Rattle.trip.proofs.MeasureLaws.{measured}

pub record Bounds (t : Trip) : Type 0 where
  pub rated : 0 < t.rate
  pub few : t.epochs ≤ 65535
  pub carrier : t.carrier ≤ 1000000 * t.epochs
  pub pulses : t.pulses ≤ 65535 * t.epochs

pub bounds : (t : Trip) → sound_trip t ≡ true → Bounds t
unfolding sound_trip
bounds t h =
    let c = and_both _ _ h in
    let b = and_both _ _ c.0 in
    let a = and_both _ _ b.0 in
    record { rated = ltb-true _ _ a.0; few = leb-true _ _ a.1; carrier = leb-true _ _ b.1; pulses = leb-true _ _ c.1 }

pub bounded : (t : Trip) → Bounds t → sound_trip t ≡ true
unfolding sound_trip
bounded t b = rw (lt-ltb _ _ b.rated, le-leb _ _ b.few, le-leb _ _ b.carrier, le-leb _ _ b.pulses)

-- one epoch more
pub counted-sound : (t : Trip) (millimetres pulses : ℕ) → sound_trip t ≡ true → t.epochs < 65535 → millimetres ≤ 1000000 → pulses ≤ 65535 → sound_trip (with_epoch t millimetres pulses) ≡ true
unfolding with_epoch
counted-sound t millimetres pulses s l h k =
    let b = bounds t s in
    bounded (with_epoch t millimetres pulses) (record { rated = b.rated; few = omega arith; carrier = omega arith; pulses = omega arith })

-- what an accepted addition tells
pub record Accepted (t : Trip) (d : Vec3) : Type 0 where
  pub is-sound : sound_trip t ≡ true
  pub room : t.epochs < 65535
  pub is-measurable : measurable d ≡ true

pub accepted : (t : Trip) (d : Vec3) → (sound_trip t && ltb t.epochs 65535 && measurable d) ≡ true → Accepted t d
accepted t d h =
    let p = and_both (sound_trip t && ltb t.epochs 65535) (measurable d) h in
    let q = and_both (sound_trip t) (ltb t.epochs 65535) p.0 in
    record { is-sound = q.0; room = ltb-true _ _ q.1; is-measurable = p.1 }

-- an accepted addition keeps the trip sound, and so does a refused one
pub after-sound : (t : Trip) (l : Leg) → sound_trip t ≡ true → narrow l ≡ true → sound_trip (with_leg t l) ≡ true
unfolding with_leg added trip_left narrow
after-sound t l s n = go (sound_trip t && ltb t.epochs 65535 && measurable l.displacement) (accepted t l.displacement)
  where
    go : (b : Bool) → (b ≡ true → Accepted t l.displacement) → sound_trip (trip_left t (cond b (Ok (with_epoch t (millimetres_of l.displacement) l.pulses)) (Err BadTrip))) ≡ true
    go false f = s
    go true f =
        let a = f refl in
        counted-sound t (millimetres_of l.displacement) l.pulses s a.room (measured l.displacement a.is-measurable).short (leb-true l.pulses 65535 n)
