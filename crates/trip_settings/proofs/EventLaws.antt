-- A trip over a list of events, new settings among them: its trip and report are those of the displacements, each worked out under the settings in force. Assumes nothing.
use Rattle.std.specs.Prelude.{Result, Ok, Err}
use mathlib.Core.Path.{◌≡◌, refl, ap, ◌∙◌}
use mathlib.Core.List.{List, [], ◌∷◌, ◌++◌, append_assoc}
use mathlib.Core.Bool.{Bool, true, false, cond}
use Prim.Native.Nat.{ℕ, ◌<◌}
use lib.Dec.{leb}
use Rattle.lists.specs.Walk.{fold, every}
use Rattle.lists.proofs.Walk.{and_both}
use Rattle.numeric.specs.declared.refusal.Refusal.{Refusal}
use Rattle.numeric.specs.declared.refusal.Refusal.TheVariants.{SettingOutOfRange}
use Rattle.tdcp.specs.Valid.{settings_pass}
use Rattle.tdcp.specs.Displacement.{displacement_of}
use Rattle.tdcp.specs.declared.displacement.Delta.{Delta}
use Rattle.tdcp.specs.declared.displacement.Settings.{Settings}
use Rattle.tdcp.proofs.DisplacementSound.{displacement-accepted}
use Rattle.trip.specs.Trip.{Leg, report_of, trip_of, sound_trip, added, reported, trip_left, with_leg, counting, narrow}
use Rattle.trip.specs.Words.{added_held}
use Rattle.trip.specs.declared.trip.Trip.{Trip}
use Rattle.trip.proofs.BoundsLaws.{after-sound}
use Rattle.trip.proofs.TripLaws.{start-sound, start-goes, trip_law, report-law}
use Rattle.trip_settings.specs.Drive.{under_new, tested, begun_of, changed_of, travel_with, travel_by, travelled_of, drive_after, trip_after}
use Rattle.trip_settings.specs.Events.{Move, TripEvent, epoch, change, move_input, drive_next, changed_to, in_force, legs_of, legs_under, EachAccepted, narrow_event}
use Rattle.trip_settings.specs.declared.drive.Drive.{Drive}

-- ---- one displacement

with-after : (t : Trip) (d : Delta) (s : Result Trip Refusal) → trip_after t (travel_with d s) ≡ trip_left t s
unfolding trip_left
with-after t d (Err r) = refl
with-after t d (Ok u) = refl

-- it leaves the trip that its epochs leave
pub move-after : (t : Trip) (pulses : ℕ) (a : Result Delta Refusal) → trip_after t (travel_by (Ok t) pulses a) ≡ fold with_leg t (legs_of pulses a)
unfolding travel_by added_held legs_of fold with_leg
move-after t pulses (Err r) = refl
move-after t pulses (Ok d) = with-after t d (added t d.delta pulses)

pub fold-append : {S A : Type 0} (g : S → A → S) (s : S) (xs ys : List A) → fold g s (xs ++ ys) ≡ fold g (fold g s xs) ys
unfolding fold
fold-append g s [] ys = refl
fold-append g s (x ∷ xs) ys = fold-append g (g s x) xs ys

-- it keeps the trip sound
move-sound : (t : Trip) (pulses : ℕ) (a : Result Delta Refusal) → sound_trip t ≡ true → leb pulses 65535 ≡ true → sound_trip (fold with_leg t (legs_of pulses a)) ≡ true
unfolding legs_of fold narrow
move-sound t pulses (Err r) s n = s
move-sound t pulses (Ok d) s n = after-sound t (record { displacement = d.delta; pulses = pulses }) s n

move-narrow : (pulses : ℕ) (a : Result Delta Refusal) (legs : List Leg) → leb pulses 65535 ≡ true → every narrow legs ≡ true → every narrow (legs_of pulses a ++ legs) ≡ true
unfolding legs_of every narrow
move-narrow pulses (Err r) legs n h = h
move-narrow pulses (Ok d) legs n h = rw (n, h)

-- ---- a change

-- new settings are taken where 3 lets them pass: the trip is sound, so that 16 does not apply
change-taken : (t : Trip) (s r : Settings) → sound_trip t ≡ true → drive_after (record { trip = t; settings = s }) (changed_of (record { trip = t; settings = s }) r) ≡ record { trip = t; settings = changed_to s r }
unfolding under_new tested
change-taken t s r h = rw h (go (settings_pass r))
  where
    go : (b : Bool) → drive_after (record { trip = t; settings = s }) (cond b (Ok (record { trip = t; settings = r })) (Err SettingOutOfRange)) ≡ record { trip = t; settings = cond b r s }
    go true = refl
    go false = refl

-- a refused change leaves the trip and the settings in force, whatever the trip
pub change-refused : (v : Drive) (r : Settings) → settings_pass r ≡ false → drive_next v (change r) ≡ v
unfolding drive_next under_new
change-refused v r h = rw h

-- a refused displacement leaves the trip, its epoch and its pulses uncounted
pub move-refused : (v : Drive) (m : Move) (pulses : ℕ) (r : Refusal) → displacement_of (move_input v.settings m) ≡ Err r → drive_next v (epoch m pulses) ≡ v
unfolding drive_next travelled_of travel_by
move-refused v m pulses r h = rw h

-- ---- a list of events

-- the trip after the events is that after their epochs
events-from : (es : List TripEvent) (t : Trip) (s : Settings) → sound_trip t ≡ true → every narrow_event es ≡ true
    → fold drive_next (record { trip = t; settings = s }) es ≡ record { trip = fold with_leg t (legs_under s es); settings = in_force s es }
unfolding fold every narrow_event drive_next legs_under in_force travelled_of
events-from [] t s h n = refl
events-from (epoch m pulses ∷ es) t s h n =
    let b = and_both (leb pulses 65535) (every narrow_event es) n in
    let a = displacement_of (move_input s m) in
    rw (move-after t pulses a, fold-append with_leg t (legs_of pulses a) (legs_under s es))
    (events-from es (fold with_leg t (legs_of pulses a)) s (move-sound t pulses a h b.0) b.1)
events-from (change r ∷ es) t s h n =
    rw (change-taken t s r h) (events-from es t (changed_to s r) h n)

pub legs_narrow : (es : List TripEvent) (s : Settings) → every narrow_event es ≡ true → every narrow (legs_under s es) ≡ true
unfolding every narrow_event legs_under
legs_narrow [] s n = refl
legs_narrow (epoch m pulses ∷ es) s n =
    let b = and_both (leb pulses 65535) (every narrow_event es) n in move-narrow pulses (displacement_of (move_input s m)) (legs_under s es) b.0 (legs_narrow es s b.1)
legs_narrow (change r ∷ es) s n = legs_narrow es (changed_to s r) n

-- a trip begins where its settings and its rate pass
pub begun-goes : (s : Settings) (rate : ℕ) → settings_pass s ≡ true → 0 < rate → begun_of s rate ≡ Ok (record { trip = trip_of rate []; settings = s })
unfolding under_new
begun-goes s rate p h = rw (p, start-goes rate h)

-- For every list of events, from the start: the trip is that of the displacements worked out under the settings in force at each, and those are in force.
pub events-law : (rate : ℕ) (s : Settings) (es : List TripEvent) → 0 < rate → every narrow_event es ≡ true
    → fold drive_next (record { trip = trip_of rate []; settings = s }) es ≡ record { trip = trip_of rate (counting (legs_under s es)); settings = in_force s es }
events-law rate s es h n =
    events-from es (trip_of rate []) s (start-sound rate h) n
    ∙ ap (λ (t : Trip). record { trip = t; settings = in_force s es }) (trip_law rate (legs_under s es) h (legs_narrow es s n))

-- and so is the report
pub events-report : (rate : ℕ) (s : Settings) (es : List TripEvent) → 0 < rate → every narrow_event es ≡ true
    → reported (fold drive_next (record { trip = trip_of rate []; settings = s }) es).trip ≡ Ok (report_of rate (counting (legs_under s es)))
events-report rate s es h n =
    ap (λ (v : Drive). reported v.trip) (events-from es (trip_of rate []) s (start-sound rate h) n)
    ∙ report-law rate (legs_under s es) h (legs_narrow es s n)

-- the epochs up to some point are those under the settings in force until then, and those after it those under the settings in force there
pub legs_split : (es fs : List TripEvent) (s : Settings) → legs_under s (es ++ fs) ≡ legs_under s es ++ legs_under (in_force s es) fs
unfolding legs_under in_force
legs_split [] fs s = refl
legs_split (epoch m pulses ∷ es) fs s = rw (legs_split es fs s, append_assoc)
legs_split (change r ∷ es) fs s = legs_split es fs (changed_to s r)

-- under the old settings up to the change and under the new after it
pub legs_change : (es fs : List TripEvent) (s r : Settings) → settings_pass r ≡ true → legs_under s (es ++ change r ∷ fs) ≡ legs_under s es ++ legs_under r fs
unfolding legs_under
legs_change es fs s r h = legs_split es (change r ∷ fs) s ∙ rw h

-- Each accepted displacement of the trip, before and after a change, has what every accepted one has with its own settings, demand 3 of every round included.
pub each-accepted : (es : List TripEvent) (s : Settings) → EachAccepted s es
unfolding EachAccepted
each-accepted [] s = tt
each-accepted (epoch m pulses ∷ es) s = (displacement-accepted (move_input s m), each-accepted es s)
each-accepted (change r ∷ es) s = each-accepted es (changed_to s r)
