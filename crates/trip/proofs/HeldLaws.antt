-- A trip held as six words: which words 16 lets pass, and that the four calls, from the start on, answer as the list of the epochs that count says. Assumes nothing.
use Rattle.numeric.specs.Refusal.{answer_number}
use Rattle.std.specs.Prelude.{Result, Ok, Err}
use Rattle.numeric.specs.declared.refusal.Refusal.{Refusal}
use mathlib.Core.Path.{◌≡◌, refl, ap, ◌∙◌, subst}
use mathlib.Core.Bool.{Bool, true, false, cond, not, ◌&&◌, ◌||◌, and-true, and-false}
use mathlib.Core.List.{List, [], ◌∷◌, map}
use Prim.Native.Nat.{ℕ, ◌*◌, ◌/◌, ◌≤◌, ◌<◌}
use native.Mathlib.Nat.{zero-div}
use native.Mathlib.Omega.{arith}
use lib.Dec.{leb, ltb, eqb, lit≤}
use lib.ListN.{length, get_or}
use lib.Ieee.{Float}
use borrow.Author.Tests.{le-ltb, le-leb, lt-leb, ltb-true, ltb-false}
use Rattle.lists.specs.Walk.{collect, fold, every}
use Rattle.numeric.specs.Vec3.{vector_at}
use Rattle.numeric.specs.declared.vec3.Vec3.{Vec3}
use Rattle.numeric.specs.declared.refusal.Refusal.TheVariants.{BadTrip, NoDistance}
use Rattle.trip.specs.Measure.{millimetres_of, measurable}
use Rattle.trip.specs.Trip.{Leg, carrier_millimetres, pulses_of, odometer, greatest, first_with, greatest_of, reached_of, trip_of, sound_trip, started, with_epoch, added, reported, fuelled, trip_left, with_leg, measurables, counting, narrow}
use Rattle.trip.specs.Words.{Addition, too_wide, trip_from, held_of, words_of, added_held, added_words, reported_held, reported_words, fuelled_held, fuelled_words, words_after, report_after, fuel_after, sound_words, leg_of, words_next, words_after_calls, counted_legs}
use Rattle.trip.specs.declared.trip.Trip.{Trip}
use Rattle.trip.proofs.BoundsLaws.{Accepted, accepted}
use Rattle.trip.proofs.TripLaws.{start-sound, start-goes, trip_law, fold-sound}

-- ---- 16: which words are refused

sound-parts : (rate epochs : ℕ) (carrier pulses : Bool)
    → (ltb 0 rate && leb rate 65535 && leb epochs 65535 && carrier && pulses) ≡ (not (ltb 65535 rate || ltb 4294967295 epochs) && (ltb 0 rate && leb epochs 65535 && carrier && pulses))
sound-parts rate epochs carrier pulses = go (ltb 65535 rate) refl (ltb 4294967295 epochs) refl
  where
    go : (a : Bool) → ltb 65535 rate ≡ a → (b : Bool) → ltb 4294967295 epochs ≡ b
        → (ltb 0 rate && leb rate 65535 && leb epochs 65535 && carrier && pulses) ≡ (not (a || b) && (ltb 0 rate && leb epochs 65535 && carrier && pulses))
    go true e b f = rw (lt-leb rate 65535 (ltb-true _ _ e), and-false (ltb 0 rate))
    go false e true f = rw (lt-leb epochs 65535 (omega (arith, ltb-true 4294967295 epochs f)), and-false (ltb 0 rate && leb rate 65535))
    go false e false f = rw (le-leb rate 65535 (ltb-false _ _ e), and-true (ltb 0 rate))

-- sound words are those that hold a sound trip
pub sound-held : (w : List ℕ) → sound_words w ≡ (not (too_wide w) && sound_trip (trip_from w))
unfolding sound_words too_wide sound_trip
sound-held w = sound-parts (get_or w 0 0) (get_or w 1 0) (leb (get_or w 2 0) (1000000 * get_or w 1 0)) (leb (get_or w 3 0) (65535 * get_or w 1 0))

module _ (w : List ℕ) where
  abbrev t : Trip
  t = trip_from w

  -- The report is refused by 16 exactly where the words are not sound.
  pub report-number : answer_number (reported_words w) ≡ cond (sound_words w) 0 16
  unfolding held_of reported_held reported
  report-number = rw (sound-held w) (go (too_wide w) (sound_trip t) refl)
    where
      go : (a b : Bool) → sound_trip t ≡ b → answer_number (reported_held (cond a (Err BadTrip) (Ok t))) ≡ cond (not a && b) 0 16
      go true b e = refl
      go false true e = rw e
      go false false e = rw e

  -- So is the fuel, and where they are sound by 17 exactly at zero carrier distance.
  pub fuel-number : (millilitres : ℕ) → answer_number (fuelled_words w millilitres) ≡ cond (sound_words w) (cond (eqb (get_or w 2 0) 0) 17 0) 16
  unfolding held_of fuelled_held fuelled
  fuel-number millilitres = rw (sound-held w) (go (too_wide w) (sound_trip t) refl (eqb (get_or w 2 0) 0) refl)
    where
      go : (a b : Bool) → sound_trip t ≡ b → (z : Bool) → eqb (get_or w 2 0) 0 ≡ z
          → answer_number (fuelled_held (cond a (Err BadTrip) (Ok t)) millilitres) ≡ cond (not a && b) (cond z 17 0) 16
      go true b e z f = refl
      go false true e true f = rw (e, f)
      go false true e false f = rw (e, f)
      go false false e z f = rw e

  -- One epoch more is refused by 16 exactly where they are not sound, the trip is full, or the displacement is not finite or longer than 1,000 m.
  pub held_number : (d : Vec3) (pulses : ℕ) → answer_number (added_held (held_of w) d pulses) ≡ cond (sound_words w && ltb (get_or w 1 0) 65535 && measurable d) 0 16
  unfolding held_of added_held added
  held_number d pulses = rw (sound-held w) (go (too_wide w) (sound_trip t) refl (ltb (get_or w 1 0) 65535) refl (measurable d) refl)
    where
      go : (a b : Bool) → sound_trip t ≡ b → (r : Bool) → ltb (get_or w 1 0) 65535 ≡ r → (m : Bool) → measurable d ≡ m
          → answer_number (added_held (cond a (Err BadTrip) (Ok t)) d pulses) ≡ cond (not a && b && r && m) 0 16
      go true b e r f m g = refl
      go false false e r f m g = rw e
      go false true e false f m g = rw (e, f)
      go false true e true f false g = rw (e, f, g)
      go false true e true f true g = rw (e, f, g)

  pub add-number : (d : List Float) (pulses : ℕ) → answer_number (added_words w d pulses) ≡ cond (sound_words w && ltb (get_or w 1 0) 65535 && measurable (vector_at d 0)) 0 16
  add-number d pulses = held_number (vector_at d 0) pulses

-- ---- calls one after the other

-- a trip whose numbers its words can hold
pub record WordsHeld (t : Trip) : Type 0 where
  pub rate : t.rate ≤ 65535
  pub epochs : t.epochs ≤ 65535

-- its words hold it
pub words-held : (t : Trip) → WordsHeld t → held_of (words_of t) ≡ Ok t
unfolding held_of too_wide
words-held t h = rw (le-ltb 65535 t.rate h.rate, le-ltb 4294967295 t.epochs (omega (arith, h.epochs)))

counted-held : (t : Trip) (millimetres pulses : ℕ) → WordsHeld t → t.epochs < 65535 → WordsHeld (with_epoch t millimetres pulses)
unfolding with_epoch
counted-held t millimetres pulses h l = record { rate = h.rate; epochs = omega arith }

after-held : (t : Trip) (l : Leg) → WordsHeld t → WordsHeld (with_leg t l)
unfolding with_leg added trip_left
after-held t l h = go (sound_trip t && ltb t.epochs 65535 && measurable l.displacement) (accepted t l.displacement)
  where
    go : (b : Bool) → (b ≡ true → Accepted t l.displacement) → WordsHeld (trip_left t (cond b (Ok (with_epoch t (millimetres_of l.displacement) l.pulses)) (Err BadTrip)))
    go false f = h
    go true f = counted-held t (millimetres_of l.displacement) l.pulses h (f refl).room

kept-words : (t : Trip) (s : Result Trip Refusal) → words_after s (words_of t) ≡ words_of (trip_left t s)
unfolding trip_left
kept-words t (Err r) = refl
kept-words t (Ok u) = refl

next-words : (t : Trip) (a : Addition) → WordsHeld t → words_next (words_of t) a ≡ words_of (with_leg t (leg_of a))
unfolding words_next added_held with_leg leg_of
next-words t a h = rw (words-held t h) (kept-words t (added t (vector_at a.delta 0) a.pulses))

all_words : (calls : List Addition) (t : Trip) → WordsHeld t → fold words_next (words_of t) calls ≡ words_of (fold with_leg t (map leg_of calls))
unfolding fold
all_words [] t h = refl
all_words (a ∷ calls) t h = rw (next-words t a h) (all_words calls (with_leg t (leg_of a)) (after-held t (leg_of a) h))

pub fold-held : (legs : List Leg) (t : Trip) → WordsHeld t → WordsHeld (fold with_leg t legs)
unfolding fold
fold-held [] t h = h
fold-held (l ∷ legs) t h = fold-held legs (with_leg t l) (after-held t l h)

-- What the calls on six words answer after these epochs. The words, the report and the fuel are those of the list.
pub record Answers (rate : ℕ) (legs : List Leg) (words : List ℕ) : Type 0 where
  pub words_are : words ≡ rate ∷ length legs ∷ carrier_millimetres legs ∷ pulses_of legs ∷ greatest_of rate legs ∷ reached_of rate legs ∷ []
  pub report-number : answer_number (reported_words words) ≡ 0
  pub report-is : (before : List ℕ)
      → report_after (reported_words words) before ≡ carrier_millimetres legs ∷ odometer rate (pulses_of legs) ∷ greatest_of rate legs ∷ reached_of rate legs ∷ []
  pub fuel-number : (millilitres : ℕ) → answer_number (fuelled_words words millilitres) ≡ cond (eqb (carrier_millimetres legs) 0) 17 0
  pub fuel-is : (millilitres before : ℕ)
      → fuel_after (fuelled_words words millilitres) before ≡ cond (eqb (carrier_millimetres legs) 0) before (millilitres * 1000000 / carrier_millimetres legs)

-- a sound trip that is a list's and that words can hold answers from them
module _ (rate : ℕ) (legs : List Leg) (h : WordsHeld (trip_of rate legs)) (s : sound_trip (trip_of rate legs) ≡ true) where
  pub list-answers : Answers rate legs (words_of (trip_of rate legs))
  unfolding reported_held fuelled_held reported fuelled trip_of
  list-answers =
      record {
        words_are = refl;
        report-number = rw (words-held (trip_of rate legs) h, s);
        report-is = λ before. rw (words-held (trip_of rate legs) h, s);
        fuel-number = λ millilitres. rw (words-held (trip_of rate legs) h, s) (number (eqb (carrier_millimetres legs) 0) (millilitres * 1000000 / carrier_millimetres legs));
        fuel-is = λ millilitres before. rw (words-held (trip_of rate legs) h, s) (per (eqb (carrier_millimetres legs) 0) before (millilitres * 1000000 / carrier_millimetres legs));
      }
    where
      number : (b : Bool) (m : ℕ) → answer_number (cond b (Err NoDistance) (Ok m)) ≡ cond b 17 0
      number true m = refl
      number false m = refl

      per : (b : Bool) (before m : ℕ) → fuel_after (cond b (Err NoDistance) (Ok m)) before ≡ cond b before m
      per true before m = refl
      per false before m = refl

-- For every rate from 1 to 65,535, whatever the words held before, and every list of additions with 16-bit pulses, refused ones included: the calls answer from
-- the list of the epochs that count.
module _ (rate : ℕ) (some : 0 < rate) (fits : rate ≤ 65535) (before : List ℕ) where
  pub start-held : WordsHeld (trip_of rate [])
  unfolding trip_of
  start-held = record { rate = fits; epochs = lit≤ tt }

  pub start-number : answer_number (started rate) ≡ 0
  start-number = rw (start-goes rate some)

  pub calls-law : (calls : List Addition) → every narrow (map leg_of calls) ≡ true → Answers rate (counted_legs calls) (words_after_calls rate before calls)
  unfolding words_after_calls counted_legs
  calls-law calls n =
      let legs = map leg_of calls in
      let e : fold with_leg (trip_of rate []) legs ≡ trip_of rate (counting legs) = trip_law rate legs some n in
      let h : WordsHeld (trip_of rate (counting legs)) = subst WordsHeld e (fold-held legs (trip_of rate []) start-held) in
      let s : sound_trip (trip_of rate (counting legs)) ≡ true = subst (λ (t : Trip). sound_trip t ≡ true) e (fold-sound legs (trip_of rate []) (start-sound rate some) n) in
      rw (start-goes rate some, all_words calls (trip_of rate []) start-held, e) (list-answers rate (counting legs) h s)

  -- just after the start the report is all zeros
  pub start-report : (lent : List ℕ) → report_after (reported_words (words_after_calls rate before [])) lent ≡ 0 ∷ 0 ∷ 0 ∷ 0 ∷ []
  unfolding counted_legs counting measurables collect every carrier_millimetres pulses_of odometer greatest_of reached_of greatest first_with
  start-report lent = (calls-law [] refl).report-is lent ∙ ap (λ (n : ℕ). 0 ∷ n ∷ 0 ∷ 0 ∷ []) (zero-div rate)
