-- The trip that calls leave, one after the other from the start, is that of the list of their accepted epochs, and so is its report, for every list. Assumes nothing.
use Rattle.std.specs.Prelude.{Result, Ok, Err}
use Rattle.numeric.specs.declared.refusal.Refusal.{Refusal}
use mathlib.Core.Path.{◌≡◌, refl, sym, ap, ap₂, ◌∙◌, subst}
use mathlib.Core.List.{List, [], ◌∷◌, ◌++◌, append_assoc, append-nil}
use mathlib.Core.Bool.{Bool, true, false, cond, ◌&&◌, ◌||◌, and-false, and-true}
use Prim.Native.Nat.{ℕ, zero, suc, ◌+◌, ◌-◌, ◌≤◌, ◌<◌, max}
use native.Mathlib.Nat.{le_refl, le_step}
use native.Mathlib.Numerals.{add-one}
use native.Mathlib.Omega.{arith}
use lib.Dec.{leb, ltb, eqb, lit≤}
use lib.ListN.{length, take, length-append}
use lib.Seq.{take-append-le, take_all, take-nil}
use borrow.Author.Tests.{lt-ltb, eq-eqb, ne_eqb, ltb-true, ltb-false}
use lib.Ieee.{le}
use Rattle.exact.specs.Float.{whole}
use Rattle.lists.specs.Walk.{collect, fold, every}
use Rattle.lists.proofs.Walk.{and_both}
use Rattle.numeric.specs.Vec3.{norm}
use Rattle.numeric.specs.declared.vec3.Vec3.{Vec3}
use Rattle.numeric.specs.declared.refusal.Refusal.TheVariants.{BadTrip}
use Rattle.trip.specs.Measure.{millimetres_of, measurable}
use Rattle.trip.specs.Steps.{way_of}
use Rattle.trip.specs.Trip.{Leg, carrier_millimetres, pulses_of, odometer, apart, difference_after, greatest, first_with, greatest_of, reached_of, report_of, trip_of, sound_trip, started, with_epoch, added, reported, Adds, Reports, trip_left, with_leg, measurables, counting, narrow}
use Rattle.trip.specs.declared.trip.Trip.{Trip}
use Rattle.trip.specs.declared.trip.Report.{Report}
use Rattle.trip.proofs.MeasureLaws.{by_length, way-within-is}
use Rattle.trip.proofs.BoundsLaws.{bounded, after-sound}

-- ---- the greatest of some numbers, and the first that reaches it

greatest-same : (f g : ℕ → ℕ) (n : ℕ) → ((k : ℕ) → k ≤ n → f k ≡ g k) → greatest f n ≡ greatest g n
unfolding greatest
greatest-same f g zero h = refl
greatest-same f g (suc n) h = ap₂ max (greatest-same f g n (λ k l. h k (le_step l))) (h (suc n) (le_refl (suc n)))

first-same : (f g : ℕ → ℕ) (v n : ℕ) → ((k : ℕ) → k ≤ n → f k ≡ g k) → first_with f v n ≡ first_with g v n
unfolding first_with
first-same f g v zero h = refl
first-same f g v (suc n) h = rw (first-same f g v n (λ k l. h k (le_step l)), h (suc n) (le_refl (suc n)))

-- no number among the first n is the greatest of more
first-none : (f : ℕ → ℕ) (v n : ℕ) → greatest f n < v → first_with f v n ≡ 0
unfolding first_with greatest
first-none f v zero h = refl
first-none f v (suc n) h =
    rw (first-none f v n (omega arith), ne_eqb (f (suc n)) v (λ (e : f (suc n) ≡ v). omega arith))

-- a step of the search: past a number found, and at a number that is it
first-past : (f : ℕ → ℕ) (v n : ℕ) → 0 < first_with f v n → first_with f v (suc n) ≡ first_with f v n
unfolding first_with
first-past f v n p = ap (λ (b : Bool). cond b (first_with f v n) (cond (eqb (f (suc n)) v) (suc n) 0)) (lt-ltb 0 (first_with f v n) p)

first-here : (f : ℕ → ℕ) (v n : ℕ) → first_with f v n ≡ 0 → eqb (f (suc n)) v ≡ true → first_with f v (suc n) ≡ suc n
unfolding first_with
first-here f v n p q = ap₂ (λ (k : ℕ) (b : Bool). cond (ltb 0 k) k (cond b (suc n) 0)) p q

-- one above all before it is the greatest, and the first that reaches it
module _ (f : ℕ → ℕ) (n : ℕ) where
  above-greatest : greatest f n < f (suc n) → greatest f (suc n) ≡ f (suc n)
  unfolding greatest
  above-greatest h = omega arith

  above-first : greatest f n < f (suc n) → first_with f (greatest f (suc n)) (suc n) ≡ suc n
  above-first h = rw (above-greatest h) (first-here f (f (suc n)) n (first-none f (f (suc n)) n h) (eq-eqb (f (suc n)) (f (suc n)) refl))

  -- another leaves both
  under-greatest : f (suc n) ≤ greatest f n → greatest f (suc n) ≡ greatest f n
  unfolding greatest
  under-greatest h = omega arith

  under_first : f (suc n) ≤ greatest f n → 0 < first_with f (greatest f n) n → first_with f (greatest f (suc n)) (suc n) ≡ first_with f (greatest f n) n
  under_first h p = rw (under-greatest h) (first-past f (greatest f n) n p)

greatest-one : (f : ℕ → ℕ) → greatest f 1 ≡ f 1
unfolding greatest
greatest-one f = omega arith

first_one : (f : ℕ → ℕ) → first_with f (greatest f 1) 1 ≡ 1
unfolding first_with
first_one f = rw (eq-eqb (f 1) (greatest f 1) (sym (greatest-one f)))

-- some number reaches it
pub first_some : (f : ℕ → ℕ) (n : ℕ) → 0 < first_with f (greatest f (suc n)) (suc n)
first_some f zero = rw (first_one f) (omega arith)
first_some f (suc n) = go (ltb (greatest f (suc n)) (f (suc (suc n)))) refl (first_some f n)
  where
    go : (b : Bool) → ltb (greatest f (suc n)) (f (suc (suc n))) ≡ b → 0 < first_with f (greatest f (suc n)) (suc n) → 0 < first_with f (greatest f (suc (suc n))) (suc (suc n))
    go true e p = rw (above-first f (suc n) (ltb-true _ _ e)) (omega arith)
    go false e p = rw (under_first f (suc n) (ltb-false _ _ e) p) p

-- whether number n + 1 is the first to reach the greatest of the first n + 1: it is the first of all, or above all before it
abbrev new : (ℕ → ℕ) → ℕ → Bool
new f n = eqb n 0 || ltb (greatest f n) (f (suc n))

past_first : (n : ℕ) → eqb (suc n) 0 ≡ false
past_first n = ne_eqb (suc n) 0 (λ (e : suc n ≡ 0). omega arith)

greatest-next : (f : ℕ → ℕ) (n : ℕ) → greatest f (suc n) ≡ cond (new f n) (f (suc n)) (greatest f n)
greatest-next f zero = greatest-one f
greatest-next f (suc n) = rw (past_first n) (go (ltb (greatest f (suc n)) (f (suc (suc n)))) refl)
  where
    go : (b : Bool) → ltb (greatest f (suc n)) (f (suc (suc n))) ≡ b → greatest f (suc (suc n)) ≡ cond b (f (suc (suc n))) (greatest f (suc n))
    go true e = above-greatest f (suc n) (ltb-true _ _ e)
    go false e = under-greatest f (suc n) (ltb-false _ _ e)

first_next : (f : ℕ → ℕ) (n : ℕ) → first_with f (greatest f (suc n)) (suc n) ≡ cond (new f n) (suc n) (first_with f (greatest f n) n)
first_next f zero = first_one f
first_next f (suc n) = rw (past_first n) (go (ltb (greatest f (suc n)) (f (suc (suc n)))) refl)
  where
    go : (b : Bool) → ltb (greatest f (suc n)) (f (suc (suc n))) ≡ b → first_with f (greatest f (suc (suc n))) (suc (suc n)) ≡ cond b (suc (suc n)) (first_with f (greatest f (suc n)) (suc n))
    go true e = above-first f (suc n) (ltb-true _ _ e)
    go false e = under_first f (suc n) (ltb-false _ _ e) (first_some f n)

-- ---- a list of epochs, and one more at its end

carrier-more : (legs : List Leg) (l : Leg) → carrier_millimetres (legs ++ (l ∷ [])) ≡ carrier_millimetres legs + millimetres_of l.displacement
unfolding carrier_millimetres
carrier-more [] l = omega arith
carrier-more (k ∷ legs) l = omega (arith, carrier-more legs l)

pulses-more : (legs : List Leg) (l : Leg) → pulses_of (legs ++ (l ∷ [])) ≡ pulses_of legs + l.pulses
unfolding pulses_of
pulses-more [] l = omega arith
pulses-more (k ∷ legs) l = omega (arith, pulses-more legs l)

length_more : (legs : List Leg) (l : Leg) → length (legs ++ (l ∷ [])) ≡ suc (length legs)
length_more legs l = rw length-append (omega arith)

module _ (rate : ℕ) (legs : List Leg) (l : Leg) where
  -- the list with it
  abbrev longer : List Leg
  longer = legs ++ (l ∷ [])

  -- the epochs before it have the differences that they had
  difference-old : (k : ℕ) → k ≤ length legs → difference_after rate longer k ≡ difference_after rate legs k
  unfolding difference_after
  difference-old k h = rw (take-append-le k legs (l ∷ []) h)

  difference-new : difference_after rate longer (suc (length legs)) ≡ apart (carrier_millimetres legs + millimetres_of l.displacement) (odometer rate (pulses_of legs + l.pulses))
  unfolding difference_after
  difference-new = rw (take_all (suc (length legs)) longer (rw (length_more legs l) (le_refl (suc (length legs)))), carrier-more legs l, pulses-more legs l)

  greatest-old : greatest (difference_after rate longer) (length legs) ≡ greatest_of rate legs
  unfolding greatest_of
  greatest-old = greatest-same (difference_after rate longer) (difference_after rate legs) (length legs) difference-old

  first-old : first_with (difference_after rate longer) (greatest_of rate legs) (length legs) ≡ reached_of rate legs
  unfolding reached_of
  first-old = first-same (difference_after rate longer) (difference_after rate legs) (greatest_of rate legs) (length legs) difference-old

  greatest-more : greatest_of rate longer ≡ (with_epoch (trip_of rate legs) (millimetres_of l.displacement) l.pulses).greatest
  unfolding with_epoch trip_of
  greatest-more = unfold greatest_of in ap (greatest (difference_after rate longer)) (length_more legs l) ∙ greatest-next (difference_after rate longer) (length legs) ∙ rw (difference-new, greatest-old)

  reached-more : reached_of rate longer ≡ (with_epoch (trip_of rate legs) (millimetres_of l.displacement) l.pulses).reached
  unfolding with_epoch trip_of
  reached-more = unfold reached_of greatest_of in rw (length_more legs l) (first_next (difference_after rate longer) (length legs) ∙ rw (difference-new, greatest-old, first-old, add-one))

  pub more : trip_of rate longer ≡ with_epoch (trip_of rate legs) (millimetres_of l.displacement) l.pulses
  unfolding with_epoch trip_of
  more = rw (length_more legs l, carrier-more legs l, pulses-more legs l, greatest-more, reached-more, add-one)

-- ---- the promises of the calls, where the trip handed in is that of a list

list-epochs : (t : Trip) (legs : List Leg) → t ≡ trip_of t.rate legs → t.epochs ≡ length legs
unfolding trip_of
list-epochs t legs h = ap (λ (u : Trip). u.epochs) h

list_counted : (t : Trip) (l : Leg) (legs : List Leg) → t ≡ trip_of t.rate legs → with_epoch t (millimetres_of l.displacement) l.pulses ≡ trip_of t.rate (legs ++ (l ∷ []))
list_counted t l legs h = ap (λ (u : Trip). with_epoch u (millimetres_of l.displacement) l.pulses) h ∙ sym (more t.rate legs l)

list-added : (t : Trip) (l : Leg) (legs : List Leg) → t ≡ trip_of t.rate legs
    → added t l.displacement l.pulses ≡ cond (sound_trip t && ltb (length legs) 65535 && measurable l.displacement) (Ok (trip_of t.rate (legs ++ (l ∷ [])))) (Err BadTrip)
unfolding added
list-added t l legs h =
    ap₂ (λ (n : ℕ) (u : Trip). cond (sound_trip t && ltb n 65535 && measurable l.displacement) (Ok u) (Err BadTrip)) (list-epochs t legs h) (list_counted t l legs h)

pub adds : (t : Trip) (l : Leg) {r : Result Trip Refusal} → r ≡ added t l.displacement l.pulses → Adds t l r
adds t l e = record { is = e; of-list = λ legs h. e ∙ list-added t l legs h }

-- the same from the way of the displacement, which alone decides
module _ (t : Trip) (d : Vec3) (pulses : ℕ) {way : ℕ} (e : way ≡ way_of (norm d)) where
  within-is : leb way 1000000 ≡ measurable d
  within-is = rw (by_length d, e) (way-within-is d)

  -- more than 1,000 m
  pub way-refused : leb way 1000000 ≡ false → Err BadTrip ≡ added t d pulses
  unfolding added
  way-refused h = rw (sym within-is ∙ h, and-false (sound_trip t && ltb t.epochs 65535))

  module _ {s : Bool} (s-is : s ≡ sound_trip t) (w : leb way 1000000 ≡ true) where
    test-is : (s && ltb t.epochs 65535) ≡ (sound_trip t && ltb t.epochs 65535 && measurable d)
    test-is = rw (sym within-is ∙ w, s-is) (sym (and-true (sound_trip t && ltb t.epochs 65535)))

    -- a trip that is full or not sound
    pub trip_refused : (s && ltb t.epochs 65535) ≡ false → Err BadTrip ≡ added t d pulses
    unfolding added
    trip_refused h = rw (sym test-is ∙ h)

    pub way-added : (s && ltb t.epochs 65535) ≡ true → Ok (with_epoch t way pulses) ≡ added t d pulses
    unfolding added millimetres_of way_of
    way-added h =
        let n : le (norm d) (whole 1000) ≡ true = sym (way-within-is d) ∙ ap (λ (z : ℕ). leb z 1000000) (sym e) ∙ w in
        rw (sym test-is ∙ h, e, n)

abbrev totals : Trip → ℕ → Report
totals t rate = record { carrier = t.carrier; odometer = odometer rate t.pulses; greatest = t.greatest; reached = t.reached }

list-totals : (t : Trip) (legs : List Leg) → t ≡ trip_of t.rate legs → totals t t.rate ≡ report_of t.rate legs
unfolding trip_of report_of
list-totals t legs h = ap (λ (u : Trip). totals u t.rate) h

list-reported : (t : Trip) (legs : List Leg) → t ≡ trip_of t.rate legs → reported t ≡ cond (sound_trip t) (Ok (report_of t.rate legs)) (Err BadTrip)
unfolding reported
list-reported t legs h = ap (λ (p : Report). cond (sound_trip t) (Ok p) (Err BadTrip)) (list-totals t legs h)

pub reports : (t : Trip) {r : Result Report Refusal} → r ≡ reported t → Reports t r
reports t e = record { is = e; of-list = λ legs h. e ∙ list-reported t legs h }

-- ---- one call

module _ (t : Trip) (l : Leg) where
  after-accepted : (sound_trip t && ltb t.epochs 65535 && measurable l.displacement) ≡ true → with_leg t l ≡ with_epoch t (millimetres_of l.displacement) l.pulses
  unfolding with_leg added trip_left
  after-accepted h = rw h

  -- a refused addition leaves the trip unchanged
  pub after-refused : (sound_trip t && ltb t.epochs 65535 && measurable l.displacement) ≡ false → with_leg t l ≡ t
  unfolding with_leg added trip_left
  after-refused h = rw h

-- ---- all of them

module _ (rate : ℕ) where
  -- the trip after these calls, from that of the list done
  Reaches : List Leg → List Leg → Type 0
  Reaches legs done = fold with_leg (trip_of rate done) legs ≡ trip_of rate (done ++ take (65535 - length done) (measurables legs))

  turn : (l : Leg) (legs done : List Leg) → sound_trip (trip_of rate done) ≡ true → narrow l ≡ true → ((d : List Leg) → sound_trip (trip_of rate d) ≡ true → Reaches legs d) → Reaches (l ∷ legs) done
  unfolding Reaches fold measurables collect trip_of
  turn l legs done s n rest = go (measurable l.displacement) refl (ltb (length done) 65535) refl
    where
      go : (b : Bool) → measurable l.displacement ≡ b → (c : Bool) → ltb (length done) 65535 ≡ c
          → fold with_leg (with_leg (trip_of rate done) l) legs ≡ trip_of rate (done ++ take (65535 - length done) (cond b (l ∷ []) [] ++ measurables legs))
      go false e c f = rw (after-refused (trip_of rate done) l (rw e (and-false (sound_trip (trip_of rate done) && ltb (length done) 65535)))) (rest done s)
      go true e false f =
          let full : 65535 ≤ length done = ltb-false (length done) 65535 f in
          let z : 65535 - length done ≡ 0 = omega arith in
          rw (after-refused (trip_of rate done) l (rw (f, and-false (sound_trip (trip_of rate done))))) (rest done s ∙ rw z)
      go true e true f =
          let room : length done < 65535 = ltb-true (length done) 65535 f in
          let a : with_leg (trip_of rate done) l ≡ trip_of rate (done ++ (l ∷ [])) = after-accepted (trip_of rate done) l (rw (s, f, e)) ∙ sym (more rate done l) in
          let z : 65535 - length done ≡ suc (65535 - length (done ++ (l ∷ []))) = rw (length_more done l) (omega arith) in
          rw a (rest (done ++ (l ∷ [])) (subst (λ (t : Trip). sound_trip t ≡ true) a (after-sound (trip_of rate done) l s n)) ∙ rw (z, append_assoc))

  from : (legs done : List Leg) → sound_trip (trip_of rate done) ≡ true → every narrow legs ≡ true → Reaches legs done
  unfolding Reaches fold every measurables collect
  from [] done s n = ap (trip_of rate) (sym (append-nil done) ∙ ap (λ (xs : List Leg). done ++ xs) (sym (take-nil (65535 - length done))))
  from (l ∷ legs) done s n = let m = and_both (narrow l) (every narrow legs) n in turn l legs done s m.0 (λ d h. from legs d h m.1)

  pub start-sound : 0 < rate → sound_trip (trip_of rate []) ≡ true
  unfolding trip_of carrier_millimetres pulses_of
  start-sound h = bounded _ (record { rated = h; few = lit≤ tt; carrier = lit≤ tt; pulses = lit≤ tt })

  pub start-goes : 0 < rate → started rate ≡ Ok (trip_of rate [])
  unfolding started
  start-goes h = rw (lt-ltb 0 rate h)

  -- For every list of calls, from the start: the trip that they leave is that of the epochs that count.
  pub trip_law : (legs : List Leg) → 0 < rate → every narrow legs ≡ true → fold with_leg (trip_of rate []) legs ≡ trip_of rate (counting legs)
  unfolding Reaches counting
  trip_law legs h n = from legs [] (start-sound h) n

-- a trip that is sound stays so
pub fold-sound : (legs : List Leg) (t : Trip) → sound_trip t ≡ true → every narrow legs ≡ true → sound_trip (fold with_leg t legs) ≡ true
unfolding fold every
fold-sound [] t s n = s
fold-sound (l ∷ legs) t s n = let m = and_both (narrow l) (every narrow legs) n in fold-sound legs (with_leg t l) (after-sound t l s m.0) m.1

-- the report of a sound trip that is a list's is the list's
reported-list : (rate : ℕ) (legs : List Leg) → sound_trip (trip_of rate legs) ≡ true → reported (trip_of rate legs) ≡ Ok (report_of rate legs)
unfolding reported report_of trip_of
reported-list rate legs h = rw h

-- and so is the report of that trip
pub report-law : (rate : ℕ) (legs : List Leg) → 0 < rate → every narrow legs ≡ true → reported (fold with_leg (trip_of rate []) legs) ≡ Ok (report_of rate (counting legs))
report-law rate legs h n =
    let e = trip_law rate legs h n in
    ap reported e ∙ reported-list rate (counting legs) (subst (λ (t : Trip). sound_trip t ≡ true) e (fold-sound legs (trip_of rate []) (start-sound rate h) n))

-- ---- where no call is refused, all epochs count

all-measurable : (legs : List Leg) → every (λ (l : Leg). measurable l.displacement) legs ≡ true → measurables legs ≡ legs
unfolding measurables collect every
all-measurable [] h = refl
all-measurable (l ∷ legs) h =
    let m = and_both (measurable l.displacement) (every (λ (l : Leg). measurable l.displacement) legs) h in
    rw m.0 (ap (λ (xs : List Leg). l ∷ xs) (all-measurable legs m.1))

pub all-count : (legs : List Leg) → every (λ (l : Leg). measurable l.displacement) legs ≡ true → length legs ≤ 65535 → counting legs ≡ legs
unfolding counting
all-count legs h k = rw (all-measurable legs h) (take_all 65535 legs k)
