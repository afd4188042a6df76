-- Odometer beside carrier distance (docs/SCOPE.md, "Trip"): the report of a list of epochs, and the calls of a trip. Definitions only.
use Rattle.std.specs.Prelude.{Result, Ok, Err}
use Rattle.numeric.specs.declared.refusal.Refusal.{Refusal}
use Rattle.std.specs.Prelude.{ℕ, zero, suc, ◌+◌, ◌-◌, ◌*◌, ◌/◌, max, ◌≡◌, Bool, cond, not, ◌&&◌, ◌||◌, List, [], ◌∷◌, ◌++◌, leb, ltb, eqb, length, take}
use Rattle.lists.specs.Walk.{collect}
use Rattle.numeric.specs.declared.vec3.Vec3.{Vec3}
use Rattle.numeric.specs.declared.refusal.Refusal.TheVariants.{BadTrip, NoDistance}
use Rattle.trip.specs.Measure.{millimetres_of, measurable}
use Rattle.trip.specs.declared.trip.Trip.{Trip}
use Rattle.trip.specs.declared.trip.Report.{Report}

-- ---- the report, from the list of epochs since the start

-- what the two recordings have of one epoch
pub record Leg : Type 0 where
  pub displacement : Vec3
  pub pulses : ℕ

-- each displacement's whole millimetres, added
unfoldable pub carrier_millimetres : List Leg → ℕ
carrier_millimetres [] = 0
carrier_millimetres (l ∷ legs) = millimetres_of l.displacement + carrier_millimetres legs

-- the running pulse count
unfoldable pub pulses_of : List Leg → ℕ
pulses_of [] = 0
pulses_of (l ∷ legs) = l.pulses + pulses_of legs

-- pulses turned into millimetres: times 1,000,000, divided by the pulses per kilometre, rounded down
unfoldable pub odometer : ℕ → ℕ → ℕ
odometer rate pulses = pulses * 1000000 / rate

-- the absolute difference
unfoldable pub apart : ℕ → ℕ → ℕ
apart a b = cond (ltb a b) (b - a) (a - b)

-- that between the two totals after epoch k, counted from 1
unfoldable pub difference_after : ℕ → List Leg → ℕ → ℕ
difference_after rate legs k = let past = take k legs in apart (carrier_millimetres past) (odometer rate (pulses_of past))

-- the greatest of f 1, .., f n, and 0 where n is 0
unfoldable pub greatest : (ℕ → ℕ) → ℕ → ℕ
greatest f zero = 0
greatest f (suc n) = max (greatest f n) (f (suc n))

-- the first k among 1, .., n with f k = g, and 0 where there is none
unfoldable pub first_with : (ℕ → ℕ) → ℕ → ℕ → ℕ
first_with f g zero = 0
first_with f g (suc n) = let k = first_with f g n in cond (ltb 0 k) k (cond (eqb (f (suc n)) g) (suc n) 0)

-- the greatest absolute difference after an epoch
unfoldable pub greatest_of : ℕ → List Leg → ℕ
greatest_of rate legs = greatest (difference_after rate legs) (length legs)

-- the first epoch that reached it
unfoldable pub reached_of : ℕ → List Leg → ℕ
reached_of rate legs = first_with (difference_after rate legs) (greatest_of rate legs) (length legs)

-- both totals, the greatest difference and its epoch: zeros throughout for a trip just started
unfoldable pub report_of : ℕ → List Leg → Report
report_of rate legs =
    record { carrier = carrier_millimetres legs; odometer = odometer rate (pulses_of legs); greatest = greatest_of rate legs; reached = reached_of rate legs }

-- the trip with this pulse rate after these epochs
unfoldable pub trip_of : ℕ → List Leg → Trip
trip_of rate legs =
    record { rate = rate; epochs = length legs; carrier = carrier_millimetres legs; pulses = pulses_of legs; greatest = greatest_of rate legs; reached = reached_of rate legs }

-- ---- the calls

-- 16, of a trip handed in: a rate of 0, more than 65,535 epochs, or more than 1,000,000 mm or 65,535 pulses times its epochs
unfoldable pub sound_trip : Trip → Bool
sound_trip t = ltb 0 t.rate && leb t.epochs 65535 && leb t.carrier (1000000 * t.epochs) && leb t.pulses (65535 * t.epochs)

-- a trip just started; 16 for a pulse rate of 0
unfoldable pub started : ℕ → Result Trip Refusal
started rate = cond (ltb 0 rate) (Ok (trip_of rate [])) (Err BadTrip)

-- one epoch of so many millimetres and pulses more: the first is the first to reach its difference, a later one where it is above all before it
unfoldable pub with_epoch : Trip → ℕ → ℕ → Trip
with_epoch t millimetres pulses =
    let carrier = t.carrier + millimetres in
    let count = t.pulses + pulses in
    let difference = apart carrier (odometer t.rate count) in
    let new = eqb t.epochs 0 || ltb t.greatest difference in
    record {
      rate = t.rate;
      epochs = t.epochs + 1;
      carrier = carrier;
      pulses = count;
      greatest = cond new difference t.greatest;
      reached = cond new (t.epochs + 1) t.reached;
    }

-- one epoch more; 16 for a trip that is not sound, a full one, and a displacement not finite or longer than 1,000 m
unfoldable pub added : Trip → Vec3 → ℕ → Result Trip Refusal
added t d pulses = cond (sound_trip t && ltb t.epochs 65535 && measurable d) (Ok (with_epoch t (millimetres_of d) pulses)) (Err BadTrip)

unfoldable pub reported : Trip → Result Report Refusal
reported t =
    cond (sound_trip t)
    (Ok (record { carrier = t.carrier; odometer = odometer t.rate t.pulses; greatest = t.greatest; reached = t.reached }))
    (Err BadTrip)

-- fuel per kilometre: millilitres times 1,000,000 divided by carrier millimetres, rounded down; 17, after 16, at zero carrier distance
unfoldable pub fuelled : Trip → ℕ → Result ℕ Refusal
fuelled t millilitres =
    cond (not (sound_trip t)) (Err BadTrip)
    (cond (eqb t.carrier 0) (Err NoDistance)
    (Ok (millilitres * 1000000 / t.carrier)))

-- ---- what the calls promise: the definition by the trip handed in and, wherever that is the trip of a list of epochs, the definition by the list

-- an accepted epoch comes at the end of the list
pub record Adds (t : Trip) (l : Leg) (r : Result Trip Refusal) : Type 0 where
  pub is : r ≡ added t l.displacement l.pulses
  pub of-list : (legs : List Leg) → t ≡ trip_of t.rate legs
      → r ≡ cond (sound_trip t && ltb (length legs) 65535 && measurable l.displacement) (Ok (trip_of t.rate (legs ++ (l ∷ [])))) (Err BadTrip)

pub record Reports (t : Trip) (r : Result Report Refusal) : Type 0 where
  pub is : r ≡ reported t
  pub of-list : (legs : List Leg) → t ≡ trip_of t.rate legs → r ≡ cond (sound_trip t) (Ok (report_of t.rate legs)) (Err BadTrip)

-- ---- calls one after the other

-- the trip that a call leaves: a refusal leaves it unchanged
unfoldable pub trip_left : Trip → Result Trip Refusal → Trip
trip_left t (Err r) = t
trip_left t (Ok u) = u

unfoldable pub with_leg : Trip → Leg → Trip
with_leg t l = trip_left t (added t l.displacement l.pulses)

-- the epochs that count among those handed over: the first 65,535 whose displacement is finite and not longer than 1,000 m
unfoldable pub measurables : List Leg → List Leg
measurables legs = collect (λ l. cond (measurable l.displacement) (l ∷ []) []) legs

unfoldable pub counting : List Leg → List Leg
counting legs = take 65535 (measurables legs)

-- pulses per epoch are 16-bit
unfoldable pub narrow : Leg → Bool
narrow l = leb l.pulses 65535
