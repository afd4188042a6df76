-- A trip as six words (docs/SCOPE.md, "Trip"): pulses per kilometre, epochs, carrier millimetres, pulses, greatest difference, its epoch. What the calls on them
-- answer, and what lent words hold afterwards. Definitions only.
use Rattle.numeric.specs.Refusal.{answer_number}
use Rattle.std.specs.Prelude.{Result, Ok, Err}
use Rattle.numeric.specs.declared.refusal.Refusal.{Refusal}
use Rattle.trip.specs.declared.trip.Report.{Report}
use Rattle.std.specs.Prelude.{◌≡◌, ℕ, ◌*◌, Bool, cond, ◌&&◌, ◌||◌, List, [], ◌∷◌, map, leb, ltb, get_or, Float}
use Rattle.lists.specs.Memory.{before, after, Memory, LentNumbers}
use Rattle.lists.specs.Walk.{fold}
use Rattle.numeric.specs.declared.refusal.Refusal.TheVariants.{BadTrip}
use Rattle.numeric.specs.Vec3.{vector_at}
use Rattle.numeric.specs.declared.vec3.Vec3.{Vec3}
use Rattle.trip.specs.Trip.{Leg, started, added, reported, fuelled, counting}
use Rattle.trip.specs.declared.trip.Trip.{Trip}

-- ---- words and trips

-- a word that its field cannot hold: a rate above 16 bits, or a count of epochs above 32
unfoldable pub too_wide : List ℕ → Bool
too_wide w = ltb 65535 (get_or w 0 0) || ltb 4294967295 (get_or w 1 0)

abbrev pub trip_from : List ℕ → Trip
trip_from w = record { rate = get_or w 0 0; epochs = get_or w 1 0; carrier = get_or w 2 0; pulses = get_or w 3 0; greatest = get_or w 4 0; reached = get_or w 5 0 }

-- the trip that the words hold; 16 where one is too wide
unfoldable pub held_of : List ℕ → Result Trip Refusal
held_of w = cond (too_wide w) (Err BadTrip) (Ok (trip_from w))

abbrev pub words_of : Trip → List ℕ
words_of t = t.rate ∷ t.epochs ∷ t.carrier ∷ t.pulses ∷ t.greatest ∷ t.reached ∷ []

-- ---- the calls on the trip that words hold

unfoldable pub added_held : Result Trip Refusal → Vec3 → ℕ → Result Trip Refusal
added_held (Err r) d pulses = Err r
added_held (Ok t) d pulses = added t d pulses

abbrev pub added_words : List ℕ → List Float → ℕ → Result Trip Refusal
added_words w d pulses = added_held (held_of w) (vector_at d 0) pulses

unfoldable pub reported_held : Result Trip Refusal → Result Report Refusal
reported_held (Err r) = Err r
reported_held (Ok t) = reported t

abbrev pub reported_words : List ℕ → Result Report Refusal
reported_words w = reported_held (held_of w)

unfoldable pub fuelled_held : Result Trip Refusal → ℕ → Result ℕ Refusal
fuelled_held (Err r) millilitres = Err r
fuelled_held (Ok t) millilitres = fuelled t millilitres

abbrev pub fuelled_words : List ℕ → ℕ → Result ℕ Refusal
fuelled_words w millilitres = fuelled_held (held_of w) millilitres

-- ---- the number, and what the lent words hold afterwards: a refusal leaves them unchanged

abbrev pub words_after : Result Trip Refusal → List ℕ → List ℕ
words_after (Err r) w = w
words_after (Ok t) w = words_of t

abbrev pub report_words : Report → List ℕ
report_words p = p.carrier ∷ p.odometer ∷ p.greatest ∷ p.reached ∷ []

abbrev pub report_after : Result Report Refusal → List ℕ → List ℕ
report_after (Err r) w = w
report_after (Ok p) w = report_words p

abbrev pub fuel_after : Result ℕ Refusal → ℕ → ℕ
fuel_after (Err r) n = n
fuel_after (Ok m) n = m

-- what calls on lent words promise
pub record TripAnswers (s : Result Trip Refusal) (number : ℕ) (trip : LentNumbers) : Type 0 where
  pub number_is : number ≡ answer_number s
  pub words_are : after trip ≡ words_after s (before trip)

pub record ReportAnswers (q : Result Report Refusal) (number : ℕ) (report : LentNumbers) : Type 0 where
  pub number_is : number ≡ answer_number q
  pub words_are : after report ≡ report_after q (before report)

pub record FuelAnswers (f : Result ℕ Refusal) (number : ℕ) (per-km : Memory ℕ) : Type 0 where
  pub number_is : number ≡ answer_number f
  pub word-is : after per-km ≡ fuel_after f (before per-km)

-- ---- 16, of six words handed in

-- a rate from 1 to 65,535, at most 65,535 epochs, and at most 1,000,000 mm and 65,535 pulses times the epochs: the fifth and sixth words decide nothing
unfoldable pub sound_words : List ℕ → Bool
sound_words w =
    ltb 0 (get_or w 0 0) && leb (get_or w 0 0) 65535 && leb (get_or w 1 0) 65535 && leb (get_or w 2 0) (1000000 * get_or w 1 0) && leb (get_or w 3 0) (65535 * get_or w 1 0)

-- ---- calls one after the other

-- what a caller hands to one addition: three floats and the pulses
pub record Addition : Type 0 where
  pub delta : List Float
  pub pulses : ℕ

unfoldable pub leg_of : Addition → Leg
leg_of a = record { displacement = vector_at a.delta 0; pulses = a.pulses }

-- the words that an addition leaves
unfoldable pub words_next : List ℕ → Addition → List ℕ
words_next w a = words_after (added_words w a.delta a.pulses) w

-- the words after the start with this rate and these additions, from what they held before
unfoldable pub words_after_calls : ℕ → List ℕ → List Addition → List ℕ
words_after_calls rate w calls = fold words_next (words_after (started rate) w) calls

-- the epochs that count among these additions
unfoldable pub counted_legs : List Addition → List Leg
counted_legs calls = counting (map leg_of calls)
