-- A trip with settings on lent memory, over a list of calls: the words, the settings in force and the report are those of the displacements, each worked out under
-- the settings in force. Assumes nothing.
use Rattle.numeric.specs.Refusal.{answer_number}
use Rattle.std.specs.Prelude.{Result, Ok, Err}
use Rattle.numeric.specs.declared.refusal.Refusal.{Refusal}
use Rattle.trip_settings.specs.declared.drive.Drive.{Drive}
use Rattle.trip_settings.specs.declared.drive.Travelled.{Travelled}
use mathlib.Core.Path.{◌≡◌, refl, sym, ap, subst, ◌∙◌}
use mathlib.Core.Bool.{Bool, true, false, cond, ◌&&◌}
use mathlib.Core.List.{List, [], ◌∷◌, ◌++◌, map, append-nil}
use Prim.Native.Nat.{ℕ, zero, suc, ◌≤◌, ◌<◌}
use native.Mathlib.Omega.{arith}
use lib.Dec.{ltb, T}
use lib.ListN.{get_or}
use lib.Ieee.{Float, nan, binary64, fits}
use lib.Ieee.Fits.{nan-fits}
use borrow.Author.Tests.{ltb-true}
use Rattle.exact.specs.Float.{+0}
use Rattle.lists.specs.Walk.{every, collect, fold}
use Rattle.lists.proofs.Walk.{and_both}
use Rattle.numeric.specs.Order.{pattern_of}
use Rattle.numeric.specs.declared.refusal.Refusal.TheVariants.{SettingOutOfRange, BadTrip, TooMany}
use Rattle.numeric.proofs.OrderLaws.{pattern_back}
use Rattle.records.specs.Carriers.{epoch_fits}
use Rattle.tdcp.specs.Valid.{settings_pass}
use Rattle.tdcp.specs.Displacement.{displacement_of}
use Rattle.tdcp.specs.declared.displacement.Settings.{Settings}
use Rattle.tdcp_columns.specs.Displacement.{columns_displaced, displacement_settings}
use Rattle.trip.specs.Trip.{trip_of, sound_trip, started, with_leg, counting}
use Rattle.trip.specs.Words.{held_of, words_of}
use Rattle.trip.specs.declared.trip.Trip.{Trip}
use Rattle.trip.proofs.TripLaws.{start-sound, trip_law, fold-sound}
use Rattle.trip.proofs.HeldLaws.{WordsHeld, words-held, fold-held, start-held, Answers, list-answers}
use Rattle.trip_settings.specs.Drive as drive
use Rattle.trip_settings.specs.Drive.{under_new, driven_by, tested, begun_of, travel_by}
use Rattle.trip_settings.specs.Events.{TripEvent, epoch, change, move_input, changed_to, in_force, legs_of, legs_under, EachAccepted, narrow_event}
use Rattle.trip_settings.specs.Lent.{settings_floats, DrivingAnswers, BegunAnswers, TravelAnswers, in_force_after, rounds_after, trip_after}
use Rattle.trip_settings.specs.Calls.{TripMemory, settings_in, Ride, TripCall, travel_call, settings_call, ride_lent, travel_in, driving_in, call_number, memory_after, move_of, call_events, lendable}
use Rattle.trip_settings.proofs.EventLaws.{move-after, fold-append, legs_narrow, legs_split, each-accepted, begun-goes}

-- that of a trip and its settings
unfoldable pub memory_of : Trip → Settings → TripMemory
memory_of t s = record { words = words_of t; patterns = map pattern_of (settings_floats s); rounds = s.rounds }

-- ---- settings that memory holds

-- settings that a displacement reads again as they were written
pub record Legible (s : Settings) : Type 0 where
  pub screen : T (fits binary64 s.screen)
  pub sigma-a : T (fits binary64 s.sigma_a)
  pub sigma-b : T (fits binary64 s.sigma_b)
  pub huber : T (fits binary64 s.huber)
  pub mask : T (fits binary64 s.mask)
  pub agreement : s.agreement ≡ +0

fit_at_lem : (f : List Float) (k : ℕ) → every (fits binary64) f ≡ true → T (fits binary64 (get_or f k nan))
unfolding every
fit_at_lem [] k h = nan-fits binary64
fit_at_lem (x ∷ f) zero h = let e : fits binary64 x ≡ true = (and_both (fits binary64 x) _ h).0 in rw e tt
fit_at_lem (x ∷ f) (suc k) h = fit_at_lem f k (and_both (fits binary64 x) _ h).1

legible : (f : List Float) (rounds : ℕ) → every (fits binary64) f ≡ true → Legible (displacement_settings f rounds)
legible f rounds h =
    record { screen = fit_at_lem f 0 h; sigma-a = fit_at_lem f 1 h; sigma-b = fit_at_lem f 2 h; huber = fit_at_lem f 3 h; mask = fit_at_lem f 4 h; agreement = refl }

-- Written in the order in which they are read: the settings that a displacement reads are those that a beginning or a change wrote.
pub read_back : (t : Trip) (s : Settings) → Legible s → settings_in (memory_of t s) ≡ s
unfolding settings_in memory_of
read_back t s h =
    rw (
      pattern_back s.screen h.screen,
      pattern_back s.sigma_a h.sigma-a,
      pattern_back s.sigma_b h.sigma-b,
      pattern_back s.huber h.huber,
      pattern_back s.mask h.mask,
      ← h.agreement,
    ) refl

-- ---- one call

travel_settings : (s : Settings) (r : Ride) (pulses : ℕ) (b : Bool) → in_force s (cond b (epoch (move_of r) pulses ∷ []) []) ≡ s
unfolding in_force
travel_settings s r pulses true = refl
travel_settings s r pulses false = refl

module _ (t : Trip) (s : Settings) (held : WordsHeld t) (sound : sound_trip t ≡ true) (read : Legible s) where
  words-after : (a : Result Travelled Refusal) → trip_after a (words_of t) ≡ words_of (drive.trip_after t a)
  words-after (Err r) = refl
  words-after (Ok w) = refl

  -- what a displacement leaves of the words is what its event leaves of the trip
  travel_words : (r : Ride) (pulses : ℕ) (b : Bool)
      → trip_after (travel_by (Ok t) pulses (cond b (displacement_of (move_input s (move_of r))) (Err TooMany))) (words_of t)
      ≡ words_of (fold with_leg t (legs_under s (cond b (epoch (move_of r) pulses ∷ []) [])))
  unfolding travel_by legs_under fold
  travel_words r pulses false = refl
  travel_words r pulses true =
      let a = displacement_of (move_input s (move_of r)) in
      rw (append-nil (legs_of pulses a)) (words-after (travel_by (Ok t) pulses a) ∙ ap words_of (move-after t pulses a))

  -- new settings are taken where 3 lets them pass
  settings_memory : (r : Settings) (b : Bool)
      → (let d = cond b (driven_by r (Ok t)) (Err SettingOutOfRange) in
      record { words = words_of t; patterns = in_force_after d (map pattern_of (settings_floats s)); rounds = rounds_after d s.rounds }) ≡ memory_of t (cond b r s)
  unfolding memory_of
  settings_memory r true = refl
  settings_memory r false = refl

  -- the memory that a call leaves is that of its event
  call_next : (c : TripCall) → memory_after (memory_of t s) c ≡ memory_of (fold with_leg t (legs_under s (call_events c))) (in_force s (call_events c))
  unfolding memory_after memory_of call_events columns_displaced under_new tested legs_under in_force fold
  call_next (travel_call r pulses) =
      let b = epoch_fits r.previous r.previous-count && epoch_fits r.current r.current-count in
      rw (read_back t s read, words-held t held, travel_words r pulses b, travel_settings s r pulses b) refl
  call_next (settings_call f rounds) =
      let r = displacement_settings f rounds in rw (words-held t held, sound) (settings_memory r (settings_pass r))

-- ---- the calls one after the other

changed-legible : (s r : Settings) → Legible s → Legible r → Legible (changed_to s r)
changed-legible s r a b = go (settings_pass r)
  where
    go : (p : Bool) → Legible (cond p r s)
    go true = b
    go false = a

call-legible : (c : TripCall) (s : Settings) → lendable c ≡ true → Legible s → Legible (in_force s (call_events c))
unfolding call_events in_force lendable
call-legible (travel_call r pulses) s n h = rw (travel_settings s r pulses (epoch_fits r.previous r.previous-count && epoch_fits r.current r.current-count)) h
call-legible (settings_call f rounds) s n h = changed-legible s (displacement_settings f rounds) h (legible f rounds n)

call-narrow : (c : TripCall) → lendable c ≡ true → every narrow_event (call_events c) ≡ true
unfolding call_events every narrow_event lendable
call-narrow (travel_call r pulses) n = go (epoch_fits r.previous r.previous-count && epoch_fits r.current r.current-count)
  where
    go : (b : Bool) → every narrow_event (cond b (epoch (move_of r) pulses ∷ []) []) ≡ true
    go true = rw n
    go false = refl
call-narrow (settings_call f rounds) n = refl

every_append : {A : Type 0} (p : A → Bool) (xs ys : List A) → every p xs ≡ true → every p ys ≡ true → every p (xs ++ ys) ≡ true
unfolding every
every_append p [] ys h k = k
every_append p (x ∷ xs) ys h k = let b = and_both (p x) (every p xs) h in rw b.0 (every_append p xs ys b.1 k)

calls-narrow : (calls : List TripCall) → every lendable calls ≡ true → every narrow_event (collect call_events calls) ≡ true
unfolding every collect
calls-narrow [] n = refl
calls-narrow (c ∷ calls) n =
    let b = and_both (lendable c) (every lendable calls) n in
    every_append narrow_event (call_events c) (collect call_events calls) (call-narrow c b.0) (calls-narrow calls b.1)

force_split : (es fs : List TripEvent) (s : Settings) → in_force s (es ++ fs) ≡ in_force (in_force s es) fs
unfolding in_force
force_split [] fs s = refl
force_split (epoch m pulses ∷ es) fs s = force_split es fs s
force_split (change r ∷ es) fs s = force_split es fs (changed_to s r)

-- the memory after the calls is that of their events
calls-from : (calls : List TripCall) (t : Trip) (s : Settings) → WordsHeld t → sound_trip t ≡ true → Legible s → every lendable calls ≡ true
    → fold memory_after (memory_of t s) calls ≡ memory_of (fold with_leg t (legs_under s (collect call_events calls))) (in_force s (collect call_events calls))
unfolding fold every collect legs_under in_force
calls-from [] t s h k l n = refl
calls-from (c ∷ calls) t s h k l n =
    let b = and_both (lendable c) (every lendable calls) n in
    let es = call_events c in
    let fs = collect call_events calls in
    let legs = legs_under s es in
    rw (call_next t s h k l c, legs_split es fs s, force_split es fs s, fold-append with_leg t legs (legs_under (in_force s es) fs))
    (calls-from calls (fold with_leg t legs) (in_force s es) (fold-held legs t h) (fold-sound legs t k (legs_narrow es s (call-narrow c b.0))) (call-legible c s b.0 l) b.1)

-- ---- a trip begun

begun-accepted : (s : Settings) (rate : ℕ) → 0 ≡ answer_number (begun_of s rate) → (settings_pass s ≡ true) × (0 < rate)
unfolding under_new started
begun-accepted s rate e = go (settings_pass s) refl (ltb 0 rate) refl e
  where
    go : (p : Bool) → settings_pass s ≡ p → (q : Bool) → ltb 0 rate ≡ q
        → 0 ≡ answer_number (cond p (driven_by s (cond q (Ok (trip_of rate [])) (Err BadTrip))) (Err SettingOutOfRange))
        → (settings_pass s ≡ true) × (0 < rate)
    go true a true b e = (a, ltb-true _ _ b)
    go true a false b e = absurd (omega (arith, e))
    go false a q b e = absurd (omega (arith, e))

-- What memory holds after the calls, by their events: the words, the report and the fuel are those of the displacements that count, each worked out under the
-- settings in force at it; the patterns and the rounds are those of the settings in force at the end, and a displacement reads these; each accepted displacement has
-- what every accepted one has with its own settings.
pub record CallsLeave (rate : ℕ) (s : Settings) (es : List TripEvent) (m : TripMemory) : Type 0 where
  pub answers : Answers rate (counting (legs_under s es)) m.words
  pub patterns-are : m.patterns ≡ map pattern_of (settings_floats (in_force s es))
  pub rounds-are : m.rounds ≡ (in_force s es).rounds
  pub settings-read : settings_in m ≡ in_force s es
  pub accepted : EachAccepted s es

forced-legible : (calls : List TripCall) (s : Settings) → Legible s → every lendable calls ≡ true → Legible (in_force s (collect call_events calls))
unfolding every collect in_force
forced-legible [] s l n = l
forced-legible (c ∷ calls) s l n =
    let b = and_both (lendable c) (every lendable calls) n in
    rw (force_split (call_events c) (collect call_events calls) s) (forced-legible calls (in_force s (call_events c)) (call-legible c s b.0 l) b.1)

list-leaves : (rate : ℕ) (s : Settings) (es : List TripEvent) → WordsHeld (trip_of rate (counting (legs_under s es))) → sound_trip (trip_of rate (counting (legs_under s es))) ≡ true
    → Legible (in_force s es) → CallsLeave rate s es (memory_of (trip_of rate (counting (legs_under s es))) (in_force s es))
unfolding memory_of
list-leaves rate s es h k l =
    let legs = counting (legs_under s es) in
    record {
      answers = list-answers rate legs h k;
      patterns-are = refl;
      rounds-are = refl;
      settings-read = read_back (trip_of rate legs) (in_force s es) l;
      accepted = each-accepted es s;
    }

-- For every accepted `zaqnuti_trip_begin`, whatever the memory held before, and every list of calls on it, refused ones and columns that are too short included.
pub drive_calls : (f : List Float) (rounds rate : ℕ) {trip₀ trip force₀ force : List ℕ} {rounds₀ n : ℕ} → rate ≤ 65535 → every (fits binary64) f ≡ true
    → BegunAnswers (begun_of (displacement_settings f rounds) rate) 0 trip₀ trip force₀ force rounds₀ n → (calls : List TripCall) → every lendable calls ≡ true
    → CallsLeave rate (displacement_settings f rounds) (collect call_events calls) (fold memory_after (record { words = trip; patterns = force; rounds = n }) calls)
unfolding memory_of
drive_calls f rounds rate {trip₀} {trip} {force₀} {force} {rounds₀} {n} fits₀ lent₀ answer calls h =
    let s = displacement_settings f rounds in
    let a = begun-accepted s rate answer.others.number_is in
    let g = begun-goes s rate a.0 a.1 in
    let start : record { words = trip; patterns = force; rounds = n } ≡ memory_of (trip_of rate []) s = rw (answer.trip_is, answer.others.in_force_is, answer.others.rounds-are, g) refl in
    let es = collect call_events calls in
    let legs = legs_under s es in
    let k = legs_narrow es s (calls-narrow calls h) in
    let e : fold with_leg (trip_of rate []) legs ≡ trip_of rate (counting legs) = trip_law rate legs a.1 k in
    let held : WordsHeld (trip_of rate (counting legs)) = subst WordsHeld e (fold-held legs (trip_of rate []) (start-held rate a.1 fits₀ [])) in
    let sound : sound_trip (trip_of rate (counting legs)) ≡ true = subst (λ (t : Trip). sound_trip t ≡ true) e (fold-sound legs (trip_of rate []) (start-sound rate a.1) k) in
    rw (start, calls-from calls (trip_of rate []) s (start-held rate a.1 fits₀ []) (start-sound rate a.1) (legible f rounds lent₀) h, e)
    (list-leaves rate s es held sound (forced-legible calls s (legible f rounds lent₀) h))

-- ---- a refused call

travel_kept : (a : Result Travelled Refusal) (w : List ℕ) → 0 < answer_number a → trip_after a w ≡ w
travel_kept (Err r) w h = refl
travel_kept (Ok v) w h = absurd (omega arith)

-- leaves the memory as it was
pub refused-leaves : (m : TripMemory) (c : TripCall) → 0 < call_number m c → memory_after m c ≡ m
unfolding memory_after call_number
refused-leaves m (travel_call r pulses) h = rw (travel_kept (travel_in m r pulses) m.words h)
refused-leaves m (settings_call s rounds) h = go (driving_in m s rounds) h
  where
    go : (d : Result Drive Refusal) → 0 < answer_number d → record { words = m.words; patterns = in_force_after d m.patterns; rounds = rounds_after d m.rounds } ≡ m
    go (Err r) h = refl
    go (Ok v) h = absurd (omega arith)

-- and no trace: the calls leave what they leave without it
pub refused-no_trace : (m : TripMemory) (before later : List TripCall) (c : TripCall) → 0 < call_number (fold memory_after m before) c
    → fold memory_after m (before ++ c ∷ later) ≡ fold memory_after m (before ++ later)
unfolding fold
refused-no_trace m before later c h =
    fold-append memory_after m before (c ∷ later)
    ∙ ap (λ (z : TripMemory). fold memory_after z later) (refused-leaves (fold memory_after m before) c h)
    ∙ sym (fold-append memory_after m before later)

-- ---- what the contracts say of memory: the number, and what it holds afterwards

pub travel_memory : (m : TripMemory) (r : Ride) (pulses : ℕ) {number : ℕ} {trip delta₀ delta counts₀ counts : List ℕ}
    → TravelAnswers (ride_lent (settings_in m) r) pulses number m.words trip delta₀ delta counts₀ counts
    → (number ≡ call_number m (travel_call r pulses)) × (record { words = trip; patterns = m.patterns; rounds = m.rounds } ≡ memory_after m (travel_call r pulses))
unfolding memory_after call_number
travel_memory m r pulses a = (a.leaves.number_is, rw a.leaves.trip_is)

pub settings_memory_is : (m : TripMemory) (s : List Float) (rounds : ℕ) {number n : ℕ} {force : List ℕ}
    → DrivingAnswers (under_new (displacement_settings s rounds) (tested (held_of m.words))) number m.patterns force m.rounds n
    → (number ≡ call_number m (settings_call s rounds)) × (record { words = m.words; patterns = force; rounds = n } ≡ memory_after m (settings_call s rounds))
unfolding memory_after call_number
settings_memory_is m s rounds a = (a.number_is, rw (a.in_force_is, a.rounds-are))
