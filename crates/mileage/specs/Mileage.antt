-- A drive's distance (docs/SCOPE.md, "Mileage"): the totals of a list of epochs, and the calls of a mileage. Definitions only.
use Rattle.std.specs.Prelude.{Result, Ok, Err}
use Rattle.numeric.specs.declared.refusal.Refusal.{Refusal}
use Rattle.std.specs.Prelude.{ℕ, ◌+◌, ◌*◌, ◌/◌, ◌^◌, Bool, true, false, cond, not, ◌&&◌, ◌||◌, List, [], ◌∷◌, leb, ltb, eqb, length, take, Float}
use Rattle.lists.specs.Walk.{collect}
use Rattle.numeric.specs.Real.{in_range}
use Rattle.numeric.specs.declared.refusal.Refusal.TheVariants.{SettingOutOfRange, BadTrip, NoDistance}
use Rattle.trip.specs.Measure.{millimetres_of, measurable}
use Rattle.mileage.specs.Rated.{rated}
use Rattle.mileage.specs.declared.mileage.Epoch.{Epoch}
use Rattle.mileage.specs.declared.mileage.Mileage.{Mileage}
use Rattle.mileage.specs.declared.mileage.Report.{Report}

-- ---- one epoch

-- its displacement was refused: displacement and quality are then of no account
unfoldable pub is_refused : Epoch → Bool
is_refused e = not (eqb e.refused 0)

-- its displacement was accepted and is well rated
unfoldable pub is_usable : Float → Epoch → Bool
is_usable limit e = not (is_refused e) && rated limit e.chi e.pdop

-- accepted and not well rated
unfoldable pub is_aside : Float → Epoch → Bool
is_aside limit e = not (is_refused e) && not (is_usable limit e)

-- its odometer has a pulse
unfoldable pub moves : Epoch → Bool
moves e = ltb 0 e.pulses

-- its length in whole millimetres, as a trip has it
abbrev pub length_of : Epoch → ℕ
length_of e = millimetres_of e.displacement

-- ---- an epoch among its neighbours

-- an epoch, whether the one before it and the one after it have a pulse, and whether it is the last
pub record PlacedEpoch : Type 0 where
  pub before : Bool
  pub epoch : Epoch
  pub after : Bool
  pub last : Bool

-- it or a neighbour has a pulse
unfoldable pub near_pulse : PlacedEpoch → Bool
near_pulse p = p.before || moves p.epoch || p.after

unfoldable pub is_standing : Float → PlacedEpoch → Bool
is_standing limit p = is_usable limit p.epoch && not (near_pulse p)

unfoldable pub is_counted : Float → PlacedEpoch → Bool
is_counted limit p = is_usable limit p.epoch && near_pulse p

-- a missing neighbour counts as without a pulse
unfoldable pub next_moves : List Epoch → Bool
next_moves [] = false
next_moves (e ∷ es) = moves e

unfoldable pub no_epochs : List Epoch → Bool
no_epochs [] = true
no_epochs (e ∷ es) = false

-- each epoch of a list in its place, the first with whether an epoch before it has a pulse
unfoldable pub in_places : Bool → List Epoch → List PlacedEpoch
in_places before [] = []
in_places before (e ∷ es) = record { before = before; epoch = e; after = next_moves es; last = no_epochs es } ∷ in_places (moves e) es

-- ---- the totals of a list of epochs

-- what the epochs that pass the test have of something, added
unfoldable pub sum : (PlacedEpoch → Bool) → (Epoch → ℕ) → List PlacedEpoch → ℕ
sum test f [] = 0
sum test f (p ∷ ps) = cond (test p) (f p.epoch) 0 + sum test f ps

abbrev pub count_placed : (PlacedEpoch → Bool) → List PlacedEpoch → ℕ
count_placed test ps = sum test (λ e. 1) ps

unfoldable pub mileage_report : Float → List Epoch → Report
mileage_report limit es =
    let ps = in_places false es in
    record {
      epochs = length es;
      refused = count_placed (λ p. is_refused p.epoch) ps;
      aside = count_placed (λ p. is_aside limit p.epoch) ps;
      counted = sum (is_counted limit) length_of ps;
      covered = sum (is_counted limit) (λ e. e.pulses) ps;
      standing = sum (is_standing limit) length_of ps;
      pulses = sum (λ p. true) (λ e. e.pulses) ps;
    }

-- the mileage with this limit after these epochs: the last epoch, where it stands, is held apart, since a pulse in the next one makes it count
unfoldable pub mileage_of : Float → List Epoch → Mileage
mileage_of limit es =
    let r = mileage_report limit es in
    let ps = in_places false es in
    record {
      limit = limit;
      epochs = r.epochs;
      refused = r.refused;
      aside = r.aside;
      counted = r.counted;
      covered = r.covered;
      standing = sum (λ p. not p.last && is_standing limit p) length_of ps;
      pulses = r.pulses;
      moved = count_placed (λ p. p.last && moves p.epoch) ps;
      waiting = sum (λ p. p.last && is_standing limit p) length_of ps;
    }

-- the distance: counted millimetres times all pulses by counted pulses, rounded down
unfoldable pub scaled : ℕ → ℕ → ℕ → ℕ
scaled counted pulses covered = counted * pulses / covered

-- ---- the calls

-- 16, of a mileage handed in
unfoldable pub sound_mileage : Mileage → Bool
sound_mileage m =
    leb m.epochs 65535
    && leb (m.refused + m.aside) m.epochs
    && leb (m.counted + m.standing + m.waiting) (1000000 * m.epochs)
    && leb m.pulses (65535 * m.epochs)
    && leb m.covered m.pulses
    && leb m.moved 1
    && in_range m.limit

-- a mileage just started; 3 for a limit that is not finite or above 1e9 in magnitude
unfoldable pub mileage_started : Float → Result Mileage Refusal
mileage_started limit = cond (in_range limit) (Ok (mileage_of limit [])) (Err SettingOutOfRange)

-- one epoch more: a pulse in it makes the last epoch's waiting millimetres count, and no pulse leaves them standing
unfoldable pub grown : Mileage → Bool → Bool → ℕ → ℕ → Mileage
grown m refused usable millimetres pulses =
    let move = ltb 0 pulses in
    let near_pulse = ltb 0 m.moved || move in
    record {
      limit = m.limit;
      epochs = m.epochs + 1;
      refused = m.refused + cond refused 1 0;
      aside = m.aside + cond (not refused && not usable) 1 0;
      counted = m.counted + cond move m.waiting 0 + cond (usable && near_pulse) millimetres 0;
      covered = m.covered + cond (usable && near_pulse) pulses 0;
      standing = m.standing + cond (not move) m.waiting 0;
      pulses = m.pulses + pulses;
      moved = cond move 1 0;
      waiting = cond (usable && not near_pulse) millimetres 0;
    }

-- a refused displacement is not looked at; an accepted one has to be finite and not longer than 1,000 m
unfoldable pub is_taken : Epoch → Bool
is_taken e = is_refused e || measurable e.displacement

-- one epoch more; 16 for a mileage that is not sound, a full one, and an epoch that is not taken
unfoldable pub mileage_added : Mileage → Epoch → Result Mileage Refusal
mileage_added m e =
    cond (sound_mileage m && ltb m.epochs 65535 && is_taken e)
    (Ok (grown m (is_refused e) (is_usable m.limit e) (length_of e) e.pulses))
    (Err BadTrip)

unfoldable pub mileage_reported : Mileage → Result Report Refusal
mileage_reported m =
    cond (sound_mileage m)
    (Ok (record {
      epochs = m.epochs;
      refused = m.refused;
      aside = m.aside;
      counted = m.counted;
      covered = m.covered;
      standing = m.standing + m.waiting;
      pulses = m.pulses;
    }))
    (Err BadTrip)

-- 16 for a distance above 2 ^ 63 - 1
unfoldable pub distance_held : ℕ → Result ℕ Refusal
distance_held d = cond (ltb d (2 ^ 63)) (Ok d) (Err BadTrip)

-- 17, after 16, where no pulse was counted
unfoldable pub mileage_distance : Mileage → Result ℕ Refusal
mileage_distance m =
    cond (not (sound_mileage m)) (Err BadTrip)
    (cond (eqb m.covered 0) (Err NoDistance)
    (distance_held (scaled m.counted m.pulses m.covered)))

-- fuel per kilometre: millilitres times 1,000,000 by the distance, rounded down; 17 also where the distance is 0
unfoldable pub fuel_over : ℕ → Result ℕ Refusal → Result ℕ Refusal
fuel_over millilitres (Err r) = Err r
fuel_over millilitres (Ok d) = cond (eqb d 0) (Err NoDistance) (Ok (millilitres * 1000000 / d))

unfoldable pub mileage_fuelled : Mileage → ℕ → Result ℕ Refusal
mileage_fuelled m millilitres = fuel_over millilitres (mileage_distance m)

-- ---- calls one after the other

-- the epochs that additions take among those handed over: the first 65,535 whose displacement is refused, or finite and not longer than 1,000 m
unfoldable pub takens : List Epoch → List Epoch
takens es = collect (λ e. cond (is_taken e) (e ∷ []) []) es

unfoldable pub taking : List Epoch → List Epoch
taking es = take 65535 (takens es)

-- the distance of a list of epochs: 17 where no pulse was counted
unfoldable pub distance_of : Float → List Epoch → Result ℕ Refusal
distance_of limit es =
    let r = mileage_report limit es in cond (eqb r.covered 0) (Err NoDistance) (distance_held (scaled r.counted r.pulses r.covered))
