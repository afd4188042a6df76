-- Worked values of millimetres, odometer, report and fuel, and of the refusals. Assumes nothing.
use Rattle.std.specs.Prelude.{Ok, Err}
use Prim.Native.Nat.{ℕ}
use mathlib.Core.Path.{◌≡◌, refl}
use mathlib.Core.List.{List, [], ◌∷◌}
use lib.Ieee.{nan, lt, le, eq, add, mul, div, of_bits, of_int}
use Rattle.exact.specs.Float.{bits, whole, decimal}
use Rattle.exact.specs.Value.{scale, magnitude}
use Rattle.root.specs.Root.{root_of}
use Rattle.lists.specs.Walk.{fold}
use Rattle.numeric.specs.Vec3.{norm}
use Rattle.numeric.specs.Whole.{whole_times}
use Rattle.numeric.specs.declared.refusal.Refusal.TheVariants.{BadTrip, NoDistance}
use Rattle.trip.specs.Measure.{millimetres, millimetres_of, measurable}
use Rattle.trip.specs.Trip.{Leg, carrier_millimetres, pulses_of, odometer, apart, difference_after, greatest, first_with, greatest_of, reached_of, report_of, trip_of, sound_trip, started, with_epoch, added, fuelled, trip_left, with_leg}
use Rattle.trip.specs.declared.trip.Trip.{Trip}
use Rattle.trip.specs.declared.trip.Report.{Report}

-- ---- millimetres: 1,000 m, the double nearest 1.0005, and the two doubles beside 1 mm, of which 0.001 is the upper
pub kilometre : millimetres (whole 1000) ≡ 1000000
unfolding whole_times magnitude scale of_int
kilometre = refl

pub cut : millimetres (decimal 10005 4) ≡ 1000
unfolding whole_times magnitude scale of_int div
cut = refl

pub one : millimetres (bits 0x3F50_624D_D2F1_A9FC) ≡ 1
unfolding whole_times magnitude scale of_bits
one = refl

pub under_one : millimetres (bits 0x3F50_624D_D2F1_A9FB) ≡ 0
unfolding whole_times magnitude scale of_bits
under_one = refl

-- ---- one pulse, three to the kilometre
pub third : odometer 3 1 ≡ 333333
unfolding odometer
third = refl

-- ---- a trip of 1,000 pulses to the kilometre

abbrev leg : ℕ → ℕ → ℕ → ℕ → Leg
leg x y z n = record { displacement = record { x = whole x; y = whole y; z = whole z }; pulses = n }

-- 5, 1, 2 and 2 m against 5, 3, 0 and 0 pulses: apart by 0, 2,000, 0 and 2,000 mm
abbrev four : List Leg
four = leg 3 4 0 5 ∷ leg 0 0 1 3 ∷ leg 2 0 0 0 ∷ leg 0 2 0 0 ∷ []

abbrev report : ℕ → ℕ → ℕ → ℕ → Report
report c o g k = record { carrier = c; odometer = o; greatest = g; reached = k }

-- a trip just started reports zeros throughout
pub none : report_of 1000 [] ≡ report 0 0 0 0
unfolding report_of greatest_of reached_of difference_after greatest first_with carrier_millimetres pulses_of odometer
none = refl

-- a difference of 0 is reached by the first epoch
pub level : report_of 1000 (leg 3 4 0 5 ∷ []) ≡ report 5000 5000 0 1
unfolding report_of greatest_of reached_of difference_after greatest first_with carrier_millimetres pulses_of odometer apart millimetres_of whole_times magnitude scale norm root_of add mul of_int
level = refl

-- 2,000 mm are reached by the second epoch and again by the fourth
pub all : report_of 1000 four ≡ report 10000 8000 2000 2
unfolding report_of greatest_of reached_of difference_after greatest first_with carrier_millimetres pulses_of odometer apart millimetres_of whole_times magnitude scale norm root_of add mul of_int
all = refl

-- the calls, one after the other
pub called : fold with_leg (trip_of 1000 []) four ≡ trip_of 1000 four
unfolding fold with_leg trip_left added sound_trip with_epoch measurable trip_of greatest_of reached_of difference_after greatest first_with carrier_millimetres pulses_of odometer apart millimetres_of whole_times magnitude scale norm root_of le lt eq add mul of_int
called = refl

-- 850 ml over these 10 m
pub fuel : fuelled (trip_of 1000 four) 850 ≡ Ok 85000
unfolding fuelled sound_trip trip_of greatest_of reached_of difference_after greatest first_with carrier_millimetres pulses_of odometer apart millimetres_of whole_times magnitude scale norm root_of add mul of_int
fuel = refl

-- ---- refusals

pub no-rate : started 0 ≡ Err BadTrip
unfolding started
no-rate = refl

-- 17 comes after 16
pub no_distance : fuelled (trip_of 1000 []) 850 ≡ Err NoDistance
unfolding fuelled sound_trip trip_of carrier_millimetres pulses_of
no_distance = refl

pub no-rate-first : fuelled (trip_of 0 []) 850 ≡ Err BadTrip
unfolding fuelled sound_trip trip_of carrier_millimetres pulses_of
no-rate-first = refl

-- 1,000 m and a bit is too long, and a NaN is not finite
pub too_long : added (trip_of 1000 []) (record { x = bits 0x408F_4000_0000_0001; y = whole 0; z = whole 0 }) 7 ≡ Err BadTrip
unfolding added sound_trip measurable trip_of carrier_millimetres pulses_of norm root_of le lt eq add mul of_int of_bits
too_long = refl

pub no_number : added (trip_of 1000 []) (record { x = whole 1; y = nan; z = whole 0 }) 7 ≡ Err BadTrip
unfolding added sound_trip measurable trip_of carrier_millimetres pulses_of norm root_of le lt eq add mul of_int
no_number = refl

-- a full trip, and one with more millimetres than its epochs allow
abbrev with : ℕ → ℕ → Trip
with epochs carrier = record { rate = 1000; epochs = epochs; carrier = carrier; pulses = 0; greatest = 0; reached = 1 }

pub full : added (with 65535 0) (record { x = whole 1; y = whole 0; z = whole 0 }) 7 ≡ Err BadTrip
unfolding added sound_trip measurable norm root_of le lt eq add mul of_int
full = refl

pub too_far : added (with 2 2000001) (record { x = whole 1; y = whole 0; z = whole 0 }) 7 ≡ Err BadTrip
unfolding added sound_trip measurable norm root_of le lt eq add mul of_int
too_far = refl
