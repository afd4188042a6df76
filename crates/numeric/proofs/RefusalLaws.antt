-- The numbers of the refusals. Assumes nothing.
use mathlib.Core.Path.{◌≡◌}
use native.Mathlib.Omega.{arith}
use Rattle.numeric.specs.Refusal.{number_of}
use Rattle.numeric.specs.declared.refusal.Refusal.{Refusal}
use Rattle.numeric.specs.declared.refusal.Refusal.TheVariants.{BrokenForm, TooMany, SettingOutOfRange, RecordOutOfRange, BadInterval, BadTrack, TooFewPairs, TooFewRows, TooManySlots, FitFailed, TableFull, NoCorrection, BadTime, QualityNotFinite, OnReceiver, BadTrip, NoDistance, BadDropTime, NotTurned, NotCertified, BrokenRecords}

-- no refusal has the number 0
pub not-zero : (r : Refusal) → number_of r ≡ 0 → ⊥
not-zero BrokenForm e = omega arith
not-zero TooMany e = omega arith
not-zero SettingOutOfRange e = omega arith
not-zero RecordOutOfRange e = omega arith
not-zero BadInterval e = omega arith
not-zero BadTrack e = omega arith
not-zero TooFewPairs e = omega arith
not-zero TooFewRows e = omega arith
not-zero TooManySlots e = omega arith
not-zero FitFailed e = omega arith
not-zero TableFull e = omega arith
not-zero NoCorrection e = omega arith
not-zero BadTime e = omega arith
not-zero QualityNotFinite e = omega arith
not-zero OnReceiver e = omega arith
not-zero BadTrip e = omega arith
not-zero NoDistance e = omega arith
not-zero BadDropTime e = omega arith
not-zero NotTurned e = omega arith
not-zero NotCertified e = omega arith
not-zero BrokenRecords e = omega arith
