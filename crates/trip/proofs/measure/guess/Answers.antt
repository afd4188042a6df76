-- `trip::measure::guess` is safe: neither pattern that it reads is a NaN's. Assumes nothing.
use native.Mathlib.Omega.{arith}
use Rattle.root.proofs.Reading.{no_nan}
use Rattle.root.proofs.Special.{is_number}
use Rattle.trip.proofs.measure.guess.Goals as goal

pub float_from_bits-x : goal.float_from_bits-x
float_from_bits-x c = no_nan _ (omega arith)

pub float_from_bits-f : goal.float_from_bits-f
float_from_bits-f c = no_nan _ (omega arith)

pub float_to_bits-result : goal.float_to_bits-result
float_to_bits-result c = is_number _ c.if-u.false
