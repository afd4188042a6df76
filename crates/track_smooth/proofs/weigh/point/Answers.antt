use Rattle.track_tridiagonal.proofs.Cells.{readable}
use native.Mathlib.Omega.{arith}
use Rattle.track_smooth.proofs.weigh.point.Goals as goal

pub float_from_bits-x : goal.float_from_bits-x
float_from_bits-x c = readable _ (c.requires.1.number _ (omega (arith, c.requires.0)))

pub float_from_bits-y : goal.float_from_bits-y
float_from_bits-y c = readable _ (c.requires.1.number _ (omega (arith, c.requires.0)))

pub float_from_bits-z : goal.float_from_bits-z
float_from_bits-z c = readable _ (c.requires.1.number _ (omega (arith, c.requires.0)))
