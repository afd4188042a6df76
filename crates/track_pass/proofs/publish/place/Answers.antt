use Rattle.track_pass.proofs.FiniteSum.{add-finite}
use Rattle.track_tridiagonal.proofs.Nan.{finite_number, finite-writable}
use Rattle.track_tridiagonal.proofs.Cells.{readable}
use Rattle.numeric.proofs.OrderLaws.{pattern_bits}
use lib.Ieee.Bits.{of_bits-fits}
use lib.Ieee.{binary64}
use mathlib.Core.Path.{sym}
use Rattle.track_pass.proofs.publish.place.Goals as goal

pub float_from_bits-result : goal.float_from_bits-result
float_from_bits-result c = readable _ (finite_number _ c.requires.0)

pub float_to_bits-result : goal.float_to_bits-result
float_to_bits-result c = finite-writable _ (add-finite _ _ (of_bits-fits binary64 _) c.requires.0 c.requires.1)

pub returns : goal.returns
returns c = sym (pattern_bits _)
