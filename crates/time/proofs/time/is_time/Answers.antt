-- `time::time::is_time` meets its contract. Assumes nothing.
use Rattle.std.proofs.Common.{refl}
use lib.Ieee.{of_int, of_bits}
use Rattle.time.proofs.time.is_time.Goals as goal

pub returns : goal.returns
unfolding of_int of_bits
returns c = refl
