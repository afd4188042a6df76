-- `root::root::guess` is safe: neither pattern that it reads is a NaN's. Assumes nothing.
use Rattle.std.proofs.Common.{arith}
use Rattle.root.proofs.Reading.{no_nan}
use Rattle.root.proofs.sqrt.guess.Goals as goal

pub float_from_bits-f : goal.float_from_bits-f
float_from_bits-f c = no_nan _ (omega arith)

pub float_from_bits-y : goal.float_from_bits-y
float_from_bits-y c = no_nan _ (omega arith)
