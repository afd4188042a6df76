-- `root::sqrt::from_table` is safe: the pattern that it reads is no NaN's. Assumes nothing.
use Rattle.std.proofs.Common.{arith}
use Rattle.root.proofs.Reading.{no_nan}
use Rattle.root.proofs.sqrt.from_table.Goals as goal

pub float_from_bits-f : goal.float_from_bits-f
float_from_bits-f c = no_nan _ (omega arith)
