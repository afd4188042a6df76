-- `root::tangent::from_wide_table` is safe: no pattern that it reads is a NaN's. Assumes nothing.
use Rattle.std.proofs.Common.{arith}
use Rattle.root.proofs.Reading.{no_nan}
use Rattle.root.proofs.tangent.from_wide_table.Goals as goal

pub float_from_bits-u : goal.float_from_bits-u
float_from_bits-u c = no_nan _ (omega arith)

pub float_from_bits-high : goal.float_from_bits-high
float_from_bits-high c = no_nan _ (omega arith)

pub float_from_bits-inverse : goal.float_from_bits-inverse
float_from_bits-inverse c = no_nan _ (omega arith)

pub float_from_bits-at : goal.float_from_bits-at
float_from_bits-at c = no_nan _ (omega arith)
