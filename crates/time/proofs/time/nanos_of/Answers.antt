-- `time::time::nanos_of` meets its contract. Assumes nothing.
use Rattle.std.proofs.Common.{lit≤}
use lib.Ieee.{of_int, of_bits}
use Rattle.time.specs.Time.{nanos_of}
use Rattle.time.proofs.WeekLaws.{shifted-from-zero, shifted-below}
use Rattle.time.proofs.time.nanos_of.Goals as goal

pub whole_times-requires : goal.whole_times-requires
unfolding of_bits
whole_times-requires c = (lit≤ tt, shifted-from-zero c.args.tow c.requires, shifted-below c.args.tow c.requires)

pub returns : goal.returns
unfolding nanos_of of_int of_bits
returns c = c.whole_times.ensures
