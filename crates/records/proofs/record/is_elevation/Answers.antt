-- `records::record::is_elevation` meets its contract. Assumes nothing.
use mathlib.Core.Path.{refl}
use lib.Ieee.{of_bits, neg, of_int}
use Rattle.records.specs.Record.{is_elevation}
use Rattle.records.proofs.record.is_elevation.Goals as goal

pub returns : goal.returns
unfolding is_elevation of_bits neg of_int
returns c = refl
