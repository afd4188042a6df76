-- `tdcp::valid::is_bad_interval` meets its contract. Assumes nothing.
use lib.Ieee.{of_bits, of_int}
use Rattle.tdcp.specs.Valid.{bad_interval}
use Rattle.tdcp.proofs.valid.is_bad_interval.Goals as goal

pub returns : goal.returns
unfolding bad_interval of_bits of_int
returns c = cc
