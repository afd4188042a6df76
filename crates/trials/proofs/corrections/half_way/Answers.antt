-- `trials::corrections::half_way` meets its contract. Assumes nothing.
use lib.Ieee.{of_int, of_bits}
use Rattle.corrections_directory.specs.Directory.{entry_rows, reading_rows}
use Rattle.trials.proofs.corrections.half_way.Goals as goal

pub returns : goal.returns
unfolding entry_rows reading_rows of_bits of_int
returns c = c.one_query.ensures
