use Rattle.track_tridiagonal.proofs.Cells.{readable}
use Rattle.track_tridiagonal.proofs.solve.first_row.Goals as goal

pub float_from_bits-p : goal.float_from_bits-p
float_from_bits-p c = readable _ c.requires.1.first

pub float_from_bits-q : goal.float_from_bits-q
float_from_bits-q c = readable _ c.requires.1.second
