use Rattle.track_tridiagonal.proofs.Elimination.{pivot-writable, right-writable, row_ends, row_goes}
use Rattle.track_tridiagonal.proofs.Cells.{readable}
use lib.ListN.{length-set}
use mathlib.Core.Path.{refl, sym, ◌∙◌}
use native.Mathlib.Omega.{arith}
use Rattle.track_tridiagonal.proofs.solve.eliminate_row.Goals as goal

pub float_from_bits-u : goal.float_from_bits-u
float_from_bits-u c = readable _ c.requires.1.first

pub float_from_bits-d : goal.float_from_bits-d
float_from_bits-d c = readable _ c.requires.1.second

pub float_from_bits-r : goal.float_from_bits-r
float_from_bits-r c = readable _ c.requires.1.third

pub returns : goal.returns
returns c = row_goes _ _ _ _ refl refl c.goes_on-good.ensures c.if-not-good.false
