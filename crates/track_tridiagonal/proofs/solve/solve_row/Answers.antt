use Rattle.track_tridiagonal.proofs.Substitution.{row-left, row-stored}
use Rattle.track_tridiagonal.proofs.Nan.{finite-writable}
use Rattle.track_tridiagonal.proofs.Cells.{readable}
use mathlib.Core.Path.{sym, ◌∙◌}
use Rattle.track_tridiagonal.proofs.solve.solve_row.Goals as goal

pub float_from_bits-d : goal.float_from_bits-d
float_from_bits-d c = readable _ c.requires.1.first

pub float_from_bits-u : goal.float_from_bits-u
float_from_bits-u c = readable _ c.requires.1.second

pub float_from_bits-r : goal.float_from_bits-r
float_from_bits-r c = readable _ c.requires.1.third

pub float_to_bits-w : goal.float_to_bits-w
float_to_bits-w c = finite-writable _ (sym c.is_finite.ensures ∙ c.if-not-is_finite.false)

pub returns : goal.returns
returns c = row-stored _ _ _ _ _ c.unknown-v.ensures (sym c.is_finite.ensures ∙ c.if-not-is_finite.false)
