-- `zaqnuti::matrix::zaqnuti_solve` meets its contract. Assumes nothing.
use mathlib.Core.Path.{ap, ◌∙◌}
use mathlib.Core.List.{map}
use Rattle.numeric.specs.Order.{pattern_of}
use Rattle.zaqnuti.proofs.matrix.zaqnuti_solve.Goals as goal

pub returns : goal.returns
returns c = c.patterns.ensures ∙ ap (map pattern_of) c.solve_into.ensures
