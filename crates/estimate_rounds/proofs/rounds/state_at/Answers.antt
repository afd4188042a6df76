-- `estimate_rounds::rounds::state_at` meets its contract. Assumes nothing.
use lib.Ieee.{div, of_bits}
use Rattle.estimate_rounds.proofs.RoundsLaws.{past_end}
use native.Mathlib.Omega.{arith}
use Rattle.estimate_rounds.proofs.rounds.state_at.Goals as goal

pub returns-else-s-lt9 : goal.returns-else-s-lt9
unfolding div of_bits
returns-else-s-lt9 c = past_end c.args.x c.args.s (omega arith) (omega arith)
