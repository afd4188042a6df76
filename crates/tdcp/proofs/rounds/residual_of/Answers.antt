-- `tdcp::rounds::residual_of` meets its contract. Assumes nothing.
use Rattle.tdcp.proofs.rounds.residual_of.Goals as goal

pub returns : goal.returns
returns c = rw (c.pattern.ensures, c.state_at.ensures)
