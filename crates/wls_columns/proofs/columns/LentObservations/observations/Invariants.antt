-- `wls_columns::columns::LentObservations::observations` meets its contract: its loop stores one place after the other. Assumes nothing.
use Prim.Native.Nat.{◌-◌}
use Rattle.wls_columns.specs.Columns.{observation_at}
use Rattle.wls_columns.specs.Steps.{lent_observations}
use Rattle.lists.proofs.Filling.{Filling}
use Rattle.wls_columns.proofs.columns.LentObservations.observations.Given as goal

abbrev pub invariant-loop-i : goal.invariant-loop-i
invariant-loop-i l = Filling (observation_at (lent_observations l.self)) l.n l.out.observation l.out.count l.i

abbrev pub decreases-loop-i : goal.decreases-loop-i
decreases-loop-i l = l.n - l.i
