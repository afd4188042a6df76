-- `corrections_forget::retain::front_of` meets its contract. Assumes nothing.
use Rattle.corrections_directory.specs.Directory.{floats}
use Rattle.corrections_forget.proofs.MoveLaws.{PassedFront}
use Rattle.corrections_forget.proofs.retain.front_of.Given as goal

abbrev pub invariant-loop-k : goal.invariant-loop-k
invariant-loop-k l = PassedFront (floats l.table_time) l.first l.count l.time l.k
