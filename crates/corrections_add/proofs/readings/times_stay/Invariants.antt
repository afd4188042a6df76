-- `corrections_add::readings::times_stay` meets its contract. Assumes nothing.
use Rattle.corrections_add.proofs.StayLaws.{Staying}
use Rattle.corrections_add.proofs.readings.times_stay.Given as goal

abbrev pub invariant-loop-p : goal.invariant-loop-p
invariant-loop-p l = Staying l.table_time l.first l.i l.t l.p
