-- `corrections_add::readings::shift` meets its contract. Assumes nothing.
use Rattle.corrections_add.proofs.FillLaws.{Shifting}
use Rattle.corrections_add.proofs.readings.shift.Given as goal

abbrev pub invariant-loop-c : goal.invariant-loop-c
invariant-loop-c l = Shifting 0 l.initial.d l.d l.first l.by l.count l.c
