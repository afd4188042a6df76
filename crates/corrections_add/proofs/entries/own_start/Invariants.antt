-- `corrections_add::entries::own_start` meets its contract. Assumes nothing.
use Prim.Native.Nat.{◌≤◌}
use Rattle.corrections_add.proofs.OwnLaws.{Own}
use Rattle.corrections_add.proofs.entries.own_start.Given as goal

abbrev pub invariant-loop-a : goal.invariant-loop-a
invariant-loop-a l = (l.a ≤ l.j) × Own l.new.constellation.now l.new.svid.now l.new.band.now l.g l.a l.j
