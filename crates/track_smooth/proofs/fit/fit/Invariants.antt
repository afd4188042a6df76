-- `track_smooth::fit::fit` meets its contract. Assumes nothing.
use Rattle.track_pass.specs.Input.{track_in}
use Rattle.track_smooth.proofs.Rounds.{Gone}
use Rattle.track_smooth.proofs.fit.fit.Given as goal

abbrev pub invariant-loop-done : goal.invariant-loop-done
invariant-loop-done l = Gone (track_in l.track) l.set.huber l.set.iterations l.fn.w l.fn.r l.w l.r l._done
