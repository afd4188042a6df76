-- `corrections_epoch_columns::epoch::states_lack` meets its contract. Assumes nothing.
use native.Mathlib.Omega.{arith}
use borrow.Author.Tests.{lt-ltb, le-ltb}
use Rattle.corrections_epoch_columns.specs.Short.{states_short}
use Rattle.corrections_epoch_columns.proofs.epoch.states_lack.Goals as goal

pub returns-then-c-gt64 : goal.returns-then-c-gt64
unfolding states_short
returns-then-c-gt64 c = rw (lt-ltb 64 c.args.c.count c.if-c-gt64.true)

pub returns : goal.returns
unfolding states_short
returns c = rw (le-ltb 64 c.args.c.count (omega (arith, c.if-c-gt64.false)))
