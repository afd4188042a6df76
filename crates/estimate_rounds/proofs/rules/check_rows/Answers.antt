-- `estimate_rounds::rules::check_rows` meets its contract. Assumes nothing.
use Prim.Native.Nat.{◌+◌}
use native.Mathlib.Omega.{arith}
use borrow.Author.Tests.{lt-ltb, le-ltb}
use Rattle.numeric.specs.Rules.{ruled}
use Rattle.estimate_rounds.specs.Rules.{row_rules}
use Rattle.estimate_rounds.proofs.rules.check_rows.Goals as goal

pub returns-then-rows-lt4 : goal.returns-then-rows-lt4
unfolding row_rules ruled
returns-then-rows-lt4 c = rw (lt-ltb c.args.rows (4 + c.args.slots) (omega arith))

pub returns-then-rows-slots : goal.returns-then-rows-slots
unfolding row_rules ruled
returns-then-rows-slots c = rw (lt-ltb c.args.rows (4 + c.args.slots) (omega arith))

pub returns-then-slots-gt6 : goal.returns-then-slots-gt6
unfolding row_rules ruled
returns-then-slots-gt6 c = rw (le-ltb c.args.rows (4 + c.args.slots) (omega arith), lt-ltb _ _ c.if-slots-gt6.true)

pub returns : goal.returns
unfolding row_rules ruled
returns c = rw (le-ltb c.args.rows (4 + c.args.slots) (omega arith), le-ltb _ _ c.if-slots-gt6.false)
