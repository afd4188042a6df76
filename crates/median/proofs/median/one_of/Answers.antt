-- `median::median::one_of` meets its contract. Assumes nothing.
use mathlib.Core.Path.{◌≡◌}
use native.Mathlib.Omega.{arith}
use Rattle.median.proofs.median.one_of.Goals as goal

pub returns-then-m-lt1 : goal.returns-then-m-lt1
returns-then-m-lt1 c = let e : c.args.m ≡ 0 = omega arith in rw e

pub returns-else-m-lt1 : goal.returns-else-m-lt1
returns-else-m-lt1 c = let e : c.args.m ≡ 1 = omega arith in rw e

pub returns-then-m-lt3 : goal.returns-then-m-lt3
returns-then-m-lt3 c = let e : c.args.m ≡ 2 = omega arith in rw e

pub returns-else-m-lt3 : goal.returns-else-m-lt3
returns-else-m-lt3 c = let e : c.args.m ≡ 3 = omega arith in rw e
