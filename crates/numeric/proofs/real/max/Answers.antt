-- `numeric::real::max` meets its contract. Assumes nothing.
use Rattle.numeric.proofs.RealLaws.{max-second, max-no-first, max-first}
use Rattle.numeric.proofs.real.max.Goals as goal

pub returns-then-a-b : goal.returns-then-a-b
returns-then-a-b c = max-second c.args.a c.args.b c.if-a-b.true

pub returns-then-a : goal.returns-then-a
returns-then-a c = let d = c in max-no-first d.args.a d.args.b c.if-a.true

pub returns : goal.returns
returns c = let d = c in max-first d.args.a d.args.b c.if-a-b.false c.if-a.false
