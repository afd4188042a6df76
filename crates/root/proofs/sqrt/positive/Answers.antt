-- `root::root::positive` meets its contract. Assumes nothing.
use Rattle.std.proofs.Common.{arith}
use lib.Ieee.{binary64, of_bits}
use Rattle.root.proofs.Reading.{no_nan}
use Rattle.root.proofs.RootLaws.{Result, result}
use Rattle.root.proofs.sqrt.positive.Goals as goal

found : (c : goal.After-nearest-q) → Result (of_bits binary64 c.args.b) c.split-p.result.y c.nearest-q.result
found c = result (of_bits binary64 c.args.b) c.split-p.result.m c.split-p.result.y c.nearest-q.result c.split-p.ensures c.nearest-q.ensures

pub overflow_add-result-2 : goal.overflow_add-result-2
overflow_add-result-2 c = omega (arith, (found c).below, c.split-p.ensures.small)

pub float_from_bits-result : goal.float_from_bits-result
float_from_bits-result c = no_nan _ (omega (arith, (found c).below, c.split-p.ensures.small))

pub returns : goal.returns
returns c = (found c).is
