-- `root::root::nearest` meets its contract. Assumes nothing.
use Rattle.std.proofs.Common.{arith}
use Rattle.root.proofs.Reading.{lt-number}
use Rattle.root.proofs.RootLaws.{Wide, wide}
use Rattle.root.proofs.sqrt.nearest.Goals as goal

room : (c : goal.Start) → Wide c.args.m c.args.p
room c = wide c.args.m c.args.p c.requires.0 c.requires.1 c.requires.2

pub overflow_mul-w : goal.overflow_mul-w
overflow_mul-w c = omega (arith, room c)

pub float_to_bits-s : goal.float_to_bits-s
float_to_bits-s c = lt-number _ _ c.if-s.true

pub settled-requires : goal.settled-requires
settled-requires c = omega (arith, room c.before.before)

pub slow-requires : goal.slow-requires
slow-requires c = let r = room c.before.before in (r.from, r.below)
