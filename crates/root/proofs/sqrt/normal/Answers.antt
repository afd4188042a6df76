-- `root::sqrt::normal` meets its contract: the answer's digits were tested by `agrees`, or it comes from `positive`. Assumes nothing.
use Rattle.std.proofs.Common.{arith}
use lib.Ieee.{binary64, to_bits}
use Rattle.root.proofs.Reading.{no_nan}
use Rattle.root.proofs.Special.{is_number}
use Rattle.root.proofs.NormalRoot.{room, found}
use Rattle.root.proofs.sqrt.normal.Goals as goal

pub float_to_bits-n : goal.float_to_bits-n
float_to_bits-n c = is_number c.from_table-g.result c.if-g.false

pub agrees-requires : goal.agrees-requires
agrees-requires c = omega (arith, room c.args.b, c.radicand-w.ensures)

pub float_from_bits-result : goal.float_from_bits-result
float_from_bits-result c = no_nan _ (omega arith)

pub returns-then-agrees : goal.returns-then-agrees
returns-then-agrees c = let d = c in
    found d.args.b (to_bits binary64 c.from_table-g.result) c.radicand-w.result d.requires.0 d.requires.1 c.radicand-w.ensures (c.agrees.ensures c.if-agrees.true)
