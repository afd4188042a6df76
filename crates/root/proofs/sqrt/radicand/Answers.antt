-- `root::sqrt::radicand` meets its contract: the exponent's lowest digit says whether the digits are doubled. Assumes nothing.
use Rattle.std.proofs.Common.{◌≡◌, ◌+◌, ◌/◌, ◌%◌, ◌^◌, arith}
use Rattle.root.proofs.sqrt.radicand.Goals as goal

pub returns-then-b-eq1 : goal.returns-then-b-eq1
returns-then-b-eq1 c = let b = c.args.b in
    let e : (b / 2 ^ 52 + 51) % 2 ≡ 0 = omega arith in
    rw e (omega arith)

pub returns-else-b-eq1 : goal.returns-else-b-eq1
returns-else-b-eq1 c = let b = c.args.b in
    let e : (b / 2 ^ 52 + 51) % 2 ≡ 1 = omega arith in
    rw e (omega arith)
