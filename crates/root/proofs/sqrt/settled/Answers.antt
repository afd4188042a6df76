-- `root::sqrt::settled` meets its contract: each answer was tested by `agrees` or comes from `slow`. Assumes nothing.
use Rattle.std.proofs.Common.{◌≡◌, ◌+◌, ◌*◌, ◌%◌, ◌^◌, subst, arith}
use Rattle.root.specs.Root.{NearestWhole}
use Rattle.root.proofs.sqrt.settled.Goals as goal

pub returns-then-agrees : goal.returns-then-agrees
returns-then-agrees c = let d = c in
    let g = d.args.g in
    let e : g % 2 ^ 52 + 2 ^ 52 ≡ g = omega arith in
    subst (NearestWhole (d.args.w * 2 ^ 52)) e (c.agrees.ensures c.if-agrees.true)

pub returns-then-agrees-2 : goal.returns-then-agrees-2
returns-then-agrees-2 c = c.agrees-2.ensures c.if-agrees-2.true

pub returns-then-agrees-3 : goal.returns-then-agrees-3
returns-then-agrees-3 c = c.agrees-3.ensures c.if-agrees-3.true
