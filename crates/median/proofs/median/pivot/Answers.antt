-- `median::median::pivot` meets its contract. Assumes nothing.
use Prim.Native.Nat.{◌-◌, ◌/◌}
use native.Mathlib.Omega.{arith}
use Rattle.median.proofs.SelectSplit.{middle-counts}
use Rattle.median.proofs.median.pivot.Goals as goal

pub returns : goal.returns
returns c = let s = c in
    let n = s.args.n in
    rw (c.max.ensures, c.min.ensures, c.max-high.ensures, c.min-low.ensures)
    (middle-counts s.args.k.now n (omega arith) 0 (n / 2) (n - 1) (omega arith) (omega arith) (omega arith))
