-- `median::median::median` meets its contract. Assumes nothing.
use native.Mathlib.Omega.{arith}
use mathlib.Core.Path.{sym, ◌∙◌}
use lib.Seq.{length-take-le}
use Rattle.median.proofs.MedianSigns.{median_none, median_few}
use Rattle.median.proofs.median.median.Goals as goal

pub returns-then-n-eq0 : goal.returns-then-n-eq0
returns-then-n-eq0 c = median_none c.args.patterns.now c.if-n-eq0.true

pub returns-then-n-le64 : goal.returns-then-n-le64
returns-then-n-le64 c = let xs = c.args.patterns.now in
    c.median_of.ensures ∙ sym (median_few xs (omega arith))

pub slice_bounds-median_of-end : goal.slice_bounds-median_of-end
slice_bounds-median_of-end c = sym (length-take-le 64 c.args.patterns.now (omega arith))

pub median_of-requires-2 : goal.median_of-requires-2
median_of-requires-2 c = let e = length-take-le 64 c.args.patterns.now (omega arith) in
    (omega arith, omega arith)
