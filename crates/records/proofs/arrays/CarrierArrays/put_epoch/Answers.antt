-- `records::arrays::CarrierArrays::put_epoch` meets its contract. Assumes nothing.
use borrow.Author.Rules.{rules}
use mathlib.Core.Path.{◌≡◌}
use lib.ListN.{length}
use native.Mathlib.Omega.{arith}
use Rattle.records.proofs.PutLaws.{laid_next, get_d_any}
use Rattle.lists.proofs.Walk.{length-mapped}
use Rattle.records.proofs.RecordLaws.{blank}
use Rattle.records.proofs.arrays.CarrierArrays.put_epoch.Goals as goal

pub loop-i-init : goal.loop-i-init
loop-i-init c = (search rules, record { signals-long = search length-mapped; states-long = search length-mapped; floats-long = search length-mapped; small = λ i l. absurd (omega arith); all = λ i l d. absurd (omega arith) })

pub loop-i-preserved : goal.loop-i-preserved
loop-i-preserved c = let a = c in
    let h = c.loop-i in
    let l : length a.args.e.carriers ≡ 64 = search length-mapped in
    (search rules, laid_next h.invariant.1 (λ d. get_d_any a.args.e.carriers h.i blank d (omega (arith, l, a.requires, c.loop-i-test.true))) c.put.ensures)

pub returns : goal.returns
returns c = let h = c.loop-i.invariant.1 in record { signals-long = h.signals-long; states-long = h.states-long; floats-long = h.floats-long; small = λ i l. h.small i (omega (arith, c.loop-i-test.false)); all = λ i l d. h.all i (omega (arith, c.loop-i-test.false)) d }
