-- `median::median::middle` meets its contract: the middle lies among the patterns of plus, or among those of minus. Assumes nothing.
use Prim.Native.Nat.{◌-◌, ◌/◌}
use native.Mathlib.Omega.{arith}
use mathlib.Core.Path.{◌∙◌}
use mathlib.Core.Bool.{true, false}
use lib.ListN.{length}
use Rattle.median.proofs.MedianSigns.{front-each, plus-most, plus-found, minus-more, minus-room, minus-found, slice-patterns}
use Rattle.median.proofs.median.middle.Goals as goal

pub overflow_sub-negative : goal.overflow_sub-negative
overflow_sub-negative c = plus-most c.args.patterns.now c.part-positive.ensures

pub of_like_sign-requires : goal.of_like_sign-requires
of_like_sign-requires c = let q = c in
    let xs = q.args.patterns.now in
    let f = q.part-positive.ensures in
    (omega arith, f.few, f.long, front-each false xs f)

pub returns-then-negative-at : goal.returns-then-negative-at
returns-then-negative-at c = let q = c in
    let s = q in
    let xs = s.args.patterns.now in
    (c.of_like_sign.ensures.0 ∙ plus-found xs q.part-positive.ensures (slice-patterns xs (λ i. (q.shared_slice_known-1.given i).fits)) s.requires.0 c.if-negative-at.true, c.of_like_sign.ensures.1)

pub overflow_sub-count : goal.overflow_sub-count
overflow_sub-count c = let q = c in
    let more = minus-more q.args.patterns.now q.part-positive.ensures c.part-count.ensures c.if-negative-at.false in omega arith

pub overflow_sub-count-2 : goal.overflow_sub-count-2
overflow_sub-count-2 c = let q = c in
    let more = minus-more q.args.patterns.now q.part-positive.ensures c.part-count.ensures c.if-negative-at.false in omega arith

pub of_like_sign-found-requires : goal.of_like_sign-found-requires
of_like_sign-found-requires c = let q = c in
    let more = minus-more q.args.patterns.now q.part-positive.ensures c.part-count.ensures c.if-negative-at.false in
    (omega arith, c.part-count.ensures.few, c.part-count.ensures.long, front-each true q.args.patterns.now c.part-count.ensures)

pub overflow_add-result : goal.overflow_add-result
overflow_add-result c = let e = c in
    let q = e in
    let xs = q.args.patterns.now in
    let more = minus-more xs q.part-positive.ensures e.part-count.ensures e.if-negative-at.false in
    omega (arith, minus-room xs e.part-count.ensures (e.part-count.result - 1 - length xs / 2) (omega arith), c.of_like_sign-found.ensures.0)

pub returns : goal.returns
returns c = let e = c in
    let q = e in
    let s = q in
    let xs = s.args.patterns.now in
    let more = minus-more xs q.part-positive.ensures e.part-count.ensures e.if-negative-at.false in
    (rw c.of_like_sign-found.ensures.0 (minus-found xs e.part-count.ensures (slice-patterns xs (λ i. (q.shared_slice_known-1.given i).fits)) s.requires.0 more), c.of_like_sign-found.ensures.1)
