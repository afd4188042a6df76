-- `median::median::of_like_sign` meets its contract: a turn of the search at infinity, and the search in what is left. Assumes nothing.
use mathlib.Core.Path.{◌∙◌}
use lib.ListN.{take}
use Rattle.median.proofs.SelectSeek.{seeking, low_turn, high-most, high-turn, found}
use Rattle.median.proofs.MedianSigns.{unsigned-placed}
use Rattle.median.proofs.median.of_like_sign.Goals as goal

pub returns-then-numbers-n : goal.returns-then-numbers-n
returns-then-numbers-n c = let s = c in (c.select.ensures.0 ∙ unsigned-placed s.args.m (take s.args.n s.args.k.now) s.requires.3, c.select.ensures.1)

pub select-requires-then-m-numbers : goal.select-requires-then-m-numbers
select-requires-then-m-numbers c = let q = c in
    let s = q in
    let t = low_turn 0x7FF0_0000_0000_0000 (seeking s.requires) q.count_low-numbers.ensures c.if-m-numbers.true c.keep_low-count.ensures in
    (t.inside, t.room, t.long, t.plain)

pub returns-then-m-numbers : goal.returns-then-m-numbers
returns-then-m-numbers c = let q = c in
    let s = q in
    let t = low_turn 0x7FF0_0000_0000_0000 (seeking s.requires) q.count_low-numbers.ensures c.if-m-numbers.true c.keep_low-count.ensures in
    (c.select-then-m-numbers.ensures.0 ∙ t.is ∙ unsigned-placed s.args.m (take s.args.n s.args.k.now) s.requires.3, c.select-then-m-numbers.ensures.1)

pub overflow_sub-upto : goal.overflow_sub-upto
overflow_sub-upto c = let q = c in
    let s = q in
    high-most 0x7FF0_0000_0000_0000 (seeking s.requires) q.count_low-numbers.ensures c.keep_high-nans.ensures

pub returns-then-m-upto : goal.returns-then-m-upto
returns-then-m-upto c = let q = c in
    let s = q in
    (found 0x7FF0_0000_0000_0000 (seeking s.requires) q.count_low-numbers.ensures c.if-m-numbers.false c.if-m-upto.true c.keep_high-nans.ensures ∙ unsigned-placed s.args.m (take s.args.n s.args.k.now) s.requires.3, c.keep_high-nans.ensures.long)

pub select-requires-2 : goal.select-requires-2
select-requires-2 c = let h = c in
    let q = h in
    let s = q in
    let t = high-turn 0x7FF0_0000_0000_0000 (seeking s.requires) q.count_low-numbers.ensures c.if-m-upto.false h.keep_high-nans.ensures in
    (t.inside, t.room, t.long, t.plain)

pub returns : goal.returns
returns c = let h = c in
    let q = h in
    let s = q in
    let t = high-turn 0x7FF0_0000_0000_0000 (seeking s.requires) q.count_low-numbers.ensures c.if-m-upto.false h.keep_high-nans.ensures in
    (c.select-2.ensures.0 ∙ t.is ∙ unsigned-placed s.args.m (take s.args.n s.args.k.now) s.requires.3, c.select-2.ensures.1)
