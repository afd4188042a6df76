-- `corrections_queries::queries::queries` meets its contract. Assumes nothing.
use mathlib.Core.Path.{sym, ◌∙◌}
use Rattle.std.proofs.Common.{rules}
use Rattle.std.proofs.lemmas.Result.{err_from_is_err_and}
use native.Mathlib.Omega.{arith}
use lib.Ieee.{nan}
use lib.ListN.{get_or}
use Rattle.corrections_directory.specs.Directory.{lent_blocks}
use Rattle.corrections_query.proofs.QueryLaws.{test-passed}
use Rattle.corrections_query.proofs.AnswerLaws.{answerable, answered}
use Rattle.corrections_queries.proofs.QueriesLaws.{all-answered, mapped-number, mapped-pattern, answered-reply, filling_end, filling_metres, filling_next, filling_numbers, filling_start, not_short, refused-reply, short-lent, table-refused}
use Rattle.corrections_queries.proofs.queries.queries.Goals as goal

pub returns-then-is_short : goal.returns-then-is_short
returns-then-is_short c = refused-reply _ _ _ (short-lent _ _ _ _ _ _ _ _ (sym c.is_short.ensures ∙ c.if-is_short.true))

pub returns-in_err-tested : goal.returns-in_err-tested
returns-in_err-tested c =
    let p = err_from_is_err_and c.from_residual.result c.from_residual.ensures.1 in
    rw (p.1, p.2) (refused-reply _ _ _ (table-refused _ _ _ _ _ _ _ _ (sym c.is_short.ensures ∙ c.if-is_short.false) _ (sym c.in_err-tested.was ∙ c.tested.ensures)))

pub loop-i-init : goal.loop-i-init
loop-i-init c = filling_start _ _ _ _

pub bounds-constellation-i : goal.bounds-constellation-i
bounds-constellation-i c = let l = not_short _ _ _ (sym c.is_short.ensures ∙ c.if-is_short.false) in omega (arith, c, c.loop-i-test.true, l.in_c)

pub offset_bounds-svid-i : goal.offset_bounds-svid-i
offset_bounds-svid-i c = let l = not_short _ _ _ (sym c.is_short.ensures ∙ c.if-is_short.false) in omega (arith, c, c.loop-i-test.true, l.in-v)

pub bounds-svid-i : goal.bounds-svid-i
bounds-svid-i c = let l = not_short _ _ _ (sym c.is_short.ensures ∙ c.if-is_short.false) in omega (arith, c, c.loop-i-test.true, l.in-v)

pub offset_bounds-band-i : goal.offset_bounds-band-i
offset_bounds-band-i c = let l = not_short _ _ _ (sym c.is_short.ensures ∙ c.if-is_short.false) in omega (arith, c, c.loop-i-test.true, l.in_b)

pub bounds-band-i : goal.bounds-band-i
bounds-band-i c = let l = not_short _ _ _ (sym c.is_short.ensures ∙ c.if-is_short.false) in omega (arith, c, c.loop-i-test.true, l.in_b)

pub offset_bounds-time-i : goal.offset_bounds-time-i
offset_bounds-time-i c = let l = not_short _ _ _ (sym c.is_short.ensures ∙ c.if-is_short.false) in omega (arith, c, c.loop-i-test.true, l.in-t)

pub bounds-time-i : goal.bounds-time-i
bounds-time-i c = let l = not_short _ _ _ (sym c.is_short.ensures ∙ c.if-is_short.false) in omega (arith, c, c.loop-i-test.true, l.in-t)

pub answer_of-answer-requires : goal.answer_of-answer-requires
answer_of-answer-requires c = let a = c.args in
    answerable a.table.blocks a.table.table_count (lent_blocks a.table.block_constellation.now a.table.block_svid.now a.table.block_band.now a.table.block_first.now a.table.block_samples.now a.table.table_time.now a.table.table_metres.now) a.max_gap (test-passed _ _ _ _ _ (sym c.in_ok-tested.was ∙ c.tested.ensures))

pub bounds-numbers-i : goal.bounds-numbers-i
bounds-numbers-i c = let l = not_short _ _ _ (sym c.is_short.ensures ∙ c.if-is_short.false) in let e = filling_numbers _ _ _ _ _ _ _ c.loop-i.invariant in omega (arith, c, c.loop-i-test.true, l.in-numbers, e)

pub offset_bounds-metres-i : goal.offset_bounds-metres-i
offset_bounds-metres-i c = let l = not_short _ _ _ (sym c.is_short.ensures ∙ c.if-is_short.false) in let e = filling_metres _ _ _ _ _ _ _ c.loop-i.invariant in omega (arith, c, c.loop-i-test.true, l.in_metres, e)

pub bounds-metres-i : goal.bounds-metres-i
bounds-metres-i c = let l = not_short _ _ _ (sym c.is_short.ensures ∙ c.if-is_short.false) in let e = filling_metres _ _ _ _ _ _ _ c.loop-i.invariant in omega (arith, c, c.loop-i-test.true, l.in_metres, e)

pub loop-i-preserved : goal.loop-i-preserved
loop-i-preserved c = let a = c.args in
    let i = c.loop-i.i in
    let l = lent_blocks a.table.block_constellation.now a.table.block_svid.now a.table.block_band.now a.table.block_first.now a.table.block_samples.now a.table.table_time.now a.table.table_metres.now in
    let is = rw c.signal_of-signal.ensures at c.answer_of-answer.ensures.0 in
    let p = (test-passed _ _ _ _ _ (sym c.in_ok-tested.was ∙ c.tested.ensures)) in
    filling_next _ _ _ _ _ _ _ c.loop-i.invariant c.loop-i-test.true _ _ _
    (is ∙ answered a.table.blocks a.table.table_count l a.max_gap p (get_or a.constellation.now i 0) (get_or a.svid.now i 0) (get_or a.band.now i 0) (get_or a.time.now i nan))
    c.answer_of-answer.ensures.1
    (c.put.ensures.0 ∙ mapped-number (λ x y h. search rules) c.answer_of-answer.result c.map.result c.map.ensures.cases)
    (c.put.ensures.1 ∙ mapped-pattern (λ x y h. search rules) c.answer_of-answer.result c.map.result (get_or c.loop-i.metres i 0) c.map.ensures.cases)

pub returns : goal.returns
returns c = answered-reply (all-answered _ _ _ _ _ _ _ _ (sym c.is_short.ensures ∙ c.if-is_short.false) (test-passed _ _ _ _ _ (sym c.in_ok-tested.was ∙ c.tested.ensures))) (filling_end _ _ _ _ _ _ _ c.loop-i.invariant c.loop-i-test.false)
