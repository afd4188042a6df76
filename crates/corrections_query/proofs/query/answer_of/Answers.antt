-- `corrections_query::query::answer_of` meets its contract. Assumes nothing.
use mathlib.Core.Bool.{not}
use mathlib.Core.Path.{sym, ◌∙◌, subst, ap}
use native.Mathlib.Omega.{arith}
use lib.Dec.{T}
use Rattle.corrections_directory.specs.Directory.{lent_blocks}
use Rattle.corrections_query.proofs.AnswerLaws.{block_falls, block_in, entry_in, found-for, late, none-for, other-for, search_for}
use Rattle.corrections_query.proofs.query.answer_of.Goals as goal

pub returns-then-not-in_range-is_finite : goal.returns-then-not-in_range-is_finite
returns-then-not-in_range-is_finite c = let s = c in
    let a = s.args in
    (late a.table.blocks (lent_blocks a.table.block_constellation.now a.table.block_svid.now a.table.block_band.now a.table.block_first.now a.table.block_samples.now a.table.table_time.now a.table.table_metres.now) s.requires a.max_gap a.signal a.time c.in_range.ensures c.is_finite.ensures (ap not c.if-not-in_range-is_finite.true), tt)

pub returns-then-table-eq0 : goal.returns-then-table-eq0
returns-then-table-eq0 c = let s = c in
    let a = s.args in
    (none-for a.table.blocks (lent_blocks a.table.block_constellation.now a.table.block_svid.now a.table.block_band.now a.table.block_first.now a.table.block_samples.now a.table.table_time.now a.table.table_metres.now) s.requires a.max_gap a.signal a.time c.in_range.ensures c.is_finite.ensures (ap not c.if-not-in_range-is_finite.false) c.if-table-eq0.true, tt)

pub entry_of-entry-requires : goal.entry_of-entry-requires
entry_of-entry-requires c = let s = c in
    let a = s.args in
    let z = c.if-table-eq0.false in
    search_for a.table.blocks (lent_blocks a.table.block_constellation.now a.table.block_svid.now a.table.block_band.now a.table.block_first.now a.table.block_samples.now a.table.table_time.now a.table.table_metres.now) s.requires a.signal (omega (arith, z))

pub signal_at-found-requires : goal.signal_at-found-requires
signal_at-found-requires c = let s = c in
    let a = s.args in
    (entry_in a.table.blocks (lent_blocks a.table.block_constellation.now a.table.block_svid.now a.table.block_band.now a.table.block_first.now a.table.block_samples.now a.table.table_time.now a.table.table_metres.now) s.requires c.entry_of-entry.result c.entry_of-entry.ensures.below).0

pub returns-then-found-signal : goal.returns-then-found-signal
returns-then-found-signal c = let s = c in
    let a = s.args in
    (other-for a.table.blocks (lent_blocks a.table.block_constellation.now a.table.block_svid.now a.table.block_band.now a.table.block_first.now a.table.block_samples.now a.table.table_time.now a.table.table_metres.now) s.requires a.max_gap a.signal a.time c.in_range.ensures c.is_finite.ensures (ap not c.if-not-in_range-is_finite.false) c.entry_of-entry.result c.entry_of-entry.ensures (λ q. c.if-found-signal.true (c.signal_at-found.ensures.0 ∙ q)), tt)

pub offset_bounds-table-entry : goal.offset_bounds-table-entry
offset_bounds-table-entry c = let s = c in
    let a = s.args in
    let w = entry_in a.table.blocks (lent_blocks a.table.block_constellation.now a.table.block_svid.now a.table.block_band.now a.table.block_first.now a.table.block_samples.now a.table.table_time.now a.table.table_metres.now) s.requires c.entry_of-entry.result c.entry_of-entry.ensures.below in
    omega (arith, w)

pub bounds-table-entry : goal.bounds-table-entry
bounds-table-entry c = let s = c in
    let a = s.args in
    let w = entry_in a.table.blocks (lent_blocks a.table.block_constellation.now a.table.block_svid.now a.table.block_band.now a.table.block_first.now a.table.block_samples.now a.table.table_time.now a.table.table_metres.now) s.requires c.entry_of-entry.result c.entry_of-entry.ensures.below in
    omega (arith, w)

pub offset_bounds-table-entry-2 : goal.offset_bounds-table-entry-2
offset_bounds-table-entry-2 c = let s = c in
    let a = s.args in
    let w = entry_in a.table.blocks (lent_blocks a.table.block_constellation.now a.table.block_svid.now a.table.block_band.now a.table.block_first.now a.table.block_samples.now a.table.table_time.now a.table.table_metres.now) s.requires c.entry_of-entry.result c.entry_of-entry.ensures.below in
    omega (arith, w)

pub bounds-table-entry-2 : goal.bounds-table-entry-2
bounds-table-entry-2 c = let s = c in
    let a = s.args in
    let w = entry_in a.table.blocks (lent_blocks a.table.block_constellation.now a.table.block_svid.now a.table.block_band.now a.table.block_first.now a.table.block_samples.now a.table.table_time.now a.table.table_metres.now) s.requires c.entry_of-entry.result c.entry_of-entry.ensures.below in
    omega (arith, w)

pub answer_in-requires : goal.answer_in-requires
answer_in-requires c = let s = c in
    let a = s.args in
    let l = lent_blocks a.table.block_constellation.now a.table.block_svid.now a.table.block_band.now a.table.block_first.now a.table.block_samples.now a.table.table_time.now a.table.table_metres.now in
    let e = c.entry_of-entry.result in
    let h = c.entry_of-entry.ensures.below in
    record { filled = block_in a.table.blocks l s.requires e h; falling = λ f. block_falls a.table.blocks l s.requires e h f.column a.time f.time }

pub returns : goal.returns
returns c = let s = c in
    let a = s.args in
    found-for a.table.blocks (lent_blocks a.table.block_constellation.now a.table.block_svid.now a.table.block_band.now a.table.block_first.now a.table.block_samples.now a.table.table_time.now a.table.table_metres.now) s.requires a.max_gap a.signal a.time c.in_range.ensures c.is_finite.ensures (ap not c.if-not-in_range-is_finite.false) c.entry_of-entry.result c.entry_of-entry.ensures
    (sym c.signal_at-found.ensures.0 ∙ c.if-found-signal.false) _ c.answer_in.ensures.answer c.answer_in.ensures.format.column c.answer_in.ensures.format.time
