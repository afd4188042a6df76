-- `corrections_directory::sound::is_tiled` meets its contract. Assumes nothing.
use native.Mathlib.Omega.{arith}
use mathlib.Core.Path.{refl}
use Rattle.corrections_directory.proofs.ColumnLaws.{entries-length, entry-at}
use Rattle.corrections_directory.proofs.SoundLaws.{laid_end, laid-no, laid_on, laid-room}
use Rattle.corrections_directory.proofs.sound.is_tiled.Goals as goal

pub signal_at-signal-requires : goal.signal_at-signal-requires
signal_at-signal-requires g c = let a = c.args.table in (omega (arith, c.requires, entries-length a.block_constellation.now a.block_svid.now a.block_band.now a.block_first.now a.block_samples.now), (omega (arith, c.requires, entries-length a.block_constellation.now a.block_svid.now a.block_band.now a.block_first.now a.block_samples.now), omega (arith, c.requires, entries-length a.block_constellation.now a.block_svid.now a.block_band.now a.block_first.now a.block_samples.now)))

pub offset_bounds-table-i : goal.offset_bounds-table-i
offset_bounds-table-i g c = let a = c.args.table in omega (arith, c.requires, entries-length a.block_constellation.now a.block_svid.now a.block_band.now a.block_first.now a.block_samples.now)

pub bounds-table-i : goal.bounds-table-i
bounds-table-i g c = let a = c.args.table in omega (arith, c.requires, entries-length a.block_constellation.now a.block_svid.now a.block_band.now a.block_first.now a.block_samples.now)

pub offset_bounds-table-i-in-loop-i : goal.offset_bounds-table-i-in-loop-i
offset_bounds-table-i-in-loop-i g c = let a = c.args.table in omega (arith, c.requires, entries-length a.block_constellation.now a.block_svid.now a.block_band.now a.block_first.now a.block_samples.now)

pub bounds-table-i-in-loop-i : goal.bounds-table-i-in-loop-i
bounds-table-i-in-loop-i g c = let a = c.args.table in omega (arith, c.requires, entries-length a.block_constellation.now a.block_svid.now a.block_band.now a.block_first.now a.block_samples.now)

pub returns-then-signal-least : goal.returns-then-signal-least
returns-then-signal-least g c = let a = c.args.table in
    let h = c.loop-i in
    let at = entry-at a.block_constellation.now a.block_svid.now a.block_band.now a.block_first.now a.block_samples.now h.i (omega (arith, c.requires, c.loop-i-test.true)) in
    laid-no _ _ c.requires _ h.i _ _ h.invariant.1.1 c.loop-i-test.true at c.signal_at-signal.ensures.0 h.invariant.1.0 c.if-signal-least.true

pub loop-i-preserved : goal.loop-i-preserved
loop-i-preserved g c = let a = c.args.table in
    let h = c.loop-i in
    let at = entry-at a.block_constellation.now a.block_svid.now a.block_band.now a.block_first.now a.block_samples.now h.i (omega (arith, c.requires, c.loop-i-test.true)) in
    let r = laid-room _ _ c.requires _ h.i _ _ h.invariant.1.1 c.loop-i-test.true at c.signal_at-signal.ensures.0 c.if-signal-least.false in
    (omega arith, (omega arith, laid_on _ _ c.requires _ h.i _ _ h.invariant.1.1 c.loop-i-test.true at c.signal_at-signal.ensures.0 c.if-signal-least.false))

pub returns : goal.returns
returns g c = laid_end _ _ c.requires _ _ _ _ c.loop-i.invariant.1.1 c.loop-i-test.false
