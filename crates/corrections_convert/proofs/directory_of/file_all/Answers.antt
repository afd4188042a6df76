-- `corrections_convert::directory_of::file_all` meets its contract. Assumes nothing.
use native.Mathlib.Omega.{arith}
use Prim.Native.Nat.{◌<◌}
use Rattle.corrections_add.proofs.OwnLaws.{Room, room_of_lem}
use Rattle.corrections_convert.proofs.FileLaws.{filing-end, filing-start, filing-turn}
use Rattle.corrections_convert.proofs.directory_of.file_all.Goals as goal
use Rattle.corrections_convert.proofs.directory_of.file_all.Lts as lts
use Rattle.corrections_convert.proofs.directory_of.file_all.Tie as tie
use Rattle.corrections_convert.proofs.directory_of.file_all.Reads as reads

-- places on the way through the function
abbrev After-run_end-end : Type 0
After-run_end-end = lts.After-run_end tie.the-claims reads.Pre reads.Post goal.the-invariant-loop-i goal.the-decreases-loop-i tie.handed_clauses

abbrev Start : Type 0
Start = lts.Start tie.the-claims reads.Pre reads.Post goal.the-invariant-loop-i goal.the-decreases-loop-i tie.handed_clauses

pub loop-i-init : goal.loop-i-init
loop-i-init c = filing-start _ _ _ _ _ _ _ _ _

-- ---- a turn of the loop, where the run of one signal is known
abbrev start : After-run_end-end → Start
start b = b.before.before.before.before.before.before.before.before.before.before.before

room : (b : After-run_end-end) → Room (start b).args.table_count (start b).args.block_constellation.now (start b).args.block_svid.now (start b).args.block_band.now (start b).args.block_first.now (start b).args.block_samples.now
room b = room_of_lem _ _ _ _ _ _ (start b).requires.table_count_in_bounds

here : (b : After-run_end-end) → b.loop-i.i < (start b).args.table_count
here b = let run = b.run_end-end.ensures in omega (arith, run.some, run.within)

few : (b : After-run_end-end) → b.loop-i.entries < (start b).args.table_count
few b = omega (arith, b.loop-i.invariant.fewer, here b)

pub run_end-end-requires : goal.run_end-end-requires
run_end-end-requires c = (c.loop-i-test.true, c.requires.signals_hold)

pub bounds-constellation-i : goal.bounds-constellation-i
bounds-constellation-i c = let b = c in omega (arith, here b.before.before, (start b.before.before).requires.signals_hold.0)

pub bounds-block_constellation-entries : goal.bounds-block_constellation-entries
bounds-block_constellation-entries c = let b = c in omega (arith, few b.before.before, b.loop-i.invariant.long-c, (room b.before.before).in-dc)

pub offset_bounds-svid-i : goal.offset_bounds-svid-i
offset_bounds-svid-i c = let b = c in omega (arith, here b.before.before, (start b.before.before).requires.signals_hold.1.0)

pub bounds-svid-i : goal.bounds-svid-i
bounds-svid-i c = let b = c in omega (arith, here b.before.before.before, (start b.before.before.before).requires.signals_hold.1.0)

pub offset_bounds-block_svid-entries : goal.offset_bounds-block_svid-entries
offset_bounds-block_svid-entries c = let b = c in omega (arith, few b.before.before.before, b.loop-i.invariant.long-v, (room b.before.before.before).in-dv)

pub bounds-block_svid-entries : goal.bounds-block_svid-entries
bounds-block_svid-entries c = let b = c in omega (arith, few b.before.before.before, b.loop-i.invariant.long-v, (room b.before.before.before).in-dv)

pub offset_bounds-band-i : goal.offset_bounds-band-i
offset_bounds-band-i c = let b = c in omega (arith, here b.before.before.before, (start b.before.before.before).requires.signals_hold.1.1)

pub bounds-band-i : goal.bounds-band-i
bounds-band-i c = let b = c in omega (arith, here b.before.before.before.before, (start b.before.before.before.before).requires.signals_hold.1.1)

pub offset_bounds-block_band-entries : goal.offset_bounds-block_band-entries
offset_bounds-block_band-entries c = let b = c in omega (arith, few b.before.before.before.before, b.loop-i.invariant.long-b, (room b.before.before.before.before).in-db)

pub bounds-block_band-entries : goal.bounds-block_band-entries
bounds-block_band-entries c = let b = c in omega (arith, few b.before.before.before.before, b.loop-i.invariant.long-b, (room b.before.before.before.before).in-db)

pub offset_bounds-block_first-entries : goal.offset_bounds-block_first-entries
offset_bounds-block_first-entries c = let b = c in omega (arith, few b.before.before.before.before, b.loop-i.invariant.long-f, (room b.before.before.before.before).in_df)

pub bounds-block_first-entries : goal.bounds-block_first-entries
bounds-block_first-entries c = let b = c in omega (arith, few b.before.before.before.before, b.loop-i.invariant.long-f, (room b.before.before.before.before).in_df)

pub overflow_sub-block_samples : goal.overflow_sub-block_samples
overflow_sub-block_samples c = omega (arith, c.run_end-end.ensures.some)

pub offset_bounds-block_samples-entries : goal.offset_bounds-block_samples-entries
offset_bounds-block_samples-entries c = let b = c in omega (arith, few b.before.before.before.before, b.loop-i.invariant.long-n, (room b.before.before.before.before).in_dn)

pub bounds-block_samples-entries : goal.bounds-block_samples-entries
bounds-block_samples-entries c = let b = c in omega (arith, few b.before.before.before.before, b.loop-i.invariant.long-n, (room b.before.before.before.before).in_dn)

pub overflow_add-entries : goal.overflow_add-entries
overflow_add-entries c = let b = c in omega (arith, few b.before.before.before.before, (start b.before.before.before.before).ranges)

pub loop-i-smaller : goal.loop-i-smaller
loop-i-smaller c = let r = c.run_end-end.ensures in omega (arith, r.some, r.within)

pub loop-i-preserved : goal.loop-i-preserved
loop-i-preserved c = let b = c in filing-turn b.loop-i.invariant b.run_end-end.ensures (room b.before.before.before.before)

pub shape_of-block_constellation : goal.shape_of-block_constellation
shape_of-block_constellation c = c.loop-i.invariant.long-c

pub shape_of-block_svid : goal.shape_of-block_svid
shape_of-block_svid c = c.loop-i.invariant.long-v

pub shape_of-block_band : goal.shape_of-block_band
shape_of-block_band c = c.loop-i.invariant.long-b

pub shape_of-block_first : goal.shape_of-block_first
shape_of-block_first c = c.loop-i.invariant.long-f

pub shape_of-block_samples : goal.shape_of-block_samples
shape_of-block_samples c = c.loop-i.invariant.long-n

pub returns : goal.returns
returns c = filing-end c.loop-i.invariant (omega (arith, c.loop-i-test.false))
