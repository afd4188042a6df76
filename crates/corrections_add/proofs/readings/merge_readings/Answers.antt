-- `corrections_add::readings::merge_readings` meets its contract. Assumes nothing.
use native.Mathlib.Omega.{arith}
use mathlib.Core.Path.{◌≡◌, ap, ◌∙◌}
use mathlib.Core.List.{List}
use Prim.Native.Nat.{ℕ, ◌+◌, ◌-◌, ◌≤◌, ◌<◌}
use lib.Ieee.{nan}
use lib.ListN.{length, get_or, take}
use lib.Seq.{length-take-le}
use Rattle.corrections_table.specs.Table.{blank, lent_samples, signal_of, table_of}
use Rattle.corrections_table.specs.declared.sample.Sample.{Sample}
use Rattle.corrections_directory.specs.Directory.{Entry, directory_in, entry_rows, flat, floats, lent_blocks, reading_rows, signal_in}
use Rattle.corrections_directory.specs.Steps.{no_entry}
use Rattle.corrections_directory.proofs.ColumnLaws.{readings-length}
use Rattle.corrections_directory.proofs.PatternLaws.{floats-length}
use Rattle.corrections_add.specs.Steps.{Steady}
use Rattle.corrections_add.proofs.CursorLaws.{cursor-some}
use Rattle.corrections_add.proofs.MergeLaws.{Given, Sizes, given_by, merging_start, merging-old, merging-new, merging-end, new_row, old_row, sizes-by}
use Rattle.corrections_add.proofs.readings.merge_readings.Goals as goal
use Rattle.corrections_add.proofs.readings.merge_readings.Lts as lts
use Rattle.corrections_add.proofs.readings.merge_readings.Tie as tie
use Rattle.corrections_add.proofs.readings.merge_readings.Reads as reads

-- places on the way through the function
abbrev After-slice_known-2-1 : Type 0
After-slice_known-2-1 = lts.After-slice_known2 tie.the-claims reads.Pre reads.Post goal.the-invariant-loop-j goal.the-decreases-loop-j

abbrev At-loop-j : Type 0
At-loop-j = lts.At-loop tie.the-claims reads.Pre reads.Post goal.the-invariant-loop-j goal.the-decreases-loop-j

abbrev Start : Type 0
Start = lts.Start tie.the-claims reads.Pre reads.Post goal.the-invariant-loop-j goal.the-decreases-loop-j

-- ---- what is known at the start
abbrev Counts : Start → List ℕ → Type 0
Counts s dn = let a = s.args in Steady a.block_constellation.now a.block_svid.now a.block_band.now a.block_first.now a.blocks a.table_time.now a.table_metres.now a.table_count dn

abbrev entries_at : Start → List ℕ → List Entry
entries_at s dn = let a = s.args in take a.blocks (entry_rows a.block_constellation.now a.block_svid.now a.block_band.now a.block_first.now dn)

abbrev new_at : Start → List Sample
new_at s = let a = s.args in table_of a.new.count (lent_samples a.new.constellation.now a.new.svid.now a.new.band.now a.new.time.now a.new.metres.now)

entries-count : (s : Start) (dn : List ℕ) → Counts s dn → length (entries_at s dn) ≡ s.args.blocks
entries-count s dn w = length-take-le s.args.blocks _ w.few

-- the entry and the new sample at a place, by what the code reads of them
old_at : (s : Start) (dn : List ℕ) → Counts s dn → (x : ℕ) → x < s.args.blocks
    → (let a = s.args in ◌≡◌ {A = Entry} (record { constellation = get_or a.block_constellation.now x 0; svid = get_or a.block_svid.now x 0; band = get_or a.block_band.now x 0; start = get_or a.block_first.now x 0; count = get_or dn x 0 }) (get_or (entries_at s dn) x no_entry))
old_at s dn w = let a = s.args in old_row a.block_constellation.now a.block_svid.now a.block_band.now a.block_first.now dn a.blocks a.new.constellation.now a.new.svid.now a.new.band.now a.new.time.now a.new.metres.now a.new.count w.few s.requires.new.0

sample_at : (s : Start) (x : ℕ) → x < s.args.new.count
    → (let a = s.args in ◌≡◌ {A = Sample} (record { constellation = get_or a.new.constellation.now x 0; svid = get_or a.new.svid.now x 0; band = get_or a.new.band.now x 0; time = get_or a.new.time.now x nan; correction = get_or a.new.metres.now x nan }) (get_or (new_at s) x blank))
sample_at s = let a = s.args in new_row a.block_constellation.now a.block_svid.now a.block_band.now a.block_first.now s.requires.counts a.blocks a.new.constellation.now a.new.svid.now a.new.band.now a.new.time.now a.new.metres.now a.new.count s.requires.held.few s.requires.new.0

-- the directory and the new samples, with what is known of the columns once all are lent
given : (b : After-slice_known-2-1)
    → (let s = b in
    let a = s.args in
    (dn : List ℕ) → Counts s.before.before.before.before.before.before dn
    → Given (entries_at s.before.before.before.before.before.before dn) (take a.table_count (reading_rows (floats a.table_time.now) (floats a.table_metres.now))) (flat (directory_in a.blocks a.table_count (lent_blocks a.block_constellation.now a.block_svid.now a.block_band.now a.block_first.now dn (floats a.table_time.now) (floats a.table_metres.now)))) (new_at s.before.before.before.before.before.before) a.table_time.now a.table_metres.now a.table_count a.new.count)
given b dn w =
    let s = b in
    let a = s.args in
    given_by a.block_constellation.now a.block_svid.now a.block_band.now a.block_first.now dn a.blocks a.table_time.now a.table_metres.now a.table_count a.new.constellation.now a.new.svid.now a.new.band.now a.new.time.now a.new.metres.now a.new.count s.requires.room w.steady s.requires.new.0 s.requires.new.1
    (λ x. omega (arith, b.slice_known-1.given x)) (λ x. omega (arith, b.slice_known-2-1.given x)) a.new.times_fit a.new.metres_fit

pub loop-j-init : goal.loop-j-init
loop-j-init c dn w = merging_start (given c.before dn w) _ (entries-count c.before.before.before.before.before.before.before dn w)

-- ---- what is known in every turn
abbrev start : At-loop-j → Start
start t = t.before.before.before.before.before.before.before

record Turn (t : At-loop-j) : Type 0 where
  old : t.loop-j.i ≤ (start t).args.table_count
  new : t.loop-j.j ≤ (start t).args.new.count
  in-times : (start t).args.table_count + (start t).args.new.count ≤ length t.loop-j.table_time
  in_metres : (start t).args.table_count + (start t).args.new.count ≤ length t.loop-j.table_metres
  same-times : length t.loop-j.table_time ≡ length (start t).args.table_time.now
  same-metres : length t.loop-j.table_metres ≡ length (start t).args.table_metres.now
  entries : t.loop-j.e ≤ (start t).args.blocks
  sizes : Sizes (start t).args.block_constellation.now (start t).args.block_svid.now (start t).args.block_band.now (start t).args.block_first.now (start t).args.new.constellation.now (start t).args.new.svid.now (start t).args.new.band.now (start t).args.new.time.now (start t).args.new.metres.now (start t).args.blocks (start t).args.new.count

turn : (t : At-loop-j) → Turn t
turn t =
    let s = start t in
    let a = s.args in
    let p = s.requires in
    let inv = t.loop-j.invariant p.counts p.held in
    let r = readings-length (floats a.table_time.now) (floats a.table_metres.now) in
    let x = floats-length a.table_time.now in
    let y = floats-length a.table_metres.now in
    record {
      old = inv.old;
      new = inv.new;
      in-times = omega (arith, p.room, inv.times.long);
      in_metres = omega (arith, p.room, inv.corrections.long);
      same-times = inv.times.long;
      same-metres = inv.corrections.long;
      entries = omega (arith, inv.cursor.few, entries-count s p.counts p.held);
      sizes = sizes-by a.block_constellation.now a.block_svid.now a.block_band.now a.block_first.now p.counts a.blocks a.new.constellation.now a.new.svid.now a.new.band.now a.new.time.now a.new.metres.now a.new.count p.held.few p.new.0;
    }

-- samples are left where the entry before e has some
some-entry : (t : At-loop-j) → 0 < t.loop-j.i → 0 < t.loop-j.e
some-entry t h = let p = (start t).requires in cursor-some _ t.loop-j.e t.loop-j.i (t.loop-j.invariant p.counts p.held).cursor h

first_below : (t : At-loop-j) → 0 < t.loop-j.i → get_or (start t).args.block_first.now (t.loop-j.e - 1) 0 < t.loop-j.i
first_below t h =
    let s = start t in
    let p = s.requires in
    let q = some-entry t h in
    omega (arith, (t.loop-j.invariant p.counts p.held).cursor.from q, ap (λ (x : Entry). x.start) (old_at s p.counts p.held (t.loop-j.e - 1) (omega (arith, q, (turn t).entries))))

pub signal_at-signal-requires : goal.signal_at-signal-requires
signal_at-signal-requires c = let w = turn c.before.before in (omega (arith, w, c.loop-j-test.true), (omega (arith, w, c.loop-j-test.true), omega (arith, w, c.loop-j-test.true)))

pub offset_bounds-new-j : goal.offset_bounds-new-j
offset_bounds-new-j c = omega (arith, turn c.before.before.before, c.loop-j-test.true)

pub bounds-new-j : goal.bounds-new-j
bounds-new-j c = omega (arith, turn c.before.before.before, c.loop-j-test.true)

pub old_stay-stay-requires : goal.old_stay-stay-requires
old_stay-stay-requires c = let t = c in
    let w = turn t.before.before.before.before in
    ((omega (arith, w), (omega (arith, w), (omega (arith, w), omega (arith, w)))), (omega (arith, w), λ h. (some-entry t.before.before.before.before h, first_below t.before.before.before.before h)))

pub shift-requires : goal.shift-requires
shift-requires c = omega (arith, c.if-stay-i.true, turn c.before.before.before.before.before.before.before)

pub shift-requires-then-stay-i : goal.shift-requires-then-stay-i
shift-requires-then-stay-i c = omega (arith, c.if-stay-i.true, turn c.before.before.before.before.before.before.before.before.before.before.before)

pub blocks_left-e-requires : goal.blocks_left-e-requires
blocks_left-e-requires c = let t = c in (some-entry t.before.before.before.before.before.before.before.before.before.before.before.before.before.before (omega (arith, c.if-stay-i.true)), omega (arith, turn t.before.before.before.before.before.before.before.before.before.before.before.before.before.before))

-- what the code compares: the new sample's signal and time, the last block's signal and first place
pub loop-j-preserved-then-stay-i : goal.loop-j-preserved-then-stay-i
loop-j-preserved-then-stay-i c dn w = let t = c in
    let s = start t.before.before.before.before.before.before.before.before.before.before.before.before.before.before.before in
    let h = t.loop-j in
    let hj = c.loop-j-test.true in
    let new = sample_at s (h.j - 1) (omega (arith, (turn t.before.before.before.before.before.before.before.before.before.before.before.before.before.before.before).new, hj)) in
    let old : 0 < h.e → _ = λ p. old_at s dn w (h.e - 1) (omega (arith, p, (turn t.before.before.before.before.before.before.before.before.before.before.before.before.before.before.before).entries)) in
    merging-old (given t.before.before.before.before.before.before.before.before.before.before.before.before.before.before.before.before dn w) (h.invariant dn w) hj (c.signal_at-signal.ensures.0 ∙ ap signal_of new) (λ p. ap signal_in (old p)) (λ p. ap (λ (x : Entry). x.start) (old p)) (ap (λ (x : Sample). x.time) new) c.old_stay-stay.ensures c.if-stay-i.true c.shift.ensures c.shift-then-stay-i.ensures c.blocks_left-e.ensures.0 c.blocks_left-e.ensures.1

pub overflow_add-table_time : goal.overflow_add-table_time
overflow_add-table_time c = let t = c in omega (arith, turn t.before.before.before.before.before.before.before, (start t.before.before.before.before.before.before.before).well_formed.1.1.1.1.1.0, c.loop-j-test.true)

pub offset_bounds-table_time-i : goal.offset_bounds-table_time-i
offset_bounds-table_time-i c = let t = c in omega (arith, turn t.before.before.before.before.before.before.before, (start t.before.before.before.before.before.before.before).well_formed.1.1.1.1.1.0, c.loop-j-test.true)

pub bounds-table_time-i : goal.bounds-table_time-i
bounds-table_time-i c = let t = c in omega (arith, turn t.before.before.before.before.before.before.before, (start t.before.before.before.before.before.before.before).well_formed.1.1.1.1.1.0, c.loop-j-test.true)

pub offset_bounds-new-j-else-stay-i : goal.offset_bounds-new-j-else-stay-i
offset_bounds-new-j-else-stay-i c = let t = c in omega (arith, turn t.before.before.before.before.before.before.before, (start t.before.before.before.before.before.before.before).well_formed.1.1.1.1.1.1.0, c.loop-j-test.true)

pub bounds-new-j-else-stay-i : goal.bounds-new-j-else-stay-i
bounds-new-j-else-stay-i c = omega (arith, turn c.before.before.before.before.before.before.before, c.loop-j-test.true)

pub overflow_add-table_metres : goal.overflow_add-table_metres
overflow_add-table_metres c = let t = c in omega (arith, turn t.before.before.before.before.before.before.before.before.before, (start t.before.before.before.before.before.before.before.before.before).well_formed.1.1.1.1.1.1.0, c.loop-j-test.true)

pub offset_bounds-table_metres-i : goal.offset_bounds-table_metres-i
offset_bounds-table_metres-i c = let t = c in omega (arith, turn t.before.before.before.before.before.before.before.before.before, (start t.before.before.before.before.before.before.before.before.before).well_formed.1.1.1.1.1.1.0, c.loop-j-test.true)

pub bounds-table_metres-i : goal.bounds-table_metres-i
bounds-table_metres-i c = let t = c in omega (arith, turn t.before.before.before.before.before.before.before.before.before, (start t.before.before.before.before.before.before.before.before.before).well_formed.1.1.1.1.1.1.0, c.loop-j-test.true)

pub loop-j-preserved : goal.loop-j-preserved
loop-j-preserved c dn w = let t = c in
    let s = start t.before.before.before.before.before.before.before.before.before in
    let h = t.loop-j in
    let hj = c.loop-j-test.true in
    let new = sample_at s (h.j - 1) (omega (arith, (turn t.before.before.before.before.before.before.before.before.before).new, hj)) in
    let old : 0 < h.e → _ = λ p. old_at s dn w (h.e - 1) (omega (arith, p, (turn t.before.before.before.before.before.before.before.before.before).entries)) in
    merging-new (given t.before.before.before.before.before.before.before.before.before.before dn w) (h.invariant dn w) hj (c.signal_at-signal.ensures.0 ∙ ap signal_of new) (λ p. ap signal_in (old p)) (λ p. ap (λ (x : Entry). x.start) (old p)) (ap (λ (x : Sample). x.time) new) c.old_stay-stay.ensures (omega (arith, c.if-stay-i.false)) (ap (λ (x : Sample). x.correction) new) c.pattern.ensures c.pattern-else-stay-i.ensures

pub returns : goal.returns
returns c dn w = merging-end (given c.before.before.before dn w) (c.loop-j.invariant dn w) (omega (arith, c.loop-j-test.false))
