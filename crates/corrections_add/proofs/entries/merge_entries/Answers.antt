-- `corrections_add::entries::merge_entries` meets its contract. Assumes nothing.
use native.Mathlib.Omega.{arith}
use mathlib.Core.Path.{◌≡◌}
use Prim.Native.Nat.{◌≤◌, ◌<◌}
use lib.ListN.{length, take}
use Rattle.corrections_directory.specs.Directory.{entry_rows}
use Rattle.corrections_add.proofs.OwnLaws.{room_of_lem}
use Rattle.corrections_add.proofs.CountLaws.{ascends-take, last_fits}
use Rattle.corrections_add.proofs.WriteLaws.{fronts, long-b, long-c, long-f, long-n, long-v, placing-end, placing-start, placing-turn, same-f, same-n, same_rows, some_left}
use Rattle.corrections_add.proofs.entries.merge_entries.Goals as goal
use Rattle.corrections_add.proofs.entries.merge_entries.Lts as lts
use Rattle.corrections_add.proofs.entries.merge_entries.Tie as tie
use Rattle.corrections_add.proofs.entries.merge_entries.Reads as reads

-- places on the way through the function
abbrev After-last_of-last : Type 0
After-last_of-last = lts.After-last_of tie.the-claims reads.Pre reads.Post goal.the-invariant-loop-j goal.the-decreases-loop-j

abbrev At-loop-j : Type 0
At-loop-j = lts.At-loop tie.the-claims reads.Pre reads.Post goal.the-invariant-loop-j goal.the-decreases-loop-j

abbrev Start : Type 0
Start = lts.Start tie.the-claims reads.Pre reads.Post goal.the-invariant-loop-j goal.the-decreases-loop-j

pub loop-j-init : goal.loop-j-init
loop-j-init c = let s = c in placing-start s.requires.0 s.args.new.count s.args.count s.requires.1.1.1.1

-- ---- what is known in every turn
abbrev start : At-loop-j → Start
start t = t.before.before.before.before.before.before

-- the columns keep their lengths

record Kept (t : At-loop-j) : Type 0 where
  same-c : length t.loop-j.block_constellation ≡ length (start t).args.block_constellation.now
  same-v : length t.loop-j.block_svid ≡ length (start t).args.block_svid.now
  same-b : length t.loop-j.block_band ≡ length (start t).args.block_band.now
  same-f : length t.loop-j.block_first ≡ length (start t).args.block_first.now
  same-n : length t.loop-j.block_samples ≡ length (start t).args.block_samples.now

keeps : (t : At-loop-j) → Kept t
keeps t =
    let s = start t in
    let a = s.args in
    let some = s.requires.1.1.0 in
    record {
      same-c = long-c s.requires.0 a.new.count a.count t.loop-j.invariant some;
      same-v = long-v s.requires.0 a.new.count a.count t.loop-j.invariant some;
      same-b = long-b s.requires.0 a.new.count a.count t.loop-j.invariant some;
      same-f = long-f s.requires.0 a.new.count a.count t.loop-j.invariant some;
      same-n = long-n s.requires.0 a.new.count a.count t.loop-j.invariant some;
    }

-- each column has a place for the entry that was found
abbrev loop_at : After-last_of-last → At-loop-j
loop_at c = c.before.before

record Turn (c : After-last_of-last) : Type 0 where
  left : 0 < (loop_at c).loop-j.w
  in_c : (loop_at c).loop-j.w ≤ length (loop_at c).loop-j.block_constellation
  small-c : length (loop_at c).loop-j.block_constellation ≡ length (start (loop_at c)).args.block_constellation.now
  in-v : (loop_at c).loop-j.w ≤ length (loop_at c).loop-j.block_svid
  small-v : length (loop_at c).loop-j.block_svid ≡ length (start (loop_at c)).args.block_svid.now
  in_b : (loop_at c).loop-j.w ≤ length (loop_at c).loop-j.block_band
  small_b : length (loop_at c).loop-j.block_band ≡ length (start (loop_at c)).args.block_band.now
  in_f : (loop_at c).loop-j.w ≤ length (loop_at c).loop-j.block_first
  small-f : length (loop_at c).loop-j.block_first ≡ length (start (loop_at c)).args.block_first.now
  in-n : (loop_at c).loop-j.w ≤ length (loop_at c).loop-j.block_samples
  small_n : length (loop_at c).loop-j.block_samples ≡ length (start (loop_at c)).args.block_samples.now

turn : (c : After-last_of-last) → Turn c
turn c =
    let t = loop_at c in
    let s = start t in
    let a = s.args in
    let i = t.loop-j.invariant in
    let some = s.requires.1.1.0 in
    let room = room_of_lem a.count a.block_constellation.now a.block_svid.now a.block_band.now a.block_first.now a.block_samples.now s.requires.1.1.1.0 in
    let k = keeps t in
    record {
      left = some_left s.requires.0 a.new.count a.count i c.last_of-last.ensures (fronts s.requires.0 a.new.count a.count i some) some;
      in_c = omega (arith, i.high, room.in-dc, k.same-c);
      small-c = k.same-c;
      in-v = omega (arith, i.high, room.in-dv, k.same-v);
      small-v = k.same-v;
      in_b = omega (arith, i.high, room.in-db, k.same-b);
      small_b = k.same-b;
      in_f = omega (arith, i.high, room.in_df, k.same-f);
      small-f = k.same-f;
      in-n = omega (arith, i.high, room.in_dn, k.same-n);
      small_n = k.same-n;
    }

pub last_of-last-requires : goal.last_of-last-requires
last_of-last-requires c = let s = c in
    let a = s.args in
    let h = c.loop-j in
    let t = s.requires.0 in
    let some = s.requires.1.1.0 in
    let f = h.invariant.old in
    let e = fronts t a.new.count a.count h.invariant some in
    let l = same_rows t a.new.count a.count h.invariant some in (
      (omega (arith, f, t.few, l), rw e (ascends-take 0 (take a.blocks (entry_rows a.block_constellation.now a.block_svid.now a.block_band.now a.block_first.now a.block_samples.now)) h.i t.ascending)),
      (
        (c.loop-j-test.true, (h.invariant.tail, (omega (arith, h.invariant.new), (omega (arith, h.invariant.new), omega (arith, h.invariant.new))))),
        λ q. rw (same-f t a.new.count a.count h.invariant some q, same-n t a.new.count a.count h.invariant some q) (last_fits t h.i h.j a.new.count f h.invariant.new s.requires.1.0.0 q),
      ),
    )

pub overflow_sub-w : goal.overflow_sub-w
overflow_sub-w c = omega (arith, turn c)

pub bounds-block_constellation-w : goal.bounds-block_constellation-w
bounds-block_constellation-w c = omega (arith, turn c)

pub offset_bounds-block_svid-w : goal.offset_bounds-block_svid-w
offset_bounds-block_svid-w c = omega (arith, turn c, (start (loop_at c)).well_formed.1.0)

pub bounds-block_svid-w : goal.bounds-block_svid-w
bounds-block_svid-w c = omega (arith, turn c)

pub offset_bounds-block_band-w : goal.offset_bounds-block_band-w
offset_bounds-block_band-w c = omega (arith, turn c, (start (loop_at c)).well_formed.1.1.0)

pub bounds-block_band-w : goal.bounds-block_band-w
bounds-block_band-w c = omega (arith, turn c)

pub offset_bounds-block_first-w : goal.offset_bounds-block_first-w
offset_bounds-block_first-w c = omega (arith, turn c, (start (loop_at c)).well_formed.1.1.1.0)

pub bounds-block_first-w : goal.bounds-block_first-w
bounds-block_first-w c = omega (arith, turn c)

pub offset_bounds-block_samples-w : goal.offset_bounds-block_samples-w
offset_bounds-block_samples-w c = omega (arith, turn c, (start (loop_at c)).well_formed.1.1.1.1.0)

pub bounds-block_samples-w : goal.bounds-block_samples-w
bounds-block_samples-w c = omega (arith, turn c)

pub loop-j-preserved : goal.loop-j-preserved
loop-j-preserved c = let s = c in
    let a = s.args in
    let h = c.loop-j in
    let t = s.requires.0 in
    let some = s.requires.1.1.0 in
    placing-turn t a.new.count a.count h.invariant c.last_of-last.ensures (fronts t a.new.count a.count h.invariant some) s.requires.1.1.1.0
    a.new.svids_fit a.new.bands_fit (λ x. omega (arith, c.slice_known-2-1.given x)) (λ x. omega (arith, c.slice_known-3-1.given x))

pub returns : goal.returns
returns c = let s = start c.before in placing-end s.requires.0 s.args.new.count s.args.count c.loop-j.invariant (omega (arith, c.loop-j-test.false))
