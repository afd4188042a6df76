-- `corrections_add::entries::entries_after` meets its contract. Assumes nothing.
use native.Mathlib.Omega.{arith}
use mathlib.Core.Path.{◌≡◌, sym}
use lib.ListN.{take}
use lib.Seq.{take-take}
use Rattle.corrections_directory.specs.Directory.{entry_rows}
use Rattle.corrections_add.proofs.CountLaws.{ascends-take, counting-start, counting-turn, counting-end, last_fits}
use Rattle.corrections_add.proofs.entries.entries_after.Goals as goal

pub loop-j-init : goal.loop-j-init
loop-j-init c = let s = c in counting-start s.requires.0 s.args.new.constellation.now s.args.new.svid.now s.args.new.band.now s.args.new.count

pub last_of-last-requires : goal.last_of-last-requires
last_of-last-requires c = let s = c in
    let a = s.args in
    let h = c.loop-j in
    let t = s.requires.0 in
    let f = h.invariant.old in
    let p : take h.i (take a.blocks (entry_rows a.block_constellation.now a.block_svid.now a.block_band.now a.block_first.now a.block_samples.now)) ≡ take h.i (entry_rows a.block_constellation.now a.block_svid.now a.block_band.now a.block_first.now a.block_samples.now) = take-take h.i a.blocks (entry_rows a.block_constellation.now a.block_svid.now a.block_band.now a.block_first.now a.block_samples.now) f in (
      (omega (arith, f, t.few), rw p at (ascends-take 0 (take a.blocks (entry_rows a.block_constellation.now a.block_svid.now a.block_band.now a.block_first.now a.block_samples.now)) h.i t.ascending)),
      (
        (c.loop-j-test.true, (h.invariant.tail, (omega (arith, h.invariant.new), (omega (arith, h.invariant.new), omega (arith, h.invariant.new))))),
        λ q. last_fits t h.i h.j a.new.count f h.invariant.new (omega (arith, s.requires.1.0)) q,
      ),
    )

pub loop-j-preserved : goal.loop-j-preserved
loop-j-preserved c = let s = c in
    let a = s.args in
    let h = c.loop-j in
    let t = s.requires.0 in
    counting-turn t a.new.constellation.now a.new.svid.now a.new.band.now a.new.count h.invariant c.last_of-last.ensures (sym (take-take h.i a.blocks (entry_rows a.block_constellation.now a.block_svid.now a.block_band.now a.block_first.now a.block_samples.now) h.invariant.old))

pub returns : goal.returns
returns c = let s = c in
    let a = s.args in
    let h = c.loop-j in
    let t = s.requires.0 in
    counting-end t a.new.constellation.now a.new.svid.now a.new.band.now a.new.count h.invariant (omega (arith, c.loop-j-test.false))
