-- `corrections_add::add::place` meets its contract. Assumes nothing.
use native.Mathlib.Omega.{arith}
use mathlib.Core.Path.{◌≡◌, refl, ap, ◌∙◌}
use Prim.Native.Nat.{◌+◌}
use lib.ListN.{length}
use Rattle.corrections_directory.specs.Directory.{Directory, blocks_with, directory_in, floats, lent_blocks}
use Rattle.corrections_add.proofs.PlaceLaws.{fits-64, none-sound, patterns-same, table-sorted, with-table}
use Rattle.corrections_add.proofs.add.place.Goals as goal

pub insert_all-requires : goal.insert_all-requires
insert_all-requires c = let s = c in
    let z : 0 + s.args.new_count ≡ s.args.new_count = omega arith in
    (s.requires.new_count_bound.0, (rw z (fits-64 _ s.args.new_count refl refl refl refl refl s.requires.new_count_bound.0), (none-sound, s.requires.new_count_bound.1)))

pub merge-requires : goal.merge-requires
merge-requires c = let s = c in
    let i = c.insert_all in
    let w = c.new-sorted.ensures in
    rw (w.count-is, w.constellation-is, w.svid-is, w.band-is, w.time-is, w.metres-is)
    (record { fitting = s.requires.fitting; sorted_new = (fits-64 _ s.args.new_count i.auto.cs i.auto.vs i.auto.bs i.auto.ts i.auto.xs s.requires.new_count_bound.0, table-sorted _ _ _ _ i.ensures) })

pub returns : goal.returns
returns c = let s = c in
    let a = s.args in
    let l = lent_blocks a.block_constellation.now a.block_svid.now a.block_band.now a.block_first.now a.block_samples.now (floats a.table_time.now) (floats a.table_metres.now) in
    let w = c.new-sorted.ensures in
    let m = rw (w.count-is, w.constellation-is, w.svid-is, w.band-is, w.time-is, w.metres-is) at c.merge.ensures in
    let q = with-table _ _ _ _ c.insert_all.ensures (directory_in a.blocks a.table_count l) in
    (m.0 ∙ ap (λ (d : Directory). length d.entries) q, (m.1.0 ∙ ap (λ (d : Directory). blocks_with d l) q, patterns-same q m.1.1))
