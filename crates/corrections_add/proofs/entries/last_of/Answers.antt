-- `corrections_add::entries::last_of` meets its contract. Assumes nothing.
use native.Mathlib.Omega.{arith}
use mathlib.Core.Path.{◌≡◌, refl}
use Prim.Native.Nat.{◌-◌}
use lib.ListN.{length, take}
use lib.Seq.{length-take-le}
use Rattle.corrections_directory.specs.Directory.{entry_rows}
use Rattle.corrections_add.proofs.OwnLaws.{found-new, found-old, room_of_lem, row_at}
use Rattle.corrections_add.proofs.entries.last_of.Goals as goal

pub returns-then-i-eq0 : goal.returns-then-i-eq0
returns-then-i-eq0 c = let s = c in
    let a = s.args in
    let l : length (take a.i (entry_rows a.block_constellation.now a.block_svid.now a.block_band.now a.block_first.now a.block_samples.now)) ≡ a.i = length-take-le a.i (entry_rows a.block_constellation.now a.block_svid.now a.block_band.now a.block_first.now a.block_samples.now) s.requires.0.0 in
    found-new (take a.i (entry_rows a.block_constellation.now a.block_svid.now a.block_band.now a.block_first.now a.block_samples.now)) s.requires.0.1 a.new.constellation.now a.new.svid.now a.new.band.now a.i a.j a.end _ c.new_last.ensures (omega (arith, l)) s.requires.1.0.0 s.requires.1.0.1.0 (λ p. absurd (omega (arith, c.if-i-eq0.true, p)))

pub signal_at-h-requires : goal.signal_at-h-requires
signal_at-h-requires c = let a = c.args in let z = room_of_lem a.i a.block_constellation.now a.block_svid.now a.block_band.now a.block_first.now a.block_samples.now c.requires.0.0 in (omega (arith, z.in-dc, c.if-i-eq0.false), (omega (arith, z.in-dv, c.if-i-eq0.false), omega (arith, z.in-db, c.if-i-eq0.false)))

pub returns-then-h-g : goal.returns-then-h-g
returns-then-h-g c = let s = c in
    let a = s.args in
    let l : length (take a.i (entry_rows a.block_constellation.now a.block_svid.now a.block_band.now a.block_first.now a.block_samples.now)) ≡ a.i = length-take-le a.i (entry_rows a.block_constellation.now a.block_svid.now a.block_band.now a.block_first.now a.block_samples.now) s.requires.0.0 in
    let at = row_at a.block_constellation.now a.block_svid.now a.block_band.now a.block_first.now a.block_samples.now a.i s.requires.0.0 (a.i - 1) (omega (arith, c.if-i-eq0.false)) in
    found-new (take a.i (entry_rows a.block_constellation.now a.block_svid.now a.block_band.now a.block_first.now a.block_samples.now)) s.requires.0.1 a.new.constellation.now a.new.svid.now a.new.band.now a.i a.j a.end _ c.new_last-then-h-g.ensures (omega (arith, l)) s.requires.1.0.0 s.requires.1.0.1.0
    (λ p. rw (← at) (rw (c.signal_at-h.ensures.0, c.signal_at-g.ensures.0) at c.if-h-g.true))

pub bounds-block_constellation-i : goal.bounds-block_constellation-i
bounds-block_constellation-i c = let a = c.args in omega (arith, (room_of_lem a.i a.block_constellation.now a.block_svid.now a.block_band.now a.block_first.now a.block_samples.now c.requires.0.0).in-dc, c.if-i-eq0.false)

pub offset_bounds-block_svid-i : goal.offset_bounds-block_svid-i
offset_bounds-block_svid-i c = let a = c.args in omega (arith, (room_of_lem a.i a.block_constellation.now a.block_svid.now a.block_band.now a.block_first.now a.block_samples.now c.requires.0.0).in-dv, c.if-i-eq0.false)

pub bounds-block_svid-i : goal.bounds-block_svid-i
bounds-block_svid-i c = let a = c.args in omega (arith, (room_of_lem a.i a.block_constellation.now a.block_svid.now a.block_band.now a.block_first.now a.block_samples.now c.requires.0.0).in-dv, c.if-i-eq0.false)

pub offset_bounds-block_band-i : goal.offset_bounds-block_band-i
offset_bounds-block_band-i c = let a = c.args in omega (arith, (room_of_lem a.i a.block_constellation.now a.block_svid.now a.block_band.now a.block_first.now a.block_samples.now c.requires.0.0).in-db, c.if-i-eq0.false)

pub bounds-block_band-i : goal.bounds-block_band-i
bounds-block_band-i c = let a = c.args in omega (arith, (room_of_lem a.i a.block_constellation.now a.block_svid.now a.block_band.now a.block_first.now a.block_samples.now c.requires.0.0).in-db, c.if-i-eq0.false)

pub offset_bounds-block_first-i : goal.offset_bounds-block_first-i
offset_bounds-block_first-i c = let a = c.args in omega (arith, (room_of_lem a.i a.block_constellation.now a.block_svid.now a.block_band.now a.block_first.now a.block_samples.now c.requires.0.0).in_df, c.if-i-eq0.false)

pub bounds-block_first-i : goal.bounds-block_first-i
bounds-block_first-i c = let a = c.args in omega (arith, (room_of_lem a.i a.block_constellation.now a.block_svid.now a.block_band.now a.block_first.now a.block_samples.now c.requires.0.0).in_df, c.if-i-eq0.false)

pub offset_bounds-block_samples-i : goal.offset_bounds-block_samples-i
offset_bounds-block_samples-i c = let s = c in omega (arith, s.requires.1.1 (omega (arith, c.if-i-eq0.false)), s.well_formed.1.1.1.1.0, (room_of_lem s.args.i s.args.block_constellation.now s.args.block_svid.now s.args.block_band.now s.args.block_first.now s.args.block_samples.now s.requires.0.0).in_dn)

pub bounds-block_samples-i : goal.bounds-block_samples-i
bounds-block_samples-i c = let a = c.args in omega (arith, (room_of_lem a.i a.block_constellation.now a.block_svid.now a.block_band.now a.block_first.now a.block_samples.now c.requires.0.0).in_dn, c.if-i-eq0.false)

pub returns : goal.returns
returns c = let s = c in
    let a = s.args in
    let l : length (take a.i (entry_rows a.block_constellation.now a.block_svid.now a.block_band.now a.block_first.now a.block_samples.now)) ≡ a.i = length-take-le a.i (entry_rows a.block_constellation.now a.block_svid.now a.block_band.now a.block_first.now a.block_samples.now) s.requires.0.0 in
    let at = row_at a.block_constellation.now a.block_svid.now a.block_band.now a.block_first.now a.block_samples.now a.i s.requires.0.0 (a.i - 1) (omega (arith, c.if-i-eq0.false)) in
    found-old (take a.i (entry_rows a.block_constellation.now a.block_svid.now a.block_band.now a.block_first.now a.block_samples.now)) s.requires.0.1 a.new.constellation.now a.new.svid.now a.new.band.now a.i a.j a.end _ (omega (arith, c.if-i-eq0.false)) (omega (arith, l)) s.requires.1.0.0 at
    (rw c.signal_at-h.ensures.0 at c.own_start-a.ensures)
    (rw (c.signal_at-g.ensures.0, c.signal_at-h.ensures.0) at c.if-h-g.false)
    (omega (arith, c.shared_slice_known-2-1.given (a.i - 1)), omega (arith, c.shared_slice_known-3-1.given (a.i - 1)))
    a.new.svids_fit a.new.bands_fit refl refl
