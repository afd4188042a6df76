-- `corrections_directory::sound::is_sound` meets its contract. Assumes nothing.
use mathlib.Core.Bool.{not}
use Rattle.corrections_directory.specs.Directory.{lent_blocks}
use Rattle.corrections_directory.proofs.SoundLaws.{sound-reach, sound-tiled, tiled-is, sound-ordered}
use native.Mathlib.Omega.{arith}
use mathlib.Core.Path.{sym, ◌∙◌, ap}
use Rattle.corrections_directory.proofs.ColumnLaws.{entries-length, readings-length}
use Rattle.corrections_directory.proofs.PatternLaws.{block_within, blocks-in-order}
use Rattle.corrections_directory.proofs.sound.is_sound.Goals as goal

pub returns-then-not-all_in_reach : goal.returns-then-not-all_in_reach
returns-then-not-all_in_reach g c = let s = c in
    let a = s.args.table in
    let l = lent_blocks a.block_constellation.now a.block_svid.now a.block_band.now a.block_first.now a.block_samples.now (g.T.Element.floats a.table_time.now) (g.T.Element.floats a.table_metres.now) in
    sound-reach a.blocks a.table_count l s.requires.1 c.all_in_reach.ensures.reach (ap not c.if-not-all_in_reach.true)

pub returns-else-is_tiled : goal.returns-else-is_tiled
returns-else-is_tiled g c = let s = c in
    let a = s.args.table in
    let l = lent_blocks a.block_constellation.now a.block_svid.now a.block_band.now a.block_first.now a.block_samples.now (g.T.Element.floats a.table_time.now) (g.T.Element.floats a.table_metres.now) in
    c.if-is_tiled.false ∙ sound-tiled a.blocks a.table_count l s.requires.1 c.all_in_reach.ensures.reach (ap not c.if-not-all_in_reach.false) c.is_tiled.ensures (ap not c.if-is_tiled.false)

pub in_order-requires : goal.in_order-requires
in_order-requires g c = let s = c in
    let a = s.args.table in
    let ts = a.table_time.now in
    let xs = a.table_metres.now in
    let l = lent_blocks a.block_constellation.now a.block_svid.now a.block_band.now a.block_first.now a.block_samples.now (g.T.Element.floats ts) (g.T.Element.floats xs) in
    let t = tiled-is a.blocks a.table_count l s.requires.1 c.all_in_reach.ensures.reach (ap not c.if-not-all_in_reach.false) c.is_tiled.ensures (ap not c.if-is_tiled.true) in
    let n = c.all_in_reach.ensures.numbers c.if-not-all_in_reach.false in
    let z = entries-length a.block_constellation.now a.block_svid.now a.block_band.now a.block_first.now a.block_samples.now in
    let w = block_within a.block_constellation.now a.block_svid.now a.block_band.now a.block_first.now a.block_samples.now a.blocks s.requires.0 a.table_count t in
    let zr = readings-length (g.T.Element.floats ts) (g.T.Element.floats xs) in
    let zt = g.met.T.Element.floats_length ts in
    record {
      in-firsts = omega (arith, s.requires.0);
      in-counts = omega (arith, s.requires.0);
      each = λ j h. record { filled = (w j h).0; inside = omega (arith, (w j h).1, s.requires.1); numbers = λ i d p q. n i d (omega (arith, (w j h).1)) };
    }

pub returns-then-is_tiled : goal.returns-then-is_tiled
returns-then-is_tiled g c = let s = c in
    let a = s.args.table in
    let ts = a.table_time.now in
    let xs = a.table_metres.now in
    let l = lent_blocks a.block_constellation.now a.block_svid.now a.block_band.now a.block_first.now a.block_samples.now (g.T.Element.floats ts) (g.T.Element.floats xs) in
    let t = tiled-is a.blocks a.table_count l s.requires.1 c.all_in_reach.ensures.reach (ap not c.if-not-all_in_reach.false) c.is_tiled.ensures (ap not c.if-is_tiled.true) in
    sound-ordered a.blocks a.table_count l s.requires.1 c.all_in_reach.ensures.reach (ap not c.if-not-all_in_reach.false) c.is_tiled.ensures (ap not c.if-is_tiled.true)
    (c.in_order.ensures ∙ blocks-in-order a.block_constellation.now a.block_svid.now a.block_band.now a.block_first.now a.block_samples.now a.blocks s.requires.0 a.table_count t (g.T.Element.floats ts) (g.T.Element.floats xs) s.requires.1)
