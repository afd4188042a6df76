-- `corrections_add::add::add` meets its contract. Assumes nothing.
use Rattle.std.proofs.lemmas.Result.{err_from_is_err_and}
use native.Mathlib.Omega.{arith}
use mathlib.Core.Path.{sym, ◌∙◌}
use Rattle.lists.proofs.Walk.{length-mapped}
use Rattle.corrections_directory.specs.Directory.{block_capacity, directory_in, floats, lent_blocks}
use Rattle.corrections_add.proofs.AddLaws.{add-passed, add-refused, passed, passed-fits, samples-left}
use Rattle.corrections_add.proofs.add.add.Goals as goal

pub place-entries-requires : goal.place-entries-requires
place-entries-requires c = let a = c.args in
    let l = lent_blocks a.block_constellation.now a.block_svid.now a.block_band.now a.block_first.now a.block_samples.now (floats a.table_time.now) (floats a.table_metres.now) in
    let e = sym c.in_ok-tested.was ∙ c.tested.ensures in
    let p = passed a.blocks a.table_count (block_capacity l) (directory_in a.blocks a.table_count l) a.new (sym e) in
    record { new_count_bound = (p.few.new, p.every-ranged); fitting = passed-fits a.blocks a.table_count l a.new p }

pub overflow_add-result : goal.overflow_add-result
overflow_add-result c = let a = c.args in
    let l = lent_blocks a.block_constellation.now a.block_svid.now a.block_band.now a.block_first.now a.block_samples.now (floats a.table_time.now) (floats a.table_metres.now) in
    let e = sym c.in_ok-tested.was ∙ c.tested.ensures in
    let p = passed a.blocks a.table_count (block_capacity l) (directory_in a.blocks a.table_count l) a.new (sym e) in
    let f = passed-fits a.blocks a.table_count l a.new p in
    omega (arith, f.room)

pub returns-in_err-tested : goal.returns-in_err-tested
returns-in_err-tested c = let a = c.args in
    let l = lent_blocks a.block_constellation.now a.block_svid.now a.block_band.now a.block_first.now a.block_samples.now (floats a.table_time.now) (floats a.table_metres.now) in
    let p = err_from_is_err_and c.from_residual.result c.from_residual.ensures.1 in
    rw (p.1, p.2) (add-refused a.blocks a.table_count (block_capacity l) (directory_in a.blocks a.table_count l) a.new l a.table_time.now a.table_metres.now _ (sym c.in_err-tested.was ∙ c.tested.ensures))

pub returns : goal.returns
returns c = let a = c.args in
    let l = lent_blocks a.block_constellation.now a.block_svid.now a.block_band.now a.block_first.now a.block_samples.now (floats a.table_time.now) (floats a.table_metres.now) in
    let e = sym c.in_ok-tested.was ∙ c.tested.ensures in
    let p = passed a.blocks a.table_count (block_capacity l) (directory_in a.blocks a.table_count l) a.new (sym e) in
    let f = passed-fits a.blocks a.table_count l a.new p in
    add-passed a.blocks a.table_count (block_capacity l) (directory_in a.blocks a.table_count l) a.new l a.table_time.now a.table_metres.now _ _ e c.place-entries.ensures.0 (samples-left a.blocks a.table_count l a.new f p.few.new (search (length-mapped, c.well_formed))) c.place-entries.ensures.1.0 c.place-entries.ensures.1.1
