-- `corrections_epoch::add_epoch::add_epoch` meets its contract. Assumes nothing.
use Rattle.std.proofs.lemmas.Result.{err_from_is_err_and}
use mathlib.Core.Path.{sym, ap, ◌∙◌}
use Prim.Native.Nat.{ℕ}
use Rattle.corrections_directory.specs.Directory.{block_capacity, directory_in, floats, lent_blocks}
use Rattle.corrections_epoch.specs.Steps.{records_test}
use Rattle.corrections_epoch.proofs.TestLaws.{passed-records}
use Rattle.corrections_epoch.proofs.EpochLaws.{epoch-holds, placed-passed, placed-refused, told-nothing, told_same}
use Rattle.corrections_epoch.proofs.add_epoch.add_epoch.Goals as goal

pub shared_ref_as_front-ranges : goal.shared_ref_as_front-ranges
shared_ref_as_front-ranges c = (passed-records _ _ _ _ _ _ _ _ (sym c.in_ok-records_tested.was ∙ c.records_tested.ensures)).few-ranges

pub states_of-requires : goal.states_of-requires
states_of-requires c = (passed-records _ _ _ _ _ _ _ _ (sym c.in_ok-records_tested.was ∙ c.records_tested.ensures)).few-states

pub returns-in_err-records_tested : goal.returns-in_err-records_tested
returns-in_err-records_tested c = let t = c in
    let s = t in
    let a = s.args in
    let l = lent_blocks a.block_constellation.now a.block_svid.now a.block_band.now a.block_first.now a.block_samples.now (floats a.table_time.now) (floats a.table_metres.now) in
    let q = sym c.in_err-records_tested.was ∙ t.records_tested.ensures ∙ ap (λ (k : ℕ). records_test a.blocks a.table_count k a.epoch a.states a.base a.rover a.settings) t.capacity.ensures in
    let p = err_from_is_err_and c.from_residual.result c.from_residual.ensures.1 in
    rw (p.1, p.2) (told-nothing _ a.blocks a.table_count l a.table_time.now a.table_metres.now (placed-refused a.blocks a.table_count (block_capacity l) (directory_in a.blocks a.table_count l) a.epoch a.states a.base a.rover a.settings _ q))

pub returns : goal.returns
returns c = let z = c in
    let v = z in
    let t = v in
    let s = t in
    let a = s.args in
    let l = lent_blocks a.block_constellation.now a.block_svid.now a.block_band.now a.block_first.now a.block_samples.now (floats a.table_time.now) (floats a.table_metres.now) in
    let q = sym v.in_ok-records_tested.was ∙ t.records_tested.ensures ∙ ap (λ (k : ℕ). records_test a.blocks a.table_count k a.epoch a.states a.base a.rover a.settings) t.capacity.ensures in
    let h = epoch-holds a.epoch a.states a.base a.rover a.settings _ (rw c.states_of.ensures at v.raws_of-raws.ensures) _ v.samples_of-samples.ensures in
    told_same a.table_time.now a.table_metres.now _ _ (placed-passed a.blocks a.table_count (block_capacity l) (directory_in a.blocks a.table_count l) a.epoch a.states a.base a.rover a.settings (passed-records _ _ _ _ _ _ _ _ q) _ h) z.add.ensures
