-- `corrections_forget::forget::forget` meets its contract. Assumes nothing.
use native.Mathlib.Omega.{arith}
use mathlib.Core.Path.{refl, sym, ◌∙◌, subst}
use lib.Dec.{T}
use Rattle.std.proofs.lemmas.Result.{err_from_is_err_and}
use Rattle.corrections_directory.specs.Directory.{floats, lent_blocks}
use Rattle.corrections_forget.proofs.CallLaws.{fit_of_lem, forget-refused, forget-passed}
use Rattle.corrections_forget.proofs.forget.forget.Goals as goal

pub trim-requires : goal.trim-requires
trim-requires c = let a = c.args in
    let l = lent_blocks a.block_constellation.now a.block_svid.now a.block_band.now a.block_first.now a.block_samples.now (floats a.table_time.now) (floats a.table_metres.now) in
    let e = sym c.in_ok-tested.was ∙ c.tested.ensures in
    let f = fit_of_lem a.blocks a.table_count l a.time (sym e) in
    record { constellations = a.block_constellation.now; svids = a.block_svid.now; bands = a.block_band.now; samples = a.table_count; fit = f }

pub returns-in_err-tested : goal.returns-in_err-tested
returns-in_err-tested c = let a = c.args in
    let l = lent_blocks a.block_constellation.now a.block_svid.now a.block_band.now a.block_first.now a.block_samples.now (floats a.table_time.now) (floats a.table_metres.now) in
    let e = sym c.in_err-tested.was ∙ c.tested.ensures in
    let p = err_from_is_err_and c.from_residual.result c.from_residual.ensures.1 in
    rw (p.1, p.2) (forget-refused a.blocks a.table_count l a.time a.table_time.now a.table_metres.now _ (sym e))

pub returns : goal.returns
returns c = let s = c in
    let a = s.args in
    let l = lent_blocks a.block_constellation.now a.block_svid.now a.block_band.now a.block_first.now a.block_samples.now (floats a.table_time.now) (floats a.table_metres.now) in
    let e = sym c.in_ok-tested.was ∙ c.tested.ensures in
    let f = fit_of_lem a.blocks a.table_count l a.time (sym e) in
    let r = c.trim.ensures in
    let n = r.0 a.block_constellation.now a.block_svid.now a.block_band.now a.table_count f in
    forget-passed a.blocks a.table_count l a.time a.table_time.now a.table_metres.now (sym e) refl refl (subst T (sym s.well_formed.1.1.1.1.1.1.1.1.1.0.1) tt) n.0 n.1 _ _ refl refl r.1.0 r.1.1
    (λ x. omega (arith, c.type_inv.table_time x)) (λ x. omega (arith, c.type_inv.table_metres x))
