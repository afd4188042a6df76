-- `tdcp::moved::moved_over` meets its contract. Assumes nothing.
use mathlib.Core.Path.{refl, sym, ◌∙◌}
use native.Mathlib.Omega.{arith}
use lib.ListN.{length}
use Rattle.std.proofs.lemmas.Result.{err_from_is_err_and}
use Rattle.lists.proofs.Walk.{places-length}
use Rattle.records.specs.Steps.{pair_in, pairs_in}
use Rattle.tdcp.specs.Steps.{quality_over}
use Rattle.tdcp.proofs.DisplacementCall.{over-refused, over-reached}
use Rattle.tdcp.proofs.RatedLaws.{refused_as, rate-no, rate-yes, moved-rated, moved_plain, quality-reached}
use Rattle.tdcp.proofs.moved.moved_over.Goals as goal

pub returns-in_err-fit_pairs : goal.returns-in_err-fit_pairs
returns-in_err-fit_pairs c = let f = c in
    let s = f in
    let a = s.args in
    let ps = pairs_in a.x.now a.y.now a.z.now a.constellation.now a.elevation.now a.observed.now in
    let e = f.fit_pairs.ensures.ends a.constellation.now a.elevation.now f.clocks_into.ensures f.sigmas_into.ensures in
    let p = err_from_is_err_and c.from_residual.result c.from_residual.ensures.1 in
    rw (p.1, p.2) (refused_as a.wanted (quality_over a.settings a.k ps) (over-refused a.settings a.k ps a.screened e c.in_err-fit_pairs.was))

pub quality_at-requires : goal.quality_at-requires
quality_at-requires c = let s = c in (s.requires.0, omega arith, omega (arith, s.requires.1))

pub returns : goal.returns
returns c = let f = c in
    let s = f in
    let a = s.args in
    let ps = pairs_in a.x.now a.y.now a.z.now a.constellation.now a.elevation.now a.observed.now in
    let e = f.fit_pairs.ensures.ends a.constellation.now a.elevation.now f.clocks_into.ensures f.sigmas_into.ensures in
    let many = sym (places-length (pair_in a.x.now a.y.now a.z.now a.constellation.now a.elevation.now a.observed.now) (length a.observed.now)) in
    let m = over-reached a.settings a.k ps a.screened e c.in_ok-fit_pairs.was many c.moved_to.ensures in
    let q = c.quality_at.ensures.quality-is a.settings a.k a.constellation.now a.elevation.now refl f.clocks_into.ensures f.sigmas_into.ensures in
    moved-rated c.if-not-wanted.false (sym c.in_ok-d.was ∙ m) (rate-yes _ c.in_ok-f.was) (quality-reached a.settings a.k ps e q)

pub returns-in_err-f : goal.returns-in_err-f
returns-in_err-f c = let f = c in
    let s = f in
    let a = s.args in
    let ps = pairs_in a.x.now a.y.now a.z.now a.constellation.now a.elevation.now a.observed.now in
    let e = f.fit_pairs.ensures.ends a.constellation.now a.elevation.now f.clocks_into.ensures f.sigmas_into.ensures in
    let many = sym (places-length (pair_in a.x.now a.y.now a.z.now a.constellation.now a.elevation.now a.observed.now) (length a.observed.now)) in
    let m = over-reached a.settings a.k ps a.screened e c.in_ok-fit_pairs.was many c.moved_to.ensures in
    let q = c.quality_at.ensures.quality-is a.settings a.k a.constellation.now a.elevation.now refl f.clocks_into.ensures f.sigmas_into.ensures in
    let p = err_from_is_err_and c.from_residual-in_err-f.result c.from_residual-in_err-f.ensures.1 in
    rw (p.1, p.2) (moved-rated c.if-not-wanted.false (sym c.in_ok-d.was ∙ m) (rate-no _ c.in_err-f.was) (quality-reached a.settings a.k ps e q))

pub returns-in_err-d : goal.returns-in_err-d
returns-in_err-d c = let f = c in
    let s = f in
    let a = s.args in
    let ps = pairs_in a.x.now a.y.now a.z.now a.constellation.now a.elevation.now a.observed.now in
    let e = f.fit_pairs.ensures.ends a.constellation.now a.elevation.now f.clocks_into.ensures f.sigmas_into.ensures in
    let many = sym (places-length (pair_in a.x.now a.y.now a.z.now a.constellation.now a.elevation.now a.observed.now) (length a.observed.now)) in
    let m = over-reached a.settings a.k ps a.screened e c.in_ok-fit_pairs.was many c.moved_to.ensures in
    let p = err_from_is_err_and c.from_residual-in_err-d.result c.from_residual-in_err-d.ensures.1 in
    rw (p.1, p.2) (refused_as a.wanted (quality_over a.settings a.k ps) (sym c.in_err-d.was ∙ m))

pub returns-then-not-wanted : goal.returns-then-not-wanted
returns-then-not-wanted c = let f = c in
    let s = f in
    let a = s.args in
    let ps = pairs_in a.x.now a.y.now a.z.now a.constellation.now a.elevation.now a.observed.now in
    let e = f.fit_pairs.ensures.ends a.constellation.now a.elevation.now f.clocks_into.ensures f.sigmas_into.ensures in
    let many = sym (places-length (pair_in a.x.now a.y.now a.z.now a.constellation.now a.elevation.now a.observed.now) (length a.observed.now)) in
    let m = over-reached a.settings a.k ps a.screened e c.in_ok-fit_pairs.was many c.moved_to.ensures in
    moved_plain (quality_over a.settings a.k ps) c.if-not-wanted.true (sym c.in_ok-d.was ∙ m)
