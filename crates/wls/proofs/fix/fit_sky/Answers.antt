-- `wls::fix::fit_sky` meets its contract. Assumes nothing.
use mathlib.Core.Path.{ap, ◌∙◌}
use Prim.Native.Nat.{◌+◌}
use lib.ListN.{take}
use Rattle.std.proofs.lemmas.Result.{err_from_is_err_and}
use Rattle.normal_equations.specs.Steps.{rows_in}
use Rattle.wls.specs.Fix.{sight_rules, chi_at}
use Rattle.wls.specs.Steps.{concluded_at}
use Rattle.wls.proofs.FixLaws.{stopped-at, reached-at}
use Rattle.wls.proofs.fix.fit_sky.Goals as goal

pub fit_rounds-requires : goal.fit_rounds-requires
fit_rounds-requires c = record { count_bound = (c.requires.0, c.requires.1); sigmas_of = c.sigmas_of-rows.ensures }

pub first-requires : goal.first-requires
first-requires c = (c.fit_rounds.ensures.fitted.ended _ c.in_ok-used.was).few

pub returns-in_err-used : goal.returns-in_err-used
returns-in_err-used c = let a = c.args in
    let p = err_from_is_err_and c.from_residual.result c.from_residual.ensures.1 in
    rw (p.1, p.2) (stopped-at a.settings a.k (take a.sky.count a.sky.observation) a.guess (c.fit_rounds.ensures.fitted.refused _ c.in_err-used.was))

pub returns : goal.returns
returns c = let a = c.args in
    let os = take a.sky.count a.sky.observation in
    let f = c.fit_rounds in
    let at = f.new.state in
    let chi = c.chi_at-chi.ensures a.settings (ap (take a.sky.count) f.ensures.sigma_kept ∙ c.sigmas_of-rows.ensures) in
    reached-at a.settings a.k os a.guess (f.ensures.fitted.ended _ c.in_ok-used.was) c.found_at.result
    (c.found_at.ensures (sight_rules os at) (chi_at a.settings a.k os at) chi.answer ∙ ap (λ z. concluded_at (3 + a.k.count) (rows_in z) (sight_rules os at) (chi_at a.settings a.k os at) at) c.first.ensures)
