-- `wls::chi::chi_at` meets its contract. Assumes nothing.
use Rattle.std.specs.Prelude.{Ok, Err}
use mathlib.Core.Path.{◌≡◌, sym, ap, ◌∙◌}
use native.Mathlib.Omega.{arith}
use lib.ListN.{take}
use Rattle.std.proofs.lemmas.Result.{err_from_is_err_and}
use Rattle.lists.proofs.Walk.{length-mapped}
use Rattle.numeric.proofs.SightLaws.{seen_by}
use Rattle.estimate_rounds.proofs.RulesLaws.{refused-by, passed-by}
use Rattle.wls.specs.Fix.{sight_rules, chi_at}
use Rattle.wls.proofs.SightLaws.{sights-start, sights-end, sights-next, sights-stop}
use Rattle.wls.proofs.QualityLaws.{chi-answered, squares, squares-zero, squares-next, chi-is}
use Rattle.wls.proofs.chi.chi_at.Goals as goal

pub loop-j-init : goal.loop-j-init
loop-j-init c = let s = c in (omega arith, sights-start s.args.sky.observation _ s.args.s, squares-zero s.args.k s.args.sky.observation s.args.sigma.now s.args.s, search length-mapped)

pub returns-in_err-g : goal.returns-in_err-g
returns-in_err-g c = let s = c.args in
    let h = c.loop-j in
    let p = err_from_is_err_and c.from_residual.result c.from_residual.ensures.1 in
    λ settings e. rw (p.1, p.2) (chi-answered (refused-by Err _ _ (sights-stop s.sky.observation _ s.s (omega arith) h.j h.invariant.1 (omega arith) c.geometry.ensures c.in_err-g.was)))

pub loop-j-preserved : goal.loop-j-preserved
loop-j-preserved c = let s = c in
    let h = c.loop-j in
    let g = (seen_by _ _ (sym c.geometry.ensures ∙ c.in_ok-g.was)).sight in (
      omega arith,
      sights-next s.args.sky.observation _ s.args.s (omega arith) h.j h.invariant.1 (omega arith) c.geometry.ensures c.in_ok-g.was,
      squares-next s.args.k s.args.sky.observation s.args.sigma.now s.args.s h.j h.t _ h.invariant.2 (rw (c.square-t.ensures, c.state_at.ensures, c.slot-q.ensures, g)),
      h.invariant.3,
    )

pub returns : goal.returns
returns c = let s = c in
    let h = c.loop-j in
    let os = s.args.sky.observation in
    let last : h.j ≡ s.args.sky.count = omega arith in
    λ settings e.
    chi-answered
    (ap Ok (chi-is s.args.k os s.args.sigma.now s.args.s settings s.args.sky.count (omega arith) e (h.invariant.2 ∙ ap (squares s.args.k os s.args.sigma.now s.args.s) last) c.freedom_of.ensures c.sqrt.ensures)
    ∙ sym (passed-by Err (Ok (chi_at settings s.args.k (take s.args.sky.count os) s.args.s)) (sight_rules (take s.args.sky.count os) s.args.s) (sights-end os _ s.args.s (omega arith) h.j h.invariant.1 (omega arith))))
