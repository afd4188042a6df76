-- `wls::fix::fit_rounds` meets its contract. Assumes nothing.
use Prim.Native.Nat.{◌+◌, ◌-◌}
use mathlib.Core.Path.{◌≡◌, refl, sym, ap, ◌∙◌}
use native.Mathlib.Omega.{arith}
use lib.ListN.{length, take}
use Rattle.std.proofs.lemmas.Result.{err_from_is_err_and}
use Rattle.lists.specs.Walk.{places}
use Rattle.lists.proofs.Walk.{length-mapped}
use Rattle.normal_equations.specs.Steps.{first_columns, rows_in}
use Rattle.estimate_rounds.specs.Rounds.{short_step}
use Rattle.estimate_rounds.proofs.RoundsLaws.{three-places, left_end, rows_end, left-stopped, left-stops, left-goes, rows-stop, rows-go}
use Rattle.wls.specs.Fix.{round_at, fix_stop, fit_at}
use Rattle.wls.proofs.SightLaws.{round-refused}
use Rattle.wls.proofs.FixLaws.{going, going-rows, solving, made-rows, held, fitted-refused, fitted-ended}
use Rattle.wls.proofs.fix.fit_rounds.Goals as goal

pub loop-i-init : goal.loop-i-init
unfolding places
loop-i-init c = let a = c.args in
    let os = take a.sky.count a.sky.observation in
    let long : length c.args.sky.observation ≡ 64 = search length-mapped in
    (omega arith, refl, omega arith, long, going a.settings a.k os a.state.now, going-rows a.settings a.k os a.state.now, omega arith, refl)

pub returns-in_err-rows_at : goal.returns-in_err-rows_at
returns-in_err-rows_at c =
    let a = c.args in
    let l = c.loop-i in
    let os = take a.sky.count a.sky.observation in
    let at = round_at a.settings a.k os in
    let n = 3 + a.k.count in
    let whole = fit_at a.settings a.k os a.state.now in
    let p = err_from_is_err_and c.from_residual.result c.from_residual.ensures.1 in
    let q = round-refused a.settings a.k os l.state (sym c.in_err-rows_at.was ∙ c.rows_at.ensures.rowed.answer) in
    rw (p.1, p.2) (record { fitted = fitted-refused _ _ _ (left-stopped at n fix_stop a.settings.rounds whole l.i l.state c.loop-i-test.true _ q _ refl l.invariant.4); sigma_kept = c.rows_at.ensures.sigma_kept ∙ l.invariant.7 })

pub returns-in_err-dx : goal.returns-in_err-dx
returns-in_err-dx c =
    let a = c.args in
    let l = c.loop-i in
    let os = take a.sky.count a.sky.observation in
    let at = round_at a.settings a.k os in
    let n = 3 + a.k.count in
    let whole = fit_at a.settings a.k os a.state.now in
    let rowed = c.rows_at.ensures.rowed.rows c.in_ok-rows_at.was in
    let kept = c.rows_at.ensures.sigma_kept ∙ l.invariant.7 in
    let rows = held a.settings a.k a.sky.count a.sky.observation l.state c.rows_at.new.rows (omega arith) (omega arith) rowed (ap (take a.sky.count) kept ∙ c.requires.sigmas_of) in
    let seen = sym c.in_ok-rows_at.was ∙ c.rows_at.ensures.rowed.answer in
    let g = c.round_step in
    let q = solving a.settings a.k os l.state _ (ap rows_in c.first.ensures ∙ rows) seen _ l.invariant.1 g.ensures in
    let p = err_from_is_err_and c.from_residual-in_err-dx.result c.from_residual-in_err-dx.ensures.1 in
    rw (p.1, p.2) (record { fitted = fitted-refused _ _ _ (left-stopped at n fix_stop a.settings.rounds whole l.i l.state c.loop-i-test.true g.result q _ c.in_err-dx.was l.invariant.4); sigma_kept = kept })

pub returns-then-is_short : goal.returns-then-is_short
returns-then-is_short c =
    let a = c.args in
    let l = c.loop-i in
    let os = take a.sky.count a.sky.observation in
    let at = round_at a.settings a.k os in
    let n = 3 + a.k.count in
    let whole = fit_at a.settings a.k os a.state.now in
    let rowed = c.rows_at.ensures.rowed.rows c.in_ok-rows_at.was in
    let kept = c.rows_at.ensures.sigma_kept ∙ l.invariant.7 in
    let rows = held a.settings a.k a.sky.count a.sky.observation l.state c.rows_at.new.rows (omega arith) (omega arith) rowed (ap (take a.sky.count) kept ∙ c.requires.sigmas_of) in
    let seen = sym c.in_ok-rows_at.was ∙ c.rows_at.ensures.rowed.answer in
    let g = c.round_step in
    let q = solving a.settings a.k os l.state _ (ap rows_in c.first.ensures ∙ rows) seen _ l.invariant.1 g.ensures in
    let m = c.move_by in
    let h = c.is_short in
    let u = h.ensures ∙ ap (λ z. short_step z c.in_ok-dx.dx) three-places in
    let old = rows_in (first_columns l.used l.rows) in
    record {
      sigma_kept = kept;
      fitted = fitted-ended _ _ _ (record {
        few = omega arith;
        room = omega (arith, rowed.long);
        state-is = left-stops at n fix_stop a.settings.rounds whole l.i l.state c.loop-i-test.true g.result q _ c.in_ok-dx.was m.result h.result m.ensures u c.if-is_short.true l.invariant.4;
        rows_are = rows-stop at n fix_stop a.settings.rounds whole l.i l.state c.loop-i-test.true g.result q _ c.in_ok-dx.was m.result h.result m.ensures u old _ (made-rows a.settings a.k os l.state _ rows) c.if-is_short.true l.invariant.5;
      });
    }

pub loop-i-preserved : goal.loop-i-preserved
loop-i-preserved c =
    let a = c.args in
    let l = c.loop-i in
    let os = take a.sky.count a.sky.observation in
    let at = round_at a.settings a.k os in
    let n = 3 + a.k.count in
    let whole = fit_at a.settings a.k os a.state.now in
    let rowed = c.rows_at.ensures.rowed.rows c.in_ok-rows_at.was in
    let kept = c.rows_at.ensures.sigma_kept ∙ l.invariant.7 in
    let rows = held a.settings a.k a.sky.count a.sky.observation l.state c.rows_at.new.rows (omega arith) (omega arith) rowed (ap (take a.sky.count) kept ∙ c.requires.sigmas_of) in
    let seen = sym c.in_ok-rows_at.was ∙ c.rows_at.ensures.rowed.answer in
    let g = c.round_step in
    let q = solving a.settings a.k os l.state _ (ap rows_in c.first.ensures ∙ rows) seen _ l.invariant.1 g.ensures in
    let m = c.move_by in
    let h = c.is_short in
    let u = h.ensures ∙ ap (λ z. short_step z c.in_ok-dx.dx) three-places in
    let old = rows_in (first_columns l.used l.rows) in (
      omega arith,
      l.invariant.1,
      omega arith,
      l.invariant.3,
      left-goes at n fix_stop a.settings.rounds whole l.i l.state c.loop-i-test.true g.result q _ c.in_ok-dx.was m.result h.result m.ensures u c.if-is_short.false l.invariant.4,
      rows-go at n fix_stop a.settings.rounds whole l.i l.state c.loop-i-test.true g.result q _ c.in_ok-dx.was m.result h.result m.ensures u old _ (made-rows a.settings a.k os l.state _ rows) c.if-is_short.false l.invariant.5,
      omega (arith, rowed.long),
      kept,
    )

pub returns : goal.returns
returns c =
    let a = c.args in
    let l = c.loop-i in
    let os = take a.sky.count a.sky.observation in
    let at = round_at a.settings a.k os in
    let n = 3 + a.k.count in
    let whole = fit_at a.settings a.k os a.state.now in
    let done : a.settings.rounds - l.i ≡ 0 = omega arith in
    record {
      sigma_kept = l.invariant.7;
      fitted = fitted-ended _ _ _ (record {
        few = l.invariant.2;
        room = l.invariant.6;
        state-is = left_end at n fix_stop a.settings.rounds whole l.i l.state done l.invariant.4;
        rows_are = rows_end at n fix_stop a.settings.rounds whole l.i l.state done _ l.invariant.5;
      });
    }
