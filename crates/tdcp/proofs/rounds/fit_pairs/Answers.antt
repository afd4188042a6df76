-- `tdcp::rounds::fit_pairs` meets its contract. Assumes nothing.
use Prim.Native.Nat.{◌+◌}
use mathlib.Core.Path.{refl, sym, ap, ◌∙◌}
use lib.ListN.{length}
use Rattle.std.proofs.lemmas.Result.{err_from_is_err_and}
use lib.Seq.{length-take-le}
use Rattle.estimate_rounds.specs.Rounds.{short_step}
use Rattle.records.specs.Steps.{pairs_in}
use Rattle.tdcp.specs.Displacement.{round_at, stop_limit, fit_over}
use Rattle.estimate_rounds.proofs.RoundsLaws.{five-places, left_end, left-stopped, left-stops, left-goes, ended-stopped, ended-reached}
use Rattle.tdcp.proofs.DisplacementLaws.{going, solving, rows_in_lem}
use native.Mathlib.Omega.{arith}
use Rattle.tdcp.proofs.rounds.fit_pairs.Goals as goal

pub loop-i-init : goal.loop-i-init
loop-i-init c = let s = c in (omega arith, refl, refl, λ constellation elevation clocks sigmas. going s.args.settings s.args.k (pairs_in s.args.x.now s.args.y.now s.args.z.now constellation elevation s.args.observed.now))

pub residuals_at-requires : goal.residuals_at-requires
residuals_at-requires c = (c.requires.0, c.loop-i.invariant.2)

pub slice_bounds-residual-end : goal.slice_bounds-residual-end
slice_bounds-residual-end c = let t = c in omega (arith, t.residuals_at.ensures.long, t.requires.0)

pub slice_bounds-rows-end : goal.slice_bounds-rows-end
slice_bounds-rows-end c = let t = c in sym (length-take-le _ _ (omega (arith, t.residuals_at.ensures.long, t.requires.0)))

pub round_step-requires : goal.round_step-requires
round_step-requires c = omega (arith, c.requires.1)

pub returns-in_err-dx : goal.returns-in_err-dx
returns-in_err-dx c = let t = c in
    let s = t.args in
    let l = t.loop-i in
    let g = c.round_step in
    let p = err_from_is_err_and c.from_residual.result c.from_residual.ensures.1 in
    record {
      ends = λ constellation elevation clocks sigmas.
          let ps = pairs_in s.x.now s.y.now s.z.now constellation elevation s.observed.now in
          let q = solving s.settings s.k ps l.at _ _ (rows_in_lem s.settings s.k s.x.now s.y.now s.z.now constellation elevation s.observed.now t.requires.0 l.at clocks sigmas t.residuals_at.ensures) refl g.ensures in
          rw (p.1, p.2) (ended-stopped _ _ _ l.invariant.1 (left-stopped (round_at s.settings s.k ps) (3 + s.k.count) stop_limit s.settings.rounds (fit_over s.settings s.k ps) l.i l.at t.loop-i-test.true g.result q _ c.in_err-dx.was (l.invariant.3 constellation elevation clocks sigmas)));
    }

pub move_by-next-requires : goal.move_by-next-requires
move_by-next-requires c = omega (arith, c.requires.1)

pub returns-then-is_short : goal.returns-then-is_short
returns-then-is_short c = let t = c in
    let s = t.args in
    let l = t.loop-i in
    let g = c.round_step in
    let m = c.move_by-next in
    let h = c.is_short in
    let u = h.ensures ∙ ap (λ z. short_step z c.in_ok-dx.dx) five-places in
    let v = c.in_ok-dx.was in
    record {
      ends = λ constellation elevation clocks sigmas.
          let ps = pairs_in s.x.now s.y.now s.z.now constellation elevation s.observed.now in
          let q = solving s.settings s.k ps l.at _ _ (rows_in_lem s.settings s.k s.x.now s.y.now s.z.now constellation elevation s.observed.now t.requires.0 l.at clocks sigmas t.residuals_at.ensures) refl g.ensures in
          ended-reached _ _ _ (left-stops (round_at s.settings s.k ps) (3 + s.k.count) stop_limit s.settings.rounds (fit_over s.settings s.k ps) l.i l.at t.loop-i-test.true g.result q _ v m.result h.result m.ensures u c.if-is_short.true (l.invariant.3 constellation elevation clocks sigmas));
    }

pub loop-i-preserved : goal.loop-i-preserved
loop-i-preserved c = let t = c in
    let s = t.args in
    let l = t.loop-i in
    let g = c.round_step in
    let m = c.move_by-next in
    let h = c.is_short in
    let u = h.ensures ∙ ap (λ z. short_step z c.in_ok-dx.dx) five-places in
    let v = c.in_ok-dx.was in (
      omega (arith, t.loop-i-test.true),
      l.invariant.1,
      t.residuals_at.ensures.long,
      λ constellation elevation clocks sigmas.
          let ps = pairs_in s.x.now s.y.now s.z.now constellation elevation s.observed.now in
          let q = solving s.settings s.k ps l.at _ _ (rows_in_lem s.settings s.k s.x.now s.y.now s.z.now constellation elevation s.observed.now t.requires.0 l.at clocks sigmas t.residuals_at.ensures) refl g.ensures in
          left-goes (round_at s.settings s.k ps) (3 + s.k.count) stop_limit s.settings.rounds (fit_over s.settings s.k ps) l.i l.at t.loop-i-test.true g.result q _ v m.result h.result m.ensures u c.if-is_short.false (l.invariant.3 constellation elevation clocks sigmas),
    )

pub returns : goal.returns
returns c = let s = c.args in
    let l = c.loop-i in
    record {
      ends = λ constellation elevation clocks sigmas.
          let ps = pairs_in s.x.now s.y.now s.z.now constellation elevation s.observed.now in
          ended-reached _ _ _ (left_end (round_at s.settings s.k ps) (3 + s.k.count) stop_limit s.settings.rounds (fit_over s.settings s.k ps) l.i l.at (omega arith) (l.invariant.3 constellation elevation clocks sigmas));
    }
