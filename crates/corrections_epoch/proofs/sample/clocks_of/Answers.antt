-- `corrections_epoch::sample::clocks_of` meets its contract: its inner loop collects the patterns of a group. Assumes nothing.
use mathlib.Core.Path.{ap, ◌∙◌}
use native.Mathlib.Nat.{le_refl}
use native.Mathlib.Omega.{arith}
use lib.ListN.{get_or}
use lib.Seq.{take_all}
use Rattle.lists.proofs.Walk.{collecting-none, collecting-one, collecting-end}
use Rattle.corrections_epoch.specs.Steps.{clock_by}
use Rattle.corrections_epoch.proofs.RawLaws.{blank_raw}
use Rattle.corrections_epoch.proofs.SampleLaws.{clocks-more, pattern_in_lem, pattern_out, group-patterns}
use Rattle.corrections_epoch.proofs.sample.clocks_of.Goals as goal
use Rattle.corrections_epoch.proofs.sample.clocks_of.Goals.{then-r-c, else-r-c}

pub loop-r-preserved : goal.loop-r-preserved
loop-r-preserved c = let s = c in
    let h = c.loop-r in
    let test = c.loop-r-test.true in
    elim c.if-r-c.branch [
      | then-r-c w ↦ rw (w.values-is, w.k-is) (collecting-one _ _ _ _ (le_refl _) s.requires h.invariant blank_raw test _ (pattern_in_lem _ (get_or s.args.raws.now h.r-index blank_raw) w.if-r-c.true w.pattern.ensures))
      | else-r-c w ↦ rw (w.values-is, w.k-is) (collecting-none _ _ _ _ (le_refl _) s.requires h.invariant blank_raw test (pattern_out _ (get_or s.args.raws.now h.r-index blank_raw) w.if-r-c.false))
    ]

pub loop-c-preserved : goal.loop-c-preserved
loop-c-preserved c = let s = c in
    let h = c.loop-r in
    let e = collecting-end _ _ _ _ (le_refl _) s.requires h.invariant c.loop-r-test.false in
    (clocks-more _ _ _ _ c.loop-c-test.true (c.clock_of.ensures ∙ ap clock_by (e.all ∙ group-patterns _ _)) c.loop-c.invariant.0, h.invariant.long)

pub returns : goal.returns
returns c = rw (← take_all _ c.args.raws.now (le_refl _)) (λ j h. c.loop-c.invariant.0.so_far j (omega (arith, c.loop-c-test.false)))
