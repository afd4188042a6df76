-- `corrections_epoch::raw::raws_of` meets its contract: the outer loop collects what each range gives, and the inner one looks for the first state that is its
-- satellite's. Assumes nothing.
use mathlib.Core.Path.{sym}
use mathlib.Core.List.{[]}
use native.Mathlib.Nat.{le_refl}
use native.Mathlib.Omega.{arith}
use lib.Seq.{take_all}
use Rattle.lists.proofs.Walk.{length-mapped, first-yes, first-no, first-end, collecting-start, collecting-none, collecting-one, collecting-end}
use Rattle.corrections_epoch.specs.Raw.{first_raw, raws_of}
use Rattle.corrections_epoch.proofs.RawLaws.{blank_range, blank_state, raw-tried, raw_not}
use Rattle.corrections_epoch.proofs.raw.raws_of.Goals as goal
use Rattle.corrections_epoch.proofs.raw.raws_of.Goals.{then-is_enabled+else-loop-s-test, then-is_enabled+then-loop-s-test+then-is_same, else-is_enabled}

pub loop-r-init : goal.loop-r-init
unfolding raws_of
loop-r-init c = rw c.no_raws-out.ensures (collecting-start _ _ _ _ _ (search length-mapped))

pub loop-s-preserved : goal.loop-s-preserved
unfolding first_raw
loop-s-preserved c = let h = c.loop-s in
    (first-no _ _ (le_refl _) h.s-index blank_state c.loop-s-test.true _ _ [] h.invariant.0 c.is_same.ensures c.if-is_same.false, h.invariant.1)

pub loop-r-preserved : goal.loop-r-preserved
unfolding first_raw
loop-r-preserved c = let s = c in
    let test = c.loop-r-test.true in
    let inv = c.loop-r.invariant in
    let on = c.is_enabled.ensures in
    elim c.if-is_enabled.branch [
      | then-is_enabled+else-loop-s-test w ↦
          rw (w.out-is, w.loop-s.invariant.1) (collecting-none _ _ _ _ (le_refl _) s.requires inv blank_range test (raw-tried _ _ _ _ _ on w.if-is_enabled.true (sym (first-end _ _ (le_refl _) _ _ _ w.loop-s.invariant.0 w.loop-s-test.false))))
      | then-is_enabled+then-loop-s-test+then-is_same w ↦
          rw (w.out-is, w.loop-s.invariant.1) (collecting-one _ _ _ _ (le_refl _) s.requires inv blank_range test _ (raw-tried _ _ _ _ _ on w.if-is_enabled.true (rw w.raw_value-value.ensures (sym (first-yes _ _ (le_refl _) _ blank_state w.loop-s-test.true _ _ [] w.loop-s.invariant.0 w.is_same.ensures w.if-is_same.true)))))
      | else-is_enabled w ↦ rw w.out-is (collecting-none _ _ _ _ (le_refl _) s.requires inv blank_range test (raw_not _ _ _ _ _ on w.if-is_enabled.false))
    ]

pub returns : goal.returns
returns c = let s = c in
    let e = collecting-end _ _ _ _ (le_refl _) s.requires c.loop-r.invariant c.loop-r-test.false in
    rw (← take_all _ s.args.states.now (le_refl _), ← take_all _ s.args.ranges.now (le_refl _)) (record { room = omega (arith, e.few); count = e.count; all = e.all })
