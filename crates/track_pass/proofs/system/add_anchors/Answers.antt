use Rattle.track_pass.proofs.Anchors.{anchor_x-needs, anchor_y-needs, anchor_z-needs, anchors-more, anchors-end}
use Rattle.track_pass.proofs.Adding.{adding-none, adding-all}
use Rattle.track_pass.specs.Input.{measured_in}
use mathlib.Core.Path.{refl, ◌∙◌}
use native.Mathlib.Omega.{arith}
use Rattle.track_pass.proofs.system.add_anchors.Goals as goal

pub loop-j-init : goal.loop-j-init
loop-j-init c = adding-none _ _ _ _ (omega (arith, c.requires.1.scales)) c.requires.1.numbers

pub add_anchor-x-requires : goal.add_anchor-x-requires
add_anchor-x-requires c = let h = c.requires.1.lent.below _ c.loop-j-test.true in (omega (arith, c.requires.1.scales, h, c.loop-j.invariant.long), anchor_x-needs _ _ (measured_in c.args.anchors) _ _ c.loop-j.invariant c.loop-j-test.true h _ refl _ c.float-c.ensures)

pub add_anchor-y-requires : goal.add_anchor-y-requires
add_anchor-y-requires c = let h = c.requires.1.lent.below _ c.loop-j-test.true in
    (omega (arith, c.requires.1.scales, h, c.loop-j.invariant.long, c.add_anchor-x.auto.w), anchor_y-needs _ _ (measured_in c.args.anchors) _ _ c.loop-j.invariant c.loop-j-test.true h _ refl _ c.float-c.ensures _ _ c.add_anchor-x.ensures c.add_anchor-x.auto.w)

pub add_anchor-z-requires : goal.add_anchor-z-requires
add_anchor-z-requires c = let h = c.requires.1.lent.below _ c.loop-j-test.true in (
  omega (arith, c.requires.1.scales, h, c.loop-j.invariant.long, c.add_anchor-x.auto.w, c.add_anchor-y.auto.w),
  anchor_z-needs _ _ (measured_in c.args.anchors) _ _ c.loop-j.invariant c.loop-j-test.true h _ refl _ c.float-c.ensures _ _ c.add_anchor-x.ensures c.add_anchor-x.auto.w _ _ c.add_anchor-y.ensures c.add_anchor-y.auto.w,
)

pub returns-then-not-x-y : goal.returns-then-not-x-y
returns-then-not-x-y c = let h = c.requires.1.lent.below _ c.loop-j-test.true in
    anchors-end _ _ (measured_in c.args.anchors) _ _ c.loop-j.invariant c.loop-j-test.true h _ refl _ c.float-c.ensures _ _ c.add_anchor-x.ensures c.add_anchor-x.auto.w _ _ c.add_anchor-y.ensures c.add_anchor-y.auto.w
    _ _ c.add_anchor-z.ensures c.add_anchor-z.auto.w c.if-not-x-y.true

pub loop-j-preserved : goal.loop-j-preserved
loop-j-preserved c = let h = c.requires.1.lent.below _ c.loop-j-test.true in
    anchors-more _ _ (measured_in c.args.anchors) _ _ c.loop-j.invariant c.loop-j-test.true h _ refl _ c.float-c.ensures _ _ c.add_anchor-x.ensures c.add_anchor-x.auto.w _ _ c.add_anchor-y.ensures c.add_anchor-y.auto.w
    _ _ c.add_anchor-z.ensures c.add_anchor-z.auto.w c.if-not-x-y.false

pub returns : goal.returns
returns c = adding-all _ _ _ _ _ _ c.loop-j-test.false c.loop-j.invariant
