use Rattle.track_pass.proofs.Links.{link-x-needs, link-y-needs, link-z-needs, links-more, links_end}
use Rattle.track_pass.proofs.Adding.{adding-none, adding-all}
use Rattle.track_pass.specs.Input.{measured_in}
use mathlib.Core.Path.{refl, ◌∙◌}
use native.Mathlib.Omega.{arith}
use Rattle.track_pass.proofs.system.add_links.Goals as goal

pub loop-j-init : goal.loop-j-init
loop-j-init c = adding-none _ _ _ _ (omega (arith, c.requires.scales)) c.requires.numbers

pub add_link-x-requires : goal.add_link-x-requires
add_link-x-requires c = let h = c.requires.lent.below _ c.loop-j-test.true in (omega (arith, c.requires.scales, h, c.loop-j.invariant.long), (link-x-needs _ _ _ (measured_in c.args.links) _ _ c.loop-j.invariant c.loop-j-test.true (omega (arith, h)) _ refl _ c.float-c.ensures).0, (link-x-needs _ _ _ (measured_in c.args.links) _ _ c.loop-j.invariant c.loop-j-test.true (omega (arith, h)) _ refl _ c.float-c.ensures).1)

pub add_link-y-requires : goal.add_link-y-requires
add_link-y-requires c = let h = c.requires.lent.below _ c.loop-j-test.true in
    (omega (arith, c.requires.scales, h, c.loop-j.invariant.long, c.add_link-x.auto.w), (link-y-needs _ _ _ (measured_in c.args.links) _ _ c.loop-j.invariant c.loop-j-test.true (omega (arith, h)) _ refl _ c.float-c.ensures _ _ c.add_link-x.ensures c.add_link-x.auto.w).0, (link-y-needs _ _ _ (measured_in c.args.links) _ _ c.loop-j.invariant c.loop-j-test.true (omega (arith, h)) _ refl _ c.float-c.ensures _ _ c.add_link-x.ensures c.add_link-x.auto.w).1)

pub add_link-z-requires : goal.add_link-z-requires
add_link-z-requires c = let h = c.requires.lent.below _ c.loop-j-test.true in (
  omega (arith, c.requires.scales, h, c.loop-j.invariant.long, c.add_link-x.auto.w, c.add_link-y.auto.w),
  (link-z-needs _ _ _ (measured_in c.args.links) _ _ c.loop-j.invariant c.loop-j-test.true (omega (arith, h)) _ refl _ c.float-c.ensures _ _ c.add_link-x.ensures c.add_link-x.auto.w _ _ c.add_link-y.ensures c.add_link-y.auto.w).0,
  (link-z-needs _ _ _ (measured_in c.args.links) _ _ c.loop-j.invariant c.loop-j-test.true (omega (arith, h)) _ refl _ c.float-c.ensures _ _ c.add_link-x.ensures c.add_link-x.auto.w _ _ c.add_link-y.ensures c.add_link-y.auto.w).1,
)

pub returns-then-not-x-y : goal.returns-then-not-x-y
returns-then-not-x-y c = let h = c.requires.lent.below _ c.loop-j-test.true in
    links_end _ _ _ (measured_in c.args.links) _ _ c.loop-j.invariant c.loop-j-test.true (omega (arith, h)) _ refl _ c.float-c.ensures _ _ c.add_link-x.ensures c.add_link-x.auto.w _ _ c.add_link-y.ensures c.add_link-y.auto.w
    _ _ c.add_link-z.ensures c.add_link-z.auto.w c.if-not-x-y.true

pub loop-j-preserved : goal.loop-j-preserved
loop-j-preserved c = let h = c.requires.lent.below _ c.loop-j-test.true in
    links-more _ _ _ (measured_in c.args.links) _ _ c.loop-j.invariant c.loop-j-test.true (omega (arith, h)) _ refl _ c.float-c.ensures _ _ c.add_link-x.ensures c.add_link-x.auto.w _ _ c.add_link-y.ensures c.add_link-y.auto.w
    _ _ c.add_link-z.ensures c.add_link-z.auto.w c.if-not-x-y.false

pub returns : goal.returns
returns c = adding-all _ _ _ _ _ _ c.loop-j-test.false c.loop-j.invariant
