use mathlib.Core.Path.{refl}
use mathlib.Core.Bool.{false}
use native.Mathlib.Omega.{arith}
use Rattle.track_pass.specs.Input.{track_in}
use Rattle.track_pass.proofs.Passing.{cleared-all, anchors_fail, links_fail, pass-done}
use Rattle.track_pass.proofs.Publishing.{pass-fails, pass-cells, pass_publishes}
use Rattle.track_pass.proofs.pass.pass.Goals as goal

abbrev pub fill-requires : goal.fill-requires
fill-requires c = (omega arith, omega (arith, c.requires.work))

pub add_anchors-requires : goal.add_anchors-requires
add_anchors-requires c = let s = c in
    let f = c.fill in (
      s.requires.valid.some,
      record {
        lent = s.requires.valid.anchors;
        scales = omega (arith, s.requires.work, f.auto.w);
        numbers = cleared-all (track_in s.args.track) _ _ f.ensures;
      },
    )

pub returns-then-not-add_anchors : goal.returns-then-not-add_anchors
returns-then-not-add_anchors c = let s = c in
    pass-fails (track_in s.args.track) _ _ false (anchors_fail (track_in s.args.track) _ _ c.fill.ensures _ _ c.add_anchors.ensures c.if-not-add_anchors.true) _ refl

pub returns-then-not-add_links : goal.returns-then-not-add_links
returns-then-not-add_links c = let s = c in
    pass-fails (track_in s.args.track) _ _ false
    (links_fail (track_in s.args.track) _ _ c.fill.ensures _ _ c.add_anchors.ensures c.if-not-add_anchors.false _ _ c.add_links.ensures
    c.if-not-add_links.true) _ refl

pub returns-then-not-solve : goal.returns-then-not-solve
returns-then-not-solve c = let s = c in
    pass-fails (track_in s.args.track) _ _ _
    (pass-done (track_in s.args.track) _ _ c.fill.ensures _ _ c.add_anchors.ensures c.if-not-add_anchors.false _ _ c.add_links.ensures
    c.if-not-add_links.false s.requires.valid.epochs _ _ c.solve.ensures) _ c.if-not-solve.true

pub publish-requires : goal.publish-requires
publish-requires c = let s = c in
    let f = c.fill in
    let a = c.add_anchors in
    let l = c.add_links in
    let e = c.solve in
    record {
      rows = omega (arith, s.requires.work, f.auto.w, a.auto.w, l.auto.w, e.auto.w);
      room = s.requires.result;
      cells = pass-cells (track_in s.args.track) _ _ _
          (pass-done (track_in s.args.track) _ _ f.ensures _ _ a.ensures c.if-not-add_anchors.false _ _ l.ensures c.if-not-add_links.false s.requires.valid.epochs _ _ e.ensures)
          c.if-not-solve.false;
      on-x = rw c.vector_at-origin.ensures (s.requires.valid.origin 0 (omega arith));
      on-y = rw c.vector_at-origin.ensures (s.requires.valid.origin 1 (omega arith));
      on-z = rw c.vector_at-origin.ensures (s.requires.valid.origin 2 (omega arith));
    }

pub returns : goal.returns
returns c = let s = c in
    pass_publishes (track_in s.args.track) _ _ _
    (pass-done (track_in s.args.track) _ _ c.fill.ensures _ _ c.add_anchors.ensures c.if-not-add_anchors.false _ _ c.add_links.ensures
    c.if-not-add_links.false s.requires.valid.epochs _ _ c.solve.ensures)
    c.if-not-solve.false _ _ (rw c.vector_at-origin.ensures at c.publish.ensures)
