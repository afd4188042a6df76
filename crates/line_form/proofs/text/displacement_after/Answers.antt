-- `line_form::text::displacement_after` meets its contract. Assumes nothing.
use native.Mathlib.Omega.{arith}
use mathlib.Core.Path.{refl, sym, ◌∙◌}
use borrow.Author.Rules.{rules}
use lib.Dec.{ltb}
use borrow.Author.Tests.{ltb-false}
use Rattle.lists.proofs.Walk.{or_no, length-mapped}
use Rattle.tdcp.proofs.DisplacementSound.{promised}
use Rattle.tdcp.proofs.RatedLaws.{plain-is, plain-map}
use Rattle.line_form.proofs.TextLaws.{going_start, going-broken, going-previous, going-current, lines-broken, lines-many, fits, fits', lines_are}
use Rattle.line_form.proofs.text.displacement_after.Goals as goal

pub loop-at-init : goal.loop-at-init
loop-at-init c = going_start c.args.text.now _ c.requires.0 (search length-mapped) (search length-mapped) (search length-mapped) (search length-mapped) (search length-mapped) (search length-mapped)

pub next_line-next-requires : goal.next_line-next-requires
next_line-next-requires c = (c.loop-at-test.true, c.requires.1)

pub keep-m-requires : goal.keep-m-requires
keep-m-requires c = let l = c in
    let i = l.loop-at.invariant in
    omega (arith, i.few, i.within, l.requires.1)

pub loop-at-smaller-in-Previous : goal.loop-at-smaller-in-Previous
loop-at-smaller-in-Previous c = let r = c in omega (arith, r.next_line-next.ensures.onward, r.next_line-next.ensures.within)

pub loop-at-preserved-in-Previous : goal.loop-at-preserved-in-Previous
loop-at-preserved-in-Previous c = let r = c in going-previous r.loop-at.invariant r.next_line-next.ensures _ c.in-Previous.is c.keep-m.ensures

pub keep-n-requires : goal.keep-n-requires
keep-n-requires c = let l = c in
    let i = l.loop-at.invariant in
    omega (arith, i.few', i.within, l.requires.1)

pub loop-at-smaller : goal.loop-at-smaller
loop-at-smaller c = let r = c in omega (arith, r.next_line-next.ensures.onward, r.next_line-next.ensures.within)

pub loop-at-preserved : goal.loop-at-preserved
loop-at-preserved c = let r = c in going-current r.loop-at.invariant r.next_line-next.ensures _ c.in-Current.is c.keep-n.ensures

pub returns-in-Broken : goal.returns-in-Broken
returns-in-Broken c = let r = c in let a = r.args in lines-broken a.text.now a.from a.dt a.receiver a.settings (going-broken r.loop-at.invariant r.next_line-next.ensures c.in-Broken.is)

pub returns-then-m-n : goal.returns-then-m-n
returns-then-m-n c = let a = c.args in lines-many a.text.now a.from a.dt a.receiver a.settings c.loop-at.invariant c.loop-at-test.false c.if-m-n.true

pub first-requires : goal.first-requires
first-requires c = let e = c in
    let l = e in
    let a = l.args in
    let i = l.loop-at.invariant in
    let h = or_no (ltb 64 l.loop-at.m) (ltb 64 l.loop-at.n) e.if-m-n.false in
    let few = ltb-false 64 l.loop-at.m h.0 in
    let few' = ltb-false 64 l.loop-at.n h.1 in
    record { few = few; fit = fits a.text.now a.from a.dt a.receiver a.settings i e.loop-at-test.false few few' }

pub first-requires-2 : goal.first-requires-2
first-requires-2 c = let e = c in
    let l = e in
    let a = l.args in
    let i = l.loop-at.invariant in
    let h = or_no (ltb 64 l.loop-at.m) (ltb 64 l.loop-at.n) e.if-m-n.false in
    let few = ltb-false 64 l.loop-at.m h.0 in
    let few' = ltb-false 64 l.loop-at.n h.1 in
    record { few = few'; fit = fits' a.text.now a.from a.dt a.receiver a.settings i e.loop-at-test.false few few' }

pub returns : goal.returns
returns c = let e = c in
    let l = e in
    let a = l.args in
    let i = l.loop-at.invariant in
    let h = or_no (ltb 64 l.loop-at.m) (ltb 64 l.loop-at.n) e.if-m-n.false in
    let few = ltb-false 64 l.loop-at.m h.0 in
    let few' = ltb-false 64 l.loop-at.n h.1 in
    lines_are a.text.now a.from a.dt a.receiver a.settings i e.loop-at-test.false few few' _ (promised _ _ (plain-map _ _ (λ d v q. search rules) c.map.ensures.cases ∙ plain-is _ (rw (c.first.ensures.signals, c.first.ensures.states, c.first.ensures.floats, c.first-2.ensures.signals, c.first-2.ensures.states, c.first-2.ensures.floats) at c.displaced.ensures).answer))
