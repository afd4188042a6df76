-- `corrections_directory::element::F64Element::all_in_reach` meets its contract. Assumes nothing.
use mathlib.Core.Path.{refl}
use native.Mathlib.Omega.{arith}
use Rattle.corrections_directory.proofs.ColumnLaws.{readings-length}
use Rattle.corrections_directory.proofs.SoundLaws.{reach-on, reach-end}
use Rattle.corrections_directory.proofs.element.F64Element.all_in_reach.Goals as goal

pub loop-i-init : goal.loop-i-init
loop-i-init c = (omega arith, refl)

pub offset_bounds-times-i : goal.offset_bounds-times-i
offset_bounds-times-i c = let s = c in omega (arith, s.requires, readings-length s.args.times.now s.args.metres.now)

pub bounds-times-i : goal.bounds-times-i
bounds-times-i c = let s = c in omega (arith, s.requires, readings-length s.args.times.now s.args.metres.now)

pub offset_bounds-metres-i : goal.offset_bounds-metres-i
offset_bounds-metres-i c = let s = c in omega (arith, s.requires, readings-length s.args.times.now s.args.metres.now)

pub bounds-metres-i : goal.bounds-metres-i
bounds-metres-i c = let s = c in omega (arith, s.requires, readings-length s.args.times.now s.args.metres.now)

pub loop-i-preserved : goal.loop-i-preserved
loop-i-preserved c = let s = c in
    let h = c.loop-i in
    (omega arith, reach-on s.args.times.now s.args.metres.now s.args.count s.requires h.i h.all h.invariant.1 c.loop-i-test.true c.in_range.result c.in_range-in-loop-i.result c.in_range.ensures c.in_range-in-loop-i.ensures)

pub returns : goal.returns
returns c = let s = c in
    let h = c.loop-i in
    record { reach = reach-end s.args.times.now s.args.metres.now s.args.count s.requires h.i h.all h.invariant.1 c.loop-i-test.false; numbers = λ t j d l. refl }
