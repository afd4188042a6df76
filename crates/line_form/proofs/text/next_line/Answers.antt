-- `line_form::text::next_line` meets its contract. Assumes nothing.
use native.Mathlib.Omega.{arith}
use native.Mathlib.Nat.{le_of_lt}
use Rattle.line_form.proofs.SplitLaws.{found-le, found_lt, found-length}
use Rattle.line_form.proofs.TextLaws.{next-cut, next-is}
use Rattle.line_form.proofs.text.next_line.Goals as goal

pub returns-then-e-n : goal.returns-then-e-n
returns-then-e-n c = let s = c in next-cut s.args.text.now s.args.at s.requires.0 _ c.find-e.ensures c.if-e-n.true

pub slice_bounds-line_of-end : goal.slice_bounds-line_of-end
slice_bounds-line_of-end c = omega (arith, found-le 10 c.args.text.now c.args.at _ (le_of_lt c.requires.0) c.find-e.ensures)

pub line_of-line-requires : goal.line_of-line-requires
line_of-line-requires c = let s = c in omega (arith, found-length 10 s.args.text.now s.args.at _ (le_of_lt s.requires.0) c.find-e.ensures, s.requires.1)

pub overflow_add-result : goal.overflow_add-result
overflow_add-result c = let s = c in omega (arith, found_lt 10 s.args.text.now s.args.at _ (le_of_lt s.requires.0) c.find-e.ensures c.if-e-n.false, s.requires.1)

pub returns : goal.returns
returns c = let s = c in
    let f = c.find-e.ensures in
    next-is s.args.text.now s.args.at s.requires.0 _ f (found_lt 10 s.args.text.now s.args.at _ (le_of_lt s.requires.0) f c.if-e-n.false) _ c.line_of-line.ensures
