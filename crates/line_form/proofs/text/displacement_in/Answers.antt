-- `line_form::text::displacement_in` meets its contract. Assumes nothing.
use native.Mathlib.Omega.{arith}
use mathlib.Core.Path.{sym}
use native.Mathlib.Nat.{le_of_lt}
use lib.Seq.{length-take-le}
use Rattle.line_form.proofs.SplitLaws.{found_lt}
use Rattle.line_form.proofs.TextLaws.{refused, text-long, text-one, text-first, text-is}
use Rattle.line_form.proofs.text.displacement_in.Goals as goal

pub returns-then-n-gt32768 : goal.returns-then-n-gt32768
returns-then-n-gt32768 c = let t = c.args.text.now in refused t (text-long t c.if-n-gt32768.true)

pub returns-then-end-n : goal.returns-then-end-n
returns-then-end-n c = let t = c.args.text.now in refused t (text-one t c.if-n-gt32768.false _ c.find-end.ensures c.if-end-n.true)

pub slice_bounds-first_of-end : goal.slice_bounds-first_of-end
slice_bounds-first_of-end c = let t = c.args.text.now in sym (length-take-le _ t (le_of_lt (found_lt 10 t 0 _ (omega arith) c.find-end.ensures c.if-end-n.false)))

pub first_of-requires : goal.first_of-requires
first_of-requires c = let t = c.args.text.now in omega (arith, length-take-le _ t (le_of_lt (found_lt 10 t 0 _ (omega arith) c.find-end.ensures c.if-end-n.false)), (found_lt 10 t 0 _ (omega arith) c.find-end.ensures c.if-end-n.false), c.if-n-gt32768.false)

pub returns-in_default : goal.returns-in_default
returns-in_default c = let t = c.args.text.now in refused t (text-first t c.if-n-gt32768.false _ c.find-end.ensures (found_lt 10 t 0 _ (omega arith) c.find-end.ensures c.if-end-n.false) _ c.first_of.ensures c.in_default.is)

pub overflow_add-end : goal.overflow_add-end
overflow_add-end c = let t = c.args.text.now in omega (arith, (found_lt 10 t 0 _ (omega arith) c.find-end.ensures c.if-end-n.false), c.if-n-gt32768.false)

pub displacement_after-requires : goal.displacement_after-requires
displacement_after-requires c = let t = c.args.text.now in (omega (arith, (found_lt 10 t 0 _ (omega arith) c.find-end.ensures c.if-end-n.false)), c.if-n-gt32768.false)

pub returns : goal.returns
returns c = let t = c.args.text.now in text-is t c.if-n-gt32768.false _ c.find-end.ensures (found_lt 10 t 0 _ (omega arith) c.find-end.ensures c.if-end-n.false) _ c.first_of.ensures _ c.in-Some.is _ c.displacement_after.ensures
