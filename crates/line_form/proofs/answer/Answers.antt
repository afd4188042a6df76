-- `line_form::answer` meets its contract. Assumes nothing.
use mathlib.Core.Path.{◌≡◌, sym, ap, ◌∙◌}
use mathlib.Core.List.{List, ◌++◌}
use Prim.Native.Nat.{ℕ}
use lib.ListN.{length, take, drop}
use lib.Seq.{length-take-le, take-length}
use borrow.Author.Rules.{rules}
use Rattle.line_form.proofs.AnswerLaws.{answered-short, answered-whole}
use Rattle.line_form.proofs.answer.Goals as goal

pub print_to-n-requires : goal.print_to-n-requires
print_to-n-requires c = record { in_bounds = search rules; printable = c.displacement_in-d.ensures.printable }

pub returns-then-line-n : goal.returns-then-line-n
returns-then-line-n c = answered-short c.args.text.now c.args.line.now _ _ _ _ c.displacement_in-d.ensures c.print_to-n.ensures c.if-line-n.true

pub copy_from_slice-requires : goal.copy_from_slice-requires
copy_from_slice-requires c = length-take-le _ _ c.if-line-n.false ∙ sym (length-take-le _ _ (search rules))

pub returns : goal.returns
returns c =
    let n = c.print_to-n.result in
    let out = c.print_to-n.new.out in
    let e : length (take n out) ≡ n = length-take-le n out (search rules) in
    answered-whole c.args.text.now c.args.line.now _ _ _ _ c.displacement_in-d.ensures c.print_to-n.ensures _ _ c.if-line-n.false (sym e)
    (rw (take-length (take n out), e) (ap (λ (z : List ℕ). z ++ drop n c.args.line.now) c.copy_from_slice.ensures.after))
