-- `order::before` meets its contract: each pair of signs. Assumes nothing.
use mathlib.Core.Path.{sym, ◌∙◌}
use Rattle.numeric.proofs.OrderCases.{both-minus, minus_plus, plus-minus, both-plus}
use Rattle.numeric.proofs.order.before.Goals as goal

pub returns-in-Minus-t : goal.returns-in-Minus-t
returns-in-Minus-t c = let m = c in
    let s = m in
    c.unsigned_before.ensures
    ∙ both-minus s.args.a s.args.b (sym m.in-Minus.is ∙ s.sign_of-s.ensures) (sym c.in-Minus-t.is ∙ s.sign_of-t.ensures)

pub returns-in-Plus-t : goal.returns-in-Plus-t
returns-in-Plus-t c = let m = c in
    let s = m in
    minus_plus s.args.a s.args.b (sym m.in-Minus.is ∙ s.sign_of-s.ensures) (sym c.in-Plus-t.is ∙ s.sign_of-t.ensures)

pub returns-in-Minus-t-2 : goal.returns-in-Minus-t-2
returns-in-Minus-t-2 c = let m = c in
    let s = m in
    plus-minus s.args.a s.args.b (sym m.in-Plus.is ∙ s.sign_of-s.ensures) (sym c.in-Minus-t-2.is ∙ s.sign_of-t.ensures)

pub returns-in-Plus-t-2 : goal.returns-in-Plus-t-2
returns-in-Plus-t-2 c = let m = c in
    let s = m in
    c.unsigned_before-in-Plus-t-2.ensures
    ∙ both-plus s.args.a s.args.b (sym m.in-Plus.is ∙ s.sign_of-s.ensures) (sym c.in-Plus-t-2.is ∙ s.sign_of-t.ensures)
