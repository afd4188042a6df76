-- `cholesky::factor::factor_used` meets its contract: before column j the rows are as `Columns` says and p is the pivot of row j. Assumes nothing.
use native.Mathlib.Omega.{arith}
use mathlib.Core.Bool.{false≢true}
use mathlib.Core.List.{List}
use mathlib.Core.Path.{◌≡◌, sym, ◌∙◌, subst}
use lib.Ieee.{Float}
use Prim.Native.Nat.{◌+◌}
use Rattle.exact.proofs.Products.{less_zero}
use Rattle.cholesky.specs.Factor.{factor_of, Refused, Lower}
use Rattle.cholesky.specs.Steps.{store, sum_of}
use Rattle.cholesky.proofs.FactorColumns.{Columns, columns-none, columns-stop}
use Rattle.cholesky.proofs.FactorUsed.{closing_end, closing-unused}
use Rattle.cholesky.proofs.ColumnLaws.{rooted, columns-next, pivot-after, closing-marked}
use Rattle.cholesky.proofs.factor.factor_used.Goals as goal

pub loop-j-init : goal.loop-j-init
loop-j-init c = let s = c in
    (omega arith, subst (λ (w : List (List Float)). Columns s.args.n 0 s.args.n s.args.a.now w) (sym s.requires.3) (columns-none s.args.n (omega arith) s.args.a.now), c.held-p.ensures.0 ∙ sym (less_zero _ _ _))

pub returns-then-m-n : goal.returns-then-m-n
returns-then-m-n c = let t = c in
    let h = t in
    let s = h in
    let n = s.args.n in
    let a = s.args.a.now in
    let j = h.loop-j.j in
    let d = t.sqrt_near-d.result in
    let l = store h.loop-j.l j j d in
    let e : j + 1 ≡ n = omega arith in
    let g = rooted a h.loop-j.l n j (omega arith) (omega arith) h.loop-j.invariant.1 h.loop-j.p h.loop-j.invariant.2 (sym t.is_pivot.ensures ∙ t.if-is_pivot.true) d t.sqrt_near-d.ensures in
    let k = closing-marked n l a (omega arith) (subst (λ z. Columns n z z a l) e g) in
    let f = h.held-p.ensures.1 in
    let z : factor_of a ≡ Lower _ = closing_end n a _ (omega arith) s.requires.2 f k in
    record {
      answer = rw z;
      rows_are = λ _. rw (z, c.mark.ensures);
      unused = λ _. rw c.mark.ensures (closing-unused n a _ (omega arith) s.requires.2 f k);
      unchanged = λ e. absurd (false≢true (sym e));
    }

pub returns-else-is_pivot : goal.returns-else-is_pivot
returns-else-is_pivot c = let b = c in
    let h = b in
    let s = h in
    let a = s.args.a.now in
    let z : factor_of a ≡ Refused = columns-stop a h.loop-j.l s.args.n h.loop-j.j (omega arith) (omega arith) h.loop-j.invariant.1 h.loop-j.p h.loop-j.invariant.2 (sym b.is_pivot.ensures ∙ b.if-is_pivot.false) in
    record { answer = rw z; rows_are = λ e. absurd (false≢true e); unused = λ e. absurd (false≢true e); unchanged = λ _. sym s.requires.3 }

pub loop-j-preserved : goal.loop-j-preserved
loop-j-preserved c = let x = c in
    let t = x in
    let h = t in
    let s = h in
    let n = s.args.n in
    let a = s.args.a.now in
    let w = h.loop-j.l in
    let j = h.loop-j.j in
    let d = t.sqrt_near-d.result in
    let u : x.ahead-w.result.sum ≡ sum_of j (j + 1) j a (store w j j d) = x.ahead-w.ensures.0 in
    let q : x.ahead-w.result.pivot ≡ sum_of j (j + 1) (j + 1) a (store w j j d) = x.ahead-w.ensures.1 in
    let ok = sym t.is_pivot.ensures ∙ t.if-is_pivot.true in
    let g = columns-next a w n j (omega arith) (omega arith) h.loop-j.invariant.1 h.loop-j.p h.loop-j.invariant.2 ok d t.sqrt_near-d.ensures (omega arith) x.ahead-w.result.sum u in
    let o = pivot-after a w n j (omega arith) (omega arith) h.loop-j.invariant.1 h.loop-j.p h.loop-j.invariant.2 ok d t.sqrt_near-d.ensures (omega arith) x.ahead-w.result.sum u x.ahead-w.result.pivot q in
    (omega arith, rw c.fill.ensures g, rw c.fill.ensures o)

pub returns : goal.returns
returns c = absurd (omega arith)
