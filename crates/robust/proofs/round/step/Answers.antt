-- `robust::round::step` meets its contract. Assumes nothing.
use Rattle.std.specs.Prelude.{Result}
use Rattle.numeric.specs.declared.refusal.Refusal.{Refusal}
use Prim.Native.Nat.{ℕ, ◌≤◌}
use mathlib.Core.Path.{◌≡◌, refl, sym, ap, ◌∙◌, subst}
use mathlib.Core.Bool.{true, false}
use mathlib.Core.List.{List, map-id}
use lib.ListN.{length, take, drop}
use lib.Ieee.{Float}
use borrow.Author.Tests.{le-leb, lt-leb}
use Rattle.lists.specs.Walk.{every}
use Rattle.lists.proofs.Walk.{length-mapped, every-end, every-yes, every-no}
use Rattle.robust.specs.Round.{round_of}
use Rattle.robust.specs.Steps.{stepping_of}
use Rattle.normal_equations.specs.Steps.{columns, rows_in}
use Rattle.robust.specs.Step.{counted_rows, indexed}
use Rattle.normal_equations.specs.declared.row.Row.{Row}
use Rattle.normal_equations.specs.declared.row.Rows.{Rows}
use Rattle.normal_equations.proofs.Sums.{blank}
use Rattle.normal_equations.proofs.ColumnLaws.{Column, column-next, rows_are}
use Rattle.robust.proofs.StepLaws.{step-many, step-wide, step-index, step-done, step-refused, step-kept, step-written}
use native.Mathlib.Omega.{arith}
use Rattle.std.proofs.lemmas.Result.{err_from_is_err_and}
use Rattle.robust.proofs.round.step.Goals as goal

-- after the loop, every row passed and the columns hold the counted rows
module _ (rows : Rows) (long : length rows.row ≡ 64) (k : ℕ) (last : k ≡ rows.count) (few : k ≤ 64) where
  all : every indexed (drop k (counted_rows rows)) ≡ every indexed (counted_rows rows) → true ≡ every indexed (counted_rows rows)
  all h = every-end rows.row rows.count (omega arith) k indexed h (omega arith)

  module _ (x y z : List Float) (clock : List ℕ) (sigma : List Float) (residual : List ℕ) (xs : Column (λ (r : Row). r.unit.x) rows.row k x) (ys : Column (λ (r : Row). r.unit.y) rows.row k y) (zs : Column (λ (r : Row). r.unit.z) rows.row k z) (clocks : Column (λ (r : Row). r.clock) rows.row k clock) (sigmas : Column (λ (r : Row). r.sigma) rows.row k sigma) (residuals : Column (λ (r : Row). r.residual) rows.row k residual) where
    held : rows_in (columns x y z clock sigma (take rows.count residual)) ≡ counted_rows rows
    held =
        let e = rows_are (λ (r : Row). r) rows.row blank k (omega arith) (omega arith) x y z clock sigma residual xs.so_far ys.so_far zs.so_far clocks.so_far sigmas.so_far residuals in
        subst (λ (n : ℕ). rows_in (columns x y z clock sigma (take n residual)) ≡ take n rows.row) last (e ∙ map-id _)

    round : (n : ℕ) (huber : Float) {a : Result (List Float) Refusal} → a ≡ stepping_of (round_of (rows_in (columns x y z clock sigma (take rows.count residual))) n huber) → a ≡ stepping_of (round_of (counted_rows rows) n huber)
    round n huber {a} = subst (λ (l : List Row). a ≡ stepping_of (round_of l n huber)) held

pub returns-then-rows-gt64 : goal.returns-then-rows-gt64
returns-then-rows-gt64 c = let s = c in step-kept _ (step-many s.args.rows s.args.n s.args.huber (omega arith))

pub returns-then-n-gt9 : goal.returns-then-n-gt9
returns-then-n-gt9 c = let s = c in step-kept _ (step-wide s.args.rows s.args.n s.args.huber (omega arith) (omega arith))

pub returns-then-r-gt8 : goal.returns-then-r-gt8
unfolding indexed
returns-then-r-gt8 c = let s = c in let long : length c.args.rows.row ≡ 64 = search length-mapped in let h = c.loop-k in let e = every-no s.args.rows.row s.args.rows.count (omega (arith, long)) h.k blank (omega arith) indexed h.invariant.1 (sym (lt-leb _ 8 c.if-r-gt8.true)) refl in step-kept _ (step-index s.args.rows s.args.n s.args.huber (omega arith) (omega arith) false e refl)

pub loop-k-preserved : goal.loop-k-preserved
unfolding indexed
loop-k-preserved c = let s = c in let long : length c.args.rows.row ≡ 64 = search length-mapped in let h = c.loop-k in (omega arith, every-yes s.args.rows.row s.args.rows.count (omega (arith, long)) h.k blank (omega arith) indexed h.invariant.1 (sym (le-leb _ 8 c.if-r-gt8.false)) refl, column-next (λ (r : Row). r.unit.x) s.args.rows.row h.k h.table.x blank _ (omega arith) (omega (arith, long)) refl h.invariant.2, column-next (λ (r : Row). r.unit.y) s.args.rows.row h.k h.table.y blank _ (omega arith) (omega (arith, long)) refl h.invariant.3, column-next (λ (r : Row). r.unit.z) s.args.rows.row h.k h.table.z blank _ (omega arith) (omega (arith, long)) refl h.invariant.4, column-next (λ (r : Row). r.clock) s.args.rows.row h.k h.table.clock blank _ (omega arith) (omega (arith, long)) refl h.invariant.5, column-next (λ (r : Row). r.sigma) s.args.rows.row h.k h.table.sigma blank _ (omega arith) (omega (arith, long)) refl h.invariant.6, column-next (λ (r : Row). r.residual) s.args.rows.row h.k h.table.residual blank _ (omega arith) (omega (arith, long)) refl h.invariant.7)

pub returns-in_err-t : goal.returns-in_err-t
returns-in_err-t c = let s = c.args in
    let h = c.loop-k in
    let i = h.invariant in
    let long : length c.args.rows.row ≡ 64 = search length-mapped in
    let r = c.round_step in
    let p = err_from_is_err_and c.from_residual.result c.from_residual.ensures.1 in
    rw (p.1, p.2) (step-kept _ (step-refused s.rows s.n s.huber (omega arith) (omega arith) true (all s.rows long h.k (omega arith) (omega arith) i.1) refl r.result (round s.rows long h.k (omega arith) (omega arith) _ _ _ _ _ _ i.2 i.3 i.4 i.5 i.6 i.7 s.n s.huber (r.ensures ∙ ap (λ z. stepping_of (round_of (rows_in z) s.n s.huber)) c.first.ensures)) _ c.in_err-t.was))

pub returns : goal.returns
returns c = let s = c.args in
    let h = c.loop-k in
    let i = h.invariant in
    let long : length c.args.rows.row ≡ 64 = search length-mapped in
    let r = c.round_step in
    step-written _ (step-done s.rows s.n s.huber (omega arith) (omega arith) true (all s.rows long h.k (omega arith) (omega arith) i.1) refl r.result (round s.rows long h.k (omega arith) (omega arith) _ _ _ _ _ _ i.2 i.3 i.4 i.5 i.6 i.7 s.n s.huber (r.ensures ∙ ap (λ z. stepping_of (round_of (rows_in z) s.n s.huber)) c.first.ensures)) _ _ c.in_ok-t.was c.first_of.ensures)
