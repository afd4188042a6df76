-- `wls_columns::bits::factor_patterns` meets its contract. Assumes nothing.
use native.Mathlib.Omega.{arith}
use mathlib.Core.Path.{refl, sym, ◌∙◌}
use Rattle.cholesky.specs.Factor.{factor_of}
use Rattle.cholesky.proofs.Answers.{done, refused}
use Rattle.cholesky.proofs.SolveUsed.{all-used}
use Rattle.wls_columns.proofs.BitLaws.{factored, factor-all-finite, patterns-done, patterns-refused}
use Rattle.wls_columns.proofs.bits.factor_patterns.Goals as goal

pub factor_used-requires : goal.factor_used-requires
factor_used-requires c = (omega arith, omega arith, all-used _, refl)

pub row_bits-requires : goal.row_bits-requires
row_bits-requires c = let t = c in
    let f = t.factor_used.ensures in
    (omega arith, factor-all-finite _ _ (factored _ _ _ (sym t.if-factor_used.true ∙ f.answer) (f.rows_are t.if-factor_used.true)))

pub row_bits-requires-then-factor_used : goal.row_bits-requires-then-factor_used
row_bits-requires-then-factor_used c = let t = c in
    let f = t.factor_used.ensures in
    (omega arith, factor-all-finite _ _ (factored _ _ _ (sym t.if-factor_used.true ∙ f.answer) (f.rows_are t.if-factor_used.true)))

pub row_bits-requires-then-factor_used-2 : goal.row_bits-requires-then-factor_used-2
row_bits-requires-then-factor_used-2 c = let t = c in
    let f = t.factor_used.ensures in
    (omega arith, factor-all-finite _ _ (factored _ _ _ (sym t.if-factor_used.true ∙ f.answer) (f.rows_are t.if-factor_used.true)))

pub row_bits-requires-then-factor_used-3 : goal.row_bits-requires-then-factor_used-3
row_bits-requires-then-factor_used-3 c = let t = c in
    let f = t.factor_used.ensures in
    (omega arith, factor-all-finite _ _ (factored _ _ _ (sym t.if-factor_used.true ∙ f.answer) (f.rows_are t.if-factor_used.true)))

pub row_bits-requires-then-factor_used-4 : goal.row_bits-requires-then-factor_used-4
row_bits-requires-then-factor_used-4 c = let t = c in
    let f = t.factor_used.ensures in
    (omega arith, factor-all-finite _ _ (factored _ _ _ (sym t.if-factor_used.true ∙ f.answer) (f.rows_are t.if-factor_used.true)))

pub row_bits-requires-then-factor_used-5 : goal.row_bits-requires-then-factor_used-5
row_bits-requires-then-factor_used-5 c = let t = c in
    let f = t.factor_used.ensures in
    (omega arith, factor-all-finite _ _ (factored _ _ _ (sym t.if-factor_used.true ∙ f.answer) (f.rows_are t.if-factor_used.true)))

pub row_bits-requires-then-factor_used-6 : goal.row_bits-requires-then-factor_used-6
row_bits-requires-then-factor_used-6 c = let t = c in
    let f = t.factor_used.ensures in
    (omega arith, factor-all-finite _ _ (factored _ _ _ (sym t.if-factor_used.true ∙ f.answer) (f.rows_are t.if-factor_used.true)))

pub row_bits-requires-then-factor_used-7 : goal.row_bits-requires-then-factor_used-7
row_bits-requires-then-factor_used-7 c = let t = c in
    let f = t.factor_used.ensures in
    (omega arith, factor-all-finite _ _ (factored _ _ _ (sym t.if-factor_used.true ∙ f.answer) (f.rows_are t.if-factor_used.true)))

pub row_bits-requires-then-factor_used-8 : goal.row_bits-requires-then-factor_used-8
row_bits-requires-then-factor_used-8 c = let t = c in
    let f = t.factor_used.ensures in
    (omega arith, factor-all-finite _ _ (factored _ _ _ (sym t.if-factor_used.true ∙ f.answer) (f.rows_are t.if-factor_used.true)))

pub returns-then-factor_used : goal.returns-then-factor_used
returns-then-factor_used c = let t = c in
    let f = t.factor_used.ensures in
    let yes = sym t.if-factor_used.true ∙ f.answer in
    let m = f.rows_are t.if-factor_used.true in
    (done (factor_of _) yes, patterns-done _ _ _ yes m c.row_bits.ensures c.row_bits-then-factor_used.ensures c.row_bits-then-factor_used-2.ensures c.row_bits-then-factor_used-3.ensures c.row_bits-then-factor_used-4.ensures c.row_bits-then-factor_used-5.ensures c.row_bits-then-factor_used-6.ensures c.row_bits-then-factor_used-7.ensures c.row_bits-then-factor_used-8.ensures _)

pub returns-else-factor_used : goal.returns-else-factor_used
returns-else-factor_used c = let f = c.factor_used.ensures in
    let no-factor = sym c.if-factor_used.false ∙ f.answer in
    (refused (factor_of _) no-factor, patterns-refused (factor_of _) _ no-factor)
