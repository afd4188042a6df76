-- `line_form::field::is_plain` meets its contract. Assumes nothing.
use native.Mathlib.Omega.{arith}
use Rattle.line_form.proofs.FieldLaws.{plain-none, plain-one, plain_more}
use Rattle.line_form.proofs.field.is_plain.Goals as goal

pub returns-in-empty : goal.returns-in-empty
returns-in-empty c = plain-none _ (omega arith)

pub returns-in-len1 : goal.returns-in-len1
returns-in-len1 c = plain-one _ (omega arith)

pub returns-in-len1-up : goal.returns-in-len1-up
returns-in-len1-up c = plain_more _ (λ e. omega arith) (λ e. omega arith)
