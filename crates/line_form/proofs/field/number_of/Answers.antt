-- `line_form::field::number_of` meets its contract. Assumes nothing.
use mathlib.Core.Path.{refl, sym, ◌∙◌}
use borrow.Author.Rules.{rules}
use Rattle.line_form.proofs.FieldLaws.{number-front, reading-no, reading-large, reading-more, reading-end}
use Rattle.line_form.proofs.field.number_of.Goals as goal

pub returns-then-not-is_plain : goal.returns-then-not-is_plain
returns-then-not-is_plain c = number-front _ _ (sym c.is_plain.ensures ∙ c.if-not-is_plain.true)

pub loop-b-init : goal.loop-b-init
loop-b-init c = record { within = search rules; below = search rules; digits = refl; value = refl }

pub returns-then-not-is_ascii_digit : goal.returns-then-not-is_ascii_digit
returns-then-not-is_ascii_digit c = reading-no _ _ _ _ c.loop-b.invariant c.loop-b-test.true (sym c.is_ascii_digit.ensures.value ∙ c.if-not-is_ascii_digit.true)

pub returns-then-n-limit : goal.returns-then-n-limit
returns-then-n-limit c = reading-large _ _ _ _ c.loop-b.invariant c.loop-b-test.true c.if-n-limit.true

pub loop-b-preserved : goal.loop-b-preserved
loop-b-preserved c = reading-more _ _ _ _ c.loop-b.invariant c.loop-b-test.true (sym c.is_ascii_digit.ensures.value ∙ c.if-not-is_ascii_digit.false) c.if-n-limit.false

pub returns : goal.returns
returns c = reading-end _ _ _ _ c.loop-b.invariant c.loop-b-test.false (sym c.is_plain.ensures ∙ c.if-not-is_plain.false)
