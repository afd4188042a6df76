-- `line_form::field::pattern_of` meets its contract. Assumes nothing.
use native.Mathlib.Omega.{arith}
use mathlib.Core.Path.{sym, ◌∙◌}
use Rattle.line_form.proofs.FieldLaws.{hexing_start, hexing_no, hexing_more, hexing_end, hexing_fits, hexing_next, pattern_long}
use Rattle.line_form.proofs.field.pattern_of.Goals as goal

pub returns-then-s-ne16 : goal.returns-then-s-ne16
returns-then-s-ne16 c = pattern_long c.args.s.now c.if-s-ne16.true

pub loop-b-init : goal.loop-b-init
loop-b-init c = hexing_start _

pub returns-then-not-is_hex_digit : goal.returns-then-not-is_hex_digit
returns-then-not-is_hex_digit c = hexing_no _ _ _ c.loop-b.invariant c.loop-b-test.true (sym c.is_hex_digit.ensures ∙ c.if-not-is_hex_digit.true)

pub overflow_mul-n : goal.overflow_mul-n
overflow_mul-n c = omega (arith, hexing_fits _ _ _ c.loop-b.invariant c.loop-b-test.true c.if-s-ne16.false)

pub hex_value-requires : goal.hex_value-requires
hex_value-requires c = sym c.is_hex_digit.ensures ∙ c.if-not-is_hex_digit.false

pub overflow_add-n : goal.overflow_add-n
overflow_add-n c = omega (arith, hexing_next _ _ _ c.loop-b.invariant c.loop-b-test.true c.if-s-ne16.false _ (sym c.is_hex_digit.ensures ∙ c.if-not-is_hex_digit.false) c.hex_value.ensures)

pub loop-b-preserved : goal.loop-b-preserved
loop-b-preserved c = hexing_more _ _ _ c.loop-b.invariant c.loop-b-test.true _
    (sym c.is_hex_digit.ensures ∙ c.if-not-is_hex_digit.false)
    c.hex_value.ensures

pub returns : goal.returns
returns c = hexing_end _ _ _ c.loop-b.invariant c.loop-b-test.false c.if-s-ne16.false
