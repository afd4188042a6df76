-- `order::pattern` meets its contract: only a NaN differs from itself. Assumes nothing.
use mathlib.Core.Path.{sym, ◌∙◌}
use Rattle.numeric.proofs.OrderLaws.{pattern_bits, is_nan-differs, pattern_of-nan}
use Rattle.numeric.proofs.order.pattern.Goals as goal

pub returns-then-x : goal.returns-then-x
returns-then-x c = sym (pattern_of-nan c.args.x (is_nan-differs c.args.x ∙ c.if-x.true))

pub float_to_bits-result : goal.float_to_bits-result
float_to_bits-result c = rw (is_nan-differs c.args.x ∙ c.if-x.false) tt

pub returns : goal.returns
returns c = sym (pattern_bits c.args.x)
