-- `order::float` meets its contract. Assumes nothing.
use mathlib.Core.Path.{sym, ◌∙◌}
use borrow.Author.Tests.{le-ltb}
use lib.Ieee.{binary64}
use lib.Ieee.Bits.{nan_bits_above}
use Rattle.numeric.proofs.OrderMagnitude.{bits-nan, quotient-nan}
use Rattle.numeric.proofs.order.float.Goals as goal

pub returns-then-b-gt9218868437227405312 : goal.returns-then-b-gt9218868437227405312
returns-then-b-gt9218868437227405312 c = quotient-nan ∙ sym (bits-nan c.args.b c.if-b-gt9218868437227405312.true)

pub float_from_bits-result : goal.float_from_bits-result
float_from_bits-result c = rw (nan_bits_above binary64 c.args.b ∙ le-ltb _ _ c.if-b-gt9218868437227405312.false) tt
