-- `order::magnitudes` meets its contract. Assumes nothing.
use Rattle.numeric.proofs.OrderCases.{by-fields}
use Rattle.numeric.proofs.order.magnitudes.Goals as goal

pub returns : goal.returns
returns c = let a = c.args in
    rw (c.exponent_of-e.ensures, c.exponent_of-f.ensures, c.digits_of-c.ensures, c.digits_of-d.ensures) (by-fields a.a a.b)
