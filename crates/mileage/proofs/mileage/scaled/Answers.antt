-- `mileage::mileage::scaled` meets its contract. Assumes nothing.
use native.Mathlib.Omega.{arith}
use Rattle.mileage.proofs.CallLaws.{product-fits, rest-small, fits, too_far, near}
use Rattle.mileage.proofs.mileage.scaled.Goals as goal

pub returns-then-rest-pulses : goal.returns-then-rest-pulses
returns-then-rest-pulses c = let p = c.requires in too_far _ _ _ p.0 p.1 p.2 c.if-rest-pulses.true

pub returns : goal.returns
returns c = let p = c.requires in near _ _ _ p.0 p.1 p.2 c.if-rest-pulses.false
