-- `trip::measure::is_certain` meets its contract. Assumes nothing.
use Prim.Native.Nat.{◌*◌, ◌^◌, ◌≤◌}
use native.Mathlib.Nat.{mul-le-mul, le_of_lt}
use native.Mathlib.Omega.{arith}
use Rattle.trip.proofs.WayLaws.{tested}
use Rattle.trip.proofs.measure.is_certain.Goals as goal

small : (c : goal.Start) → c.args.a * c.args.a ≤ 2 ^ 27 * 2 ^ 27
small c = mul-le-mul (le_of_lt c.requires.2) (le_of_lt c.requires.2)

pub returns : goal.returns
returns c = tested c.args.b c.requires.0 c.requires.1 c.args.a
