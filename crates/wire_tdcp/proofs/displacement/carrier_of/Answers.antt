-- `wire_tdcp::displacement::carrier_of` meets its contract. Assumes nothing.
use mathlib.Core.Path.{◌≡◌}
use mir.Syntax.{w32}
use mir.Val.{to_z, of_z}
use mir.Facts.{to_z-of_z}
use Rattle.wire_tdcp.specs.Displacement.{record_carrier}
use borrow.Author.Rules.{rules}
use Rattle.wire_tdcp.proofs.displacement.carrier_of.Goals as goal

pub returns : goal.returns
unfolding record_carrier
returns c = let r = c.args.r in
    let z : to_z w32 (of_z w32 r.state) ≡ r.state = to_z-of_z {w = w32} (search rules) in
    rw (z, c.float-adr.ensures, c.float-x.ensures, c.float-y.ensures, c.float-z.ensures, c.float-elevation.ensures, c.float-rate.ensures)
