use Rattle.track_pass.proofs.Anchors.{anchor_left, anchor_stored, first-writable, second-writable}
use Rattle.track_tridiagonal.proofs.Cells.{readable}
use lib.ListN.{length-set}
use native.Mathlib.Omega.{arith}
use Rattle.track_pass.proofs.system.add_anchor.Goals as goal

pub float_from_bits-d : goal.float_from_bits-d
float_from_bits-d c = readable _ c.requires.1.first

pub float_from_bits-r : goal.float_from_bits-r
float_from_bits-r c = readable _ c.requires.1.second

pub returns-then-not-d-r : goal.returns-then-not-d-r
returns-then-not-d-r c = anchor_left _ _ _ _ c.if-not-d-r.true

pub returns : goal.returns
returns c = anchor_stored _ _ _ _ c.if-not-d-r.false
