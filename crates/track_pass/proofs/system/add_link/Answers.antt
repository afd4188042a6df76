use Rattle.track_pass.proofs.Links.{link_left, link-stored, five-numbers}
use Rattle.track_pass.proofs.Anchors.{writable}
use Rattle.track_tridiagonal.proofs.Cells.{readable}
use lib.ListN.{length-set}
use native.Mathlib.Omega.{arith}
use Rattle.track_pass.proofs.system.add_link.Goals as goal

pub float_from_bits-d : goal.float_from_bits-d
float_from_bits-d c = readable _ c.requires.1.first

pub float_from_bits-u : goal.float_from_bits-u
float_from_bits-u c = readable _ c.requires.1.second

pub float_from_bits-r : goal.float_from_bits-r
float_from_bits-r c = readable _ c.requires.1.third

pub float_from_bits-e : goal.float_from_bits-e
float_from_bits-e c = readable _ c.requires.2.first

pub float_from_bits-q : goal.float_from_bits-q
float_from_bits-q c = readable _ c.requires.2.third

pub returns-then-not-d-u : goal.returns-then-not-d-u
returns-then-not-d-u c = link_left _ _ _ _ c.if-not-d-u.true

pub returns : goal.returns
returns c = link-stored _ _ _ _ c.if-not-d-u.false
