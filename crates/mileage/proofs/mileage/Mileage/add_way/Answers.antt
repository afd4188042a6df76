-- `mileage::mileage::Mileage::add_way` meets its contract. Assumes nothing.
use mathlib.Core.Bool.{not, ◌&&◌}
use Prim.Native.Nat.{◌≤◌}
use lib.Dec.{ltb, eqb}
use borrow.Author.Tests.{ltb-true, leb-true}
use Rattle.lists.proofs.Walk.{and_both}
use Rattle.mileage.proofs.CallLaws.{add-refused, accepted, add_goes, add_driven}
use borrow.Author.Rules.{rules}
use Rattle.mileage.proofs.mileage.Mileage.add_way.Goals as goal
use Rattle.mileage.proofs.mileage.Mileage.add_way.Lts as lts
use Rattle.mileage.proofs.mileage.Mileage.add_way.Tie as tie
use Rattle.mileage.proofs.mileage.Mileage.add_way.Reads as reads

-- places on the way through the function
abbrev After-struct_known-3-1 : Type 0
After-struct_known-3-1 = lts.After-struct_known3 tie.the-claims reads.Pre reads.Post

pub returns-then-not-is_sound-self : goal.returns-then-not-is_sound-self
returns-then-not-is_sound-self c = let s = c in add-refused s.args.e s.requires _ s.is_sound.ensures c.if-not-is_sound-self.true

narrow : (c : After-struct_known-3-1) → c.args.e.pulses ≤ 65535
narrow c = search rules

pub returns-then-usable-pulses : goal.returns-then-usable-pulses
returns-then-usable-pulses c = let g = c in
    let f = g in
    let s = f in
    rw c.driven.ensures (add_driven s.args.e s.requires _ s.is_sound.ensures g.is_rated.ensures f.if-not-is_sound-self.false c.if-usable-pulses.true)

pub returns : goal.returns
returns c = let g = c in
    let f = g in
    let s = f in
    rw c.grown.ensures (add_goes s.args.e s.requires _ s.is_sound.ensures g.is_rated.ensures f.if-not-is_sound-self.false)
