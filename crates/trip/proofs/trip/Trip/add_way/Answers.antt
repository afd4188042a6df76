-- `trip::trip::Trip::add_way` meets its contract. Assumes nothing.
use mathlib.Core.Path.{sym, ◌∙◌}
use lib.Dec.{ltb}
use borrow.Author.Rules.{rules}
use borrow.Author.Tests.{ltb-true, le-leb, lt-leb}
use Rattle.lists.proofs.Walk.{and_both}
use Rattle.trip.proofs.TripLaws.{adds, way-refused, trip_refused, way-added}
use Rattle.trip.proofs.trip.Trip.add_way.Goals as goal

pub returns-then-not-is_sound-self : goal.returns-then-not-is_sound-self
returns-then-not-is_sound-self c = let s = c in λ d e. adds _ _ (trip_refused _ d _ e s.is_sound.ensures (le-leb _ _ s.if-way-le1000000.true) c.if-not-is_sound-self.true)

pub returns-then-way-le1000000 : goal.returns-then-way-le1000000
returns-then-way-le1000000 c = let e = c in
    let s = e in
    λ d h. adds _ _ (rw c.with_epoch.ensures (way-added _ d _ h s.is_sound.ensures (le-leb _ _ s.if-way-le1000000.true) e.if-not-is_sound-self.false))

pub returns : goal.returns
returns c = λ d e. adds _ _ (way-refused _ d _ e (lt-leb _ _ c.if-way-le1000000.false))
