-- `trip::trip::Trip::fuel` meets its contract. Assumes nothing.
use mathlib.Core.Path.{sym, ◌∙◌}
use borrow.Author.Tests.{eq-eqb, ne_eqb}
use Rattle.trip.specs.Trip.{fuelled}
use Rattle.trip.proofs.trip.Trip.fuel.Goals as goal

pub returns-then-not-is_sound : goal.returns-then-not-is_sound
unfolding fuelled
returns-then-not-is_sound c = rw (sym c.is_sound.ensures ∙ c.if-not-is_sound.true)

pub returns-then-self-eq0 : goal.returns-then-self-eq0
unfolding fuelled
returns-then-self-eq0 c = let e = c in
    rw (sym e.is_sound.ensures ∙ e.if-not-is_sound.false, eq-eqb _ _ c.if-self-eq0.true)

pub returns : goal.returns
unfolding fuelled
returns c = let e = c in
    rw (sym e.is_sound.ensures ∙ e.if-not-is_sound.false, ne_eqb _ _ c.if-self-eq0.false)
