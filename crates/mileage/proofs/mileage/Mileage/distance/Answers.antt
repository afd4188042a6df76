-- `mileage::mileage::Mileage::distance` meets its contract. Assumes nothing.
use mathlib.Core.Path.{sym, ◌∙◌}
use native.Mathlib.Omega.{arith}
use borrow.Author.Tests.{eq-eqb, ne_eqb}
use Rattle.mileage.specs.Mileage.{mileage_distance}
use Rattle.mileage.proofs.BoundsLaws.{bounds}
use Rattle.mileage.proofs.mileage.Mileage.distance.Goals as goal

pub returns-then-not-is_sound : goal.returns-then-not-is_sound
unfolding mileage_distance
returns-then-not-is_sound c = rw (sym c.is_sound.ensures ∙ c.if-not-is_sound.true)

pub returns-then-self-eq0 : goal.returns-then-self-eq0
unfolding mileage_distance
returns-then-self-eq0 c = let e = c in rw (sym e.is_sound.ensures ∙ e.if-not-is_sound.false, eq-eqb _ _ c.if-self-eq0.true)

pub scaled-requires : goal.scaled-requires
scaled-requires c = let e = c in let m = e.args.self in omega (arith, bounds m (sym e.is_sound.ensures ∙ e.if-not-is_sound.false))

pub returns : goal.returns
unfolding mileage_distance
returns c = let e = c in rw (sym e.is_sound.ensures ∙ e.if-not-is_sound.false, ne_eqb _ _ c.if-self-eq0.false) c.scaled.ensures
