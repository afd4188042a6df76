-- `mileage::mileage::Mileage::is_sound` meets its contract. Assumes nothing.
use native.Mathlib.Omega.{arith}
use borrow.Author.Tests.{le-leb}
use Rattle.mileage.specs.Mileage.{sound_mileage}
use Rattle.mileage.proofs.BoundsLaws.{small, not_small}
use Rattle.mileage.proofs.mileage.Mileage.is_sound.Goals as goal

pub returns-then-not-epochs-self : goal.returns-then-not-epochs-self
returns-then-not-epochs-self c = not_small c.args.self c.if-not-epochs-self.true

pub returns : goal.returns
unfolding sound_mileage
returns c = let s = small c.args.self c.if-not-epochs-self.false in
    rw (le-leb c.args.self.epochs 65535 s.epochs, c.in_range.ensures)
