-- `clocks::clocks::Clocks::slot` meets its contract. Assumes nothing.
use Rattle.clocks.proofs.clocks.Clocks.slot.Goals as goal

pub returns : goal.returns
returns c = rw c.place-i.ensures
