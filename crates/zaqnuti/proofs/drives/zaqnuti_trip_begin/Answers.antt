-- `zaqnuti::drives::zaqnuti_trip_begin` meets its contract. Assumes nothing.
use Rattle.zaqnuti.proofs.drives.zaqnuti_trip_begin.Goals as goal

pub returns : goal.returns
returns c = rw c.begun.ensures at c.put_begun.ensures
