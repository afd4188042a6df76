-- `zaqnuti::drives::zaqnuti_trip_settings` meets its contract. Assumes nothing.
use Rattle.zaqnuti.proofs.drives.zaqnuti_trip_settings.Goals as goal

pub returns : goal.returns
returns c = rw c.changed.ensures at c.put_settings.ensures
