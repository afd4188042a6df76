-- `frames::frames::ned_at` meets its contract. Assumes nothing.
use Rattle.frames.specs.Frames.{ned_at}
use Rattle.frames.proofs.frames.ned_at.Goals as goal

pub returns : goal.returns
unfolding ned_at
returns c = let d = c in rw (c.turned.ensures, d.latitude-lat.ensures, d.longitude-lon.ensures, d.hypot-p.ensures)
