-- `records::carriers::Carriers::carrier` meets its contract. Assumes nothing.
use mir.Facts.{to_z-of_z}
use borrow.Author.Rules.{sfits_of}
use Rattle.records.specs.Signals.{carrier_with}
use Rattle.records.proofs.carriers.Carriers.carrier.Goals as goal

pub returns : goal.returns
unfolding carrier_with
returns c = rw (
  c.constellation_in-constellation.ensures,
  c.svid_in-svid.ensures,
  c.band_in-band.ensures,
  c.vector_at-satellite.ensures,
  to_z-of_z (sfits_of c.state-1.given),
)
