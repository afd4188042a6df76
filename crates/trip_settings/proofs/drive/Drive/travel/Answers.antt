-- `trip_settings::drive::Drive::travel` meets its contract. Assumes nothing.
use Rattle.trip_settings.proofs.DriveLaws.{travels}
use Rattle.trip_settings.proofs.drive.Drive.travel.Goals as goal

pub returns : goal.returns
returns c = travels _ _ _ c.delta_position-answer.ensures c.travel_by.ensures
