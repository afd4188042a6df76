-- `mileage::rated::is_rated` meets its contract. Assumes nothing.
use Rattle.mileage.proofs.RatedLaws.{rated-is}
use Rattle.mileage.proofs.rated.is_rated.Goals as goal

pub returns : goal.returns
returns c = rw c.predicted_error.ensures (rated-is _ _ _)
