-- `tdcp::displacement::rated_city_displacement` meets its contract. Assumes nothing.
use Rattle.tdcp.proofs.RatedLaws.{rated-promised}
use Rattle.tdcp.proofs.displacement.rated_city_displacement.Goals as goal

pub returns : goal.returns
returns c = rated-promised _ _ c.displaced_by.ensures.answer
