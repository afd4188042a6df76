-- `zaqnuti::rated::zaqnuti_city_displacement_rated` meets its contract. Assumes nothing.
use Rattle.tdcp_columns.proofs.RatedLaws.{rated-answers}
use Rattle.zaqnuti.proofs.rated.zaqnuti_city_displacement_rated.Goals as goal

pub returns : goal.returns
returns c = let a = rated-answers _ c.columns_displaced-answer.ensures c.rated_into.ensures in
    record {
      leaves = record { number_is = a.leaves.number_is; delta-is = a.leaves.delta-is; quality-is = a.leaves.quality-is; counts-are = a.leaves.counts-are };
      accepted = a.accepted;
    }
