-- `zaqnuti::drives::zaqnuti_trip_displacement` meets its contract. Assumes nothing.
use mathlib.Core.Path.{◌∙◌}
use borrow.Author.Rules.{rules}
use Rattle.tdcp.proofs.RatedLaws.{plain-map}
use Rattle.tdcp_columns.proofs.AnswerLaws.{plain-columns}
use Rattle.trip_settings.proofs.LentLaws.{travel_answers}
use Rattle.zaqnuti.proofs.drives.zaqnuti_trip_displacement.Goals as goal

pub returns : goal.returns
returns c = let p = c in travel_answers _ (plain-map _ _ (λ d v q. search rules) p.map-moved.ensures.cases ∙ plain-columns _ p.columns_displaced.ensures) c.travel_into.ensures
