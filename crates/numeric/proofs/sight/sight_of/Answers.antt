-- `numeric::sight::sight_of` meets its contract. Assumes nothing.
use Rattle.numeric.proofs.SightLaws.{sight-is}
use Rattle.numeric.proofs.sight.sight_of.Goals as goal

pub returns : goal.returns
returns c = let d = c in
    sight-is _ _ d.sub.ensures d.norm-distance.ensures d.gap-d.ensures c.norm_beside-range.ensures c.along.ensures
