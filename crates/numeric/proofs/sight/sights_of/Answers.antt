-- `numeric::sight::sights_of` meets its contract. Assumes nothing.
use Rattle.numeric.specs.Vec3.{norm}
use Rattle.numeric.proofs.SightLaws.{sight-is}
use Rattle.numeric.proofs.sight.sights_of.Goals as goal

pub returns : goal.returns
unfolding norm
returns c = let h = c in
    let g = h in
    let e = g in
    let b = e in
    let a = b in
    let v = a in (
      sight-is _ _ v.sub-u.ensures a.sqrt-a.ensures e.gap-d.ensures g.sqrt-g.ensures c.along-s.ensures,
      sight-is _ _ v.sub-v.ensures b.sqrt-b.ensures e.gap-e.ensures h.sqrt-h.ensures c.along-t.ensures,
    )
