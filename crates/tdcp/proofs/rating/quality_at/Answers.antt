-- `tdcp::rating::quality_at` meets its contract. Assumes nothing.
use mathlib.Core.Path.{sym}
use native.Mathlib.Omega.{arith}
use lib.ListN.{length}
use lib.Seq.{length-take-le}
use Rattle.records.specs.Steps.{pairs_in}
use Rattle.tdcp.proofs.DisplacementLaws.{rows_in_lem}
use Rattle.tdcp.proofs.RatedLaws.{quality-made}
use Rattle.tdcp.proofs.rating.quality_at.Goals as goal

pub slice_bounds-rows-end : goal.slice_bounds-rows-end
slice_bounds-rows-end c = sym (length-take-le _ _ (omega (arith, c.residuals_at.ensures.long, c.requires.0)))

pub returns : goal.returns
returns c = let t = c in
    let s = t in
    let a = s.args in
    record {
      quality-is = λ settings k constellation elevation n clocks sigmas.
          quality-made settings k (pairs_in a.x.now a.y.now a.z.now constellation elevation a.observed.now) a.at c.quality_of.ensures.answer n
          (rows_in_lem settings k a.x.now a.y.now a.z.now constellation elevation a.observed.now s.requires.0 a.at clocks sigmas t.residuals_at.ensures);
    }
