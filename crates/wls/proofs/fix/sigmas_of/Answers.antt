-- `wls::fix::sigmas_of` meets its contract: the first j numbers are the sigmas of the first j. Assumes nothing.
use mathlib.Core.Path.{◌≡◌, refl, ◌∙◌, subst}
use mathlib.Core.List.{map}
use native.Mathlib.Omega.{arith}
use lib.ListN.{take, length, length-set}
use Rattle.lists.proofs.Walk.{length-mapped}
use Rattle.normal_equations.proofs.Sums.{mapped_next}
use Rattle.wls.specs.Fix.{sigma_of}
use Rattle.records.proofs.RecordLaws.{blank_observation}
use Rattle.wls.proofs.fix.sigmas_of.Goals as goal

long : (c : goal.Start) → length c.args.sky.observation ≡ 64
long c = search length-mapped

pub loop-j-init : goal.loop-j-init
loop-j-init c = (omega arith, refl, refl)

pub loop-j-preserved : goal.loop-j-preserved
unfolding sigma_of
loop-j-preserved c = let h = c.loop-j in
    let s = c in
    (omega arith, length-set h.sigma h.j _ ∙ h.invariant.1, mapped_next (sigma_of s.args.settings) s.args.sky.observation h.sigma blank_observation h.j c.elevation_sigma-s.result (omega arith) (omega (arith, long s.before.before.before.before)) c.elevation_sigma-s.ensures h.invariant.2)

pub returns : goal.returns
returns c = let h = c.loop-j in
    let s = c.args in
    let last : h.j ≡ s.sky.count = omega arith in
    subst (λ z. take z h.sigma ≡ map (sigma_of s.settings) (take z s.sky.observation)) last h.invariant.2
