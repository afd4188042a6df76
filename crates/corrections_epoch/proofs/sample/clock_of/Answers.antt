-- `corrections_epoch::sample::clock_of` meets its contract. Assumes nothing.
use native.Mathlib.Omega.{arith}
use Rattle.corrections_epoch.proofs.SampleLaws.{clock-none, clock-some}
use Rattle.corrections_epoch.proofs.sample.clock_of.Goals as goal

pub returns-then-values-lt3 : goal.returns-then-values-lt3
returns-then-values-lt3 c = clock-none _ (omega (arith, c.if-values-lt3.true))

pub returns : goal.returns
returns c = clock-some _ c.requires (omega (arith, c.if-values-lt3.false)) c.median.ensures c.float.ensures
