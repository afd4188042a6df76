use mathlib.Core.Path.{◌≡◌, refl, sym, ◌∙◌}
use mathlib.Core.Bool.{true}
use lib.Dec.{eqb}
use borrow.Author.Tests.{eq-eqb}
use native.Mathlib.Omega.{arith}
use Rattle.trials.proofs.numbers.differ.Goals as goal

pub loop-i-init : goal.loop-i-init
loop-i-init c = (omega arith, λ e. refl)

pub loop-j-init : goal.loop-j-init
loop-j-init c = (omega arith, omega arith, c.loop-i.invariant.1)

pub loop-j-preserved : goal.loop-j-preserved
loop-j-preserved c = let i = c.loop-j.invariant in (
  omega arith,
  omega arith,
  λ e. let q : eqb c.pattern.result c.pattern-in-loop-j.result ≡ true = eq-eqb _ _ (c.pattern.ensures ∙ rw e (sym c.pattern-in-loop-j.ensures)) in rw (i.2 e, q),
)

pub loop-i-preserved : goal.loop-i-preserved
loop-i-preserved c = (omega arith, c.loop-j.invariant.2)

pub returns : goal.returns
returns c = c.loop-i.invariant.1
