-- `records::screen::clocks_of` meets its contract: its loop gives the constellations one after the other. Assumes nothing.
use mathlib.Core.Path.{ap, ◌∙◌}
use native.Mathlib.Omega.{arith}
use lib.ListN.{length}
use lib.Seq.{take_all}
use borrow.Author.Rules.{rules}
use Rattle.lists.specs.Walk.{fold}
use Rattle.lists.proofs.Walk.{fold-turn, fold_end}
use Rattle.clocks.specs.Clocks.{none, given}
use Rattle.clocks.proofs.ClocksLaws.{law}
use Rattle.records.proofs.screen.clocks_of.Goals as goal

pub loop-c-init : goal.loop-c-init
loop-c-init c = let s = c.args in (rw c.new-k.ensures (ap (fold given none) (take_all (length s.constellation.now) s.constellation.now (omega arith)) ∙ law _))

pub loop-c-preserved : goal.loop-c-preserved
loop-c-preserved c = let h = c.loop-c in (rw c.given-k.ensures (fold-turn _ _ (omega arith) h.c-index 0 c.loop-c-test.true given h.k h.invariant))

pub returns : goal.returns
returns c = fold_end _ _ (omega arith) _ given c.loop-c.invariant c.loop-c-test.false
