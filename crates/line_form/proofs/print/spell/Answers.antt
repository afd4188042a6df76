-- `line_form::print::spell` meets its contract. Assumes nothing.
use Rattle.line_form.proofs.PrintLaws.{spelling_start, spelling_more, spelling_end}
use native.Mathlib.Omega.{arith}
use native.Mathlib.Nat.{mod-lt}
use Rattle.line_form.proofs.print.spell.Goals as goal

pub loop-i-init : goal.loop-i-init
loop-i-init c = spelling_start c.args.out.now _ _ _ _

pub glyph_of-requires : goal.glyph_of-requires
glyph_of-requires c = let h = mod-lt c.loop-i.rest c.requires.base_nonzero in omega arith

pub bounds-out-at : goal.bounds-out-at
bounds-out-at c = omega (arith, c.loop-i.invariant.few, c.loop-i.invariant.long)

pub loop-i-preserved : goal.loop-i-preserved
loop-i-preserved c = spelling_more c.args.out.now _ _ _ _ _ _ _ c.loop-i.invariant c.loop-i-test.true c.requires.k_in_bounds _ c.glyph_of.ensures

pub returns : goal.returns
returns c = spelling_end c.args.out.now _ _ _ _ _ _ _ c.loop-i.invariant c.loop-i-test.false
