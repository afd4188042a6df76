-- `corrections_table::add::all_ranged` meets its contract. Assumes nothing.
use mathlib.Core.Path.{◌≡◌, refl}
use Prim.Native.Nat.{◌≤◌}
use native.Mathlib.Omega.{arith}
use borrow.Author.Rules.{rules}
use lib.ListN.{length}
use Rattle.lists.proofs.Walk.{length-mapped, every-yes, every-no, every-end}
use Rattle.corrections_table.specs.Table.{blank, ranged}
use Rattle.corrections_table.proofs.add.all_ranged.Goals as goal

fits : (c : goal.Start) → c.args.new.count ≤ length c.args.new.samples
fits c = let e : length c.args.new.samples ≡ 64 = search length-mapped in omega arith

pub loop-i-init : goal.loop-i-init
loop-i-init c = (search rules, refl)

pub returns-then-not-is_ranged : goal.returns-then-not-is_ranged
returns-then-not-is_ranged c = let h = c.loop-i in
    let r = c.if-not-is_ranged.true in
    every-no _ _ (fits c.before.before.before.before.before) h.i blank c.loop-i-test.true ranged h.invariant.1 c.is_ranged.ensures r

pub loop-i-preserved : goal.loop-i-preserved
loop-i-preserved c = let h = c.loop-i in
    let r = c.if-not-is_ranged.false in
    (search rules, every-yes _ _ (fits c.before.before.before.before.before) h.i blank c.loop-i-test.true ranged h.invariant.1 c.is_ranged.ensures r)

pub returns : goal.returns
returns c = every-end _ _ (fits c.before.before) _ ranged c.loop-i.invariant.1 c.loop-i-test.false
