-- `corrections_table::add::insert_all` meets its contract. Assumes nothing.
use Rattle.lists.proofs.Walk.{length-mapped}
use mathlib.Core.Path.{◌≡◌}
use Prim.Native.Nat.{◌≤◌}
use native.Mathlib.Omega.{arith}
use lib.ListN.{length}
use Rattle.corrections_table.proofs.InsertLaws.{inserting_start, inserting_next, inserting_end, inserting_room, ranged-at}
use Rattle.corrections_table.specs.Table.{lent_samples}
use Rattle.corrections_table.proofs.ColumnLaws.{rows_short}
use Rattle.corrections_table.proofs.add.insert_all.Goals as goal

pub loop-i-init : goal.loop-i-init
loop-i-init c = inserting_start _ _ _ _ c.requires.1.1.0

pub overflow_add-n : goal.overflow_add-n
overflow_add-n c = let s = c in
    let a = s.args in
    let columns = lent_samples a.cs.now a.vs.now a.bs.now a.ts.now a.xs.now in
    omega (arith, s.requires.1.0, rows_short columns, s.well_formed.0.0, c.loop-i-test.true)

pub insert-requires : goal.insert-requires
insert-requires c = let s = c in
    let h = c.loop-i in
    let e = inserting_room _ _ _ _ _ _ h.invariant in
    (omega (arith, e, s.requires.1.0, c.loop-i-test.true), h.invariant.steady)

pub loop-i-preserved : goal.loop-i-preserved
loop-i-preserved c = let s = c in
    let h = c.loop-i in
    let e : length c.args.new ≡ 64 = search (length-mapped, c.well_formed) in
    let l : s.args.m ≤ length s.args.new = omega (arith, e, s.requires.0) in
    let k = c.insert.auto in
    inserting_next _ _ _ _ _ _ h.invariant _ c.loop-i-test.true l (ranged-at _ _ _ l c.loop-i-test.true s.requires.1.1.1) c.insert.ensures (record { long-c = k.cs; long-v = k.vs; long-b = k.bs; long-t = k.ts; long-x = k.xs })

pub shape_of-cs : goal.shape_of-cs
shape_of-cs c = c.loop-i.invariant.alike.long-c

pub shape_of-vs : goal.shape_of-vs
shape_of-vs c = c.loop-i.invariant.alike.long-v

pub shape_of-bs : goal.shape_of-bs
shape_of-bs c = c.loop-i.invariant.alike.long-b

pub shape_of-ts : goal.shape_of-ts
shape_of-ts c = c.loop-i.invariant.alike.long-t

pub shape_of-xs : goal.shape_of-xs
shape_of-xs c = c.loop-i.invariant.alike.long-x

pub returns : goal.returns
returns c = inserting_end _ _ _ _ _ _ c.loop-i.invariant c.loop-i-test.false
