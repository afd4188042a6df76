-- `corrections_table::add::spot_of` meets its contract. Assumes nothing.
use Rattle.corrections_table.proofs.SpotLaws.{spotting_front, spotting_found}
use lib.Seq.{get_or-take}
use Prim.Native.Nat.{◌<◌, ◌-◌}
use native.Mathlib.Omega.{arith}
use Rattle.corrections_table.specs.Table.{lent_samples, blank, rows}
use Rattle.corrections_table.proofs.TableLaws.{sound-at}
use Rattle.corrections_table.proofs.add.spot_of.Goals as goal

pub returns-then-not-precedes : goal.returns-then-not-precedes
returns-then-not-precedes c = let s = c in
    let a = s.args in
    let columns = lent_samples a.cs.now a.vs.now a.bs.now a.ts.now a.xs.now in
    let h = c.loop-p in
    let t : 0 < h.p = c.loop-p-test.true in
    let b : h.p - 1 < a.n = omega (arith, h.invariant) in
    let at = get_or-take a.n (rows columns) (h.p - 1) blank b in
    spotting_found _ _ _ _ h.invariant t (sound-at _ s.requires.1) (cc (at, c.if-not-precedes.true))

pub returns : goal.returns
returns c = spotting_front _ _ _ _ c.loop-p.invariant c.loop-p-test.false
