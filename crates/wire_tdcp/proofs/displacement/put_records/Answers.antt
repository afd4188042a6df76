-- `wire_tdcp::displacement::put_records` meets its contract: its loop stores one carrier after the other. Assumes nothing.
use mathlib.Core.Path.{◌≡◌, ap, subst, ◌∙◌}
use Prim.Native.Nat.{ℕ}
use native.Mathlib.Omega.{arith}
use borrow.Author.Rules.{rules}
use Rattle.records.specs.Steps.{Laid}
use Rattle.records.proofs.PutLaws.{laid_next}
use Rattle.wire_tdcp.specs.Displacement.{record_carrier, record_carriers}
use Rattle.wire_tdcp.proofs.DisplacementLaws.{carrier-in}
use Rattle.wire_tdcp.proofs.displacement.put_records.Goals as goal

pub loop-i-init : goal.loop-i-init
loop-i-init c = (search rules, record { signals-long = c.requires.room.0; states-long = c.requires.room.1; floats-long = c.requires.room.2; small = λ i l. absurd (omega arith); all = λ i l d. absurd (omega arith) })

pub loop-i-preserved : goal.loop-i-preserved
loop-i-preserved c = let x = c in
    let t = x in
    let l = t in
    let a = l.args in (
      search rules,
      laid_next l.loop-i.invariant.1 (λ d. x.carrier_of-c.ensures ∙ ap record_carrier x.record_of-r.ensures ∙ carrier-in a.s.now a.n l.loop-i.i d t.loop-i-test.true) c.put.ensures,
    )

pub returns : goal.returns
returns c = let l = c.loop-i in
    let a = c.args in
    let q : l.i ≡ a.n = omega (arith, l.invariant.0, c.loop-i-test.false) in
    subst (λ (k : ℕ). Laid (record_carriers a.s.now a.n) k l.arrays.signals l.arrays.states l.arrays.floats) q l.invariant.1
