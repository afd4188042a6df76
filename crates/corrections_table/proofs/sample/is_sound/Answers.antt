-- `corrections_table::sample::is_sound` meets its contract. Assumes nothing.
use mathlib.Core.Path.{◌≡◌, refl, sym, ap, ◌∙◌}
use mathlib.Core.Bool.{true}
use Prim.Native.Nat.{◌+◌, ◌*◌, ◌^◌}
use native.Mathlib.Omega.{arith}
use borrow.Author.Tests.{le-ltb}
use Rattle.corrections_table.specs.Table.{lent_samples, ranged, rows}
use Rattle.corrections_table.proofs.Places.{time_key, below-place}
use Rattle.corrections_table.proofs.TableLaws.{sound-starts, pass-end, pass-low, pass-out, pass_on}
use Rattle.corrections_table.proofs.sample.is_sound.Goals as goal

pub returns-then-n-eq0 : goal.returns-then-n-eq0
returns-then-n-eq0 c = let s = c in
    let a = s.args in
    let columns = lent_samples a.cs.now a.vs.now a.bs.now a.ts.now a.xs.now in
    pass-end (rows columns) a.n s.requires 0 0 (sound-starts _) (omega (arith, c.if-n-eq0.true))

pub returns-then-not-is_ranged : goal.returns-then-not-is_ranged
returns-then-not-is_ranged c = let s = c in
    let a = s.args in
    let columns = lent_samples a.cs.now a.vs.now a.bs.now a.ts.now a.xs.now in
    let z = c.if-n-eq0.false in
    pass-out (rows columns) a.n s.requires 0 0 (sound-starts _) (omega arith) _ _ refl
    (sym (ap ranged c.sample_at-first.ensures) ∙ sym c.is_ranged.ensures ∙ c.if-not-is_ranged.true)

pub loop-i-init : goal.loop-i-init
loop-i-init c = let s = c in
    let a = s.args in
    let columns = lent_samples a.cs.now a.vs.now a.bs.now a.ts.now a.xs.now in
    let z = c.if-n-eq0.false in
    let r : ranged c.sample_at-first.result ≡ true = sym c.is_ranged.ensures ∙ c.if-not-is_ranged.false in (
      omega arith,
      pass_on (rows columns) a.n s.requires 0 0 (sound-starts _) (omega arith) c.signal_of-signal.result (time_key c.sample_at-first.result.time) (cc) (le-ltb (c.signal_of-signal.result * 2 ^ 64 + time_key c.sample_at-first.result.time) 0 (omega arith)) (sym (ap ranged c.sample_at-first.ensures) ∙ r),
    )

pub returns-then-not-is_ranged-2 : goal.returns-then-not-is_ranged-2
returns-then-not-is_ranged-2 c = let h = c.loop-i in
    let s = c in
    let a = s.args in
    let columns = lent_samples a.cs.now a.vs.now a.bs.now a.ts.now a.xs.now in
    pass-out (rows columns) a.n s.requires h.i _ h.invariant.1 c.loop-i-test.true _ _ refl
    (sym (ap ranged c.sample_at-a.ensures) ∙ sym c.is_ranged-in-loop-i.ensures ∙ c.if-not-is_ranged-2.true)

pub returns-then-is_below : goal.returns-then-is_below
returns-then-is_below c = let h = c.loop-i in
    let s = c in
    let a = s.args in
    let columns = lent_samples a.cs.now a.vs.now a.bs.now a.ts.now a.xs.now in
    pass-low (rows columns) a.n s.requires h.i _ h.invariant.1 c.loop-i-test.true c.signal_of-s.result (time_key c.sample_at-a.result.time) (cc) (sym (c.is_below.ensures ∙ below-place _ _ _ _) ∙ c.if-is_below.true)

pub loop-i-preserved : goal.loop-i-preserved
loop-i-preserved c = let h = c.loop-i in
    let s = c in
    let a = s.args in
    let columns = lent_samples a.cs.now a.vs.now a.bs.now a.ts.now a.xs.now in
    let r : ranged c.sample_at-a.result ≡ true = sym c.is_ranged-in-loop-i.ensures ∙ c.if-not-is_ranged-2.false in (
      omega arith,
      pass_on (rows columns) a.n s.requires h.i _ h.invariant.1 c.loop-i-test.true c.signal_of-s.result (time_key c.sample_at-a.result.time) (cc) (sym (c.is_below.ensures ∙ below-place _ _ _ _) ∙ c.if-is_below.false) (sym (ap ranged c.sample_at-a.ensures) ∙ r),
    )

pub returns : goal.returns
returns c = pass-end _ _ c.requires _ _ c.loop-i.invariant.1 c.loop-i-test.false
