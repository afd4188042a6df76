-- `corrections_directory::sound::is_timely` meets its contract. Assumes nothing.
use native.Mathlib.Omega.{arith}
use mathlib.Core.Path.{◌≡◌, sym, ap, ap₂, ◌∙◌}
use Prim.Native.Nat.{◌+◌, ◌-◌, ◌≤◌, ◌<◌}
use lib.ListN.{length, get_or}
use lib.Ieee.{nan}
use Rattle.corrections_table.specs.Table.{time_before}
use Rattle.corrections_directory.proofs.SoundLaws.{timely-start, timely-end, timely-no, timely-on}
use Rattle.corrections_directory.proofs.sound.is_timely.Goals as goal

pub loop-i-init : goal.loop-i-init
loop-i-init g c = let a = c.args in
    let ts = g.T.Element.floats a.table_time.now in
    let z : a.first + 1 - 1 ≡ a.first = omega arith in
    (omega arith, (omega arith, rw z (timely-start ts a.first a.count (omega (arith, c.requires.inside, g.met.T.Element.floats_length a.table_time.now)) c.requires.filled)))

pub returns-then-is_earlier : goal.returns-then-is_earlier
returns-then-is_earlier g c = let a = c.args in
    let h = c.loop-i in
    let t = a.table_time.now in
    let ts = g.T.Element.floats t in
    let k : a.first + a.count ≤ length ts = omega (arith, c.requires.inside, g.met.T.Element.floats_length t) in
    let x = c.value.ensures ∙ ap g.T.Element.float c.index-table_time-i.is ∙ sym (g.met.T.Element.floats_at t h.i _ (omega (arith, c.requires.inside))) in
    let y = c.value-in-loop-i.ensures ∙ ap g.T.Element.float c.index-table_time-i-in-loop-i.is ∙ sym (g.met.T.Element.floats_at t (h.i - 1) _ (omega (arith, c.requires.inside))) in
    let e : c.is_earlier.result ≡ time_before (get_or ts h.i nan) (get_or ts (h.i - 1) nan) = c.is_earlier.ensures ∙ ap₂ time_before x y in
    timely-no ts a.first a.count k h.i _ h.invariant.1.1 c.loop-i-test.true (sym e ∙ c.if-is_earlier.true)

pub loop-i-preserved : goal.loop-i-preserved
loop-i-preserved g c = let a = c.args in
    let h = c.loop-i in
    let t = a.table_time.now in
    let ts = g.T.Element.floats t in
    let k : a.first + a.count ≤ length ts = omega (arith, c.requires.inside, g.met.T.Element.floats_length t) in
    let x = c.value.ensures ∙ ap g.T.Element.float c.index-table_time-i.is ∙ sym (g.met.T.Element.floats_at t h.i _ (omega (arith, c.requires.inside))) in
    let y = c.value-in-loop-i.ensures ∙ ap g.T.Element.float c.index-table_time-i-in-loop-i.is ∙ sym (g.met.T.Element.floats_at t (h.i - 1) _ (omega (arith, c.requires.inside))) in
    let e : c.is_earlier.result ≡ time_before (get_or ts h.i nan) (get_or ts (h.i - 1) nan) = c.is_earlier.ensures ∙ ap₂ time_before x y in
    let z : h.i + 1 - 1 ≡ h.i = omega arith in
    (omega arith, (omega arith, rw z (timely-on ts a.first a.count k h.i _ h.invariant.1.1 c.loop-i-test.true (sym e ∙ c.if-is_earlier.false))))

pub returns : goal.returns
returns g c = let a = c.args in
    let ts = g.T.Element.floats a.table_time.now in
    let k : a.first + a.count ≤ length ts = omega (arith, c.requires.inside, g.met.T.Element.floats_length a.table_time.now) in
    timely-end ts a.first a.count k c.loop-i.i _ c.loop-i.invariant.1.1 c.loop-i-test.false
