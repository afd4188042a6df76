-- `corrections_directory::sound::is_rising` meets its contract. Assumes nothing.
use native.Mathlib.Omega.{arith}
use mathlib.Core.Path.{◌≡◌, sym, ap, ◌∙◌}
use Prim.Native.Nat.{◌+◌, ◌-◌, ◌≤◌, ◌<◌}
use lib.ListN.{length, get_or}
use lib.Ieee.{nan}
use Rattle.corrections_directory.proofs.SoundLaws.{timely-start, timely-end, rising-on}
use Rattle.corrections_directory.proofs.sound.is_rising.Goals as goal

pub loop-i-init : goal.loop-i-init
loop-i-init g c = let a = c.args in
    let ts = g.T.Element.floats a.table_time.now in
    let z : a.first + 1 - 1 ≡ a.first = omega arith in
    (omega arith, (omega arith, λ _. rw z (timely-start ts a.first a.count (omega (arith, c.requires.inside, g.met.T.Element.floats_length a.table_time.now)) c.requires.filled)))

pub number-requires : goal.number-requires
number-requires g c = ap g.T.Element.is_nan c.index-table_time-i.is ∙ c.requires.numbers _ _ (omega arith) (omega arith)

pub number-requires-in-loop-i : goal.number-requires-in-loop-i
number-requires-in-loop-i g c = ap g.T.Element.is_nan c.index-table_time-i-in-loop-i.is ∙ c.requires.numbers _ _ (omega arith) (omega arith)

pub loop-i-preserved : goal.loop-i-preserved
loop-i-preserved g c = let a = c.args in
    let h = c.loop-i in
    let t = a.table_time.now in
    let ts = g.T.Element.floats t in
    let z : h.i + 1 - 1 ≡ h.i = omega arith in
    let k : a.first + a.count ≤ length ts = omega (arith, c.requires.inside, g.met.T.Element.floats_length t) in
    let x : c.number.result ≡ get_or ts (h.i - 1) nan = c.number.ensures ∙ ap g.T.Element.float c.index-table_time-i.is ∙ sym (g.met.T.Element.floats_at t (h.i - 1) _ (omega (arith, c.requires.inside))) in
    let y : c.number-in-loop-i.result ≡ get_or ts h.i nan = c.number-in-loop-i.ensures ∙ ap g.T.Element.float c.index-table_time-i-in-loop-i.is ∙ sym (g.met.T.Element.floats_at t h.i _ (omega (arith, c.requires.inside))) in (
      omega arith,
      (
        omega arith,
        λ e. rw z (rising-on ts a.first a.count k h.i h.all h.invariant.1.1 c.loop-i-test.true (rw (rw y at c.number-in-loop-i.type_inv) tt) (rw (rw x at c.number.type_inv) tt) (rw (x, y) at e)),
      ),
    )

pub returns : goal.returns
returns g c e = let a = c.args in
    let ts = g.T.Element.floats a.table_time.now in
    timely-end ts a.first a.count (omega (arith, c.requires.inside, g.met.T.Element.floats_length a.table_time.now)) c.loop-i.i _ (c.loop-i.invariant.1.1 e) c.loop-i-test.false
