-- `corrections_forget::retain::front_of` meets its contract. Assumes nothing.
use Prim.Native.Nat.{◌+◌}
use native.Mathlib.Omega.{arith}
use mathlib.Core.Path.{sym, ap, ◌∙◌}
use lib.Ieee.{Float, lt}
use Rattle.corrections_directory.proofs.PatternLaws.{floats_at}
use Rattle.corrections_forget.proofs.MoveLaws.{passed-more}
use Rattle.corrections_forget.proofs.retain.front_of.Goals as goal

pub loop-k-preserved : goal.loop-k-preserved
loop-k-preserved c = let s = c in
    let h = c.loop-k in
    let e = c.number-t.ensures ∙ sym (floats_at s.args.table_time.now (s.args.first + h.k) (omega (arith, c.loop-k-test.true, s.requires.inside))) in
    passed-more h.invariant c.loop-k-test.true (ap (λ (x : Float). lt x s.args.time) (sym e) ∙ c.if-not-t-time.false)
