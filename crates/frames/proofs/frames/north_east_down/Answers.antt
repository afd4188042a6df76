-- `frames::frames::north_east_down` meets its contract. Assumes nothing.
use Rattle.std.specs.Prelude.{Ok}
use mathlib.Core.Path.{◌≡◌, sym, ◌∙◌, subst}
use mathlib.Core.Bool.{true, ◌&&◌}
use Rattle.numeric.specs.Vec3.{vector_in_range}
use Rattle.frames.specs.declared.frames.Ned.{Ned}
use Rattle.frames.proofs.FramesLaws.{Promised, given, not_finite, out_of_range}
use Rattle.frames.proofs.frames.north_east_down.Goals as goal
use Rattle.frames.proofs.frames.north_east_down.Lts as lts
use Rattle.frames.proofs.frames.north_east_down.Tie as tie
use Rattle.frames.proofs.frames.north_east_down.Reads as reads

-- places on the way through the function
abbrev Then-is_in_range : Type 0
Then-is_in_range = lts.Then1 tie.the-claims reads.Pre reads.Post

-- both vectors are in range, and the result is the definition's
in-range : (c : Then-is_in_range) → (vector_in_range c.args.position && vector_in_range c.args.displacement) ≡ true
in-range c = rw (← c.is_in_range.ensures, ← c.is_in_range-2.ensures) c.if-is_in_range.true

pub returns-then-all_finite : goal.returns-then-all_finite
returns-then-all_finite c = let n = c in
    let s = n.args in
    let e = n.ned_at-v.ensures in
    let k = rw e at (sym c.all_finite.ensures ∙ c.if-all_finite.true) in
    subst (λ (v : Ned). Promised s.position s.displacement (Ok v)) (sym e) (given s.position s.displacement (in-range n.before.before.before) k)

pub returns-else-all_finite : goal.returns-else-all_finite
returns-else-all_finite c = let n = c in
    let s = n.args in
    let k = rw n.ned_at-v.ensures at (sym c.all_finite.ensures ∙ c.if-all_finite.false) in
    not_finite s.position s.displacement (in-range n.before.before.before) k

pub returns-else-is_in_range : goal.returns-else-is_in_range
returns-else-is_in_range c = let d = c in
    let s = d.args in
    out_of_range s.position s.displacement (rw (← d.is_in_range.ensures, ← c.is_in_range-2.ensures) c.if-is_in_range.false)
