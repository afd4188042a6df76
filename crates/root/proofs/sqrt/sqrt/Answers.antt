-- `root::sqrt::sqrt` meets its contract: the root of a positive normal number comes from `normal`. Assumes nothing.
use Rattle.std.proofs.Common.{T, sym, refl, ap, ◌∙◌, subst}
use lib.Ieee.{binary64, fits}
use Rattle.root.specs.Root.{root_of}
use Rattle.root.proofs.Reading.{by_bits}
use Rattle.root.proofs.Normal.{le-number, infinite-root, normal-bits}
use Rattle.root.proofs.sqrt.sqrt.Goals as goal
use Rattle.root.proofs.sqrt.sqrt.Lts as lts
use Rattle.root.proofs.sqrt.sqrt.Tie as tie
use Rattle.root.proofs.sqrt.sqrt.Reads as reads

-- places on the way through the function
abbrev Start : Type 0
Start = lts.Start tie.the-claims reads.Pre reads.Post

held : (c : Start) → T (fits binary64 c.args.x)
held c = subst T (sym c.well_formed.0.1) tt

pub returns-then-x-2 : goal.returns-then-x-2
returns-then-x-2 c = infinite-root c.args.x c.if-x-2.true

pub float_to_bits-x : goal.float_to_bits-x
float_to_bits-x c = le-number _ c.args.x c.if-x.true

pub normal-requires : goal.normal-requires
normal-requires c = let d = c in let n = normal-bits d.args.x (held d.before.before) c.if-x.true c.if-x-2.false in (n.from, n.below)

pub returns-then-x : goal.returns-then-x
returns-then-x c = let d = c in c.normal.ensures ∙ ap root_of (by_bits d.args.x _ (held d.before.before.before) refl)
