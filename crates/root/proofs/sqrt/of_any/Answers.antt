-- `root::root::of_any` meets its contract. Assumes nothing.
use Rattle.std.proofs.Common.{T, sym, refl, ap, ◌∙◌, subst, inl, inr}
use lib.Ieee.{binary64, fits}
use Rattle.root.specs.Root.{root_of}
use Rattle.root.proofs.Reading.{by_bits}
use Rattle.root.proofs.Special.{nan-root, is_number, zero-root, inf-root, negative-root}
use Rattle.root.proofs.sqrt.of_any.Goals as goal
use Rattle.root.proofs.sqrt.of_any.Lts as lts
use Rattle.root.proofs.sqrt.of_any.Tie as tie
use Rattle.root.proofs.sqrt.of_any.Reads as reads

-- places on the way through the function
abbrev Start : Type 0
Start = lts.Start tie.the-claims reads.Pre reads.Post

held : (c : Start) → T (fits binary64 c.args.x)
held c = subst T (sym c.well_formed.0.1) tt

pub returns-then-x : goal.returns-then-x
returns-then-x c = nan-root c.args.x c.if-x.true

pub float_to_bits-b : goal.float_to_bits-b
float_to_bits-b c = is_number c.args.x c.if-x.false

pub returns-then-b-eq9218868437227405312 : goal.returns-then-b-eq9218868437227405312
returns-then-b-eq9218868437227405312 c = let d = c in inf-root d.args.x (held d.before.before.before) c.if-b-eq9218868437227405312.true

pub returns-then-b : goal.returns-then-b
returns-then-b c = let d = c in zero-root d.args.x (held d.before.before.before.before) (inr c.if-b.true)

pub returns-then-b-ge9218868437227405312 : goal.returns-then-b-ge9218868437227405312
returns-then-b-ge9218868437227405312 c = let d = c in negative-root d.args.x (held d.before.before.before.before) c.if-b.false c.if-b-eq9218868437227405312.false c.if-b-ge9218868437227405312.true

pub returns-then-b-eq0 : goal.returns-then-b-eq0
returns-then-b-eq0 c = let d = c in zero-root d.args.x (held d.before.before.before) (inl c.if-b-eq0.true)

pub returns : goal.returns
returns c = let d = c in c.positive.ensures ∙ ap root_of (by_bits d.args.x _ (held d.before.before.before.before) refl)
