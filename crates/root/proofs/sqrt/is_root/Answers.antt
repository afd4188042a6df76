-- `root::sqrt::is_root` meets its contract: the exponent is the root's and the digits were tested by `agrees`. Assumes nothing.
use Rattle.std.proofs.Common.{◌≡◌, ◌+◌, ◌*◌, ◌/◌, ◌%◌, ◌^◌, T, sym, refl, ap, ◌∙◌, subst, arith}
use mathlib.Core.Bool.{false≢true}
use lib.Ieee.{binary64, fits, to_bits}
use Rattle.root.specs.Root.{root_of}
use Rattle.root.proofs.Reading.{by_bits}
use Rattle.root.proofs.Special.{is_number}
use Rattle.root.proofs.Normal.{le-number, Normal, normal-bits}
use Rattle.root.proofs.NormalRoot.{room, found}
use Rattle.root.proofs.sqrt.is_root.Goals as goal
use Rattle.root.proofs.sqrt.is_root.Lts as lts
use Rattle.root.proofs.sqrt.is_root.Tie as tie
use Rattle.root.proofs.sqrt.is_root.Reads as reads

-- places on the way through the function
abbrev Start : Type 0
Start = lts.Start tie.the-claims reads.Pre reads.Post

held_x : (c : Start) → T (fits binary64 c.args.x)
held_x c = subst T (sym c.well_formed.0.1) tt

held-s : (c : Start) → T (fits binary64 c.args.s)
held-s c = subst T (sym c.well_formed.1.0.1) tt

bits : (c : goal.Else-s) → Normal (to_bits binary64 c.args.x)
bits c = normal-bits c.args.x (held_x c.before.before.before) c.if-x.true c.if-x-2.false

pub returns-then-x-2 : goal.returns-then-x-2
returns-then-x-2 c = λ e. absurd (false≢true e)

pub returns-then-s : goal.returns-then-s
returns-then-s c = λ e. absurd (false≢true e)

pub float_to_bits-b : goal.float_to_bits-b
float_to_bits-b c = le-number _ c.args.x c.if-x.true

pub float_to_bits-n : goal.float_to_bits-n
float_to_bits-n c = is_number c.args.s c.if-s.false

pub overflow_add-b : goal.overflow_add-b
overflow_add-b c = omega (arith, bits c)

pub returns-then-n-b : goal.returns-then-n-b
returns-then-n-b c = λ e. absurd (false≢true e)

pub agrees-requires : goal.agrees-requires
agrees-requires c = omega (arith, room (to_bits binary64 c.args.x), c.radicand-w.ensures)

pub returns-then-x : goal.returns-then-x
returns-then-x c = let d = c in
    let b = to_bits binary64 d.args.x in
    let n = to_bits binary64 d.args.s in
    let k = bits c.before.before.before in
    let sum : n ≡ (b / 2 ^ 52 + 1023) / 2 * 2 ^ 52 + n % 2 ^ 52 = omega (arith, c.if-n-b.false) in
    λ e. sym (by_bits d.args.s _ (held-s d.before.before.before.before.before.before) sum)
    ∙ found b n c.radicand-w.result k.from k.below c.radicand-w.ensures (c.agrees.ensures e)
    ∙ ap root_of (by_bits d.args.x b (held_x d.before.before.before.before.before.before) refl)

pub returns : goal.returns
returns c = λ e. absurd (false≢true e)
