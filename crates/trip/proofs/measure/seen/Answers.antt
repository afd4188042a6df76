-- `trip::measure::seen` meets its contract. Assumes nothing.
use mathlib.Core.Path.{refl, sym, ap, ◌∙◌, subst}
use native.Mathlib.Omega.{arith}
use lib.Dec.{T}
use lib.Ieee.{binary64, fits}
use Rattle.root.specs.Root.{root_of}
use Rattle.root.proofs.Reading.{by_bits, lt-number}
use Rattle.std.proofs.lemmas.Option.{same_Some}
use Rattle.trip.specs.Steps.{way_of}
use Rattle.trip.proofs.WayLaws.{pattern_in_lem}
use Rattle.trip.proofs.measure.seen.Goals as goal
use Rattle.trip.proofs.measure.seen.Lts as lts
use Rattle.trip.proofs.measure.seen.Tie as tie
use Rattle.trip.proofs.measure.seen.Reads as reads

-- places on the way through the function
abbrev Start : Type 0
Start = lts.Start tie.the-claims reads.Pre reads.Post

held : (c : Start) → T (fits binary64 c.args.square)
held c = subst T (sym c.well_formed.0.1) tt

pub guess-a-requires : goal.guess-a-requires
guess-a-requires c = let s = c in omega (arith, (pattern_in_lem s.args.square (held s.before.before) c.if-square.true c.if-square-2.true).1)

pub is_certain-requires : goal.is_certain-requires
is_certain-requires c = let d = c in
    let s = d in
    let p = pattern_in_lem s.args.square (held s.before.before.before) d.if-square.true d.if-square-2.true in
    (p.0, p.1, c.guess-a.ensures)

pub returns-then-is_certain : goal.returns-then-is_certain
returns-then-is_certain c = let s = c in
    λ way e. sym (same_Some _ _ e) ∙ c.is_certain.ensures c.if-is_certain.true
    ∙ ap (λ x. way_of (root_of x)) (by_bits s.args.square _ (held s.before.before.before.before.before) refl)
