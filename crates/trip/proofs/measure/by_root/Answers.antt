-- `trip::measure::by_root` meets its contract. Assumes nothing.
use mathlib.Core.Path.{◌≡◌, sym, subst}
use mathlib.Core.Bool.{true}
use lib.Dec.{T}
use lib.Ieee.{binary64, fits, le, of_bits, of_int}
use Rattle.exact.specs.Float.{whole}
use Rattle.root.specs.Root.{root_of}
use Rattle.root.proofs.Theorems.{root_of-root}
use Rattle.trip.proofs.MeasureLaws.{root-from-zero}
use Rattle.trip.proofs.WayLaws.{way-within, way-beyond}
use Rattle.trip.proofs.measure.by_root.Goals as goal
use Rattle.trip.proofs.measure.by_root.Lts as lts
use Rattle.trip.proofs.measure.by_root.Tie as tie
use Rattle.trip.proofs.measure.by_root.Reads as reads

-- places on the way through the function
abbrev Start : Type 0
Start = lts.Start tie.the-claims reads.Pre reads.Post

held : (c : Start) → T (fits binary64 c.args.square)
held c = subst T (sym c.well_formed.0.1) tt

pub millimetres-requires : goal.millimetres-requires
unfolding of_bits of_int
millimetres-requires c = let q = c in
    let s = q in
    let short : le q.sqrt-length.result (whole 1000) ≡ true = c.if-length.true in
    (rw q.sqrt-length.ensures (root-from-zero s.args.square (root_of s.args.square) (whole 1000) (root_of-root s.args.square (held s.before.before)) (rw q.sqrt-length.ensures at short)), short)

pub returns-then-length : goal.returns-then-length
unfolding of_bits of_int
returns-then-length c = let q = c in rw (c.millimetres.ensures, q.sqrt-length.ensures) (way-within (root_of q.args.square) (rw q.sqrt-length.ensures at c.if-length.true))

pub returns : goal.returns
unfolding of_bits of_int
returns c = let q = c in way-beyond (root_of q.args.square) (rw q.sqrt-length.ensures at c.if-length.false)
