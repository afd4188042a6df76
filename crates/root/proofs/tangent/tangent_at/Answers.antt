-- `root::tangent::tangent_at` meets its contract: it touches where `touch` says. Assumes nothing.
use Rattle.std.proofs.Common.{◌≡◌, true, false, T, sym, refl, ap, ◌∙◌, subst}
use lib.Ieee.{Float, inf, binary64, le, of_bits}
use Rattle.root.specs.Steps.{touch}
use Rattle.root.proofs.Reading.{by_bits}
use Rattle.root.proofs.Normal.{least, infinity, infinity-is, le-number, normal-bits}
use Rattle.root.proofs.tangent.tangent_at.Goals as goal

module _ (x : Float) where
  touch-below : le least x ≡ false → touch x ≡ of_bits binary64 0
  unfolding touch
  touch-below h = rw h

  touch-beyond : le least x ≡ true → le infinity x ≡ true → touch x ≡ of_bits binary64 0
  unfolding touch
  touch-beyond h k = let e : le (inf false) x ≡ true = ap (λ (y : Float). le y x) (sym infinity-is) ∙ k in rw (h, e)

  touch-normal : le least x ≡ true → le infinity x ≡ false → touch x ≡ x
  unfolding touch
  touch-normal h k = let e : le (inf false) x ≡ false = ap (λ (y : Float). le y x) (sym infinity-is) ∙ k in rw (h, e)

pub returns-then-x-2 : goal.returns-then-x-2
returns-then-x-2 c = let d = c in c.no_tangent.ensures ∙ sym (touch-beyond d.args.x d.if-x.true c.if-x-2.true)

pub float_to_bits-x : goal.float_to_bits-x
float_to_bits-x c = le-number _ c.args.x c.if-x.true

pub from_wide_table-requires : goal.from_wide_table-requires
from_wide_table-requires c = let d = c in (normal-bits d.args.x (subst T (sym d.well_formed.0.1) tt) c.if-x.true c.if-x-2.false).below

pub returns-then-x : goal.returns-then-x
returns-then-x c = let d = c in
    c.from_wide_table.ensures ∙ by_bits d.args.x _ (subst T (sym d.well_formed.0.1) tt) refl ∙ sym (touch-normal d.args.x d.if-x.true c.if-x-2.false)

pub returns : goal.returns
returns c = c.no_tangent-2.ensures ∙ sym (touch-below c.args.x c.if-x.false)
