-- `wls::fix::found_at` meets its contract. Assumes nothing.
use mathlib.Core.Path.{refl, sym, ◌∙◌}
use lib.ListN.{length}
use Rattle.lists.proofs.Walk.{places-length}
use Rattle.normal_equations.specs.Steps.{row_in}
use Rattle.wls.proofs.FixCall.{found-no, found-refused, found-rated}
use Rattle.wls.proofs.fix.found_at.Goals as goal

pub returns-in-Ok : goal.returns-in-Ok
returns-in-Ok c = let s = c.args in
    let d = sym c.in-Ok.is ∙ c.dilution_of.ensures.answer in
    λ sights chi e. c.rated.ensures ∙ found-rated s.n _ sights chi s.s _ _ _ refl refl refl (sym c.is_finite.ensures ∙ c.if-is_finite.true) _ d _ (sym (places-length (row_in _) (length s.rows.residual.now))) e

pub returns-in_default : goal.returns-in_default
returns-in_default c = let s = c.args in
    let d = sym c.in_default.is ∙ c.dilution_of.ensures.answer in
    λ sights chi e. found-refused s.n _ sights chi s.s _ _ _ refl refl refl (sym c.is_finite.ensures ∙ c.if-is_finite.true) _ d

pub returns-else-is_finite : goal.returns-else-is_finite
returns-else-is_finite c = let s = c.args in
    λ sights chi e. found-no s.n _ sights chi s.s _ _ _ refl refl refl (sym c.is_finite.ensures ∙ c.if-is_finite.false)
