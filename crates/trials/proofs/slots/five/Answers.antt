use mathlib.Core.Path.{◌≡◌, refl, ap, ◌∙◌}
use mathlib.Core.Bool.{Bool, true, ◌&&◌}
use lib.Dec.{eqb}
use Rattle.clocks.specs.Clocks.{none, given, slot}
use Rattle.clocks.specs.declared.clocks.Clocks.{Clocks}
use Rattle.trials.proofs.slots.five.Goals as goal

abbrev test : Clocks → Bool
test k = ((eqb (slot k 6) 3 && eqb (slot k 1) 4) && eqb (slot k 9) 5) && eqb (slot k 7) 5

passes : test (given (given (given (given (given none 6) 1) 6) 9) 7) ≡ true
unfolding given
passes = refl

pub returns : goal.returns
returns c = let one = c.given.ensures ∙ ap (λ (k : Clocks). given k 6) c.new.ensures in
    let two = c.given-2.ensures ∙ ap (λ (k : Clocks). given k 1) one in
    let three = c.given-3.ensures ∙ ap (λ (k : Clocks). given k 6) two in
    let more = c.given-4.ensures ∙ ap (λ (k : Clocks). given k 9) three in
    let all = c.given-k.ensures ∙ ap (λ (k : Clocks). given k 7) more in
    rw (c.slot.ensures, c.slot-2.ensures, c.slot-3.ensures, c.slot-4.ensures) (ap test all ∙ passes)
