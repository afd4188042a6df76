use Rattle.numeric.specs.Refusal.{answer_number}
use Rattle.std.specs.Prelude.{Result, Ok}
use Rattle.numeric.specs.declared.refusal.Refusal.{Refusal}
use mathlib.Core.Path.{◌≡◌, refl, sym, ap, ◌∙◌}
use borrow.Author.Tests.{eq-eqb}
use lib.Ieee.{Float, binary64, of_bits, of_int}
use Rattle.exact.specs.Float.{whole}
use Rattle.numeric.specs.Order.{pattern_of}
use Rattle.corrections_query.specs.Query.{query_in, pattern_after}
use Rattle.trials.specs.Marked.{two_samples}
use Rattle.trials.proofs.Trials.{half-way}
use Rattle.trials.proofs.corrections.bridged.Goals as goal

ninety : of_bits binary64 0x4056_8000_0000_0000 ≡ whole 90
unfolding of_bits of_int
ninety = refl

two : of_bits binary64 0x4000_0000_0000_0000 ≡ whole 2
unfolding of_bits of_int
two = refl

two-metres : query_in 1 2 2 two_samples (of_bits binary64 0x4056_8000_0000_0000) 1 5 1 (whole 15) ≡ Ok (whole 2)
two-metres = ap (λ (g : Float). query_in 1 2 2 two_samples g 1 5 1 (whole 15)) ninety ∙ half-way

pub returns : goal.returns
returns c = let a = c.half_way-answer.ensures in
    let m = a.metres_are ∙ ap (λ (q : Result Float Refusal). pattern_after q 0) two-metres ∙ ap pattern_of (sym two) ∙ sym c.pattern.ensures in
    rw (eq-eqb _ _ (a.number_is ∙ ap answer_number two-metres), eq-eqb _ _ m)
