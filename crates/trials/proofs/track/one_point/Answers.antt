-- `trials::track::one_point` meets its contract. Assumes nothing.
use mathlib.Core.Path.{◌≡◌, refl, ap, ◌∙◌}
use mathlib.Core.Bool.{Bool, true, ◌&&◌}
use mathlib.Core.List.{List, [], ◌∷◌}
use Prim.Native.Nat.{ℕ}
use lib.Dec.{eqb}
use lib.ListN.{get_or}
use lib.Ieee.{is_nan, to_bits, of_int}
use Rattle.numeric.specs.Order.{pattern_of}
use Rattle.exact.specs.Float.{whole}
use Rattle.track_smooth.specs.Answer.{Tracked, Points, track_answer, track_result_after}
use Rattle.numeric.specs.Refusal.{answer_number}
use Rattle.track_smooth.proofs.Trials.{one-point}
use Rattle.trials.specs.Steps.{Tells}
use Rattle.trials.proofs.track.one_point.Goals as goal

abbrev test : ℕ → List ℕ → Bool
test n r = ((eqb n 0 && eqb (get_or r 0 0) 0x4014_0000_0000_0000) && eqb (get_or r 1 0) 0x4018_0000_0000_0000) && eqb (get_or r 2 0) 0x401C_0000_0000_0000

passes : (r : List ℕ) → test 0 (track_result_after (Points (whole 5 ∷ whole 6 ∷ whole 7 ∷ [])) r) ≡ true
unfolding pattern_of is_nan to_bits of_int
passes r = refl

-- the number n and the result r' of a call that gives the point
found : (n : ℕ) (r r' : List ℕ) (t : Tracked) → t ≡ Points (whole 5 ∷ whole 6 ∷ whole 7 ∷ []) → Tells t r n r' → test n r' ≡ true
found n r r' t e h =
    ap (λ (k : ℕ). test k r') (h.number_is ∙ ap (λ (t : Tracked). answer_number (track_answer t)) e)
    ∙ ap (test 0) (h.result-is ∙ ap (λ (t : Tracked). track_result_after t r) e)
    ∙ passes r

pub returns : goal.returns
returns c = found _ _ _ _ one-point c.one_anchor-number.ensures
