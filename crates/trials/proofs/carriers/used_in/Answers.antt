use mathlib.Core.Path.{sym, ap, ◌∙◌}
use mir.Facts.{to_z-of_z}
use lib.IntN.{ℤ}
use Rattle.tdcp.specs.Displacement.{displacement_of}
use Rattle.trials.specs.Steps.{six_in, used_of}
use Rattle.trials.proofs.carriers.used_in.Goals as goal

pub returns-in-Ok : goal.returns-in-Ok
returns-in-Ok c = ap used_of (sym c.in-Ok.is ∙ c.delta_position-answer.ensures.answer)
    ∙ ap (λ (z : ℤ). used_of (displacement_of (six_in z))) (to_z-of_z c.ranges.state)

pub returns-in-Err : goal.returns-in-Err
returns-in-Err c = ap used_of (sym c.in-Err.is ∙ c.delta_position-answer.ensures.answer)
    ∙ ap (λ (z : ℤ). used_of (displacement_of (six_in z))) (to_z-of_z c.ranges.state)
