-- `trials::track::not_held` meets its contract. Assumes nothing.
use mathlib.Core.Path.{ap, ◌∙◌}
use Rattle.track_smooth.specs.Answer.{Tracked, track_answer}
use Rattle.numeric.specs.Refusal.{answer_number}
use Rattle.track_smooth.proofs.Trials.{not_held}
use Rattle.trials.proofs.track.not_held.Goals as goal

pub returns : goal.returns
returns c = rw (c.one_anchor.ensures.number_is ∙ ap (λ (t : Tracked). answer_number (track_answer t)) not_held)
