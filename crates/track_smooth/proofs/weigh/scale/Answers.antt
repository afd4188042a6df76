use Rattle.track_smooth.proofs.Weights.{scale-near}
use Rattle.track_smooth.specs.Track.{huber_of}
use Rattle.numeric.specs.Real.{square}
use lib.Ieee.Fits.{add-fits}
use lib.Ieee.{binary64}
use mathlib.Core.Path.{◌∙◌, ap}
use Rattle.track_smooth.proofs.weigh.scale.Goals as goal

pub returns-then-q-most : goal.returns-then-q-most
unfolding square
returns-then-q-most c = scale-near _ _ _ c.requires.2 c.in-Some.is (add-fits binary64 _ _) c.if-q-most.true

pub returns : goal.returns
unfolding square
returns c = c.huber.ensures ∙ ap (huber_of _) c.sqrt.ensures
