use mathlib.Core.Path.{◌≡◌, refl, ap, ◌∙◌}
use mathlib.Core.Bool.{true}
use lib.Ieee.{Float, binary64, of_bits, eq}
use Rattle.root.specs.Root.{root_of}
use Rattle.trials.proofs.numbers.root_of_four.Goals as goal

holds : eq (root_of (of_bits binary64 0x4010_0000_0000_0000)) (of_bits binary64 0x4000_0000_0000_0000) ≡ true
unfolding root_of eq of_bits
holds = refl

pub returns : goal.returns
returns c = ap (λ (x : Float). eq x (of_bits binary64 0x4000_0000_0000_0000)) c.sqrt.ensures ∙ holds
