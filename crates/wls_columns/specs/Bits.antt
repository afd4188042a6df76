-- A caller's doubles after the factor: its patterns, or unchanged to the last bit. Definitions only.
use Rattle.std.specs.Prelude.{ℕ, List, map}
use Rattle.numeric.specs.Order.{pattern_of}
use Rattle.cholesky.specs.Factor.{Factored, Refused, Lower}

abbrev pub patterns_after : Factored → List (List ℕ) → List (List ℕ)
patterns_after Refused before = before
patterns_after (Lower l) before = map (map pattern_of) l
