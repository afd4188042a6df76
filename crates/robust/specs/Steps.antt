-- The answer of a round inside an estimate. Definitions only.
use Rattle.std.specs.Prelude.{Result, Ok, Err, List, Float}
use Rattle.numeric.specs.declared.refusal.Refusal.{Refusal}
use Rattle.robust.specs.Round.{RoundOutcome, Refused, Solved}

-- the answer of an outcome: its step, or the refusal
abbrev pub stepping_of : RoundOutcome → Result (List Float) Refusal
stepping_of (Refused r) = Err r
stepping_of (Solved r) = Ok r.step
