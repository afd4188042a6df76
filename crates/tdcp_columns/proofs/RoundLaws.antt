-- The settings that the code makes, with at most 51 rounds, stand for those that were handed over. Assumes nothing.
use mathlib.Core.Path.{◌≡◌}
use Prim.Native.Nat.{ℕ, min}
use mathlib.Core.Bool.{Bool}
use mathlib.Core.List.{List}
use lib.Ieee.{Float}
use Rattle.numeric.specs.declared.vec3.Vec3.{Vec3}
use Rattle.records.specs.declared.record.Epoch.{Epoch}
use Rattle.records.specs.declared.pair.Profile.{Profile}
use Rattle.estimate_rounds.proofs.RoundsLaws.{capped}
use Rattle.tdcp.specs.Displacement.{input}
use Rattle.tdcp.specs.Rated.{answered_of}
use Rattle.tdcp.specs.declared.displacement.Interval.{Interval}
use Rattle.tdcp.proofs.CountedLaws.{answer-many-rounds}
use Rattle.tdcp_columns.specs.Displacement.{displacement_settings}

pub answer-capped : (p q : Epoch) (since : Interval) (receiver : Vec3) (s : List Float) (rounds : ℕ) (profile : Profile) (wanted : Bool)
    → answered_of wanted (input p q since receiver (displacement_settings s (min rounds 51)) profile) ≡ answered_of wanted (input p q since receiver (displacement_settings s rounds) profile)
answer-capped p q since receiver s rounds profile wanted =
    capped (λ (k : ℕ). answered_of wanted (input p q since receiver (displacement_settings s k) profile))
    (λ k h. answer-many-rounds wanted (input p q since receiver (displacement_settings s k) profile) h) rounds
