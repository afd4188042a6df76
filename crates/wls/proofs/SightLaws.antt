-- Rule 15 of the rows of a fit, one row after the other, and a round that it refuses or lets pass. Assumes nothing.
use Rattle.std.specs.Prelude.{Result, Ok, Err}
use mathlib.Core.Path.{◌≡◌, refl, sym, ap, ◌∙◌}
use mathlib.Core.Bool.{cond}
use mathlib.Core.List.{List}
use Prim.Native.Nat.{ℕ, ◌+◌, ◌≤◌, ◌<◌}
use native.Mathlib.Omega.{arith}
use lib.ListN.{length, get_or, take, drop}
use lib.Ieee.{Float}
use Rattle.lists.proofs.Walk.{left_end, left_at}
use Rattle.numeric.specs.Sight.{on_receiver, geometry}
use Rattle.numeric.specs.declared.refusal.Refusal.{Refusal}
use Rattle.numeric.specs.declared.refusal.Refusal.TheVariants.{OnReceiver}
use Rattle.numeric.specs.declared.sight.Sight.{Sight}
use Rattle.numeric.proofs.SightLaws.{seen_by, refused-by as not-seen-by}
use Rattle.robust.specs.Round.{Round, RoundOutcome, Refused as NoRound, Solved}
use Rattle.robust.specs.Steps.{stepping_of}
use Rattle.clocks.specs.declared.clocks.Clocks.{Clocks}
use Rattle.records.specs.declared.record.Observation.{Observation}
use Rattle.records.proofs.RecordLaws.{blank_observation}
use Rattle.numeric.specs.Rules.{ruled}
use Rattle.estimate_rounds.specs.Rounds.{vector}
use Rattle.estimate_rounds.proofs.RulesLaws.{checked, refused-by, passed-by, passed-of}
use Rattle.wls.specs.Fix.{sight_at, sight_rules, round_at}
use Rattle.wls.specs.Before.{bare}
use Rattle.wls.specs.declared.fix.Settings.{Settings}

-- what is left to test after j of the first n rows at the state s
pub record Sights (os : List Observation) (n : ℕ) (s : List Float) (j : ℕ) : Type 0 where
  pub left : checked (sight_rules (drop j (take n os)) s) ≡ checked (sight_rules (take n os) s)

module _ (os : List Observation) (n : ℕ) (s : List Float) where
  pub sights-start : Sights os n s 0
  sights-start = record { left = refl }

  module _ (fits : n ≤ length os) (j : ℕ) (h : Sights os n s j) where
    pub sights-end : n ≤ j → (Ok tt) ≡ checked (sight_rules (take n os) s)
    unfolding sight_rules ruled
    sights-end l = rw (left_end os n fits j l) at h.left

    module _ (l : j < n) where
      abbrev here : Observation
      here = get_or os j blank_observation

      turn : cond (on_receiver (sight_at s here).range) (Err OnReceiver) (checked (sight_rules (drop (j + 1) (take n os)) s)) ≡ checked (sight_rules (take n os) s)
      unfolding sight_rules ruled
      turn = rw (left_at os n fits j blank_observation l) at h.left

      pub sights-next : {r : Result Sight Refusal} {g : Sight} → r ≡ geometry here.satellite (vector s) → r ≡ Ok g → Sights os n s (j + 1)
      sights-next e q = record { left = rw (seen_by here.satellite (vector s) (sym e ∙ q)).range at turn }

      pub sights-stop : {r : Result Sight Refusal} {q : Refusal} → r ≡ geometry here.satellite (vector s) → r ≡ Err q → Err q ≡ checked (sight_rules (take n os) s)
      sights-stop e q = let n = not-seen-by here.satellite (vector s) (sym e ∙ q) in rw n.0 (rw n.1 at turn)

-- ---- the round at the state x
module _ (settings : Settings) (k : Clocks) (os : List Observation) (x : List Float) where
  abbrev plain : RoundOutcome
  plain = bare settings k os x

  pub round-refused : {r : Refusal} → Err r ≡ checked (sight_rules os x) → Err r ≡ stepping_of (round_at settings k os x)
  unfolding round_at
  round-refused {r} e = ap stepping_of (refused-by NoRound plain (sight_rules os x) e)

  pub round-passed : (Ok tt) ≡ checked (sight_rules os x) → round_at settings k os x ≡ plain
  unfolding round_at
  round-passed e = passed-by NoRound plain (sight_rules os x) e

  -- a round that is solved has been let pass
  pub round-solved : (r : Round) → round_at settings k os x ≡ Solved r → plain ≡ Solved r
  unfolding round_at
  round-solved r e = sym (passed-by NoRound plain (sight_rules os x) (passed-of NoRound plain (sight_rules os x) e never)) ∙ e
    where
      never : (q : Refusal) → NoRound q ≡ Solved r → ⊥
      never q h = let z : ◌≡◌ {A = ℕ} 0 1 = cc in omega arith
