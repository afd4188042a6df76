-- The calls on columns beside one another: the displacement between two times beside the one with their seconds. Assumes nothing.
use Rattle.numeric.specs.Refusal.{answer_number}
use Rattle.std.specs.Prelude.{Err}
use mathlib.Core.Path.{◌≡◌, sym, ap, ap₂, ◌∙◌}
use mathlib.Core.Bool.{true, false, cond, ◌&&◌}
use mathlib.Core.List.{List}
use Prim.Native.Nat.{ℕ}
use Rattle.lists.specs.Memory.{LentNumbers}
use Rattle.numeric.specs.declared.vec3.Vec3.{Vec3}
use Rattle.numeric.specs.declared.refusal.Refusal.TheVariants.{TooMany, BadTime}
use Rattle.time.specs.Time.{is_dated, seconds_between}
use Rattle.time.specs.declared.time.GpsTime.{GpsTime}
use Rattle.records.specs.Carriers.{CarrierColumns, epoch_of}
use Rattle.records.specs.declared.pair.Profile.{Profile}
use Rattle.numeric.specs.Rules.{Rule, ruled}
use Rattle.numeric.proofs.RulesLaws.{ruled-append}
use Rattle.tdcp.specs.Valid.{epoch_rules, interval_rules}
use Rattle.tdcp.specs.Displacement.{displacement_of}
use Rattle.tdcp.specs.declared.displacement.Settings.{Settings}
use Rattle.tdcp.specs.declared.displacement.Interval.{Interval}
use Rattle.tdcp.proofs.IntervalLaws.{at-dt}
use Rattle.tdcp_columns.specs.Displacement.{Lent, lent, lent_input, is_fit, columns_displaced, delta_after, counts_after, DisplacementAnswers, Alike}

-- two calls whose displacements are one are alike
pub alike : (l m : Lent) {number number' : ℕ} {delta delta' counts counts' : LentNumbers} → columns_displaced l ≡ columns_displaced m
    → DisplacementAnswers l number delta counts → DisplacementAnswers m number' delta' counts' → Alike number number' delta delta' counts counts'
alike l m {delta = delta} {counts = counts} e a b =
    record {
      numbers = a.leaves.number_is ∙ ap answer_number e ∙ sym b.leaves.number_is;
      deltas = λ same. a.leaves.delta-is ∙ ap₂ delta_after e same ∙ sym b.leaves.delta-is;
      counted = λ same. a.leaves.counts-are ∙ ap₂ counts_after e same ∙ sym b.leaves.counts-are;
    }

module _ (previous : CarrierColumns) (m : ℕ) (current : CarrierColumns) (n : ℕ) (s t : GpsTime) (receiver : Vec3) (settings : Settings) (profile : Profile) where
  abbrev pub between : Lent
  between = lent previous m current n (Interval.Between s t) receiver settings profile

  abbrev pub apart : Lent
  apart = lent previous m current n (Interval.Seconds (seconds_between t s)) receiver settings profile

  same-displacement : (is_dated t && is_dated s) ≡ true → columns_displaced between ≡ columns_displaced apart
  unfolding columns_displaced
  same-displacement e = rw (at-dt (epoch_of previous m) (epoch_of current n) s t receiver settings profile e)

  -- with two valid times, the call with dt the seconds between them
  pub between-apart : (is_dated t && is_dated s) ≡ true → {number number' : ℕ} {delta delta' counts counts' : LentNumbers}
      → DisplacementAnswers between number delta counts → DisplacementAnswers apart number' delta' counts' → Alike number number' delta delta' counts counts'
  between-apart e a b = alike between apart (same-displacement e) a b

  abbrev rules : List Rule
  rules = epoch_rules (epoch_of previous m) (epoch_of current n) receiver settings

  thirteen : (is_dated t && is_dated s) ≡ false → displacement_of (lent_input between) ≡ ruled Err rules (Err BadTime)
  unfolding displacement_of interval_rules ruled
  thirteen e = ruled-append Err _ rules _ ∙ rw e

  -- otherwise the number of 2 to 4 where one of them applies, and 13 where none does
  pub between-refused : (is_dated t && is_dated s) ≡ false → columns_displaced between ≡ cond (is_fit between) (ruled Err rules (Err BadTime)) (Err TooMany)
  unfolding columns_displaced
  between-refused e = rw (thirteen e)
