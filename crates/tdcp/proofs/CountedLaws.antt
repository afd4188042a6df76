-- A displacement looks at the counted carriers alone, and refuses every count of rounds above 50 alike. Assumes nothing.
use Rattle.std.specs.Prelude.{Err}
use mathlib.Core.Path.{◌≡◌, refl, ap, ◌∙◌}
use mathlib.Core.Bool.{Bool, false, cond, and-false, ◌||◌, true}
use Prim.Native.Nat.{◌<◌}
use borrow.Author.Tests.{lt-ltb}
use lib.Dec.{ltb}
use Rattle.numeric.specs.declared.vec3.Vec3.{Vec3}
use Rattle.numeric.specs.declared.refusal.Refusal.TheVariants.{TooMany, SettingOutOfRange}
use Rattle.records.specs.Record.{counted_carriers}
use Rattle.records.specs.declared.record.Epoch.{Epoch}
use Rattle.records.specs.declared.pair.Profile.{Profile}
use Rattle.numeric.specs.Rules.{ruled}
use Rattle.tdcp.specs.Valid.{settings_pass, epoch_rules}
use Rattle.tdcp.specs.Displacement.{Input, input, call_fit, displacement_of}
use Rattle.tdcp.specs.Rated.{quality, answered_by, answered_of}
use Rattle.tdcp.specs.declared.displacement.Settings.{Settings}
use Rattle.tdcp.specs.declared.displacement.Interval.{Interval}

module _ (p q c d : Epoch) (since : Interval) (receiver : Vec3) (settings : Settings) (profile : Profile)
    (m : p.count ≡ q.count) (n : c.count ≡ d.count) (e : counted_carriers p ≡ counted_carriers q) (f : counted_carriers c ≡ counted_carriers d) where
  rules-counted : epoch_rules p c receiver settings ≡ epoch_rules q d receiver settings
  unfolding epoch_rules
  rules-counted = rw (e, f, m, n)

  pub displacement-counted : displacement_of (input p c since receiver settings profile) ≡ displacement_of (input q d since receiver settings profile)
  unfolding displacement_of
  displacement-counted = rw (rules-counted, e, f)

  pub answer-counted : (wanted : Bool) → answered_of wanted (input p c since receiver settings profile) ≡ answered_of wanted (input q d since receiver settings profile)
  unfolding answered_of quality call_fit
  answer-counted wanted = rw (displacement-counted, e, f)

pub many-rounds : (s : Settings) → 50 < s.rounds → settings_pass s ≡ false
unfolding settings_pass
many-rounds s h = rw (lt-ltb 50 s.rounds h, and-false)

pub displacement-many-rounds : (i : Input) → 50 < i.settings.rounds
    → displacement_of i ≡ cond (ltb 64 i.previous.count || ltb 64 i.current.count) (Err TooMany) (Err SettingOutOfRange)
unfolding displacement_of epoch_rules ruled
displacement-many-rounds i h = rw (many-rounds i.settings h)

pub answer-many-rounds : (wanted : Bool) (i : Input) → 50 < i.settings.rounds
    → answered_of wanted i ≡ cond (ltb 64 i.previous.count || ltb 64 i.current.count) (Err TooMany) (Err SettingOutOfRange)
unfolding answered_of
answer-many-rounds wanted i h = ap (answered_by wanted (quality i)) (displacement-many-rounds i h) ∙ go wanted (ltb 64 i.previous.count || ltb 64 i.current.count)
  where
    go : (w b : Bool) → answered_by w (quality i) (cond b (Err TooMany) (Err SettingOutOfRange)) ≡ cond b (Err TooMany) (Err SettingOutOfRange)
    go true true = refl
    go true false = refl
    go false true = refl
    go false false = refl
