-- A fix looks at the counted observations alone, and refuses every count of rounds above 50 alike. Assumes nothing.
use Rattle.std.specs.Prelude.{Err}
use mathlib.Core.Path.{◌≡◌}
use mathlib.Core.Bool.{false, cond, and-false}
use Prim.Native.Nat.{◌<◌}
use borrow.Author.Tests.{lt-ltb}
use lib.Dec.{ltb}
use Rattle.numeric.specs.declared.vec3.Vec3.{Vec3}
use Rattle.numeric.specs.declared.refusal.Refusal.TheVariants.{TooMany, SettingOutOfRange}
use Rattle.records.specs.Record.{counted_observations}
use Rattle.numeric.specs.Rules.{ruled}
use Rattle.wls.specs.Valid.{fix_settings_pass, fix_input_rules}
use Rattle.wls.specs.Front.{fix_rules}
use Rattle.records.specs.declared.record.Observations.{Observations}
use Rattle.wls.specs.declared.fix.Settings.{Settings as FixSettings}
use Rattle.wls.specs.Fix as fix
use Rattle.wls.specs.Fix.{fix_of}

module _ (o p : Observations) (guess : Vec3) (settings : FixSettings) (m : o.count ≡ p.count) (e : counted_observations o ≡ counted_observations p) where
  fix-rules-counted : fix_rules o guess settings ≡ fix_rules p guess settings
  unfolding fix_rules fix_input_rules
  fix-rules-counted = rw (e, m)

  pub fix-counted : fix_of (record { observations = o; guess = guess; settings = settings }) ≡ fix_of (record { observations = p; guess = guess; settings = settings })
  unfolding fix_of
  fix-counted = rw (fix-rules-counted, e)

fix-many : (s : FixSettings) → 50 < s.rounds → fix_settings_pass s ≡ false
unfolding fix_settings_pass
fix-many s h = rw (lt-ltb 50 s.rounds h, and-false)

pub fix-many-rounds : (i : fix.Input) → 50 < i.settings.rounds → fix_of i ≡ cond (ltb 64 i.observations.count) (Err TooMany) (Err SettingOutOfRange)
unfolding fix_of fix_rules fix_input_rules ruled
fix-many-rounds i h = rw (fix-many i.settings h)
