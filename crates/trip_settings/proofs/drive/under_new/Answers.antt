-- `trip_settings::drive::under_new` meets its contract. Assumes nothing.
use Rattle.std.proofs.Common.{rules}
use mathlib.Core.Path.{sym, ◌∙◌}
use Rattle.trip_settings.specs.Drive.{under_new}
use Rattle.trip_settings.proofs.DriveLaws.{new-refused}
use Rattle.trip_settings.proofs.drive.under_new.Goals as goal

pub returns-then-not-settings_pass : goal.returns-then-not-settings_pass
returns-then-not-settings_pass c = new-refused _ _ (sym c.settings_pass.ensures ∙ c.if-not-settings_pass.true)

pub returns-in_err-trip : goal.returns-in_err-trip
unfolding under_new
returns-in_err-trip c = rw (← c.settings_pass.ensures, c.if-not-settings_pass.false) (search rules)

pub returns : goal.returns
unfolding under_new
returns c = rw (← c.settings_pass.ensures, c.if-not-settings_pass.false, c.in_ok-trip.was)
