-- `wls::valid::check_fix` meets its contract: each answer follows from the tests on the way to it. Assumes nothing.
use borrow.Author.Tests.{lt-ltb, le-ltb}
use Rattle.numeric.specs.Rules.{ruled}
use Rattle.wls.specs.Valid.{fix_input_rules}
use Rattle.wls.proofs.valid.check_fix.Goals as goal

pub returns-then-observations-gt64 : goal.returns-then-observations-gt64
unfolding fix_input_rules ruled
returns-then-observations-gt64 c = simp (lt-ltb _ _ c.if-observations-gt64.true)

pub returns-then-not-fix_settings_pass : goal.returns-then-not-fix_settings_pass
unfolding fix_input_rules ruled
returns-then-not-fix_settings_pass c = simp (le-ltb _ _ c.if-observations-gt64.false, rw c.fix_settings_pass.ensures at c.if-not-fix_settings_pass.true)

pub returns-then-not-all_sound_observations-is_in_range : goal.returns-then-not-all_sound_observations-is_in_range
unfolding fix_input_rules ruled
returns-then-not-all_sound_observations-is_in_range c = simp (le-ltb _ _ c.if-observations-gt64.false, rw c.fix_settings_pass.ensures at c.if-not-fix_settings_pass.false, rw (c.all_sound_observations.ensures, c.is_in_range.ensures) at c.if-not-all_sound_observations-is_in_range.true)

pub returns : goal.returns
unfolding fix_input_rules ruled
returns c = simp (le-ltb _ _ c.if-observations-gt64.false, rw c.fix_settings_pass.ensures at c.if-not-fix_settings_pass.false, rw (c.all_sound_observations.ensures, c.is_in_range.ensures) at c.if-not-all_sound_observations-is_in_range.false)
