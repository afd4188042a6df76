-- `tdcp::valid::seconds_of` meets its contract: each answer follows from the tests on the way to it. Assumes nothing.
use mathlib.Core.Path.{sym, ◌∙◌}
use Rattle.std.proofs.lemmas.Result.{err_from_is_err_and}
use Rattle.numeric.specs.Rules.{ruled}
use Rattle.tdcp.specs.Steps.{given_rules}
use Rattle.tdcp.proofs.IntervalLaws.{not_timed, bad_interval_lem, good_interval}
use Rattle.tdcp.proofs.valid.seconds_of.Goals as goal

pub returns-then-not-settings_pass : goal.returns-then-not-settings_pass
unfolding given_rules ruled
returns-then-not-settings_pass c = simp (rw c.settings_pass.ensures at c.if-not-settings_pass.true)

pub returns-then-not-sound : goal.returns-then-not-sound
unfolding given_rules ruled
returns-then-not-sound c = simp (rw c.settings_pass.ensures at c.if-not-settings_pass.false, c.if-not-sound.true)

pub returns-then-is_bad_interval : goal.returns-then-is_bad_interval
returns-then-is_bad_interval c = let a = c in
    let e = a in
    bad_interval_lem _ _ (sym e.settings_pass.ensures ∙ e.if-not-settings_pass.false) a.if-not-sound.false
    (sym c.in_ok-dt.was ∙ a.apart.ensures) (sym c.is_bad_interval.ensures ∙ c.if-is_bad_interval.true)

pub returns-in_err-dt : goal.returns-in_err-dt
returns-in_err-dt c = let a = c in
    let e = a in
    let p = err_from_is_err_and c.from_residual.result c.from_residual.ensures.1 in rw (p.1, p.2)
    (not_timed _ _ (sym e.settings_pass.ensures ∙ e.if-not-settings_pass.false) a.if-not-sound.false
    (sym c.in_err-dt.was ∙ a.apart.ensures))

pub returns : goal.returns
returns c = let a = c in
    let e = a in
    good_interval _ _ (sym e.settings_pass.ensures ∙ e.if-not-settings_pass.false) a.if-not-sound.false
    (sym c.in_ok-dt.was ∙ a.apart.ensures) (sym c.is_bad_interval.ensures ∙ c.if-is_bad_interval.false)
