-- The fix before two requests changed it (docs/SCOPE.md, "Fix" and "Line of sight"), for the laws that say what changed. Definitions only.
use Rattle.std.specs.Prelude.{Result, Ok, Err}
use Rattle.numeric.specs.declared.refusal.Refusal.{Refusal}
use Rattle.wls.specs.declared.fix.Solution.{Solution}
use Rattle.std.specs.Prelude.{ℕ, ◌+◌, Bool, not, ◌&&◌, List, [], ◌∷◌, map, Float}
use Rattle.std.specs.Float.Ieee.Scale.{finite}
use Rattle.lists.specs.Walk.{every}
use Rattle.cholesky.specs.Factor.{factor_of}
use Rattle.cholesky.specs.Answer as factor
use Rattle.numeric.specs.Sight.{on_receiver}
use Rattle.numeric.specs.declared.vec3.Vec3.{Vec3}
use Rattle.numeric.specs.declared.refusal.Refusal.TheVariants.{FitFailed, QualityNotFinite}
use Rattle.robust.specs.Round.{RoundOutcome, round_of}
use Rattle.normal_equations.specs.declared.row.Row.{Row}
use Rattle.clocks.specs.declared.clocks.Clocks.{Clocks}
use Rattle.records.specs.declared.record.Observation.{Observation}
use Rattle.numeric.specs.Rules.{Rule, rule, ruled}
use Rattle.estimate_rounds.specs.Rounds.{Fit, fit_from, last_rows, finite_at, concluded}
use Rattle.wls.specs.Front.{fix_rules}
use Rattle.wls.specs.Fix.{Input, sight_at, row_at, fix_stop, start, kept_observations, clocks, chi_at, solution_at}
use Rattle.quality.specs.Quality.{unweighted_matrix, dilution_of, chi_of}
use Rattle.wls.specs.declared.fix.Settings.{Settings}

-- ---- as first specified: no range is tested, chi is that of the last round's rows, and only 10 is checked at the end

-- the round at the state x, whatever its ranges are
abbrev pub bare : Settings → Clocks → List Observation → List Float → RoundOutcome
bare settings k os x = round_of (map (row_at settings k x) os) (3 + k.count) settings.huber

abbrev pub fit_before : Settings → Clocks → List Observation → Vec3 → Fit
fit_before settings k os guess = fit_from (bare settings k os) (3 + k.count) fix_stop settings.rounds (start guess)

-- 10
abbrev pub ten_rules : ℕ → List Row → List Float → List Rule
ten_rules n rows x = rule FitFailed (not (finite_at x)) ∷ rule FitFailed (not (factor.accepted (factor_of (unweighted_matrix n rows)))) ∷ []

abbrev pub answer_first : ℕ → List Row → List Float → Result Solution Refusal
answer_first n rows x = Ok (solution_at n rows (chi_of n rows) x)

abbrev pub found_first : Settings → Clocks → List Observation → Vec3 → Result Solution Refusal
found_first settings k os guess =
    let f = fit_before settings k os guess in
    let n = 3 + k.count in
    let rows = last_rows [] f.rounds in
    concluded Err (ten_rules n rows) (answer_first n rows) f.end

abbrev pub fix_first : Input → Result Solution Refusal
fix_first i = ruled Err (fix_rules i.observations i.guess i.settings) (found_first i.settings (clocks i) (kept_observations i) i.guess)

-- ---- with chi of the returned point and 14, but without 15

abbrev pub rules_before : Settings → Clocks → List Observation → List Row → List Float → List Rule
rules_before settings k os rows x =
    rule FitFailed (not (finite_at x))
    ∷ rule FitFailed (not (factor.accepted (factor_of (unweighted_matrix (3 + k.count) rows))))
    ∷ rule QualityNotFinite (not (finite (chi_at settings k os x) && finite (dilution_of (3 + k.count) rows)))
    ∷ []

abbrev pub solution_before : Settings → Clocks → List Observation → List Row → List Float → Result Solution Refusal
solution_before settings k os rows x = Ok (solution_at (3 + k.count) rows (chi_at settings k os x) x)

abbrev pub found_before : Settings → Clocks → List Observation → Vec3 → Result Solution Refusal
found_before settings k os guess =
    let f = fit_before settings k os guess in
    let rows = last_rows [] f.rounds in
    concluded Err (rules_before settings k os rows) (solution_before settings k os rows) f.end

abbrev pub fix_before : Input → Result Solution Refusal
fix_before i = ruled Err (fix_rules i.observations i.guess i.settings) (found_before i.settings (clocks i) (kept_observations i) i.guess)

-- ---- where 15 is met

-- no row's range is zero or not finite at the state x
abbrev pub seen_at : List Observation → List Float → Bool
seen_at os x = every (λ (o : Observation). not (on_receiver (sight_at x o).range)) os
