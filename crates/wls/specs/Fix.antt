-- The position of a receiver from one epoch (docs/SCOPE.md, "Fix"; wls.rs): its rounds, its quality and its answer. Definitions only.
use Rattle.numeric.specs.Refusal.{answer_number}
use Rattle.std.specs.Prelude.{Result, Ok, Err}
use Rattle.numeric.specs.declared.refusal.Refusal.{Refusal}
use Rattle.std.specs.Prelude.{◌≡◌, ℕ, ◌+◌, ◌<◌, true, not, ◌&&◌, List, [], ◌∷◌, ◌++◌, map, length, replicate, T, Float}
use Rattle.std.specs.Float.Ieee.Scale.{finite}
use Rattle.exact.specs.Float.{◌⊕◌, ◌⊖◌, +0, decimal}
use Rattle.lists.specs.Walk.{every}
use Rattle.cholesky.specs.Factor.{at}
use Rattle.numeric.specs.Order.{pattern_of}
use Rattle.numeric.specs.Sight.{sight_of, on_receiver}
use Rattle.numeric.specs.declared.sight.Sight.{Sight}
use Rattle.numeric.specs.declared.vec3.Vec3.{Vec3}
use Rattle.numeric.specs.declared.refusal.Refusal.TheVariants.{FitFailed, QualityNotFinite, OnReceiver}
use Rattle.robust.specs.Round.{Round, RoundOutcome, Refused as NoRound, round_of, SoundRound, FiniteResiduals}
use Rattle.robust.specs.Sigma.{elevation_sigma}
use Rattle.normal_equations.specs.declared.row.Row.{Row}
use Rattle.clocks.specs.Clocks.{slot, clocks_of}
use Rattle.numeric.specs.Rules.{Rule, rule, ruled}
use Rattle.quality.specs.Quality.{chi_of, dilution_of, pivot_rule}
use Rattle.records.specs.Mask.{constellations}
use Rattle.wls.specs.Front.{fix_rows, fix_rules}
use Rattle.clocks.specs.declared.clocks.Clocks.{Clocks}
use Rattle.records.specs.declared.record.Observation.{Observation}
use Rattle.records.specs.declared.record.Observations.{Observations}
use Rattle.wls.specs.declared.fix.Settings.{Settings}
use Rattle.estimate_rounds.specs.Rounds.{Fit, fit_from, last_rows, vector, finite_at, concluded}
use Rattle.median.specs.Sorted.{Each}
use Rattle.wls.specs.declared.fix.Solution.{Solution}

-- the arguments of a call
pub record Input : Type 0 where
  pub observations : Observations
  pub guess : Vec3
  pub settings : Settings

-- ---- the rounds

unfoldable pub sigma_of : Settings → Observation → Float
sigma_of settings o = elevation_sigma o.elevation settings.sigma_a settings.sigma_b

-- the line of sight of an observation at the state x
abbrev pub sight_at : List Float → Observation → Sight
sight_at x o = sight_of o.satellite (vector x)

-- what was measured, less what the state x predicts
unfoldable pub residual_at : Clocks → List Float → Observation → ℕ
residual_at k x o = pattern_of (o.pseudorange ⊖ ((sight_at x o).range ⊕ at x (slot k o.constellation)))

-- the row of an observation at the state x
unfoldable pub row_at : Settings → Clocks → List Float → Observation → Row
row_at settings k x o =
    record {
      unit = record { x = (sight_at x o).x; y = (sight_at x o).y; z = (sight_at x o).z };
      clock = slot k o.constellation;
      residual = residual_at k x o;
      sigma = sigma_of settings o;
    }

-- 15, of the rows in order at the state x
unfoldable pub sight_rules : List Observation → List Float → List Rule
sight_rules os x = map (λ (o : Observation). rule OnReceiver (on_receiver (sight_at x o).range)) os

-- the round at the state x over the observations os, with the clocks k: 15 before anything is factored
unfoldable pub round_at : Settings → Clocks → List Observation → List Float → RoundOutcome
round_at settings k os x = ruled NoRound (sight_rules os x) (round_of (map (row_at settings k x) os) (3 + k.count) settings.huber)

-- stop after a step shorter than 1e-3 m
abbrev pub fix_stop : Float
fix_stop = decimal 1 3

-- the first round begins at the guess, with zero clocks
abbrev pub start : Vec3 → List Float
start v = v.x ∷ v.y ∷ v.z ∷ replicate 6 +0

-- the rounds from the state x on
abbrev pub fit_at : Settings → Clocks → List Observation → List Float → Fit
fit_at settings k os x = fit_from (round_at settings k os) (3 + k.count) fix_stop settings.rounds x

unfoldable pub fit_over : Settings → Clocks → List Observation → Vec3 → Fit
fit_over settings k os guess = fit_at settings k os (start guess)

-- the observations at or above the mask
abbrev pub kept_observations : Input → List Observation
kept_observations i = fix_rows i.observations i.settings

abbrev pub clocks : Input → Clocks
clocks i = clocks_of (constellations (kept_observations i))

unfoldable pub fit_of : Input → Fit
fit_of i = fit_over i.settings (clocks i) (kept_observations i) i.guess

-- the rounds of a call
unfoldable pub rounds_of : Input → List Round
rounds_of i = (fit_of i).rounds

-- ---- the quality of the fit, with n unknowns

-- chi of the returned point: of the rows at the state x that the rounds reach, with the residuals and the clocks there
unfoldable pub chi_at : Settings → Clocks → List Observation → List Float → Float
chi_at settings k os x = chi_of (3 + k.count) (map (row_at settings k x) os)

-- ---- the answer, at the state x that the rounds reach with these rows in the last one, of n unknowns, with 15 of the rows at x and chi there

-- 15 at the returned position, and 14: chi or pdop is not finite
unfoldable pub quality_rules : List Rule → Float → Float → List Rule
quality_rules sights chi pdop = sights ++ (rule QualityNotFinite (not (finite chi && finite pdop)) ∷ [])

-- 10: the position is not finite, or a pivot of the unweighted matrix is refused; and then those
unfoldable pub end_rules : ℕ → List Row → List Rule → Float → List Float → List Rule
end_rules n rows sights chi x =
    rule FitFailed (not (finite_at x))
    ∷ pivot_rule n rows
    ∷ quality_rules sights chi (dilution_of n rows)

abbrev pub solution_at : ℕ → List Row → Float → List Float → Solution
solution_at n rows chi x = record { position = vector x; used = length rows; chi = chi; pdop = dilution_of n rows }

-- the answer of the rounds over the observations os, with the clocks k
unfoldable pub found_over : Settings → Clocks → List Observation → Vec3 → Result Solution Refusal
found_over settings k os guess =
    let f = fit_over settings k os guess in
    let n = 3 + k.count in
    let rows = last_rows [] f.rounds in
    concluded Err (λ x. end_rules n rows (sight_rules os x) (chi_at settings k os x) x) (λ x. Ok (solution_at n rows (chi_at settings k os x) x)) f.end

-- rules 2 to 9, and then the answer of the rounds
unfoldable pub fix_of : Input → Result Solution Refusal
fix_of i = ruled Err (fix_rules i.observations i.guess i.settings) (found_over i.settings (clocks i) (kept_observations i) i.guess)

-- the answer of the call that gives the position alone
abbrev pub position_of : Result Solution Refusal → Result Vec3 Refusal
position_of (Err r) = Err r
position_of (Ok s) = Ok s.position

-- ---- an answer in numbers: its number, which is 0 where it is accepted, its floats and its count; a refusal has only its number

-- x, y, z, chi, pdop
abbrev pub fix_floats : Result Solution Refusal → List Float
fix_floats (Err r) = []
fix_floats (Ok s) = s.position.x ∷ s.position.y ∷ s.position.z ∷ s.chi ∷ s.pdop ∷ []

-- used
abbrev pub fix_counts : Result Solution Refusal → List ℕ
fix_counts (Err r) = []
fix_counts (Ok s) = s.used ∷ []

-- x, y, z
abbrev pub position_floats : Result Vec3 Refusal → List Float
position_floats (Err r) = []
position_floats (Ok p) = p.x ∷ p.y ∷ p.z ∷ []

-- ---- the promise of the public call

abbrev pub input : Observations → Vec3 → Settings → Input
input observations guess settings = record { observations = observations; guess = guess; settings = settings }

-- What an accepted fix has: position, chi and pdop are finite, used are the observations at or above the mask and exceed three plus the slots, demand 3 holds of every round, and
-- no round has a residual that is not finite.
pub record Accepted (i : Input) (s : Solution) : Type 0 where
  pub x-finite : T (finite s.position.x)
  pub y-finite : T (finite s.position.y)
  pub z-finite : T (finite s.position.z)
  pub chi-finite : T (finite s.chi)
  pub pdop-finite : T (finite s.pdop)
  pub used-counted : s.used ≡ length (kept_observations i)
  pub redundant : 3 + (clocks i).count < s.used
  pub sound-rounds : Each SoundRound (rounds_of i)
  pub finite-residuals : Each FiniteResiduals (rounds_of i)

-- the answer, its number and its values are the definition's, for every input, and its floats are finite
pub record Promised (i : Input) (r : Result Solution Refusal) : Type 0 where
  pub answer : r ≡ fix_of i
  pub number_is : answer_number r ≡ answer_number (fix_of i)
  pub floats-are : fix_floats r ≡ fix_floats (fix_of i)
  pub counts-are : fix_counts r ≡ fix_counts (fix_of i)
  pub given-finite : every finite (fix_floats r) ≡ true
  pub accepted : (s : Solution) → r ≡ Ok s → Accepted i s

-- the answer, its number and its values are those of the position of the fix, and demand 3 holds of every round of an accepted one
pub record PositionPromised (i : Input) (r : Result Vec3 Refusal) : Type 0 where
  pub answer : r ≡ position_of (fix_of i)
  pub number_is : answer_number r ≡ answer_number (position_of (fix_of i))
  pub floats-are : position_floats r ≡ position_floats (position_of (fix_of i))
  pub given-finite : every finite (position_floats r) ≡ true
  pub accepted : (s : Solution) → fix_of i ≡ Ok s → Accepted i s
