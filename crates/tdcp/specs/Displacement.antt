-- The displacement of a receiver between two epochs (docs/SCOPE.md, "Displacement", "Times" and "City profile"; tdcp.rs): its rounds, and the answer. Definitions only.
use Rattle.numeric.specs.Refusal.{answer_number}
use Rattle.std.specs.Prelude.{Result, Ok, Err}
use Rattle.numeric.specs.declared.refusal.Refusal.{Refusal}
use Rattle.std.specs.Prelude.{◌≡◌, ℕ, ◌+◌, ◌-◌, ◌<◌, Bool, true, not, List, [], ◌∷◌, ◌++◌, map, length, T, Float}
use Rattle.std.specs.Float.Ieee.Scale.{finite}
use Rattle.exact.specs.Float.{◌⊕◌, ◌⊖◌, ◌⊗◌, decimal}
use Rattle.lists.specs.Walk.{every}
use Rattle.cholesky.specs.Factor.{at, zeros}
use Rattle.numeric.specs.Order.{pattern_of}
use Rattle.numeric.specs.Refusal.{number_of}
use Rattle.numeric.specs.declared.vec3.Vec3.{Vec3}
use Rattle.numeric.specs.declared.refusal.Refusal.TheVariants.{FitFailed}
use Rattle.robust.specs.Round.{Round, RoundOutcome, round_of, SoundRound, FiniteResiduals}
use Rattle.robust.specs.Sigma.{elevation_sigma}
use Rattle.normal_equations.specs.declared.row.Row.{Row}
use Rattle.clocks.specs.Clocks.{slot, clocks_of}
use Rattle.numeric.specs.Rules.{Rule, rule, ruled}
use Rattle.records.specs.Record.{counted_carriers}
use Rattle.records.specs.City.{looked, is_city}
use Rattle.records.specs.Pair.{pairs_of}
use Rattle.records.specs.Screen.{kept_of, constellations}
use Rattle.tdcp.specs.Valid.{dt_of, epoch_rules, interval_rules}
use Rattle.tdcp.specs.Front.{pair_rules}
use Rattle.clocks.specs.declared.clocks.Clocks.{Clocks}
use Rattle.records.specs.declared.record.Epoch.{Epoch}
use Rattle.records.specs.declared.pair.Pair.{Pair}
use Rattle.records.specs.declared.pair.Profile.{Profile}
use Rattle.records.specs.declared.pair.Profile.TheVariants.{General}
use Rattle.tdcp.specs.declared.displacement.Settings.{Settings}
use Rattle.tdcp.specs.declared.displacement.Interval.{Interval}
use Rattle.estimate_rounds.specs.Rounds.{Fit, fit_from, vector, finite_at, concluded}
use Rattle.median.specs.Sorted.{Each}
use Rattle.tdcp.specs.declared.displacement.Delta.{Delta}

-- the arguments of a call: two epochs, the interval between them, the receiver, the settings, and the profile, which chooses the carriers
pub record Input : Type 0 where
  pub previous : Epoch
  pub current : Epoch
  pub since : Interval
  pub receiver : Vec3
  pub settings : Settings
  pub profile : Profile

abbrev pub input : Epoch → Epoch → Interval → Vec3 → Settings → Profile → Input
input previous current since receiver settings profile = record { previous = previous; current = current; since = since; receiver = receiver; settings = settings; profile = profile }

-- dt seconds apart, by every carrier
abbrev pub general : Epoch → Epoch → Float → Vec3 → Settings → Input
general previous current dt receiver settings = input previous current (Interval.Seconds dt) receiver settings General

-- ---- the rounds

unfoldable pub pair_sigma : Settings → Pair → Float
pair_sigma settings p = elevation_sigma p.elevation settings.sigma_a settings.sigma_b

-- the row of a pair with this sigma at the state x: what was observed, less what x says
unfoldable pub row_with : Float → Clocks → List Float → Pair → Row
row_with sigma k x p =
    let u = p.unit in
    let s = slot k p.constellation in
    record {
      unit = u;
      clock = s;
      residual = pattern_of (p.observed ⊖ (u.x ⊗ at x 0 ⊕ u.y ⊗ at x 1 ⊕ u.z ⊗ at x 2) ⊖ at x s);
      sigma = sigma;
    }

abbrev pub row_at : Settings → Clocks → List Float → Pair → Row
row_at settings k x p = row_with (pair_sigma settings p) k x p

-- the round at the state x over the pairs ps, with the clocks k
unfoldable pub round_at : Settings → Clocks → List Pair → List Float → RoundOutcome
round_at settings k ps x = round_of (map (row_at settings k x) ps) (3 + k.count) settings.huber

-- stop below 1e-5 m
abbrev pub stop_limit : Float
stop_limit = decimal 1 5

-- the fit over the pairs ps, with the clocks k: the first round begins at zero
unfoldable pub fit_over : Settings → Clocks → List Pair → Fit
fit_over settings k ps = fit_from (round_at settings k ps) (3 + k.count) stop_limit settings.rounds zeros

-- the fit over those that the screen keeps of the pairs ps
unfoldable pub fit_by : Settings → List Pair → Fit
fit_by settings ps =
    let kept = kept_of settings.screen ps in
    fit_over settings (clocks_of (constellations kept)) kept

-- ---- the pairs of a call

-- the pairs before screening: of all counted carriers, or in the city profile of those that it certifies
abbrev pub pairs : Input → List Pair
pairs i = pairs_of i.receiver i.settings.mask (dt_of i.since) (looked i.profile (counted_carriers i.previous)) (looked i.profile (counted_carriers i.current))

-- and after it
abbrev pub kept_pairs : Input → List Pair
kept_pairs i = kept_of i.settings.screen (pairs i)

-- the fit of a call, and its rounds
unfoldable pub call_fit : Input → Fit
call_fit i = fit_by i.settings (pairs i)

unfoldable pub rounds_of : Input → List Round
rounds_of i = (call_fit i).rounds

-- ---- the answer

abbrev pub delta_at : ℕ → ℕ → List Float → Delta
delta_at used screened x = record { delta = vector x; used = used; screened = screened }

-- 10, of the state that the rounds reach
unfoldable pub end_rules : List Float → List Rule
end_rules x = rule FitFailed (not (finite_at x)) ∷ []

-- The displacement of carrier pairs: 15, 7 to 9 and in the city profile 20, the rounds over those that the screen keeps, and 10. The screened are the pairs less
-- those kept.
unfoldable pub moved_by : Bool → Settings → List Pair → Result Delta Refusal
moved_by city settings ps =
    let used = length (kept_of settings.screen ps) in
    ruled Err (pair_rules city settings ps) (concluded Err end_rules (λ x. Ok (delta_at used (length ps - used) x)) (fit_by settings ps).end)

-- 2 to 4 of the epochs, the receiver and the settings, 13 and 5 of the interval, and then the displacement of the pairs
unfoldable pub displacement_of : Input → Result Delta Refusal
displacement_of i =
    ruled Err (epoch_rules i.previous i.current i.receiver i.settings ++ interval_rules i.since)
    (moved_by (is_city i.profile) i.settings (pairs i))

-- ---- an answer in numbers: its number, which is 0 where it is accepted, its floats and its counts; a refusal has its number alone

-- dx, dy, dz
abbrev pub displacement_floats : Result Delta Refusal → List Float
displacement_floats (Err r) = []
displacement_floats (Ok d) = d.delta.x ∷ d.delta.y ∷ d.delta.z ∷ []

-- used, screened
abbrev pub displacement_counts : Result Delta Refusal → List ℕ
displacement_counts (Err r) = []
displacement_counts (Ok d) = d.used ∷ d.screened ∷ []

-- ---- the promise of every call
-- What an accepted displacement has: it is finite, used plus screened are the pairs counted, used exceeds three plus the slots, demand 3 holds of every round, and
-- no round has a residual that is not finite.
pub record Accepted (i : Input) (d : Delta) : Type 0 where
  pub x-finite : T (finite d.delta.x)
  pub y-finite : T (finite d.delta.y)
  pub z-finite : T (finite d.delta.z)
  pub pairs-counted : d.used + d.screened ≡ length (pairs i)
  pub redundant : 3 + (clocks_of (constellations (kept_pairs i))).count < d.used
  pub sound-rounds : Each SoundRound (rounds_of i)
  pub finite-residuals : Each FiniteResiduals (rounds_of i)

-- The answer is the definition's for every input, and so are its number, floats and counts. What it returns is finite.
pub record Promised (i : Input) (r : Result Delta Refusal) : Type 0 where
  pub answer : r ≡ displacement_of i
  pub number_is : answer_number r ≡ answer_number (displacement_of i)
  pub floats-are : displacement_floats r ≡ displacement_floats (displacement_of i)
  pub counts-are : displacement_counts r ≡ displacement_counts (displacement_of i)
  pub given-finite : every finite (displacement_floats r) ≡ true
  pub accepted : (d : Delta) → r ≡ Ok d → Accepted i d
