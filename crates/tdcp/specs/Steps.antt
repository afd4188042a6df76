-- What the functions of a displacement return in between: rows as columns of numbers, place by place, and answers with or without figures. Definitions only.
use Rattle.std.specs.Prelude.{Result, Ok, Err, ⊤}
use Rattle.numeric.specs.declared.refusal.Refusal.{Refusal}
use Rattle.quality.specs.declared.figures.Figures.{Figures}
use Rattle.tdcp.specs.declared.displacement.Delta.{Delta}
use Rattle.std.specs.Prelude.{◌≡◌, ℕ, ◌+◌, ◌<◌, Bool, not, List, ◌∷◌, get_or, length, Float}
use Rattle.std.specs.Float.{nan}
use Rattle.exact.specs.Float.{◌⊕◌, ◌⊖◌, ◌⊗◌}
use Rattle.cholesky.specs.Factor.{at, zeros}
use Rattle.numeric.specs.Order.{pattern_of}
use Rattle.robust.specs.Sigma.{elevation_sigma}
use Rattle.clocks.specs.Clocks.{slot, clocks_of}
use Rattle.clocks.specs.declared.clocks.Clocks.{Clocks}
use Rattle.records.specs.declared.pair.Pair.{Pair}
use Rattle.numeric.specs.declared.refusal.Refusal.TheVariants.{SettingOutOfRange, RecordOutOfRange}
use Rattle.numeric.specs.Rules.{Rule, rule, ruled}
use Rattle.estimate_rounds.specs.Rounds.{concluded, state_after}
use Rattle.estimate_rounds.specs.Steps.{Ended}
use Rattle.tdcp.specs.Valid.{settings_pass, interval_rules}
use Rattle.tdcp.specs.declared.displacement.Interval.{Interval}
use Rattle.tdcp.specs.Displacement.{fit_over, fit_by, delta_at, end_rules}
use Rattle.tdcp.specs.Rated.{quality_at}
use Rattle.records.specs.Steps.{pairs_in}
use Rattle.records.specs.Screen.{kept_of, constellations}
use Rattle.tdcp.specs.declared.displacement.Settings.{Settings}

-- ---- the rules

-- 3 to 5 with 13, where `sound` is whether 4 lets every record and the receiver pass
unfoldable pub given_rules : Settings → Bool → Interval → List Rule
given_rules settings sound since = rule SettingOutOfRange (not (settings_pass settings)) ∷ rule RecordOutOfRange (not sound) ∷ interval_rules since

-- ---- the rounds

-- the first n places are the clocks of the pairs, which no round changes
pub record ClocksAt (k : Clocks) (constellation : List ℕ) (n : ℕ) (clock : List ℕ) : Type 0 where
  pub clocks : (i : ℕ) → i < n → get_or clock i 0 ≡ slot k (get_or constellation i 0)

-- and their sigmas
pub record SigmasAt (settings : Settings) (elevation : List Float) (n : ℕ) (sigma : List Float) : Type 0 where
  pub sigmas : (i : ℕ) → i < n → get_or sigma i nan ≡ elevation_sigma (get_or elevation i nan) settings.sigma_a settings.sigma_b

-- the rounds over the pairs end in r and the state s, whichever pairs have these clocks and sigmas
pub record FitEnds (settings : Settings) (k : Clocks) (x y z : List Float) (clock : List ℕ) (sigma observed : List Float) (r : Result ⊤ Refusal) (s₀ s : List Float) : Type 0 where
  pub ends :
      (constellation : List ℕ) (elevation : List Float) → ClocksAt k constellation (length observed) clock → SigmasAt settings elevation (length observed) sigma →
      Ended (fit_over settings k (pairs_in x y z constellation elevation observed)).end r s₀ s

-- and r is their quality at the state s
pub record QualityIs (n : ℕ) (x y z : List Float) (clock : List ℕ) (sigma observed s : List Float) (r : Result Figures Refusal) : Type 0 where
  pub quality-is :
      (settings : Settings) (k : Clocks) (constellation : List ℕ) (elevation : List Float) → n ≡ 3 + k.count → ClocksAt k constellation (length observed) clock →
      SigmasAt settings elevation (length observed) sigma → r ≡ quality_at settings k (pairs_in x y z constellation elevation observed) s

-- what was observed, less what the state x says of the line of sight u, v, w and the clock s
abbrev pub residual_of : Float → Float → Float → Float → ℕ → List Float → ℕ
residual_of o u v w s x = pattern_of (o ⊖ (u ⊗ at x 0 ⊕ v ⊗ at x 1 ⊕ w ⊗ at x 2) ⊖ at x s)

-- the first of the 64 residuals are those of the pairs at the state s
pub record ResidualsAt (x y z : List Float) (clock : List ℕ) (observed s : List Float) (residual : List ℕ) : Type 0 where
  pub long : length residual ≡ 64
  pub residuals : (i : ℕ) → i < length observed → get_or residual i 0 ≡ residual_of (get_or observed i nan) (get_or x i nan) (get_or y i nan) (get_or z i nan) (get_or clock i 0) s

-- the answer at the state x that the rounds reach
abbrev pub concluded_at : ℕ → ℕ → List Float → Result Delta Refusal
concluded_at used screened x = ruled Err (end_rules x) (Ok (delta_at used screened x))

-- the displacement of the rounds over the pairs ps, with the clocks k, where so many were screened out
abbrev pub moved_over : Settings → Clocks → List Pair → ℕ → Result Delta Refusal
moved_over settings k ps screened = concluded Err end_rules (λ x. Ok (delta_at (length ps) screened x)) (fit_over settings k ps).end

-- the quality at the end of the rounds over the pairs ps, with the clocks k
abbrev pub quality_over : Settings → Clocks → List Pair → Result Figures Refusal
quality_over settings k ps = quality_at settings k ps (state_after (fit_over settings k ps).end zeros)

-- and over those that the screen keeps of the pairs ps
abbrev pub quality_by : Settings → List Pair → Result Figures Refusal
quality_by settings ps =
    let kept = kept_of settings.screen ps in
    quality_at settings (clocks_of (constellations kept)) kept (state_after (fit_by settings ps).end zeros)
