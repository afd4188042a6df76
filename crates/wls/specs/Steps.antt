-- The steps of a fix: the rows of a round, the end of the rounds, chi there, and the answer. Definitions only.
use Rattle.numeric.specs.Refusal.{answer_number}
use Rattle.std.specs.Prelude.{Result, Ok, Err}
use Rattle.wls.specs.declared.fix.Solution.{Solution}
use Rattle.std.specs.Prelude.{◌≡◌, ℕ, ◌≤◌, not, ◌&&◌, ⊤, List, [], ◌∷◌, map, length, take, Float}
use Rattle.std.specs.Float.Ieee.Scale.{finite}
use Rattle.numeric.specs.declared.vec3.Vec3.{Vec3}
use Rattle.numeric.specs.declared.refusal.Refusal.{Refusal}
use Rattle.numeric.specs.declared.refusal.Refusal.TheVariants.{QualityNotFinite}
use Rattle.normal_equations.specs.Steps.{first_columns, rows_in}
use Rattle.normal_equations.specs.declared.columns.Table.{Table}
use Rattle.normal_equations.specs.declared.row.Row.{Row}
use Rattle.clocks.specs.Clocks.{slot}
use Rattle.clocks.specs.declared.clocks.Clocks.{Clocks}
use Rattle.records.specs.Record.{counted_observations}
use Rattle.records.specs.declared.record.Observation.{Observation}
use Rattle.records.specs.declared.record.Observations.{Observations}
use Rattle.numeric.specs.Rules.{Rule, rule, ruled}
use Rattle.estimate_rounds.specs.Rounds.{End, Stopped, Reached, Fit, last_rows}
use Rattle.estimate_rounds.specs.Steps.{check_of}
use Rattle.wls.specs.Fix.{sigma_of, sight_at, residual_at, sight_rules, chi_at, end_rules, solution_at}
use Rattle.wls.specs.declared.fix.Settings.{Settings}

-- sigma begins with the sigma of each observation, which no round changes
abbrev pub SigmasOf : Settings → Observations → List Float → Type 0
SigmasOf settings sky sigma = take sky.count sigma ≡ map (sigma_of settings) (counted_observations sky)

-- ---- the rows of a round: the first n of the table are the observations'

-- they are the rows at the state s, except the sigmas, which no round changes
pub record RowsAt (k : Clocks) (n : ℕ) (os : List Observation) (s : List Float) (t : Table) : Type 0 where
  pub long : length t.residual ≡ 64
  pub xs : take n t.x ≡ map (λ (o : Observation). (sight_at s o).x) (take n os)
  pub ys : take n t.y ≡ map (λ (o : Observation). (sight_at s o).y) (take n os)
  pub zs : take n t.z ≡ map (λ (o : Observation). (sight_at s o).z) (take n os)
  pub clocks-are : take n t.clock ≡ map (λ (o : Observation). slot k o.constellation) (take n os)
  pub residuals : take n t.residual ≡ map (residual_at k s) (take n os)

-- the answer of the rows at the state s, whether 15 lets them pass, and the rows where it does
pub record Rowed (k : Clocks) (n : ℕ) (os : List Observation) (s : List Float) (r : Result ⊤ Refusal) (t : Table) : Type 0 where
  pub answer : r ≡ ruled Err (sight_rules (take n os) s) (Ok tt)
  pub rows : r ≡ Ok tt → RowsAt k n os s t

-- ---- where the rounds of the fit f end: at the state s, after a round whose rows are the first n of the table
pub record EndedAt (f : Fit) (n : ℕ) (s : List Float) (t : Table) : Type 0 where
  pub few : n ≤ 64
  pub room : n ≤ length t.residual
  pub state-is : Reached s ≡ f.end
  pub rows_are : rows_in (first_columns n t) ≡ last_rows [] f.rounds

abbrev pub ending_counts : Result ℕ Refusal → List ℕ
ending_counts (Err r) = []
ending_counts (Ok n) = n ∷ []

-- the counts at the end of a fit whose last round has these rows
abbrev pub end_counts : List Row → End → List ℕ
end_counts rows (Stopped r) = []
end_counts rows (Reached x) = length rows ∷ []

-- the answer of the rounds: refused, or ended there
pub record Fitted (f : Fit) (answer : Result ℕ Refusal) (s : List Float) (t : Table) : Type 0 where
  pub number_is : answer_number answer ≡ answer_number (check_of f.end)
  pub counts-are : ending_counts answer ≡ end_counts (last_rows [] f.rounds) f.end
  pub refused : (r : Refusal) → answer ≡ Err r → Stopped r ≡ f.end
  pub ended : (n : ℕ) → answer ≡ Ok n → EndedAt f n s t

-- ---- chi at the state x, or 15 there

abbrev pub chi_found : Settings → Clocks → List Observation → List Float → Result Float Refusal
chi_found settings k os x = ruled Err (sight_rules os x) (Ok (chi_at settings k os x))

abbrev pub chi_floats : Result Float Refusal → List Float
chi_floats (Err r) = []
chi_floats (Ok c) = c ∷ []

-- the answer, its number and its value are those of the observations at the state x
pub record ChiAnswered (settings : Settings) (k : Clocks) (os : List Observation) (x : List Float) (r : Result Float Refusal) : Type 0 where
  pub answer : r ≡ chi_found settings k os x
  pub number_is : answer_number r ≡ answer_number (chi_found settings k os x)
  pub floats-are : chi_floats r ≡ chi_floats (chi_found settings k os x)

-- ---- the answer at the state x

abbrev pub concluded_at : ℕ → List Row → List Rule → Float → List Float → Result Solution Refusal
concluded_at n rows sights chi x = ruled Err (end_rules n rows sights chi x) (Ok (solution_at n rows chi x))

-- the answer of a fit that 10 lets pass, by chi and pdop
abbrev pub rated_fix : Vec3 → ℕ → Float → Result Float Refusal → Result Solution Refusal
rated_fix position used pdop (Err r) = Err r
rated_fix position used pdop (Ok c) =
    ruled Err (rule QualityNotFinite (not (finite c && finite pdop)) ∷ []) (Ok (record { position = position; used = used; chi = c; pdop = pdop }))
