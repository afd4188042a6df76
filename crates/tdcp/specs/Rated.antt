-- The displacement with the quality of its fit (docs/SCOPE.md, "Rated displacement"). Definitions only.
use Rattle.numeric.specs.Refusal.{answer_number}
use Rattle.std.specs.Prelude.{Result, Ok, Err}
use Rattle.numeric.specs.declared.refusal.Refusal.{Refusal}
use Rattle.quality.specs.declared.figures.Figures.{Figures}
use Rattle.std.specs.Prelude.{◌≡◌, ℕ, ◌+◌, Bool, true, false, List, [], ◌∷◌, ◌++◌, map, T, Float}
use Rattle.std.specs.Float.Ieee.Scale.{finite}
use Rattle.exact.specs.Float.{+0}
use Rattle.lists.specs.Walk.{every}
use Rattle.cholesky.specs.Factor.{zeros}
use Rattle.numeric.specs.Refusal.{number_of}
use Rattle.clocks.specs.Clocks.{clocks_of}
use Rattle.clocks.specs.declared.clocks.Clocks.{Clocks}
use Rattle.records.specs.Screen.{constellations}
use Rattle.records.specs.declared.pair.Pair.{Pair}
use Rattle.estimate_rounds.specs.Rounds.{state_after}
use Rattle.quality.specs.Quality.{quality_of}
use Rattle.tdcp.specs.Displacement.{Input, row_at, kept_pairs, call_fit, displacement_of, Accepted}
use Rattle.tdcp.specs.declared.displacement.Settings.{Settings}
use Rattle.tdcp.specs.declared.displacement.Delta.{Delta}
use Rattle.tdcp.specs.declared.displacement.RatedDelta.{RatedDelta}

-- chi and pdop of the rows of the pairs ps at the state x, with the clocks k
unfoldable pub quality_at : Settings → Clocks → List Pair → List Float → Result Figures Refusal
quality_at settings k ps x = quality_of (3 + k.count) (map (row_at settings k x) ps)

-- the quality of a call's fit: of the kept pairs at the displacement that the rounds reach, with the final clocks; zero rounds leave both at zero
unfoldable pub quality : Input → Result Figures Refusal
quality i = quality_at i.settings (clocks_of (constellations (kept_pairs i))) (kept_pairs i) (state_after (call_fit i).end zeros)

-- a displacement with its figures, or why these are refused
abbrev pub rate : Delta → Result Figures Refusal → Result RatedDelta Refusal
rate d (Err r) = Err r
rate d (Ok f) = Ok (record { moved = d; chi = f.chi; pdop = f.pdop })

abbrev pub rated_with : Result Figures Refusal → Result Delta Refusal → Result RatedDelta Refusal
rated_with q (Err r) = Err r
rated_with q (Ok d) = rate d q

-- refused where the displacement is, by its number; then 10 and 14 of its quality
unfoldable pub rated_of : Input → Result RatedDelta Refusal
rated_of i = rated_with (quality i) (displacement_of i)

-- ---- the answer with its figures on request, and zeros for them otherwise

abbrev pub unrated : Result Delta Refusal → Result RatedDelta Refusal
unrated (Err r) = Err r
unrated (Ok d) = Ok (record { moved = d; chi = +0; pdop = +0 })

abbrev pub answered_by : Bool → Result Figures Refusal → Result Delta Refusal → Result RatedDelta Refusal
answered_by true q m = rated_with q m
answered_by false q m = unrated m

-- an answer without its figures
abbrev pub plain_of : Result RatedDelta Refusal → Result Delta Refusal
plain_of (Err r) = Err r
plain_of (Ok d) = Ok d.moved

unfoldable pub answered_of : Bool → Input → Result RatedDelta Refusal
answered_of wanted i = answered_by wanted (quality i) (displacement_of i)

-- ---- an answer in numbers: its number, which is 0 where it is accepted, its floats, its figures and its counts; a refusal has its number alone

-- dx, dy, dz
abbrev pub rated_floats : Result RatedDelta Refusal → List Float
rated_floats (Err r) = []
rated_floats (Ok d) = d.moved.delta.x ∷ d.moved.delta.y ∷ d.moved.delta.z ∷ []

-- chi, pdop
abbrev pub rated_figures : Result RatedDelta Refusal → List Float
rated_figures (Err r) = []
rated_figures (Ok d) = d.chi ∷ d.pdop ∷ []

-- used, screened
abbrev pub rated_counts : Result RatedDelta Refusal → List ℕ
rated_counts (Err r) = []
rated_counts (Ok d) = d.moved.used ∷ d.moved.screened ∷ []

-- ---- the promise of every rated call

-- an accepted one has what an accepted displacement has, demand 3 of its rounds included, and two finite figures
pub record RatedAccepted (i : Input) (d : RatedDelta) : Type 0 where
  pub moved : Accepted i d.moved
  pub chi-finite : T (finite d.chi)
  pub pdop-finite : T (finite d.pdop)

-- the answer is the definition's, with figures on request; its floats are finite, and an accepted one is as accurate as an accepted displacement
pub record Answered (wanted : Bool) (i : Input) (r : Result RatedDelta Refusal) : Type 0 where
  pub answer : r ≡ answered_of wanted i
  pub given-finite : every finite (rated_floats r ++ rated_figures r) ≡ true
  pub accepted : (d : RatedDelta) → r ≡ Ok d → RatedAccepted i d

-- the answer is the definition's, and so are its number, floats, figures and counts
pub record RatedPromised (i : Input) (r : Result RatedDelta Refusal) : Type 0 where
  pub answer : r ≡ rated_of i
  pub number_is : answer_number r ≡ answer_number (rated_of i)
  pub floats-are : rated_floats r ≡ rated_floats (rated_of i)
  pub figures_are : rated_figures r ≡ rated_figures (rated_of i)
  pub counts-are : rated_counts r ≡ rated_counts (rated_of i)
  pub given-finite : every finite (rated_floats r ++ rated_figures r) ≡ true
  pub accepted : (d : RatedDelta) → r ≡ Ok d → RatedAccepted i d
