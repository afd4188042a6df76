-- What the rated displacement of columns promises, from its answer. Assumes nothing.
use Rattle.std.specs.Prelude.{Result, Ok, Err}
use mathlib.Core.Path.{◌≡◌, ap, subst, ◌∙◌}
use mathlib.Core.Bool.{Bool, true, false, cond, ◌&&◌}
use mathlib.Core.List.{List, map}
use lib.Ieee.Scale.{finite}
use Prim.Native.Nat.{ℕ, ◌+◌}
use native.Mathlib.Omega.{arith}
use Rattle.lists.specs.Memory.{LentNumbers}
use Rattle.numeric.specs.declared.refusal.Refusal.{Refusal}
use Rattle.numeric.specs.declared.refusal.Refusal.TheVariants.{TooMany, FitFailed, QualityNotFinite}
use Rattle.cholesky.specs.Factor.{zeros, factor_of}
use Rattle.cholesky.specs.Answer.{accepted}
use Rattle.normal_equations.specs.declared.row.Row.{Row}
use Rattle.clocks.specs.Clocks.{clocks_of}
use Rattle.records.specs.Screen.{constellations}
use Rattle.numeric.specs.Rules.{ruled}
use Rattle.estimate_rounds.specs.Rounds.{state_after}
use Rattle.quality.specs.Quality.{chi_of, unweighted_matrix, dilution_of, figure_rules, quality_of}
use Rattle.tdcp.specs.Displacement.{row_at, kept_pairs, call_fit, displacement_of}
use Rattle.tdcp.specs.declared.displacement.Delta.{Delta}
use Rattle.tdcp.specs.Rated.{quality_at, quality, rate, rated_with, rated_of, RatedAccepted}
use Rattle.tdcp.specs.declared.displacement.RatedDelta.{RatedDelta}
use Rattle.tdcp.proofs.RatedLaws.{rated-is as answer-is, rated-accepted}
use Rattle.tdcp_columns.specs.Displacement.{Lent, lent_input, is_fit, columns_displaced}
use Rattle.tdcp_columns.specs.Rated.{columns_rated, RatedLeaves, RatedAnswers}
use Rattle.tdcp_columns.specs.Steps.{columns_answered, ColumnsPromised}

module _ (l : Lent) where
  -- with its figures the answer is the rated displacement
  rated-columns : columns_answered true l ≡ columns_rated l
  unfolding columns_answered columns_rated
  rated-columns = rw (answer-is (lent_input l))

  -- a rated displacement that was accepted is that of columns that fit
  pub columns-rated : (d : RatedDelta) → columns_rated l ≡ Ok d → RatedAccepted (lent_input l) d
  unfolding columns_rated
  columns-rated d = go (is_fit l)
    where
      go : (b : Bool) → cond b (rated_of (lent_input l)) (Err TooMany) ≡ Ok d → RatedAccepted (lent_input l) d
      go true e = rated-accepted (lent_input l) d e
      go false e = absurd (let z : ◌≡◌ {A = ℕ} 0 1 = cc in omega arith)

  -- what is left in lent memory of the answer q that was given
  pub rated-answers : {q : Result RatedDelta Refusal} {number : ℕ} {delta quality counts : LentNumbers} → ColumnsPromised true l q → RatedLeaves q number delta quality counts → RatedAnswers l number delta quality counts
  rated-answers {number = number} {delta = delta} {quality = quality} {counts = counts} p h =
      record { leaves = subst (λ (a : Result RatedDelta Refusal). RatedLeaves a number delta quality counts) (p.answer ∙ rated-columns) h; accepted = columns-rated }

-- ---- the rated call beside the plain one

module _ (l : Lent) where
  -- where the displacement is refused, so is the rated one, by the same number
  pub refused-alike : (r : Refusal) → columns_displaced l ≡ Err r → columns_rated l ≡ Err r
  unfolding columns_displaced columns_rated rated_of
  refused-alike r = go (is_fit l)
    where
      go : (b : Bool) → cond b (displacement_of (lent_input l)) (Err TooMany) ≡ Err r → cond b (rated_with (quality (lent_input l)) (displacement_of (lent_input l))) (Err TooMany) ≡ Err r
      go true e = ap (rated_with (quality (lent_input l))) e
      go false e = let h : TooMany ≡ r = cc in ap (λ (z : Refusal). Err z) h

  -- the unknowns, and the rows of the kept pairs at the displacement that the rounds reach, with the final clocks
  abbrev pub unknowns : ℕ
  unknowns = 3 + (clocks_of (constellations (kept_pairs (lent_input l)))).count

  abbrev pub rows : List Row
  rows = let i = lent_input l in map (row_at i.settings (clocks_of (constellations (kept_pairs i))) (state_after (call_fit i).end zeros)) (kept_pairs i)

  -- where it is accepted, the rated one is
  module _ (d : Delta) (e : columns_displaced l ≡ Ok d) where
    rated-is : columns_rated l ≡ rate d (quality_of unknowns rows)
    unfolding columns_displaced columns_rated rated_of quality quality_at
    rated-is = go (is_fit l) e
      where
        go : (b : Bool) → cond b (displacement_of (lent_input l)) (Err TooMany) ≡ Ok d
            → cond b (rated_with (quality_of unknowns rows) (displacement_of (lent_input l))) (Err TooMany) ≡ rate d (quality_of unknowns rows)
        go true h = ap (rated_with (quality_of unknowns rows)) h
        go false h = absurd (let z : ◌≡◌ {A = ℕ} 0 1 = cc in omega arith)

    -- 10 where a pivot of the unweighted matrix is refused,
    pub rated-ten : accepted (factor_of (unweighted_matrix unknowns rows)) ≡ false → columns_rated l ≡ Err FitFailed
    unfolding quality_of figure_rules ruled
    rated-ten p = rated-is ∙ rw p

    -- otherwise 14 where chi or pdop is not finite,
    pub rated_fourteen : accepted (factor_of (unweighted_matrix unknowns rows)) ≡ true → (finite (chi_of unknowns rows) && finite (dilution_of unknowns rows)) ≡ false → columns_rated l ≡ Err QualityNotFinite
    unfolding quality_of figure_rules ruled
    rated_fourteen p q = rated-is ∙ rw (p, q)

    -- and otherwise accepted, with that displacement, those counts and these two figures
    pub rated-moved : accepted (factor_of (unweighted_matrix unknowns rows)) ≡ true → (finite (chi_of unknowns rows) && finite (dilution_of unknowns rows)) ≡ true
        → columns_rated l ≡ Ok (record { moved = d; chi = chi_of unknowns rows; pdop = dilution_of unknowns rows })
    unfolding quality_of figure_rules ruled
    rated-moved p q = rated-is ∙ rw (p, q)
