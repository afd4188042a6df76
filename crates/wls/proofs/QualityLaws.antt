-- What a fit says of itself, as the code works it out from the rows. Assumes nothing.
use Rattle.numeric.specs.Refusal.{answer_number}
use Rattle.std.specs.Prelude.{Result}
use Rattle.numeric.specs.declared.refusal.Refusal.{Refusal}
use mathlib.Core.Path.{◌≡◌, refl, sym, ap, ap₂, ◌∙◌}
use Prim.Native.Nat.{ℕ, zero, suc, ◌+◌, ◌≤◌, ◌<◌}
use native.Mathlib.Omega.{arith}
use mathlib.Core.List.{List, map}
use lib.ListN.{get_or, length, take, length-map}
use lib.Seq.{length-take-le}
use lib.Ieee.{Float, nan, binary64}
use lib.Ieee.Fits.{sub-fits}
use Rattle.lists.specs.Walk.{places}
use Rattle.lists.proofs.Walk.{places-map, places-take}
use Rattle.exact.specs.Float.{◌⊕◌, ◌⊖◌, ◌⊘◌, +0}
use Rattle.cholesky.specs.Factor.{at}
use Rattle.numeric.specs.Real.{square}
use Rattle.numeric.proofs.OrderLaws.{pattern_back}
use Rattle.root.specs.Root.{root_of}
use Rattle.normal_equations.specs.Equations.{total}
use Rattle.normal_equations.specs.declared.row.Row.{Row}
use Rattle.normal_equations.proofs.Sums.{sum_to, sum_to-zero, sum_to-next, sum-places}
use Rattle.normal_equations.proofs.ColumnLaws.{filled_at}
use Rattle.clocks.specs.Clocks.{slot}
use Rattle.clocks.specs.declared.clocks.Clocks.{Clocks}
use Rattle.records.specs.declared.record.Observation.{Observation}
use Rattle.records.proofs.RecordLaws.{blank_observation}
use Rattle.quality.specs.Quality.{freedom_of, chi_of}
use Rattle.quality.proofs.QualityLaws.{scaled}
use Rattle.wls.specs.Fix.{sigma_of, sight_at, residual_at, row_at, chi_at}
use Rattle.wls.specs.Steps.{chi_found, chi_floats, ChiAnswered}
use Rattle.wls.specs.declared.fix.Settings.{Settings}

-- number and value follow the answer
pub chi-answered : {settings : Settings} {k : Clocks} {os : List Observation} {x : List Float} {r : Result Float Refusal} → r ≡ chi_found settings k os x → ChiAnswered settings k os x r
chi-answered e = record { answer = e; number_is = ap answer_number e; floats-are = ap chi_floats e }

-- ---- the reduced chi-squared, of the observations' rows

-- of the observations os at the state s, with these sigmas
module _ (k : Clocks) (os : List Observation) (sigma s : List Float) where
  -- what observation j adds
  abbrev pub adds : ℕ → Float
  adds j =
      let o = get_or os j blank_observation in
      square ((o.pseudorange ⊖ ((sight_at s o).range ⊕ at s (slot k o.constellation))) ⊘ get_or sigma j nan)

  -- the sum over the first j of them
  pub squares : ℕ → Float
  squares j = sum_to adds j

  pub squares-zero : +0 ≡ squares 0
  unfolding squares
  squares-zero = sym (sum_to-zero adds)

  pub squares-next : (j : ℕ) (t q : Float) → t ≡ squares j → q ≡ adds j → t ⊕ q ≡ squares (j + 1)
  unfolding squares
  squares-next j t q h e = ap₂ ◌⊕◌ h e ∙ sym (sum_to-next adds j)

  module _ (settings : Settings) (n : ℕ) (fits : n ≤ length os) (sigmas : take n sigma ≡ map (sigma_of settings) (take n os)) where
    abbrev row : ℕ → Row
    row j = row_at settings k s (get_or os j blank_observation)

    adds-is : (j : ℕ) → j < n → adds j ≡ scaled (row j)
    unfolding row_at residual_at
    adds-is j h =
        let o = get_or os j blank_observation in
        let e = filled_at (sigma_of settings) os sigma n j blank_observation nan fits h sigmas in
        let r = pattern_back (o.pseudorange ⊖ ((sight_at s o).range ⊕ at s (slot k o.constellation))) (sub-fits binary64 _ _) in
        rw (e, r)

    sums_same : (m : ℕ) → m ≤ n → sum_to adds m ≡ sum_to (λ j. scaled (row j)) m
    unfolding sum_to
    sums_same zero h = refl
    sums_same (suc m) h = ap₂ ◌⊕◌ (sums_same m (omega arith)) (adds-is m (omega arith))

    rows_same : places row n ≡ map (row_at settings k s) (take n os)
    rows_same = sym (places-map (row_at settings k s) (λ j. get_or os j blank_observation) n) ∙ ap (map (row_at settings k s)) (places-take os blank_observation n fits)

    pub chi-is : {t f r : Float} → t ≡ squares n → f ≡ freedom_of n (3 + k.count) → r ≡ root_of (t ⊘ f) → r ≡ chi_at settings k (take n os) s
    unfolding chi_at chi_of squares
    chi-is t-is f-is r-is =
        let sum = t-is ∙ sums_same n (omega arith) ∙ sum-places scaled row n ∙ ap (total scaled) rows_same in
        let count : n ≡ length (map (row_at settings k s) (take n os)) = sym (length-map (take n os) (row_at settings k s) ∙ length-take-le n os fits) in
        r-is ∙ ap₂ (λ (a b : Float). root_of (a ⊘ b)) sum (f-is ∙ ap (λ (m : ℕ). freedom_of m (3 + k.count)) count)
