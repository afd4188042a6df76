-- The rounds of a fix, as the code has them. Assumes nothing.
use Rattle.numeric.specs.Refusal.{answer_number}
use Rattle.std.specs.Prelude.{Result, Ok, Err}
use Rattle.wls.specs.declared.fix.Solution.{Solution}
use mathlib.Core.Path.{◌≡◌, refl, sym, ap, ◌∙◌, subst, subst₂}
use Prim.Native.Nat.{ℕ, ◌+◌, ◌≤◌}
use native.Mathlib.Omega.{arith}
use mathlib.Core.List.{List, [], ◌∷◌, map}
use lib.ListN.{length, take}
use lib.Seq.{length-take-le}
use lib.Ieee.{Float, nan}
use Rattle.robust.specs.Round.{Round, RoundOutcome, Solved, round_of}
use Rattle.robust.specs.Steps.{stepping_of}
use Rattle.lists.proofs.Walk.{places-length}
use Rattle.normal_equations.specs.Steps.{first_columns, row_in, rows_in}
use Rattle.normal_equations.specs.declared.columns.Table.{Table}
use Rattle.normal_equations.specs.declared.row.Row.{Row}
use Rattle.numeric.specs.declared.refusal.Refusal.{Refusal}
use Rattle.numeric.specs.declared.vec3.Vec3.{Vec3}
use Rattle.robust.proofs.RoundSound.{round-rows}
use Rattle.normal_equations.proofs.ColumnLaws.{rows_are}
use Rattle.clocks.specs.declared.clocks.Clocks.{Clocks}
use Rattle.records.specs.declared.record.Observation.{Observation}
use Rattle.wls.specs.declared.fix.Settings.{Settings}
use Rattle.estimate_rounds.specs.Rounds.{End, Stopped, Fit, last_rows, concluded}
use Rattle.estimate_rounds.specs.Steps.{check_of}
use Rattle.wls.specs.Fix.{sigma_of, sight_rules, row_at, round_at, fix_stop, start, fit_at, fit_over, end_rules, solution_at, chi_at, found_over}
use Rattle.wls.specs.Steps.{concluded_at, RowsAt, EndedAt, end_counts, Fitted}
use Rattle.estimate_rounds.proofs.RulesLaws.{checked}
use Rattle.estimate_rounds.proofs.RoundsLaws.{Left, LeftRows, left-start, rows_start}
use Rattle.wls.proofs.SightLaws.{round-passed, round-solved}

-- what the logic has for an observation past the end
abbrev pub blank : Observation
blank = record { constellation = 0; band = 0; svid = 0; modelled = nan; pseudorange = nan; satellite = record { x = nan; y = nan; z = nan }; elevation = nan }

-- the fit from the state x₀ on
module _ (settings : Settings) (k : Clocks) (os : List Observation) (x₀ : List Float) where
  abbrev fit : Fit
  fit = fit_at settings k os x₀

  abbrev pub Going : ℕ → List Float → Type 0
  Going i x = Left (round_at settings k os) (3 + k.count) fix_stop settings.rounds fit i x

  abbrev pub GoingRows : ℕ → List Float → List Row → Type 0
  GoingRows i x rows = LeftRows (round_at settings k os) (3 + k.count) fix_stop settings.rounds fit i x rows

  pub going : Going 0 x₀
  going = left-start (round_at settings k os) (3 + k.count) fix_stop settings.rounds fit x₀ refl

  pub going-rows : GoingRows 0 x₀ []
  going-rows = rows_start (round_at settings k os) (3 + k.count) fix_stop settings.rounds fit x₀ refl

module _ (settings : Settings) (k : Clocks) (os : List Observation) (x : List Float) (rows : List Row) (rows_are : rows ≡ map (row_at settings k x) os) where
  pub solving : (Ok tt) ≡ checked (sight_rules os x) → (n : ℕ) {answer : Result (List Float) Refusal} → n ≡ 3 + k.count → answer ≡ stepping_of (round_of rows n settings.huber) → answer ≡ stepping_of (round_at settings k os x)
  solving seen n {answer} h s =
      subst (λ (o : RoundOutcome). answer ≡ stepping_of o) (sym (round-passed settings k os x seen))
      (subst₂ (λ (r : List Row) (m : ℕ). answer ≡ stepping_of (round_of r m settings.huber)) rows_are h s)

  -- the round's rows are those that the code made
  pub made-rows : (r : Round) → round_at settings k os x ≡ Solved r → r.rows ≡ rows
  made-rows r e = round-rows (map (row_at settings k x) os) (3 + k.count) settings.huber r (round-solved settings k os x r e) ∙ sym rows_are

-- the columns of a round hold its rows
pub held : (settings : Settings) (k : Clocks) (n : ℕ) (os : List Observation) (s : List Float) (t : Table) → n ≤ length os → n ≤ 64 → RowsAt k n os s t
    → take n t.sigma ≡ map (sigma_of settings) (take n os) → rows_in (first_columns n t) ≡ map (row_at settings k s) (take n os)
unfolding row_at
held settings k n os s t fits few h sigmas =
    rows_are (row_at settings k s) os blank n fits few t.x t.y t.z t.clock t.sigma t.residual h.xs h.ys h.zs h.clocks-are sigmas (record { long = h.long; so_far = h.residuals })

-- the code's answer of where they end
module _ (f : Fit) (s : List Float) (t : Table) where
  pub fitted-refused : {r : Refusal} → Stopped r ≡ f.end → Fitted f (Err r) s t
  fitted-refused {r} h =
      record {
        number_is = ap (λ (e : End). answer_number (check_of e)) h;
        counts-are = ap (end_counts (last_rows [] f.rounds)) h;
        refused = λ q e. let same : q ≡ r = cc in ap Stopped same ∙ h;
        ended = λ n e. absurd (let z : ◌≡◌ {A = ℕ} 0 1 = cc in omega arith);
      }

  pub fitted-ended : {n : ℕ} → EndedAt f n s t → Fitted f (Ok n) s t
  fitted-ended {n} h =
      let many = sym (length-take-le n t.residual h.room) ∙ sym (places-length (row_in (first_columns n t)) _) ∙ ap length h.rows_are in
      record {
        number_is = ap (λ (e : End). answer_number (check_of e)) h.state-is;
        counts-are = ap (λ (m : ℕ). m ∷ []) many ∙ ap (end_counts (last_rows [] f.rounds)) h.state-is;
        refused = λ q e. absurd (let z : ◌≡◌ {A = ℕ} 0 1 = cc in omega arith);
        ended = λ m e. let same : n ≡ m = cc in subst (λ (i : ℕ). EndedAt f i s t) same h;
      }

-- what the rounds come to, by where they end
module _ (settings : Settings) (k : Clocks) (os : List Observation) (guess : Vec3) where
  pub stopped-at : {r : Refusal} → Stopped r ≡ (fit_at settings k os (start guess)).end → Err r ≡ found_over settings k os guess
  unfolding found_over fit_over
  stopped-at e = rw (sym e)

  -- the answer r at the state s that they reach, by the columns of the last round
  pub reached-at : {n : ℕ} {s : List Float} {t : Table} → EndedAt (fit_at settings k os (start guess)) n s t
      → (r : Result Solution Refusal) → r ≡ concluded_at (3 + k.count) (rows_in (first_columns n t)) (sight_rules os s) (chi_at settings k os s) s → r ≡ found_over settings k os guess
  unfolding found_over fit_over
  reached-at {s = s} h r e =
      let last = last_rows [] (fit_at settings k os (start guess)).rounds in
      e ∙ ap (λ (rows : List Row). concluded_at (3 + k.count) rows (sight_rules os s) (chi_at settings k os s) s) h.rows_are
      ∙ ap (concluded Err (λ y. end_rules (3 + k.count) last (sight_rules os y) (chi_at settings k os y) y) (λ y. Ok (solution_at (3 + k.count) last (chi_at settings k os y) y))) h.state-is
