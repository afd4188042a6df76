-- The rounds of a displacement, as the code has them. Assumes nothing.
use Rattle.std.specs.Prelude.{Result, ⊤}
use Rattle.numeric.specs.declared.refusal.Refusal.{Refusal}
use mathlib.Core.Path.{◌≡◌, refl, sym, ap, ◌∙◌, subst₂, fun_ext}
use Prim.Native.Nat.{ℕ, ◌+◌, ◌≤◌, ◌<◌}
use native.Mathlib.Omega.{arith}
use mathlib.Core.List.{List, map}
use lib.ListN.{length, get_or, take}
use lib.Seq.{take_all, get_or-take, length-take-le}
use lib.Ieee.{Float, nan}
use Rattle.lists.proofs.Walk.{places-map, places-take, places-ext}
use Rattle.lists.specs.Walk.{places}
use Rattle.robust.specs.Round.{round_of}
use Rattle.normal_equations.specs.Steps.{RoundColumns, columns, rows_in}
use Rattle.normal_equations.specs.Steps as round
use Rattle.normal_equations.proofs.ColumnLaws.{filled_at}
use Rattle.robust.specs.Steps.{stepping_of}
use Rattle.normal_equations.specs.declared.row.Row.{Row}
use Rattle.clocks.specs.declared.clocks.Clocks.{Clocks}
use Rattle.records.specs.declared.pair.Pair.{Pair}
use Rattle.tdcp.specs.declared.displacement.Settings.{Settings}
use Rattle.cholesky.specs.Factor.{zeros}
use Rattle.estimate_rounds.specs.Rounds.{fit_from}
use Rattle.records.specs.Kept.{Kept}
use Rattle.records.specs.Steps.{pair_in, pairs_in}
use Rattle.tdcp.specs.Displacement.{pair_sigma, row_with, row_at, round_at, stop_limit, fit_over}
use Rattle.tdcp.specs.Steps.{ClocksAt, SigmasAt, ResidualsAt}
use Rattle.estimate_rounds.proofs.RoundsLaws.{Left, left-start}

-- what the logic has for a pair past the end
abbrev pub blank : Pair
blank = record { unit = record { x = nan; y = nan; z = nan }; constellation = 0; elevation = nan; observed = nan; detector = nan; range = nan; previous_range = nan }

module _ (settings : Settings) (k : Clocks) (ps : List Pair) where
  abbrev pub Going : ℕ → List Float → Type 0
  Going i x = Left (round_at settings k ps) (3 + k.count) stop_limit settings.rounds (fit_over settings k ps) i x

  pub going : Going 0 zeros
  unfolding fit_over
  going = left-start (round_at settings k ps) (3 + k.count) stop_limit settings.rounds (fit_over settings k ps) zeros refl

  pub solving : (x : List Float) (rows : List Row) (n : ℕ) {answer : Result (List Float) Refusal} → rows ≡ map (row_at settings k x) ps → n ≡ 3 + k.count → answer ≡ stepping_of (round_of rows n settings.huber) → answer ≡ stepping_of (round_at settings k ps x)
  unfolding round_at
  solving x rows n {answer} e h s = subst₂ (λ (r : List Row) (m : ℕ). answer ≡ stepping_of (round_of r m settings.huber)) e h s

-- ---- the rows of a round at the state s, in the columns that the code made
module _ (settings : Settings) (k : Clocks) (x y z : List Float) (constellation : List ℕ) (elevation observed : List Float) (few : length observed ≤ 64) (s : List Float)
    {clock : List ℕ} {sigma : List Float} {residual : List ℕ} (clocks : ClocksAt k constellation (length observed) clock) (weighed : SigmasAt settings elevation (length observed) sigma) (made : ResidualsAt x y z clock observed s residual) where
  abbrev pair : ℕ → Pair
  pair = pair_in x y z constellation elevation observed

  abbrev all : RoundColumns
  all = columns x y z clock sigma (take (length observed) residual)

  row_is : (i : ℕ) → i < length observed → round.row_in all i ≡ row_at settings k s (pair i)
  unfolding row_with pair_sigma
  row_is i h =
      let c = clocks.clocks i h in
      let g = weighed.sigmas i h in
      let r = get_or-take (length observed) residual i 0 h ∙ made.residuals i h in
      rw (r, c, g)

  pub rows_in_lem : rows_in all ≡ map (row_at settings k s) (pairs_in x y z constellation elevation observed)
  rows_in_lem =
      let e : length (take (length observed) residual) ≡ length observed = length-take-le (length observed) residual (omega (arith, made.long)) in
      ap (places (round.row_in all)) e ∙ places-ext (round.row_in all) (λ i. row_at settings k s (pair i)) (length observed) row_is ∙ sym (places-map (row_at settings k s) pair (length observed))

-- a fit over the columns of the pairs ps is the fit over ps
module _ (settings : Settings) (k : Clocks) {ps : List Pair} {n : ℕ} {x y z : List Float} {constellation : List ℕ} {elevation observed : List Float} (h : Kept ps n x y z constellation elevation observed) where
  abbrev given : ℕ → Pair
  given = pair_in x y z constellation elevation (take n observed)

  whole : take n ps ≡ ps
  whole = take_all n ps (omega (arith, h.count))

  same : (s : List Float) (i : ℕ) → i < n → row_at settings k s (given i) ≡ row_at settings k s (get_or ps i blank)
  unfolding row_with pair_sigma
  same s i b =
      let fits : n ≤ length ps = omega (arith, h.count) in
      let ex = filled_at (λ (p : Pair). p.unit.x) ps x n i blank nan fits b (h.xs ∙ ap (map (λ (p : Pair). p.unit.x)) (sym whole)) in
      let ey = filled_at (λ (p : Pair). p.unit.y) ps y n i blank nan fits b (h.ys ∙ ap (map (λ (p : Pair). p.unit.y)) (sym whole)) in
      let ez = filled_at (λ (p : Pair). p.unit.z) ps z n i blank nan fits b (h.zs ∙ ap (map (λ (p : Pair). p.unit.z)) (sym whole)) in
      let ec = filled_at (λ (p : Pair). p.constellation) ps constellation n i blank 0 fits b (h.constellations ∙ ap (map (λ (p : Pair). p.constellation)) (sym whole)) in
      let ee = filled_at (λ (p : Pair). p.elevation) ps elevation n i blank nan fits b (h.elevations ∙ ap (map (λ (p : Pair). p.elevation)) (sym whole)) in
      let eo = get_or-take n observed i nan b ∙ filled_at (λ (p : Pair). p.observed) ps observed n i blank nan fits b (h.observeds ∙ ap (map (λ (p : Pair). p.observed)) (sym whole)) in
      rw (ex, ey, ez, ec, ee, eo)

  pub rows_same : (s : List Float) → map (row_at settings k s) (pairs_in x y z constellation elevation (take n observed)) ≡ map (row_at settings k s) ps
  rows_same s =
      let e : length (take n observed) ≡ n = length-take-le n observed (omega (arith, h.room, h.observed-long)) in
      ap (λ (m : ℕ). map (row_at settings k s) (places given m)) e ∙ places-map (row_at settings k s) given n ∙ places-ext (λ i. row_at settings k s (given i)) (λ i. row_at settings k s (get_or ps i blank)) n (same s)
      ∙ sym (places-map (row_at settings k s) (λ i. get_or ps i blank) n) ∙ ap (map (row_at settings k s)) (places-take ps blank n (omega (arith, h.count)) ∙ whole)

  pub fit_same : fit_over settings k (pairs_in x y z constellation elevation (take n observed)) ≡ fit_over settings k ps
  unfolding fit_over round_at
  fit_same = ap (λ (r : List Float → List Row). fit_from (λ s. round_of (r s) (3 + k.count) settings.huber) (3 + k.count) stop_limit settings.rounds (zeros)) (fun_ext rows_same)
