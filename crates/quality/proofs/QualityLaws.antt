-- Chi and the dilution as the code works them out from the rows. Assumes nothing.
use Rattle.numeric.specs.Refusal.{answer_number}
use Rattle.std.specs.Prelude.{Result, Ok, Err}
use mathlib.Core.Path.{◌≡◌, refl, sym, ap, ap₂, ◌∙◌, subst}
use Prim.Native.Nat.{ℕ, ◌+◌, ◌-◌, ◌≤◌, ◌<◌, max}
use native.Mathlib.Decide.{ℕ_discrete}
use native.Mathlib.Omega.{arith}
use mathlib.Core.Bool.{Bool, true, false, not, cond, ◌&&◌}
use mathlib.Core.List.{List, []}
use lib.Dec.{eqb, T}
use borrow.Author.Tests.{eq-eqb, ne_eqb}
use lib.ListN.{get_or, length, set, length-set, get_or-replicate}
use lib.Seq.{get_or-set_same, get_or-set_other}
use lib.Ieee.{Float, nan, of_int, of_bits}
use lib.Ieee.Fits.{and_l, and_r}
use lib.Ieee.Scale.{finite}
use Rattle.lists.proofs.Walk.{places-length}
use Rattle.exact.specs.Float.{◌⊕◌, ◌⊗◌, ◌⊘◌, +0, 1·0, bits, whole}
use Rattle.cholesky.specs.Factor.{at, zeros, forward_to, solution_of, factor_of, Unused, UnusedPlaces, Factored, Lower, Refused as NoFactor}
use Rattle.cholesky.specs.Answer.{rows_after}
use Rattle.cholesky.specs.Answer as factor
use Rattle.cholesky.proofs.SolveUsed.{forward-places, forward-fits}
use Rattle.numeric.specs.Real.{square}
use Rattle.numeric.specs.declared.refusal.Refusal.{Refusal}
use Rattle.numeric.specs.declared.refusal.Refusal.TheVariants.{FitFailed, QualityNotFinite}
use Rattle.root.specs.Root.{root_of}
use Rattle.normal_equations.specs.Nine.{nine}
use Rattle.normal_equations.specs.Equations.{wide, total, triangle_of}
use Rattle.normal_equations.specs.Steps.{RoundColumns, row_in, rows_in, unused, triangle_added, corner_added, clock_added, corner_put}
use Rattle.normal_equations.specs.declared.row.Row.{Row}
use Rattle.normal_equations.specs.declared.equations.Corner.{Corner}
use Rattle.numeric.proofs.Zeros.{is_zero, +0-is-zero, one-finite}
use Rattle.normal_equations.proofs.NineLaws.{nine-is}
use Rattle.normal_equations.proofs.Sums.{sum_to, sum_to-zero, sum_to-next, sum-places}
use Rattle.normal_equations.proofs.AddedLaws.{triangle-zero, triangle-more}
use Rattle.normal_equations.proofs.FormedLaws.{sums, sums-zero, sums_next, sums-triangle, triangle-unused}
use Rattle.normal_equations.proofs.Places.{wide-x, wide-y, wide-z, wide-clock, wide-none, PlacedCells, cells-next}
use Rattle.normal_equations.proofs.AllPlaces.{entry-finite, matrix-stored}
use Rattle.numeric.specs.Rules.{ruled}
use Rattle.quality.specs.Quality.{freedom_of, chi_of, unweighted_matrix, pdop_of, dilution_of, figure_rules, quality_of}
use Rattle.quality.specs.Steps.{Forwarded, dilution_found, dilution_floats, Diluted, quality_floats, Qualified}
use Rattle.quality.specs.declared.figures.Figures.{Figures}

-- three tests that all pass
pub passed : (p q r : Bool) → (p && q && r) ≡ true → T p × T q × T r
passed p q r e =
    let t : T (p && q && r) = subst T (sym e) tt in
    let u = and_l (p && q) r t in
    (and_l p q u, and_r p q u, and_r (p && q) r t)

-- ---- the degrees of freedom

one : 1·0 ≡ whole 1
unfolding of_int of_bits
one = refl

pub freedom_some : (count n : ℕ) → n < count → whole (count - n) ≡ freedom_of count n
unfolding freedom_of
freedom_some count n h = let e : max 1 (count - n) ≡ count - n = omega arith in rw e

pub freedom_least : (count n : ℕ) → count ≤ n → 1·0 ≡ freedom_of count n
unfolding freedom_of
freedom_least count n h = let e : max 1 (count - n) ≡ 1 = omega arith in rw e one

-- ---- the reduced chi-squared of rows in columns, by their sigmas and residuals alone

-- what a row adds
abbrev pub scaled : Row → Float
scaled r = square (bits r.residual ⊘ r.sigma)

-- the sum over the first k rows
pub squared : List Float → List ℕ → ℕ → Float
squared sigma residual k = sum_to (λ j. square (bits (get_or residual j 0) ⊘ get_or sigma j nan)) k

pub squared-zero : (sigma : List Float) (residual : List ℕ) → +0 ≡ squared sigma residual 0
unfolding squared
squared-zero sigma residual = sym (sum_to-zero _)

pub squared-next : (sigma : List Float) (residual : List ℕ) (k : ℕ) (t q : Float) → t ≡ squared sigma residual k → q ≡ square (bits (get_or residual k 0) ⊘ get_or sigma k nan) → t ⊕ q ≡ squared sigma residual (k + 1)
unfolding squared
squared-next sigma residual k t q h e = ap₂ ◌⊕◌ h e ∙ sym (sum_to-next _ k)

pub chi-rows : (c : RoundColumns) (n : ℕ) {k : ℕ} {t f r : Float} → k ≡ length c.residual → t ≡ squared c.sigma c.residual k → f ≡ freedom_of (length c.residual) n → r ≡ root_of (t ⊘ f)
    → r ≡ chi_of n (rows_in c)
unfolding chi_of squared
chi-rows c n k-is t-is f-is r-is =
    let m = length c.residual in
    let sum = t-is ∙ ap (sum_to (λ j. scaled (row_in c j))) k-is ∙ sum-places scaled (row_in c) m in
    let count = f-is ∙ ap (λ (z : ℕ). freedom_of z n) (sym (places-length (row_in c) m)) in
    r-is ∙ ap₂ (λ (a b : Float). root_of (a ⊘ b)) sum count

-- ---- the unweighted matrix

-- the sums of its cells over the first k rows, and what one row more adds, by the wide row e that the code has of it
abbrev pub plain : RoundColumns → ℕ → ℕ → ℕ → Float
plain c = sums (λ r p q. at (wide r) p ⊗ at (wide r) q) (row_in c)

pub plain-start : (c : RoundColumns) (n : ℕ) (a : List (List Float)) → a ≡ unused n → a ≡ triangle_of n (plain c 0)
plain-start c n a h = h ∙ triangle-zero n (plain c 0) (sums-zero (λ r p q. at (wide r) p ⊗ at (wide r) q) (row_in c))

pub plain-next : (c : RoundColumns) (n k : ℕ) (e : List Float) (a : List (List Float)) → e ≡ wide (row_in c k) → a ≡ triangle_of n (plain c k) → triangle_added n e e a ≡ triangle_of n (plain c (k + 1))
plain-next c n k e a e-is h = triangle-more n (plain c k) (plain c (k + 1)) e e a (λ p q pb qb. sums_next (λ r p q. at (wide r) p ⊗ at (wide r) q) (row_in c) k p q _ _ refl (rw e-is)) h

pub plain_end : (c : RoundColumns) (n k : ℕ) (a : List (List Float)) → k ≡ length c.residual → a ≡ triangle_of n (plain c k) → a ≡ unweighted_matrix n (rows_in c)
unfolding unweighted_matrix
plain_end c n k a e h = h ∙ ap (λ (z : ℕ). triangle_of n (plain c z)) e ∙ sums-triangle (λ r p q. at (wide r) p ⊗ at (wide r) q) (row_in c) (length c.residual) n

-- ---- over the places of a row that are not 0

-- place p of a row, as it stands on the left of a product
abbrev pub bare : Row → ℕ → Float
bare r p = at (wide r) p

-- one row more, by a row r that the code has read
pub bare-row : (c : RoundColumns) (n : ℕ) → n ≤ 9 → (k : ℕ) (r : Row) → r ≡ row_in c k → 3 ≤ r.clock → r.clock < n → {s s' : Corner} {a a' : List (List Float)}
    → s' ≡ corner_added s r.unit r.unit → a' ≡ clock_added r.clock 1·0 r.unit a → PlacedCells bare (row_in c) n k s a → PlacedCells bare (row_in c) n (k + 1) s' a'
bare-row c n few k r e low high {s = s} {a = a} s-is a-is h =
    rw (s-is, a-is)
    (subst (λ (z : Row). 3 ≤ z.clock → z.clock < n → PlacedCells bare (row_in c) n (k + 1) (corner_added s z.unit z.unit) (clock_added z.clock 1·0 z.unit a)) (sym e)
    (λ low high. cells-next bare (row_in c) n few k low high (row_in c k).unit 1·0 (wide-x (row_in c k) low) (wide-y (row_in c k) low) (wide-z (row_in c k) low) (wide-clock (row_in c k) (omega arith)) h) low high)

pub bare-end : (c : RoundColumns) (n m : ℕ) → n ≤ 9 → 3 ≤ n → m ≡ length c.residual → {s : Corner} {a a' : List (List Float)} → PlacedCells bare (row_in c) n m s a
    → T (finite s.xx) → T (finite s.yy) → T (finite s.zz) → a' ≡ corner_put s a → a' ≡ unweighted_matrix n (rows_in c)
bare-end c n m few three e {a' = a'} h fx fy fz a-is = plain_end c n m a' e (a-is ∙ matrix-stored bare rows n few three m h (entry-finite bare rows n few m h fx fy fz) clock-finite beside)
  where
    rows : ℕ → Row
    rows = row_in c

    clock-finite : (k : ℕ) → k < m → T (finite (bare (rows k) (rows k).clock))
    clock-finite k kb = subst (λ (z : Float). T (finite z)) (wide-clock (rows k) (omega (arith, (h.clocks k kb).1))) one-finite

    beside : (k : ℕ) → k < m → (p : ℕ) → 3 ≤ p → p < 9 → (p ≡ (rows k).clock → ⊥) → T (is_zero (bare (rows k) p))
    beside k kb p low pb i = subst (λ (z : Float). T (is_zero z)) (wide-none (rows k) p low pb i) +0-is-zero

-- the unknowns from n on are unused in it
pub unweighted_unused : (n : ℕ) (rows : List Row) → Unused n (unweighted_matrix n rows)
unfolding unweighted_matrix
unweighted_unused n rows = triangle-unused (λ i j. total (λ r. at (wide r) i ⊗ at (wide r) j) rows) n n (omega arith)

-- ---- the inverse's diagonal

-- a column of zeros with 1 at place i
column : (i : ℕ) → i < 9 → set zeros i 1·0 ≡ nine (λ j. cond (eqb i j) 1·0 +0)
column i ib = nine-is (λ j. cond (eqb i j) 1·0 +0) nan (set zeros i 1·0) (length-set zeros i 1·0) (λ k kb. go k kb (ℕ_discrete k i))
  where
    go : (k : ℕ) → k < 9 → Dec (k ≡ i) → at (set zeros i 1·0) k ≡ cond (eqb i k) 1·0 +0
    go k kb (yes e) = rw (e, eq-eqb i i refl) (get_or-set_same zeros i 1·0 nan ib)
    go k kb (no e) = rw (ne_eqb i k (λ q. e (sym q))) (get_or-set_other zeros i k 1·0 nan e ∙ get_or-replicate 9 k +0 nan kb)

pub pdop-is : (l : List (List Float)) (u v w : List Float) (r : Float) → u ≡ solution_of l (set zeros 0 1·0) → v ≡ solution_of l (set zeros 1 1·0) → w ≡ solution_of l (set zeros 2 1·0)
    → r ≡ root_of (+0 ⊕ at u 0 ⊕ at v 1 ⊕ at w 2) → r ≡ pdop_of l
unfolding pdop_of
pdop-is l u v w r u-is v-is w-is r-is =
    let a : u ≡ solution_of l (nine (λ j. cond (eqb 0 j) 1·0 +0)) = u-is ∙ ap (solution_of l) (column 0 (omega arith)) in
    let b : v ≡ solution_of l (nine (λ j. cond (eqb 1 j) 1·0 +0)) = v-is ∙ ap (solution_of l) (column 1 (omega arith)) in
    let d : w ≡ solution_of l (nine (λ j. cond (eqb 2 j) 1·0 +0)) = w-is ∙ ap (solution_of l) (column 2 (omega arith)) in
    r-is ∙ rw (a, b, d)

-- a column of zeros with 1 at a place below n has no unused place that is not 0
pub column-unused : (n i : ℕ) → i < n → UnusedPlaces n (set zeros i 1·0)
column-unused n i h = record { zero-at = λ k nk kb. get_or-set_other zeros i k 1·0 nan (λ q. omega arith) ∙ get_or-replicate 9 k +0 nan kb }

-- a column of n unknowns after the forward substitution
pub forwarded : (n : ℕ) (l : List (List Float)) (b x : List Float) → 0 < n → UnusedPlaces n b → x ≡ forward_to n l b → Forwarded n x
forwarded n l b x p u e = rw e record { places = forward-places n l b u; last_fits = forward-fits n l b p }

-- ---- the answers

-- number and values follow the answer
pub diluted : {n : ℕ} {rows : List Row} {r : Result Float Refusal} → r ≡ dilution_found n rows → Diluted n rows r
diluted e = record { answer = e; number_is = ap answer_number e; floats-are = ap dilution_floats e }

pub qualified : {n : ℕ} {rows : List Row} {r : Result Figures Refusal} → r ≡ quality_of n rows → Qualified n rows r
qualified e = record { answer = e; number_is = ap answer_number e; floats-are = ap quality_floats e }

-- an accepted factor is there whatever the lent rows held
pub same_rows : (v : Factored) (y z : List (List Float)) → true ≡ factor.accepted v → rows_after v y ≡ rows_after v z
same_rows NoFactor y z e = absurd (let z : ◌≡◌ {A = ℕ} 0 1 = cc in omega arith)
same_rows (Lower l) y z e = refl

module _ (n : ℕ) (rows : List Row) (m : List (List Float)) (m-is : m ≡ unweighted_matrix n rows) (ok : Bool) (ok-is : ok ≡ factor.accepted (factor_of m)) where
  pub dilution_refused : ok ≡ false → Err FitFailed ≡ dilution_found n rows
  unfolding dilution_found ruled
  dilution_refused e = let a : false ≡ factor.accepted (factor_of (unweighted_matrix n rows)) = sym e ∙ ok-is ∙ ap (λ (y : List (List Float)). factor.accepted (factor_of y)) m-is in rw (sym a)

  pub dilution_is : (l z : List (List Float)) (pdop : Float) → l ≡ rows_after (factor_of m) z → ok ≡ true → pdop ≡ pdop_of l → Ok pdop ≡ dilution_found n rows
  unfolding dilution_found ruled
  dilution_is l z pdop l-is e pdop-is =
      let a : true ≡ factor.accepted (factor_of (unweighted_matrix n rows)) = sym e ∙ ok-is ∙ ap (λ (y : List (List Float)). factor.accepted (factor_of y)) m-is in
      let p : pdop ≡ dilution_of n rows = pdop-is ∙ ap pdop_of (l-is ∙ same_rows (factor_of m) z [] (sym e ∙ ok-is) ∙ ap (λ (y : List (List Float)). rows_after (factor_of y) []) m-is) in
      rw (sym a, p)

-- by the answer on the dilution
module _ (n : ℕ) (rows : List Row) where
  abbrev accepted : Bool
  accepted = factor.accepted (factor_of (unweighted_matrix n rows))

  -- whether there is a factor
  pub dilution_no : (r : Refusal) → Err r ≡ dilution_found n rows → accepted ≡ false
  unfolding dilution_found ruled
  dilution_no r = go accepted
    where
      go : (b : Bool) → Err r ≡ cond (not b) (Err FitFailed) (Ok (dilution_of n rows)) → b ≡ false
      go true e = absurd (let z : ◌≡◌ {A = ℕ} 0 1 = cc in omega arith)
      go false e = refl

  pub dilution_yes : (p : Float) → Ok p ≡ dilution_found n rows → (accepted ≡ true) × (p ≡ dilution_of n rows)
  unfolding dilution_found ruled
  dilution_yes p = go accepted
    where
      go : (b : Bool) → Ok p ≡ cond (not b) (Err FitFailed) (Ok (dilution_of n rows)) → (b ≡ true) × (p ≡ dilution_of n rows)
      go true e = (refl, cc)
      go false e = absurd (let z : ◌≡◌ {A = ℕ} 0 1 = cc in omega arith)

  pub quality-refused : (r : Refusal) → Err r ≡ dilution_found n rows → Err r ≡ quality_of n rows
  unfolding dilution_found quality_of figure_rules ruled
  quality-refused r = go accepted
    where
      go : (b : Bool) → Err r ≡ cond (not b) (Err FitFailed) (Ok (dilution_of n rows))
          → ◌≡◌ {A = Result Figures Refusal} (Err r) (cond (not b) (Err FitFailed) (cond (not (finite (chi_of n rows) && finite (dilution_of n rows))) (Err QualityNotFinite) (Ok (record { chi = chi_of n rows; pdop = dilution_of n rows }))))
      go true e = absurd (let z : ◌≡◌ {A = ℕ} 0 1 = cc in omega arith)
      go false e = cc

  pub quality-given : (chi pdop : Float) → chi ≡ chi_of n rows → Ok pdop ≡ dilution_found n rows
      → cond {A = Result Figures Refusal} (finite chi && finite pdop) (Ok (record { chi = chi; pdop = pdop })) (Err QualityNotFinite) ≡ quality_of n rows
  unfolding dilution_found quality_of figure_rules ruled
  quality-given chi pdop c-is = go accepted (finite chi && finite pdop) refl
    where
      go : (b d : Bool) → d ≡ (finite chi && finite pdop) → Ok pdop ≡ cond (not b) (Err FitFailed) (Ok (dilution_of n rows))
          → cond {A = Result Figures Refusal} d (Ok (record { chi = chi; pdop = pdop })) (Err QualityNotFinite)
          ≡ cond (not b) (Err FitFailed) (cond (not (finite (chi_of n rows) && finite (dilution_of n rows))) (Err QualityNotFinite) (Ok (record { chi = chi_of n rows; pdop = dilution_of n rows })))
      go false d d-is e = absurd (let z : ◌≡◌ {A = ℕ} 0 1 = cc in omega arith)
      go true d d-is e = let p : pdop ≡ dilution_of n rows = cc in rw (sym c-is, sym p, sym d-is) (last d)
        where
          last : (d : Bool) → cond {A = Result Figures Refusal} d (Ok (record { chi = chi; pdop = pdop })) (Err QualityNotFinite) ≡ cond (not d) (Err QualityNotFinite) (Ok (record { chi = chi; pdop = pdop }))
          last true = refl
          last false = refl

  -- by the tests that the code makes of the two figures
  module _ (chi pdop : Float) (c-is : chi ≡ chi_of n rows) (p-is : Ok pdop ≡ dilution_found n rows) (b d : Bool) (b-is : b ≡ finite chi) (d-is : d ≡ finite pdop) where
    pub quality-rated : (b && d) ≡ true → Ok (record { chi = chi; pdop = pdop }) ≡ quality_of n rows
    quality-rated e =
        let t : (finite chi && finite pdop) ≡ true = ap₂ ◌&&◌ (sym b-is) (sym d-is) ∙ e in
        sym (ap (λ (z : Bool). cond {A = Result Figures Refusal} z (Ok (record { chi = chi; pdop = pdop })) (Err QualityNotFinite)) t) ∙ quality-given chi pdop c-is p-is

    pub quality_not_finite : (b && d) ≡ false → Err QualityNotFinite ≡ quality_of n rows
    quality_not_finite e =
        let t : (finite chi && finite pdop) ≡ false = ap₂ ◌&&◌ (sym b-is) (sym d-is) ∙ e in
        sym (ap (λ (z : Bool). cond {A = Result Figures Refusal} z (Ok (record { chi = chi; pdop = pdop })) (Err QualityNotFinite)) t) ∙ quality-given chi pdop c-is p-is

  -- what is given out is finite
  pub quality-finite : (f : Figures) → Ok f ≡ quality_of n rows → T (finite f.chi) × T (finite f.pdop)
  unfolding quality_of figure_rules ruled
  quality-finite f = go accepted (finite (chi_of n rows)) (finite (dilution_of n rows)) refl refl
    where
      go : (b c p : Bool) → c ≡ finite (chi_of n rows) → p ≡ finite (dilution_of n rows)
          → Ok f ≡ cond (not b) (Err FitFailed) (cond (not (c && p)) (Err QualityNotFinite) (Ok (record { chi = chi_of n rows; pdop = dilution_of n rows })))
          → T (finite f.chi) × T (finite f.pdop)
      go false c p c-is p-is e = absurd (let z : ◌≡◌ {A = ℕ} 0 1 = cc in omega arith)
      go true false p c-is p-is e = absurd (let z : ◌≡◌ {A = ℕ} 0 1 = cc in omega arith)
      go true true false c-is p-is e = absurd (let z : ◌≡◌ {A = ℕ} 0 1 = cc in omega arith)
      go true true true c-is p-is e =
          let h : f ≡ record { chi = chi_of n rows; pdop = dilution_of n rows } = cc in
          (subst (λ (g : Figures). T (finite g.chi)) (sym h) (subst T c-is tt), subst (λ (g : Figures). T (finite g.pdop)) (sym h) (subst T p-is tt))
