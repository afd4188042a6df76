-- The displacement with its figures: what the code's answer says of it, and the laws of the rated call. Assumes nothing.
use Rattle.numeric.specs.Refusal.{answer_number}
use Rattle.std.specs.Prelude.{Result, Ok, Err, MatchResult, ⊤}
use Rattle.std.specs.Result.{IsOkAnd}
use Prim.Native.Nat.{ℕ, ◌+◌}
use mathlib.Core.Path.{◌≡◌, refl, sym, ap, ap₂, ◌∙◌}
use mathlib.Core.Bool.{Bool, true, false}
use mathlib.Core.List.{List, ◌++◌, map}
use lib.Ieee.{Float}
use Rattle.exact.specs.Float.{+0}
use Rattle.normal_equations.specs.declared.row.Row.{Row}
use Rattle.cholesky.specs.Factor.{zeros}
use Rattle.numeric.specs.declared.refusal.Refusal.{Refusal}
use Rattle.estimate_rounds.specs.Steps.{Ended}
use Rattle.clocks.specs.declared.clocks.Clocks.{Clocks}
use Rattle.records.specs.declared.pair.Pair.{Pair}
use Rattle.quality.specs.Quality.{quality_of}
use Rattle.quality.specs.declared.figures.Figures.{Figures}
use Rattle.tdcp.specs.Displacement.{Input, row_at, fit_over, displacement_of}
use Rattle.tdcp.specs.Rated.{quality_at, quality, rate, rated_with, rated_of, rated_floats, rated_figures, rated_counts, RatedAccepted, RatedPromised, Answered, unrated, plain_of, answered_by, answered_of}
use Rattle.lists.specs.Walk.{every}
use lib.Ieee.Scale.{finite}
use native.Mathlib.Omega.{arith}
use lib.Ieee.Bits.{is_true}
use Rattle.cholesky.proofs.FactorFinite.{zero-finite}
use Rattle.quality.proofs.QualityLaws.{quality-finite}
use Rattle.tdcp.proofs.DisplacementSound.{displacement-accepted}
use Rattle.tdcp.specs.Steps.{quality_over}
use Rattle.tdcp.specs.declared.displacement.Settings.{Settings}
use Rattle.tdcp.specs.declared.displacement.Delta.{Delta}
use Rattle.tdcp.specs.declared.displacement.RatedDelta.{RatedDelta}

-- ---- the code's answer, by the displacement m and the quality q

-- a refused displacement is refused, whether figures are wanted or not
pub refused_as : (wanted : Bool) (q : Result Figures Refusal) {r : Refusal} {m : Result Delta Refusal} → Err r ≡ m → Err r ≡ answered_by wanted q m
refused_as wanted q {r} e = go wanted ∙ ap (answered_by wanted q) e
  where
    go : (w : Bool) → Err r ≡ answered_by w q (Err r)
    go true = refl
    go false = refl

pub moved-rated : {wanted : Bool} {q p : Result Figures Refusal} {d : Delta} {m : Result Delta Refusal} {a : Result RatedDelta Refusal} → wanted ≡ true → Ok d ≡ m → a ≡ rate d p → p ≡ q → a ≡ answered_by wanted q m
moved-rated {q = q} {d = d} w e is p = is ∙ ap (rate d) p ∙ ap₂ (λ (b : Bool) (n : Result Delta Refusal). answered_by b q n) (sym w) e

pub moved_plain : {wanted : Bool} (q : Result Figures Refusal) {d : Delta} {m : Result Delta Refusal} → wanted ≡ false → Ok d ≡ m → Ok (record { moved = d; chi = +0; pdop = +0 }) ≡ answered_by wanted q m
moved_plain q w e = ap₂ (λ (b : Bool) (n : Result Delta Refusal). answered_by b q n) (sym w) e

pub rate-no : (d : Delta) {q : Result Figures Refusal} {r : Refusal} → q ≡ Err r → Err r ≡ rate d q
rate-no d e = sym (ap (rate d) e)

pub rate-yes : (d : Delta) {q : Result Figures Refusal} {f : Figures} → q ≡ Ok f → Ok (record { moved = d; chi = f.chi; pdop = f.pdop }) ≡ rate d q
rate-yes d e = sym (ap (rate d) e)

-- the quality at the state that the code's rounds reach
pub quality-reached : (settings : Settings) (k : Clocks) (ps : List Pair) {c : Result ⊤ Refusal} {y : List Float} {p : Result Figures Refusal} → Ended (fit_over settings k ps).end c zeros y → p ≡ quality_at settings k ps y
    → p ≡ quality_over settings k ps
quality-reached settings k ps h e = e ∙ ap (quality_at settings k ps) h.state-is

-- the quality of rows that are those of the pairs
pub quality-made : (settings : Settings) (k : Clocks) (ps : List Pair) (x : List Float) {n : ℕ} {rows : List Row} {p : Result Figures Refusal} → p ≡ quality_of n rows → n ≡ 3 + k.count
    → rows ≡ map (row_at settings k x) ps → p ≡ quality_at settings k ps x
unfolding quality_at
quality-made settings k ps x e m h = e ∙ ap₂ quality_of m h

-- rows that are equal have one quality
pub quality-rows : (settings : Settings) (k : Clocks) (ps qs : List Pair) (x : List Float) → map (row_at settings k x) ps ≡ map (row_at settings k x) qs → quality_at settings k ps x ≡ quality_at settings k qs x
unfolding quality_at
quality-rows settings k ps qs x e = ap (quality_of (3 + k.count)) e

-- ---- the displacement alone is the answer less its figures

-- an answer whose displacement is taken
pub plain-map : {Q : RatedDelta → Delta → Type 0} (a : Result RatedDelta Refusal) (r : Result Delta Refusal) → ((d : RatedDelta) (v : Delta) → Q d v → v ≡ d.moved)
    → MatchResult a (λ d. IsOkAnd r (Q d)) (λ e. r ≡ Err e) → r ≡ plain_of a
plain-map (Ok d) (Ok v) h q = ap (λ z. Ok z) (h d v q)
plain-map (Ok d) (Err e) h q = absurd q
plain-map (Err e) r h q = q

plain_back : (m : Result Delta Refusal) → plain_of (unrated m) ≡ m
plain_back (Err r) = refl
plain_back (Ok d) = refl

pub plain-is : (i : Input) {a : Result RatedDelta Refusal} → a ≡ answered_of false i → plain_of a ≡ displacement_of i
unfolding answered_of
plain-is i e = ap plain_of e ∙ plain_back (displacement_of i)

-- ---- the promise follows from the answer
module _ (i : Input) where
  -- what an accepted rated displacement comes from
  rated-of : (m : Result Delta Refusal) (q : Result Figures Refusal) (d : RatedDelta) → Ok d ≡ rated_with q m → (Ok d.moved ≡ m) × (Ok (record { chi = d.chi; pdop = d.pdop }) ≡ q)
  rated-of (Err r) q d e = absurd (let z : ◌≡◌ {A = ℕ} 0 1 = cc in omega arith)
  rated-of (Ok m) (Err r) d e = absurd (let z : ◌≡◌ {A = ℕ} 0 1 = cc in omega arith)
  rated-of (Ok m) (Ok f) d e = (let h : d ≡ record { moved = m; chi = f.chi; pdop = f.pdop } = cc in rw h, let h : d ≡ record { moved = m; chi = f.chi; pdop = f.pdop } = cc in rw h)

  plain-of : (m : Result Delta Refusal) (d : RatedDelta) → Ok d ≡ unrated m → (Ok d.moved ≡ m) × (d.chi ≡ +0) × (d.pdop ≡ +0)
  plain-of (Err r) d e = absurd (let z : ◌≡◌ {A = ℕ} 0 1 = cc in omega arith)
  plain-of (Ok m) d e = let h : d ≡ record { moved = m; chi = +0; pdop = +0 } = cc in (rw h, rw h, rw h)

  pub rated-accepted : (d : RatedDelta) → rated_of i ≡ Ok d → RatedAccepted i d
  unfolding rated_of quality quality_at
  rated-accepted d e =
      let h = rated-of (displacement_of i) (quality i) d (sym e) in
      let f = quality-finite _ _ (record { chi = d.chi; pdop = d.pdop }) h.1 in
      record { moved = displacement-accepted i d.moved (sym h.0); chi-finite = f.0; pdop-finite = f.1 }

  pub rated-finite : (r : Result RatedDelta Refusal) → ((d : RatedDelta) → r ≡ Ok d → RatedAccepted i d) → every finite (rated_floats r ++ rated_figures r) ≡ true
  unfolding every
  rated-finite (Err r) h = refl
  rated-finite (Ok d) h =
      let a = h d refl in
      let m = a.moved in
      let v = d.moved.delta in
      rw (is_true (finite v.x) m.x-finite, is_true (finite v.y) m.y-finite, is_true (finite v.z) m.z-finite, is_true (finite d.chi) a.chi-finite, is_true (finite d.pdop) a.pdop-finite)

  -- the answer with figures is the rated displacement
  pub rated-is : answered_of true i ≡ rated_of i
  unfolding answered_of rated_of
  rated-is = refl

  plain-accepted : (d : RatedDelta) → answered_of false i ≡ Ok d → RatedAccepted i d
  unfolding answered_of
  plain-accepted d e =
      let h = plain-of (displacement_of i) d (sym e) in
      record { moved = displacement-accepted i d.moved (sym h.0); chi-finite = rw h.1 zero-finite; pdop-finite = rw h.2 zero-finite }

  -- every answer has the whole promise
  pub answered-promised : (wanted : Bool) {r : Result RatedDelta Refusal} → r ≡ answered_of wanted i → Answered wanted i r
  answered-promised wanted {r} e = record { answer = e; given-finite = rated-finite r accepted; accepted = accepted }
    where
      by : (w : Bool) (d : RatedDelta) → answered_of w i ≡ Ok d → RatedAccepted i d
      by true d q = rated-accepted d (sym rated-is ∙ q)
      by false d q = plain-accepted d q

      accepted : (d : RatedDelta) → r ≡ Ok d → RatedAccepted i d
      accepted d q = by wanted d (sym e ∙ q)

  pub rated-promised : (r : Result RatedDelta Refusal) → r ≡ answered_of true i → RatedPromised i r
  unfolding answered_of rated_of
  rated-promised r e =
      let accepted : (d : RatedDelta) → r ≡ Ok d → RatedAccepted i d = λ d q. rated-accepted d (sym e ∙ q) in
      record {
        answer = e;
        number_is = ap answer_number e;
        floats-are = ap rated_floats e;
        figures_are = ap rated_figures e;
        counts-are = ap rated_counts e;
        given-finite = rated-finite r accepted;
        accepted = accepted;
      }
