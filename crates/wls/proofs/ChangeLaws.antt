-- What two requests changed of a fix, exactly: chi of the point handed out and 14, and 15 in the rounds and at the returned position. Assumes nothing.
use Rattle.std.specs.Prelude.{Result, Ok, Err}
use Rattle.numeric.specs.declared.sight.Sight.{Sight}
use mathlib.Core.Logic.{◌⊎◌, inl, inr}
use mathlib.Core.Path.{◌≡◌, refl, sym, ap, ◌∙◌, subst}
use mathlib.Core.Bool.{Bool, true, false, not, cond, ◌&&◌}
use mathlib.Core.List.{List, [], ◌∷◌, map, foldl}
use Prim.Native.Nat.{ℕ, ◌+◌}
use native.Mathlib.Omega.{arith}
use lib.Dec.{eqb, T}
use lib.Ieee.{Float, nan, inf, fin, binary64}
use lib.Ieee.Scale.{finite}
use lib.Ieee.Bits.{is_true}
use lib.Ieee.Fits.{sub-fits}
use borrow.Author.Tests.{eq-eqb}
use Rattle.exact.specs.Float.{◌⊕◌, ◌⊖◌, ◌⊘◌, +0, bits}
use Rattle.exact.proofs.Ops.{add-finite, sub-finite, mul-finite, div-finite}
use Rattle.root.specs.Root.{root_of}
use Rattle.lists.specs.Walk.{every}
use Rattle.cholesky.specs.Factor.{at, factor_of}
use Rattle.cholesky.specs.Answer as factor
use Rattle.numeric.specs.Real.{square}
use Rattle.numeric.specs.Refusal.{number_of}
use Rattle.numeric.proofs.OrderLaws.{pattern_back}
use Rattle.numeric.specs.Sight.{sight_of, on_receiver, geometry}
use Rattle.numeric.specs.declared.vec3.Vec3.{Vec3}
use Rattle.numeric.specs.declared.refusal.Refusal.{Refusal}
use Rattle.numeric.specs.declared.refusal.Refusal.TheVariants.{FitFailed, QualityNotFinite, OnReceiver}
use Rattle.normal_equations.specs.Equations.{total}
use Rattle.normal_equations.specs.declared.row.Row.{Row}
use Rattle.clocks.specs.Clocks.{slot}
use Rattle.clocks.specs.declared.clocks.Clocks.{Clocks}
use Rattle.records.specs.declared.record.Observation.{Observation}
use Rattle.numeric.specs.Rules.{Rule, rule, ruled}
use Rattle.estimate_rounds.specs.Rules.{row_rules}
use Rattle.estimate_rounds.specs.Rounds.{End, Stopped, Reached, vector, last_rows, finite_at, concluded}
use Rattle.numeric.proofs.RulesLaws.{ruled-append}
use Rattle.estimate_rounds.proofs.RulesLaws.{checked, passed-by}
use Rattle.wls.specs.Valid.{fix_input_rules}
use Rattle.wls.specs.Front.{fix_rules}
use Rattle.wls.specs.Fix.{Input, sight_at, sight_rules, row_at, start, fit_over, kept_observations, clocks, fit_of, rounds_of, chi_at, residual_at, quality_rules, end_rules, solution_at, found_over, fix_of}
use Rattle.quality.specs.Quality.{unweighted_matrix, dilution_of, chi_of}
use Rattle.wls.specs.Before.{fit_before, rules_before, solution_before, found_before, fix_first, fix_before, seen_at}
use Rattle.wls.specs.declared.fix.Settings.{Settings}
use Rattle.wls.specs.declared.fix.Solution.{Solution}
use Rattle.wls.proofs.StopLaws.{begins, unseen-stops, stops-unseen, stopped_by}
use Rattle.wls.proofs.BeforeLaws.{sights-are, fifteen-or-before}
use Rattle.wls.proofs.QualityBefore.{with_chi, Became, Same, Anew, became}
use Rattle.wls.proofs.FixSound.{ended as finished-at}

-- ---- 15 of the rows is what the geometry of each satellite passes on

abbrev pub passed_on : Result Sight Refusal → Rule
passed_on (Err r) = rule r true
passed_on (Ok s) = rule OnReceiver false

one_on : (satellite receiver : Vec3) → rule OnReceiver (on_receiver (sight_of satellite receiver).range) ≡ passed_on (geometry satellite receiver)
unfolding geometry
one_on satellite receiver = go (on_receiver (sight_of satellite receiver).range)
  where
    go : (b : Bool) → rule OnReceiver b ≡ passed_on (cond b (Err OnReceiver) (Ok (sight_of satellite receiver)))
    go true = refl
    go false = refl

pub passed_on_lem : (os : List Observation) (x : List Float) → sight_rules os x ≡ map (λ (o : Observation). passed_on (geometry o.satellite (vector x))) os
unfolding sight_rules
passed_on_lem [] x = refl
passed_on_lem (o ∷ os) x = rw (one_on o.satellite (vector x), passed_on_lem os x)

-- ---- rules that give other numbers

-- what a refusal by a number that these rules do not have says of them
record Behind (rs : List Rule) (a : Result Solution Refusal) (r : Refusal) : Type 0 where
  passes : (Ok tt) ≡ checked rs
  is : a ≡ Err r

behind : (rs : List Rule) (a : Result Solution Refusal) (r : Refusal) → every (λ (q : Rule). not (eqb (number_of q.refusal) (number_of r))) rs ≡ true → ruled Err rs a ≡ Err r → Behind rs a r
unfolding ruled every
behind [] a r h e = record { passes = refl; is = e }
behind (q ∷ rs) a r h e = go q.applies refl (eqb (number_of q.refusal) (number_of r)) refl h e (behind rs a r)
  where
    go : (b : Bool) → q.applies ≡ b → (c : Bool) → eqb (number_of q.refusal) (number_of r) ≡ c
        → (not c && every (λ (q : Rule). not (eqb (number_of q.refusal) (number_of r))) rs) ≡ true
        → cond b (Err q.refusal) (ruled Err rs a) ≡ Err r
        → (every (λ (q : Rule). not (eqb (number_of q.refusal) (number_of r))) rs ≡ true → ruled Err rs a ≡ Err r → Behind rs a r) → Behind (q ∷ rs) a r
    go b f true g h e ih = absurd (let z : ◌≡◌ {A = ℕ} 0 1 = cc in omega arith)
    go true f false g h e ih =
        let same : q.refusal ≡ r = cc in
        let n : eqb (number_of q.refusal) (number_of r) ≡ true = eq-eqb _ _ (ap number_of same) in
        absurd (let z : ◌≡◌ {A = ℕ} 0 1 = cc in omega arith)
    go false f false g h e ih = let t = ih h e in record { passes = rw f t.passes; is = t.is }

-- ---- at the state that the rounds reach: 10, 15 and 14 in turn
module _ (settings : Settings) (k : Clocks) (os : List Observation) where
  abbrev n : ℕ
  n = 3 + k.count

  end_is : (rows : List Row) (chi : Float) (x : List Float) (a : Result Solution Refusal) → ruled Err (end_rules n rows (sight_rules os x) chi x) a
      ≡ cond (not (finite_at x)) (Err FitFailed) (cond (not (factor.accepted (factor_of (unweighted_matrix n rows)))) (Err FitFailed)
      (cond (seen_at os x) (cond (not (finite chi && finite (dilution_of n rows))) (Err QualityNotFinite) a) (Err OnReceiver)))
  unfolding end_rules quality_rules ruled
  end_is rows chi x a =
      ap (λ (b : Result Solution Refusal). cond (not (finite_at x)) (Err FitFailed) (cond (not (factor.accepted (factor_of (unweighted_matrix n rows)))) (Err FitFailed) b))
      (ruled-append Err _ (sight_rules os x) _ ∙ sights-are Err _ os x)

-- ---- the call

abbrev unknowns : Input → ℕ
unknowns i = 3 + (clocks i).count

abbrev last_of : Input → List Row
last_of i = last_rows [] (rounds_of i)

abbrev rules_of : Input → List Rule
rules_of i = fix_rules i.observations i.guess i.settings

-- its rounds end at the state x, and 10 lets that pass, the pivot of the unweighted matrix included
pub record Ends (i : Input) (x : List Float) : Type 0 where
  pub passes : (Ok tt) ≡ checked (rules_of i)
  pub reached : (fit_of i).end ≡ Reached x
  pub placed : finite_at x ≡ true
  pub factored : factor.accepted (factor_of (unweighted_matrix (unknowns i) (last_of i))) ≡ true

-- 14: 2 to 9 pass, the rounds end in a state that 10 and 15 let pass, and chi there or pdop of the last round's rows is not finite
pub record Fourteen (i : Input) : Type 0 where
  pub x : List Float
  pub ends : Ends i x
  pub seen : seen_at (kept_observations i) x ≡ true
  pub not_finite : (finite (chi_at i.settings (clocks i) (kept_observations i) x) && finite (dilution_of (unknowns i) (last_of i))) ≡ false

-- 15: 2 to 9 pass, and a round begins at a state with a row whose range is zero or not finite, or the rounds end in one that 10 lets pass
pub data Fifteen (i : Input) : Type 0 where
  InRound : (Ok tt) ≡ checked (rules_of i) → every (seen_at (kept_observations i)) (begins (unknowns i) (start i.guess) (rounds_of i) (fit_of i).end) ≡ false → Fifteen i
  AtEnd : (x : List Float) → Ends i x → seen_at (kept_observations i) x ≡ false → Fifteen i

-- an accepted fix beside the first one
pub record AsFirst (i : Input) (s : Solution) : Type 0 where
  pub first : Solution
  pub accepted : fix_first i ≡ Ok first
  pub position : s.position ≡ first.position
  pub used : s.used ≡ first.used
  pub pdop : s.pdop ≡ first.pdop
  -- the state that its rounds reach: its position is the one handed out, and chi is that of the residuals there
  pub x : List Float
  pub reached : (fit_of i).end ≡ Reached x
  pub at_position : s.position ≡ vector x
  pub chi-is : s.chi ≡ chi_at i.settings (clocks i) (kept_observations i) x

-- ---- 15, both ways

abbrev found : Input → Result Solution Refusal
found i = found_over i.settings (clocks i) (kept_observations i) i.guess

abbrev chi : Input → List Float → Float
chi i x = chi_at i.settings (clocks i) (kept_observations i) x

abbrev rules_at : Input → List Float → List Rule
rules_at i x = end_rules (unknowns i) (last_of i) (sight_rules (kept_observations i) x) (chi i x) x

abbrev answer_at : Input → List Float → Result Solution Refusal
answer_at i x = Ok (solution_at (unknowns i) (last_of i) (chi i x) x)

-- what the rounds come to, from where they end
found_at : (i : Input) → found i ≡ concluded Err (rules_at i) (answer_at i) (fit_of i).end
unfolding found_over rounds_of fit_of
found_at i = refl

-- the numbers of 2 to 9
others-fifteen : (i : Input) → every (λ (q : Rule). not (eqb (number_of q.refusal) 15)) (rules_of i) ≡ true
unfolding fix_rules fix_input_rules row_rules every
others-fifteen i = refl

others_fourteen : (i : Input) → every (λ (q : Rule). not (eqb (number_of q.refusal) 14)) (rules_of i) ≡ true
unfolding fix_rules fix_input_rules row_rules every
others_fourteen i = refl

-- at the state reached, by what 10, 15 and 14 say of it
abbrev told : Bool → Bool → Bool → Bool → Result Solution Refusal → Result Solution Refusal
told placed factored seen figures a =
    cond (not placed) (Err FitFailed) (cond (not factored) (Err FitFailed) (cond seen (cond (not figures) (Err QualityNotFinite) a) (Err OnReceiver)))

told-fifteen : (a b c d : Bool) (s : Solution) → told a b c d (Ok s) ≡ Err OnReceiver → (a ≡ true) × (b ≡ true) × (c ≡ false)
told-fifteen false b c d s h = absurd (let z : ◌≡◌ {A = ℕ} 0 1 = cc in omega arith)
told-fifteen true false c d s h = absurd (let z : ◌≡◌ {A = ℕ} 0 1 = cc in omega arith)
told-fifteen true true false d s h = (refl, refl, refl)
told-fifteen true true true true s h = absurd (let z : ◌≡◌ {A = ℕ} 0 1 = cc in omega arith)
told-fifteen true true true false s h = absurd (let z : ◌≡◌ {A = ℕ} 0 1 = cc in omega arith)

told_fourteen : (a b c d : Bool) (s : Solution) → told a b c d (Ok s) ≡ Err QualityNotFinite → (a ≡ true) × (b ≡ true) × (c ≡ true) × (d ≡ false)
told_fourteen false b c d s h = absurd (let z : ◌≡◌ {A = ℕ} 0 1 = cc in omega arith)
told_fourteen true false c d s h = absurd (let z : ◌≡◌ {A = ℕ} 0 1 = cc in omega arith)
told_fourteen true true false d s h = absurd (let z : ◌≡◌ {A = ℕ} 0 1 = cc in omega arith)
told_fourteen true true true true s h = absurd (let z : ◌≡◌ {A = ℕ} 0 1 = cc in omega arith)
told_fourteen true true true false s h = (refl, refl, refl, refl)

-- the answer at the state x
told_at : (i : Input) (x : List Float) → ruled Err (rules_at i x) (answer_at i x)
    ≡ told (finite_at x) (factor.accepted (factor_of (unweighted_matrix (unknowns i) (last_of i)))) (seen_at (kept_observations i) x) (finite (chi i x) && finite (dilution_of (unknowns i) (last_of i))) (answer_at i x)
told_at i x = end_is i.settings (clocks i) (kept_observations i) (last_of i) (chi i x) x (answer_at i x)

-- the rounds of the call
begun-unseen : (i : Input) → (fit_of i).end ≡ Stopped OnReceiver → every (seen_at (kept_observations i)) (begins (unknowns i) (start i.guess) (rounds_of i) (fit_of i).end) ≡ false
unfolding rounds_of fit_of fit_over
begun-unseen i h = stops-unseen i.settings (clocks i) (kept_observations i) i.settings.rounds (start i.guess) h

unseen-begun : (i : Input) → every (seen_at (kept_observations i)) (begins (unknowns i) (start i.guess) (rounds_of i) (fit_of i).end) ≡ false → (fit_of i).end ≡ Stopped OnReceiver
unfolding rounds_of fit_of fit_over
unseen-begun i h = unseen-stops i.settings (clocks i) (kept_observations i) i.settings.rounds (start i.guess) h

stopped-is : (i : Input) (r : Refusal) → (fit_of i).end ≡ Stopped r → (r ≡ OnReceiver) ⊎ (r ≡ FitFailed)
unfolding fit_of fit_over
stopped-is i r h = stopped_by i.settings (clocks i) (kept_observations i) i.settings.rounds (start i.guess) r h

-- A fix is 15 only where 2 to 9 pass, and a round begins with such a row or the rounds end with one in a state that 10 lets pass ..
pub fifteen-only : (i : Input) → fix_of i ≡ Err OnReceiver → Fifteen i
unfolding fix_of
fifteen-only i e = let b = behind (rules_of i) (found i) OnReceiver (others-fifteen i) e in on (fit_of i).end refl b.passes (sym (found_at i) ∙ b.is)
  where
    on : (v : End) → (fit_of i).end ≡ v → (Ok tt) ≡ checked (rules_of i) → concluded Err (rules_at i) (answer_at i) v ≡ Err OnReceiver → Fifteen i
    on (Stopped r) q p h = let e : r ≡ OnReceiver = cc in InRound p (begun-unseen i (q ∙ ap Stopped e))
    on (Reached x) q p h =
        let t = told-fifteen (finite_at x) (factor.accepted (factor_of (unweighted_matrix (unknowns i) (last_of i)))) (seen_at (kept_observations i) x) (finite (chi i x) && finite (dilution_of (unknowns i) (last_of i))) (solution_at (unknowns i) (last_of i) (chi i x) x) (sym (told_at i x) ∙ h) in
        AtEnd x (record { passes = p; reached = q; placed = t.0; factored = t.1 }) t.2

-- .. and there it is.
pub fifteen-always : (i : Input) → Fifteen i → fix_of i ≡ Err OnReceiver
unfolding fix_of
fifteen-always i (InRound p h) = passed-by Err (found i) (rules_of i) p ∙ found_at i ∙ ap (concluded Err (rules_at i) (answer_at i)) (unseen-begun i h)
fifteen-always i (AtEnd x e h) =
    passed-by Err (found i) (rules_of i) e.passes ∙ found_at i ∙ ap (concluded Err (rules_at i) (answer_at i)) e.reached ∙ told_at i x ∙ rw (e.placed, e.factored, h)

-- ---- 14, both ways

pub fourteen_only : (i : Input) → fix_of i ≡ Err QualityNotFinite → Fourteen i
unfolding fix_of
fourteen_only i e = let b = behind (rules_of i) (found i) QualityNotFinite (others_fourteen i) e in on (fit_of i).end refl b.passes (sym (found_at i) ∙ b.is)
  where
    never : (r : Refusal) → (r ≡ OnReceiver) ⊎ (r ≡ FitFailed) → ◌≡◌ {A = Result Solution Refusal} (Err r) (Err QualityNotFinite) → ⊥
    never r (inl e) h = let z : ◌≡◌ {A = ℕ} 0 1 = cc in omega arith
    never r (inr e) h = let z : ◌≡◌ {A = ℕ} 0 1 = cc in omega arith

    on : (v : End) → (fit_of i).end ≡ v → (Ok tt) ≡ checked (rules_of i) → concluded Err (rules_at i) (answer_at i) v ≡ Err QualityNotFinite → Fourteen i
    on (Stopped r) q p h = absurd (never r (stopped-is i r q) h)
    on (Reached x) q p h =
        let t = told_fourteen (finite_at x) (factor.accepted (factor_of (unweighted_matrix (unknowns i) (last_of i)))) (seen_at (kept_observations i) x) (finite (chi i x) && finite (dilution_of (unknowns i) (last_of i))) (solution_at (unknowns i) (last_of i) (chi i x) x) (sym (told_at i x) ∙ h) in
        record { x = x; ends = record { passes = p; reached = q; placed = t.0; factored = t.1 }; seen = t.2; not_finite = t.3 }

pub fourteen_always : (i : Input) → Fourteen i → fix_of i ≡ Err QualityNotFinite
unfolding fix_of
fourteen_always i f =
    let e = f.ends in
    passed-by Err (found i) (rules_of i) e.passes ∙ found_at i ∙ ap (concluded Err (rules_at i) (answer_at i)) e.reached ∙ told_at i f.x ∙ rw (e.placed, e.factored, f.seen, f.not_finite)

-- ---- before 15 there was 14: a range that is not finite at a position that 10 lets pass

-- a finite root is that of a finite float
root-from : (a : Float) → T (finite (root_of a)) → T (finite a)
unfolding root_of
root-from nan h = h
root-from (inf true) h = h
root-from (inf false) h = h
root-from (fin s m e) h = tt

module _ (settings : Settings) (k : Clocks) (x : List Float) where
  abbrev term : Row → Float
  term r = square (bits r.residual ⊘ r.sigma)

  range-finite : (o : Observation) → T (finite (term (row_at settings k x o))) → T (finite (sight_at x o).range)
  unfolding row_at residual_at square
  range-finite o h =
      let v = o.pseudorange ⊖ ((sight_at x o).range ⊕ at x (slot k o.constellation)) in
      let f : T (finite v) = subst (λ (z : Float). T (finite z)) (pattern_back v (sub-fits binary64 _ _)) (div-finite _ _ (mul-finite _ _ h).0) in
      (add-finite _ _ (sub-finite _ _ f).1).0

  ranges-finite : (os : List Observation) (s : Float) → T (finite (foldl (λ (s : Float) (r : Row). s ⊕ term r) s (map (row_at settings k x) os)))
      → T (finite s) × (every (λ (o : Observation). finite (sight_at x o).range) os ≡ true)
  unfolding every
  ranges-finite [] s h = (h, refl)
  ranges-finite (o ∷ os) s h =
      let t = ranges-finite os (s ⊕ term (row_at settings k x o)) h in
      let a = add-finite _ _ t.0 in
      (a.0, rw (is_true (finite (sight_at x o).range) (range-finite o a.1), t.1))

  pub chi-ranges : (os : List Observation) → T (finite (chi_at settings k os x)) → every (λ (o : Observation). finite (sight_at x o).range) os ≡ true
  unfolding chi_at chi_of total
  chi-ranges os h = (ranges-finite os +0 (div-finite _ _ (root-from _ h))).1

abbrev last_before : Input → List Row
last_before i = last_rows [] (fit_before i.settings (clocks i) (kept_observations i) i.guess).rounds

pub range_fourteen : (i : Input) (x : List Float) → (Ok tt) ≡ checked (rules_of i) → (fit_before i.settings (clocks i) (kept_observations i) i.guess).end ≡ Reached x → finite_at x ≡ true
    → factor.accepted (factor_of (unweighted_matrix (unknowns i) (last_before i))) ≡ true → every (λ (o : Observation). finite (sight_at x o).range) (kept_observations i) ≡ false → fix_before i ≡ Err QualityNotFinite
unfolding ruled
range_fourteen i x p e a b h =
    passed-by Err (found_before i.settings (clocks i) (kept_observations i) i.guess) (rules_of i) p
    ∙ ap (concluded Err (rules_before i.settings (clocks i) (kept_observations i) (last_before i)) (solution_before i.settings (clocks i) (kept_observations i) (last_before i))) e
    ∙ rw (a, b, infinite)
  where
    infinite : finite (chi i x) ≡ false
    infinite = go (finite (chi i x)) (chi-ranges i.settings (clocks i) x (kept_observations i))
      where
        go : (c : Bool) → (T c → every (λ (o : Observation). finite (sight_at x o).range) (kept_observations i) ≡ true) → c ≡ false
        go true f = sym (f tt) ∙ h
        go false f = refl

-- ---- an accepted fix

-- what the first one is, from what it became
record Kept (a : Result Solution Refusal) (s : Solution) : Type 0 where
  first : Solution
  is : a ≡ Ok first
  position : s.position ≡ first.position
  used : s.used ≡ first.used
  pdop : s.pdop ≡ first.pdop

kept_by : {a b : Result Solution Refusal} (s : Solution) → Became a b → b ≡ Ok s → Kept a s
unfolding ruled
kept_by s (Same r) e = absurd (let z : ◌≡◌ {A = ℕ} 0 1 = cc in omega arith)
kept_by s (Anew t c) e = go (not (finite c && finite t.pdop)) e
  where
    go : (b : Bool) → cond b (Err QualityNotFinite) (Ok (with_chi c t)) ≡ Ok s → Kept (Ok t) s
    go true e = absurd (let z : ◌≡◌ {A = ℕ} 0 1 = cc in omega arith)
    go false e =
        let q : with_chi c t ≡ s = cc in
        record { first = t; is = refl; position = ap (λ (z : Solution). z.position) (sym q); used = ap (λ (z : Solution). z.used) (sym q); pdop = ap (λ (z : Solution). z.pdop) (sym q) }

-- An accepted fix has the position, the count and the pdop of the first fix of that input, which is accepted, and chi of the residuals at the position that it
-- gives out, with the final clocks.
pub as_first : (i : Input) (s : Solution) → fix_of i ≡ Ok s → AsFirst i s
as_first i s e =
    let k = go (fifteen-or-before i) in
    let f = finished-at i s e in
    let q : solution_at (unknowns i) (last_of i) (chi i f.x) f.x ≡ s = solved-by f.answer-is in
    record {
      first = k.first;
      accepted = k.is;
      position = k.position;
      used = k.used;
      pdop = k.pdop;
      x = f.x;
      reached = f.end_is;
      at_position = ap (λ (z : Solution). z.position) (sym q);
      chi-is = ap (λ (z : Solution). z.chi) (sym q);
    }
  where
    solved-by : {a b : Solution} → ◌≡◌ {A = Result Solution Refusal} (Ok a) (Ok b) → a ≡ b
    solved-by h = cc

    go : (fix_of i ≡ Err OnReceiver) ⊎ (fix_of i ≡ fix_before i) → Kept (fix_first i) s
    go (inl h) = absurd (let z : ◌≡◌ {A = ℕ} 0 1 = cc in omega arith)
    go (inr h) = kept_by s (became i) (sym h ∙ e)
