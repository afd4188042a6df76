-- Where the rounds of a fit reach a state whose entry 0 is finite, every one of them has a step whose entry 0 is finite, and what that gives: a step whose entry 0 is not
-- finite would leave it so to the end. Assumes nothing.
use Rattle.std.specs.Prelude.{Ok}
use mathlib.Core.Path.{◌≡◌, refl, sym, ap, ◌∙◌, subst}
use Prim.Native.Nat.{ℕ, zero, suc, ◌<◌}
use native.Mathlib.Omega.{arith}
use mathlib.Core.Bool.{Bool, true, false, not, cond, ◌&&◌}
use mathlib.Core.List.{List, [], ◌∷◌}
use lib.Dec.{T, ltb, lt→ltb}
use lib.ListN.{length}
use lib.Ieee.{Float, nan}
use lib.Ieee.Bits.{is_true}
use lib.Ieee.Fits.{and_l, and_r}
use lib.Ieee.Scale.{finite}
use borrow.Author.Tests.{not-false}
use Rattle.exact.specs.Float.{◌⊕◌}
use Rattle.exact.proofs.Ops.{add-finite}
use Rattle.lists.specs.Walk.{every}
use Rattle.cholesky.specs.Factor.{at}
use Rattle.numeric.specs.declared.refusal.Refusal.{Refusal}
use Rattle.normal_equations.specs.Nine.{nine}
use Rattle.robust.specs.Round.{Round, RoundOutcome, Refused, Solved}
use Rattle.normal_equations.specs.declared.row.Row.{Row}
use Rattle.normal_equations.proofs.NineLaws.{nine-at}
use Rattle.numeric.specs.Rules.{Rule}
use Rattle.estimate_rounds.specs.Rounds.{End, Stopped, Reached, Fit, moved, short_step, reached_at, begun, after_round, fit_from, last_rows, finite_at, concluded}
use Rattle.median.specs.Sorted.{Each}
use Rattle.estimate_rounds.proofs.RulesLaws.{checked, passed-of, passed-by}

-- entry 0 of a state that moved is a sum
moved-first : (n : ℕ) (x dx : List Float) → 0 < n → T (finite (at (moved n x dx) 0)) → T (finite (at x 0)) × T (finite (at dx 0))
unfolding moved
moved-first n x dx h f =
    let e : at (nine (λ i. cond (ltb i n) (at x i ⊕ at dx i) (at x i))) 0 ≡ at x 0 ⊕ at dx 0 =
    nine-at (λ i. cond (ltb i n) (at x i ⊕ at dx i) (at x i)) nan 0 (omega arith) ∙ ap (λ (b : Bool). cond b (at x 0 ⊕ at dx 0) (at x 0)) (is_true (ltb 0 n) (lt→ltb 0 n h)) in
    add-finite (at x 0) (at dx 0) (subst (λ (z : Float). T (finite z)) e f)

module _ (P : Round → Type 0) (round_at : List Float → RoundOutcome) (n : ℕ) (limit : Float) (used : 0 < n)
    (one : (x : List Float) (r : Round) → round_at x ≡ Solved r → T (finite (at r.step 0)) → P r) where
  -- what the end of a fit from x says of x and of the rounds
  abbrev Kept : List Float → Fit → Type 0
  Kept x f = (y : List Float) → f.end ≡ Reached y → T (finite (at y 0)) → T (finite (at x 0)) × Each P f.rounds

  ended-kept : (x : List Float) → Kept x (reached_at x)
  unfolding Each
  ended-kept x y e f = let q : x ≡ y = cc in (subst (λ (z : List Float). T (finite (at z 0))) (sym q) f, tt)

  begun_kept : (x : List Float) (r : Round) (f : Fit) → round_at x ≡ Solved r → Kept (moved n x r.step) f → Kept x (begun r f)
  unfolding Each
  begun_kept x r f d k y e g =
      let h = k y e g in
      let m = moved-first n x r.step used h.0 in
      (m.0, (one x r d m.1, h.1))

  after_kept : (x : List Float) (next : List Float → Fit) → ((z : List Float) → Kept z (next z)) → (o : RoundOutcome) → round_at x ≡ o → Kept x (after_round n limit x next o)
  after_kept x next h (Refused r) d = λ y e f. absurd (let z : ◌≡◌ {A = ℕ} 0 1 = cc in omega arith)
  after_kept x next h (Solved r) d = begun_kept x r (cond (short_step limit r.step) (reached_at (moved n x r.step)) (next (moved n x r.step))) d (pick (short_step limit r.step))
    where
      pick : (b : Bool) → Kept (moved n x r.step) (cond b (reached_at (moved n x r.step)) (next (moved n x r.step)))
      pick true = ended-kept (moved n x r.step)
      pick false = h (moved n x r.step)

  fit-kept : (count : ℕ) (x : List Float) → Kept x (fit_from round_at n limit count x)
  unfolding fit_from
  fit-kept zero x = ended-kept x
  fit-kept (suc count) x = after_kept x (fit_from round_at n limit count) (fit-kept count) (round_at x) refl

  pub rounds-each : (count : ℕ) (x y : List Float) → (fit_from round_at n limit count x).end ≡ Reached y → T (finite (at y 0)) → Each P (fit_from round_at n limit count x).rounds
  rounds-each count x y e f = (fit-kept count x y e f).1

-- ---- the last round's rows, where every round has as many

module _ (round_at : List Float → RoundOutcome) (n : ℕ) (limit : Float) (L : ℕ) (one-long : (x : List Float) (r : Round) → round_at x ≡ Solved r → length r.rows ≡ L) where
  abbrev Long : (List Float → Fit) → Type 0
  Long next = (z : List Float) (rows : List Row) → length rows ≡ L → (y : List Float) → (next z).end ≡ Reached y → length (last_rows rows (next z).rounds) ≡ L

  step-long : (x : List Float) (next : List Float → Fit) → Long next → (rows : List Row) (o : RoundOutcome) → round_at x ≡ o → (y : List Float) → (after_round n limit x next o).end ≡ Reached y → length (last_rows rows (after_round n limit x next o).rounds) ≡ L
  unfolding last_rows
  step-long x next ih rows (Refused r) d y h = absurd (let z : ◌≡◌ {A = ℕ} 0 1 = cc in omega arith)
  step-long x next ih rows (Solved r) d y h = pick (short_step limit r.step) h
    where
      pick : (b : Bool) → (cond b (reached_at (moved n x r.step)) (next (moved n x r.step))).end ≡ Reached y
          → length (last_rows r.rows (cond b (reached_at (moved n x r.step)) (next (moved n x r.step))).rounds) ≡ L
      pick true h = one-long x r d
      pick false h = ih (moved n x r.step) r.rows (one-long x r d) y h

  last-long : (count : ℕ) → Long (fit_from round_at n limit count)
  unfolding fit_from last_rows
  last-long zero x rows e y h = e
  last-long (suc count) x rows e y h = step-long x (fit_from round_at n limit count) (last-long count) rows (round_at x) refl y h

  pub rows_long : (count : ℕ) → 0 < count → (x y : List Float) → (fit_from round_at n limit count x).end ≡ Reached y → length (last_rows [] (fit_from round_at n limit count x).rounds) ≡ L
  unfolding fit_from
  rows_long zero b x y h = absurd (omega arith)
  rows_long (suc count) b x y h = step-long x (fit_from round_at n limit count) (last-long count) [] (round_at x) refl y h

-- a fit that comes to an answer other than a refusal: the state that it reached, whose rules have been passed
pub record Finished {A : Type 0} (rules : List Float → List Rule) (answer : List Float → A) (ok : A) (e : End) : Type 0 where
  pub x : List Float
  pub end_is : e ≡ Reached x
  pub answer-is : answer x ≡ ok
  pub passed : (Ok tt) ≡ checked (rules x)

pub finished : {A : Type 0} (refused : Refusal → A) (rules : List Float → List Rule) (answer : List Float → A) (ok : A) → ((r : Refusal) → refused r ≡ ok → ⊥) → (e : End)
    → concluded refused rules answer e ≡ ok → Finished rules answer ok e
finished refused rules answer ok never (Stopped r) h = absurd (never r h)
finished refused rules answer ok never (Reached x) h =
    let p = passed-of refused (answer x) (rules x) h never in
    record { x = x; end_is = refl; answer-is = sym (passed-by refused (answer x) (rules x) p) ∙ h; passed = p }

-- a state whose first three entries are finite
pub record Placed (x : List Float) : Type 0 where
  pub first : T (finite (at x 0))
  pub second : T (finite (at x 1))
  pub third : T (finite (at x 2))

-- the rule on it has been passed
pub placed : (x : List Float) → not (finite_at x) ≡ false → Placed x
unfolding finite_at
placed x e =
    let all : T (finite (at x 0) && finite (at x 1) && finite (at x 2)) = subst T (sym (not-false (finite_at x) e)) tt in
    let both = and_l (finite (at x 0) && finite (at x 1)) (finite (at x 2)) all in
    record {
      first = and_l (finite (at x 0)) (finite (at x 1)) both;
      second = and_r (finite (at x 0)) (finite (at x 1)) both;
      third = and_r (finite (at x 0) && finite (at x 1)) (finite (at x 2)) all;
    }

-- three finite floats
pub three-finite : (x y z : Float) → T (finite x) → T (finite y) → T (finite z) → every finite (x ∷ y ∷ z ∷ []) ≡ true
unfolding every
three-finite x y z a b c = rw (is_true (finite x) a, is_true (finite y) b, is_true (finite z) c)
