-- The rounds as the code's loops have them: what is left to do. Assumes nothing.
use Rattle.std.specs.Prelude.{Result, Ok, Err, ⊤}
use mathlib.Core.Path.{◌≡◌, refl, sym, ap, ◌∙◌, subst, subst₂}
use Prim.Native.Nat.{ℕ, suc, ◌+◌, ◌-◌, ◌≤◌, ◌<◌, min}
use native.Mathlib.Nat.{not-suc-le-zero}
use native.Mathlib.Decide.{ℕ_discrete, dec_lt}
use native.Mathlib.Omega.{arith}
use mathlib.Core.Bool.{Bool, true, false, cond}
use mathlib.Core.List.{List, []}
use lib.Dec.{ltb}
use borrow.Author.Tests.{lt-ltb, le-ltb}
use lib.ListN.{length, set, length-set, get_or-eq_default}
use lib.Seq.{get_or-set_same, get_or-set_other}
use lib.Ieee.{Float, nan, div, of_int, of_bits}
use Rattle.exact.specs.Float.{◌⊕◌, bits, decimal}
use Rattle.cholesky.specs.Factor.{at}
use Rattle.robust.specs.Round.{Round, RoundOutcome, Refused, Solved}
use Rattle.robust.specs.Steps.{stepping_of}
use Rattle.normal_equations.specs.declared.row.Row.{Row}
use Rattle.numeric.specs.declared.refusal.Refusal.{Refusal}
use Rattle.normal_equations.proofs.NineLaws.{nine-is}
use Rattle.estimate_rounds.specs.Rounds.{End, Stopped, Reached, Fit, moved, short_step, after_round, fit_from, last_rows}
use Rattle.estimate_rounds.specs.Steps.{Ended}

-- rounds above 50, which every estimator refuses alike, so that 51 stand for them all
pub capped : {A : Type 0} (f : ℕ → A) {r : A} → ((k : ℕ) → 50 < k → f k ≡ r) → (rounds : ℕ) → f (min rounds 51) ≡ f rounds
capped f many rounds = go (dec_lt 50 rounds)
  where
    go : Dec (50 < rounds) → f (min rounds 51) ≡ f rounds
    go (yes h) = many (min rounds 51) (omega arith) ∙ sym (many rounds h)
    go (no h) = let e : min rounds 51 ≡ rounds = omega arith in ap f e

-- 1e-3 and 1e-5, as a compiler reads them
pub three-places : bits 0x3F50_624D_D2F1_A9FC ≡ decimal 1 3
unfolding div of_int of_bits
three-places = refl

pub five-places : bits 0x3EE4_F8B5_88E3_68F1 ≡ decimal 1 5
unfolding div of_int of_bits
five-places = refl

-- ---- a state that has moved in its first i places
pub record Moving (x dx : List Float) (i : ℕ) (y : List Float) : Type 0 where
  pub long : length y ≡ 9
  pub done : (p : ℕ) → p < i → at y p ≡ at x p ⊕ at dx p
  pub rest : (p : ℕ) → i ≤ p → at y p ≡ at x p

module _ (x dx : List Float) where
  pub moving_start : length x ≡ 9 → Moving x dx 0 x
  moving_start e = record { long = e; done = λ p h. absurd (not-suc-le-zero h); rest = λ p h. refl }

  pub moving_next : (i : ℕ) (y : List Float) → i < 9 → Moving x dx i y → Moving x dx (i + 1) (set y i (at x i ⊕ at dx i))
  moving_next i y b h = record { long = length-set y i _ ∙ h.long; done = λ p pb. go p pb (ℕ_discrete p i); rest = λ p pb. get_or-set_other y i p _ nan (omega arith) ∙ h.rest p (omega arith) }
    where
      go : (p : ℕ) → p < i + 1 → Dec (p ≡ i) → at (set y i (at x i ⊕ at dx i)) p ≡ at x p ⊕ at dx p
      go p pb (yes q) = rw q (get_or-set_same y i (at x i ⊕ at dx i) nan (omega (arith, h.long)))
      go p pb (no q) = get_or-set_other y i p (at x i ⊕ at dx i) nan q ∙ h.done p (omega arith)

  pub moving_end : (n : ℕ) (y : List Float) → Moving x dx n y → y ≡ moved n x dx
  unfolding moved
  moving_end n y h = nine-is (λ i. cond (ltb i n) (at x i ⊕ at dx i) (at x i)) nan y h.long (λ p pb. go p (dec_lt p n))
    where
      go : (p : ℕ) → Dec (p < n) → at y p ≡ cond (ltb p n) (at x p ⊕ at dx p) (at x p)
      go p (yes l) = h.done p l ∙ rw (lt-ltb p n l)
      go p (no l) = let m : n ≤ p = omega arith in h.rest p m ∙ rw (le-ltb p n m)

pub past_end : (x : List Float) (s : ℕ) → length x ≡ 9 → 9 ≤ s → nan ≡ at x s
past_end x s e h = sym (get_or-eq_default x nan (omega arith))

-- ---- what is left of the fit f after i of at most `count` rounds, which led to the state x, the last of them with these rows
module _ (round_at : List Float → RoundOutcome) (n : ℕ) (limit : Float) (count : ℕ) (f : Fit) where
  pub record Left (i : ℕ) (x : List Float) : Type 0 where
    pub end : (fit_from round_at n limit (count - i) x).end ≡ f.end

  pub record LeftRows (i : ℕ) (x : List Float) (rows : List Row) : Type 0 where
    pub last : last_rows rows (fit_from round_at n limit (count - i) x).rounds ≡ last_rows [] f.rounds

  pub left-start : (x : List Float) → f ≡ fit_from round_at n limit count x → Left 0 x
  left-start x q = let e : count - 0 ≡ count = omega arith in record { end = rw (e, q) }

  pub rows_start : (x : List Float) → f ≡ fit_from round_at n limit count x → LeftRows 0 x []
  rows_start x q = let e : count - 0 ≡ count = omega arith in record { last = rw (e, q) }

  module _ (i : ℕ) (x : List Float) where
    -- the count is used up
    pub left_end : count - i ≡ 0 → Left i x → Reached x ≡ f.end
    unfolding fit_from
    left_end e l = rw e at l.end

    pub rows_end : count - i ≡ 0 → (rows : List Row) → LeftRows i x rows → rows ≡ last_rows [] f.rounds
    unfolding fit_from last_rows
    rows_end e rows l = rw e at l.last

    -- one round more, of which the code has the answer and the step
    module _ (more : i < count) (a : Result (List Float) Refusal) (s : a ≡ stepping_of (round_at x)) where
      next : List Float → Fit
      next y = fit_from round_at n limit (count - (i + 1)) y

      here : Left i x → (after_round n limit x next (round_at x)).end ≡ f.end
      unfolding fit_from next
      here l = let e : count - i ≡ suc (count - (i + 1)) = omega arith in rw e at l.end

      here-rows : (rows : List Row) → LeftRows i x rows → last_rows rows (after_round n limit x next (round_at x)).rounds ≡ last_rows [] f.rounds
      unfolding fit_from next
      here-rows rows l = let e : count - i ≡ suc (count - (i + 1)) = omega arith in rw e at l.last

      pub left-stopped : (r : Refusal) → a ≡ Err r → Left i x → Stopped r ≡ f.end
      left-stopped r t l = go (round_at x) s (here l)
        where
          go : (o : RoundOutcome) → a ≡ stepping_of o → (after_round n limit x next o).end ≡ f.end → Stopped r ≡ f.end
          go (Refused q) s e = let same : r ≡ q = cc in ap Stopped same ∙ e
          go (Solved q) s e = absurd (let z : ◌≡◌ {A = ℕ} 0 1 = cc in omega arith)

      -- y is where the step leads, and `stop` whether it is short
      module _ (dx : List Float) (t : a ≡ Ok dx) (y : List Float) (stop : Bool) (moves : y ≡ moved n x dx) (stops : stop ≡ short_step limit dx) where
        never : {A : Type 0} (r : Refusal) → a ≡ stepping_of (Refused r) → A
        never r s = absurd (let z : ◌≡◌ {A = ℕ} 0 1 = cc in omega arith)

        step-is : (r : Round) → a ≡ stepping_of (Solved r) → dx ≡ r.step
        step-is r s = cc

        there : (r : Round) → a ≡ stepping_of (Solved r) → y ≡ moved n x r.step
        there r s = moves ∙ ap (moved n x) (step-is r s)

        is-short : (r : Round) → a ≡ stepping_of (Solved r) → stop ≡ short_step limit r.step
        is-short r s = stops ∙ ap (short_step limit) (step-is r s)

        pub left-stops : stop ≡ true → Left i x → Reached y ≡ f.end
        left-stops w l = go (round_at x) s (here l)
          where
            go : (o : RoundOutcome) → a ≡ stepping_of o → (after_round n limit x next o).end ≡ f.end → Reached y ≡ f.end
            go (Refused r) s e = never r s
            go (Solved r) s e = let q : short_step limit r.step ≡ true = sym (is-short r s) ∙ w in ap Reached (there r s) ∙ (rw q at e)

        pub left-goes : stop ≡ false → Left i x → Left (i + 1) y
        unfolding next
        left-goes w l = go (round_at x) s (here l)
          where
            go : (o : RoundOutcome) → a ≡ stepping_of o → (after_round n limit x next o).end ≡ f.end → Left (i + 1) y
            go (Refused r) s e = never r s
            go (Solved r) s e = let q : short_step limit r.step ≡ false = sym (is-short r s) ∙ w in record { end = ap (λ (z : List Float). (next z).end) (there r s) ∙ (rw q at e) }

        -- `new` are the rows of the round
        module _ (rows new : List Row) (news : (r : Round) → round_at x ≡ Solved r → r.rows ≡ new) where
          pub rows-stop : stop ≡ true → LeftRows i x rows → new ≡ last_rows [] f.rounds
          unfolding last_rows
          rows-stop w l = go (round_at x) refl s (here-rows rows l)
            where
              go : (o : RoundOutcome) → round_at x ≡ o → a ≡ stepping_of o → last_rows rows (after_round n limit x next o).rounds ≡ last_rows [] f.rounds → new ≡ last_rows [] f.rounds
              go (Refused r) d s e = never r s
              go (Solved r) d s e = let q : short_step limit r.step ≡ true = sym (is-short r s) ∙ w in sym (news r d) ∙ (rw q at e)

          pub rows-go : stop ≡ false → LeftRows i x rows → LeftRows (i + 1) y new
          unfolding last_rows next
          rows-go w l = go (round_at x) refl s (here-rows rows l)
            where
              go : (o : RoundOutcome) → round_at x ≡ o → a ≡ stepping_of o → last_rows rows (after_round n limit x next o).rounds ≡ last_rows [] f.rounds → LeftRows (i + 1) y new
              go (Refused r) d s e = never r s
              go (Solved r) d s e =
                  let q : short_step limit r.step ≡ false = sym (is-short r s) ∙ w in
                  let h : last_rows r.rows (next (moved n x r.step)).rounds ≡ last_rows [] f.rounds = rw q at e in
                  record { last = subst₂ (λ (a : List Row) (b : List Float). last_rows a (next b).rounds ≡ last_rows [] f.rounds) (news r d) (sym (there r s)) h }

-- the contract of a loop that lends x
pub ended-stopped : (e : End) (x y : List Float) {r : Refusal} → y ≡ x → Stopped r ≡ e → Ended e (Err r) x y
ended-stopped e x y {r} k h = subst (λ z. Ended z (Err r) x y) h (record { answer-is = refl; number_is = refl; state-is = k })

pub ended-reached : (e : End) (x y : List Float) → Reached y ≡ e → Ended e (Ok tt) x y
ended-reached e x y h = subst (λ z. Ended z (Ok tt) x y) h (record { answer-is = refl; number_is = refl; state-is = refl })
