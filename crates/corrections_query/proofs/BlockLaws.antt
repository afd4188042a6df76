-- The answer of one satellite's block, by how many of its samples are before the time. Assumes nothing.
use Rattle.std.specs.Prelude.{Ok, Err}
use mathlib.Core.Path.{◌≡◌, refl, sym, ap, ◌∙◌}
use mathlib.Core.List.{List, []}
use mathlib.Core.Bool.{Bool, true, false, cond, not, ◌&&◌}
use Prim.Native.Nat.{ℕ, ◌+◌, ◌-◌, ◌≤◌, ◌<◌}
use native.Mathlib.Nat.{le_refl}
use native.Mathlib.Omega.{arith}
use lib.Dec.{ltb}
use lib.ListN.{length, get_or}
use borrow.Author.Tests.{ltb-true, ltb-false, lt-ltb, le-ltb}
use lib.Ieee.{Float, nan, lt}
use Rattle.exact.specs.Float.{◌⊖◌}
use Rattle.lists.proofs.Walk.{and_both}
use Rattle.numeric.specs.declared.refusal.Refusal.TheVariants.{NoCorrection}
use Rattle.corrections_table.specs.Table.{blank, series_of}
use Rattle.corrections_table.specs.declared.sample.Sample.{Sample}
use Rattle.corrections_table.proofs.UnitLaws.{never}
use Rattle.corrections_directory.specs.Directory.{Directory, flat, sound_directory}
use Rattle.corrections_directory.proofs.DirectoryLaws.{sound-parts}
use Rattle.corrections_directory.proofs.SeriesLaws.{block_series, block_of}
use Rattle.corrections_query.specs.Query.{missing, the, near, first_of, last_of, sample_before, since, last_before, first_since, through, line, near_or, spanned, correction_rule, answer_in}
use Rattle.corrections_query.specs.Steps.{Split, is_before}
use Rattle.corrections_query.proofs.FoundLaws.{first-at, first-none, last-at, last_none}
use Rattle.corrections_query.proofs.PlaceLaws.{Lies}

-- ---- what is found in a list whose samples before the time are the first r
module _ (t : Float) (l : List Sample) (r : ℕ) (s : Split (λ j. sample_before t (get_or l j blank)) 0 (length l) r) where
  since_at : first_since t l ≡ cond (ltb r (length l)) (the (get_or l r blank)) missing
  since_at = go (ltb r (length l)) refl
    where
      go : (x : Bool) → ltb r (length l) ≡ x → first_since t l ≡ cond x (the (get_or l r blank)) missing
      go true e = let h : r < length l = ltb-true r (length l) e in first-at (since t) l r h (λ j k. ap not (s.front j (omega arith) k)) (ap not (s.back r (le_refl r) h))
      go false e = let h : length l ≤ r = ltb-false r (length l) e in first-none (since t) l (λ j k. ap not (s.front j (omega arith) (omega arith)))

  before_at : last_before t l ≡ cond (ltb 0 r) (the (get_or l (r - 1) blank)) missing
  before_at = go (ltb 0 r) refl
    where
      go : (x : Bool) → ltb 0 r ≡ x → last_before t l ≡ cond x (the (get_or l (r - 1) blank)) missing
      go true e =
          let h : 0 < r = ltb-true 0 r e in
          last-at (sample_before t) missing l (r - 1) (omega (arith, s.within)) (s.front (r - 1) (omega arith) (omega arith)) (λ j k w. s.back j (omega arith) w)
      go false e = let h : r ≤ 0 = ltb-false 0 r e in last_none (sample_before t) missing l (λ j k. s.back j (omega arith) k)

-- ---- the rule, by whether there is a sample b at or after the time (x), and a sample a before it (y)
module _ (gap t : Float) (a b : Sample) where
  way-since : (x y : Bool) → (x && near b.time t) ≡ true → Ok b.correction ≡ correction_rule gap t (cond y (the a) missing) (cond x (the b) missing)
  unfolding correction_rule near_or
  way-since true y e = rw e
  way-since false y e = never e

  way-before : (x y : Bool) → (x && near b.time t) ≡ false → (y && near a.time t) ≡ true → Ok a.correction ≡ correction_rule gap t (cond y (the a) missing) (cond x (the b) missing)
  unfolding correction_rule near_or
  way-before true true e f = rw (e, f)
  way-before false true e f = rw f
  way-before x false e f = never f

  way-ends : (x y : Bool) → (x && near b.time t) ≡ false → (y && near a.time t) ≡ false → (x && y) ≡ false → Err NoCorrection ≡ correction_rule gap t (cond y (the a) missing) (cond x (the b) missing)
  unfolding correction_rule near_or spanned
  way-ends true true e f g = never (sym g)
  way-ends true false e f g = rw e
  way-ends false true e f g = rw f
  way-ends false false e f g = refl

  way-gap : (x y : Bool) → (x && near b.time t) ≡ false → (y && near a.time t) ≡ false → (x && y) ≡ true → lt gap (b.time ⊖ a.time) ≡ true
      → Err NoCorrection ≡ correction_rule gap t (cond y (the a) missing) (cond x (the b) missing)
  unfolding correction_rule near_or spanned
  way-gap true true e f g h = rw (e, f, h)
  way-gap true false e f g h = never g
  way-gap false y e f g h = never g

  way-line : (x y : Bool) → (x && near b.time t) ≡ false → (y && near a.time t) ≡ false → (x && y) ≡ true → lt gap (b.time ⊖ a.time) ≡ false
      → Ok (line t a b) ≡ correction_rule gap t (cond y (the a) missing) (cond x (the b) missing)
  unfolding correction_rule near_or spanned
  way-line true true e f g h = rw (e, f, h)
  way-line true false e f g h = never g
  way-line false y e f g h = never g

-- ---- what the code answers of a block in the columns, way by way
module _ (l : List Sample) (ts xs : List Float) (start count : ℕ) (h : Lies l ts xs start count) (gap t : Float) (r : ℕ) (s : Split (is_before ts t) start (start + count) r) where
  own : Split (λ j. sample_before t (get_or l j blank)) 0 (length l) (r - start)
  own =
      rw h.long
      (record {
        above = omega arith;
        ordered = omega arith;
        within = omega (arith, s.within, s.above);
        front = λ j f w. ap (λ (x : Float). lt x t) (h.time j (omega (arith, s.within))) ∙ s.front (start + j) (omega arith) (omega (arith, s.above));
        back = λ j w b. ap (λ (x : Float). lt x t) (h.time j b) ∙ s.back (start + j) (omega (arith, s.above)) (omega arith);
      })

  answer_at : answer_in l gap t ≡ correction_rule gap t (cond (ltb 0 (r - start)) (the (get_or l (r - start - 1) blank)) missing) (cond (ltb (r - start) (length l)) (the (get_or l (r - start) blank)) missing)
  unfolding answer_in
  answer_at = rw (before_at t l (r - start) own, since_at t l (r - start) own)

  -- the places r and r - 1 of the columns, where they lie in the block
  here-time : r < start + count → (get_or l (r - start) blank).time ≡ get_or ts r nan
  here-time w = let e : start + (r - start) ≡ r = omega (arith, s.above) in h.time (r - start) (omega (arith, s.above)) ∙ ap (λ (x : ℕ). get_or ts x nan) e

  here-value : r < start + count → (get_or l (r - start) blank).correction ≡ get_or xs r nan
  here-value w = let e : start + (r - start) ≡ r = omega (arith, s.above) in h.value (r - start) (omega (arith, s.above)) ∙ ap (λ (x : ℕ). get_or xs x nan) e

  ahead-time : start < r → (get_or l (r - start - 1) blank).time ≡ get_or ts (r - 1) nan
  ahead-time w = let e : start + (r - start - 1) ≡ r - 1 = omega arith in h.time (r - start - 1) (omega (arith, s.within)) ∙ ap (λ (x : ℕ). get_or ts x nan) e

  ahead-value : start < r → (get_or l (r - start - 1) blank).correction ≡ get_or xs (r - 1) nan
  ahead-value w = let e : start + (r - start - 1) ≡ r - 1 = omega arith in h.value (r - start - 1) (omega (arith, s.within)) ∙ ap (λ (x : ℕ). get_or xs x nan) e

  -- the tests of the code are those of the samples
  in_block : ltb r (start + count) ≡ ltb (r - start) (length l)
  in_block = rw h.long (go (ltb r (start + count)) refl)
    where
      go : (x : Bool) → ltb r (start + count) ≡ x → x ≡ ltb (r - start) count
      go true e = let w : r < start + count = ltb-true r (start + count) e in sym (lt-ltb (r - start) count (omega (arith, s.above)))
      go false e = let w : start + count ≤ r = ltb-false r (start + count) e in sym (le-ltb (r - start) count (omega arith))

  past-start : ltb start r ≡ ltb 0 (r - start)
  past-start = go (ltb start r) refl
    where
      go : (x : Bool) → ltb start r ≡ x → x ≡ ltb 0 (r - start)
      go true e = let w : start < r = ltb-true start r e in sym (lt-ltb 0 (r - start) (omega arith))
      go false e = let w : r ≤ start = ltb-false start r e in sym (le-ltb 0 (r - start) (omega arith))

  near-at : (ltb r (start + count) && near (get_or ts r nan) t) ≡ (ltb (r - start) (length l) && near (get_or l (r - start) blank).time t)
  near-at = rw (← in_block) (go (ltb r (start + count)) refl)
    where
      go : (x : Bool) → ltb r (start + count) ≡ x → (x && near (get_or ts r nan) t) ≡ (x && near (get_or l (r - start) blank).time t)
      go true e = ap (λ (z : Float). near z t) (sym (here-time (ltb-true r (start + count) e)))
      go false e = refl

  near-ahead : (ltb start r && near (get_or ts (r - 1) nan) t) ≡ (ltb 0 (r - start) && near (get_or l (r - start - 1) blank).time t)
  near-ahead = rw (← past-start) (go (ltb start r) refl)
    where
      go : (x : Bool) → ltb start r ≡ x → (x && near (get_or ts (r - 1) nan) t) ≡ (x && near (get_or l (r - start - 1) blank).time t)
      go true e = ap (λ (z : Float). near z t) (sym (ahead-time (ltb-true start r e)))
      go false e = refl

  both-in : (ltb r (start + count) && ltb start r) ≡ (ltb (r - start) (length l) && ltb 0 (r - start))
  both-in = rw (in_block, past-start)

  module _ {y : Bool} (ey : y ≡ (ltb r (start + count) && near (get_or ts r nan) t)) where
    pub answer-since : y ≡ true → Ok (get_or xs r nan) ≡ answer_in l gap t
    answer-since e =
        let w = and_both (ltb r (start + count)) (near (get_or ts r nan) t) (sym ey ∙ e) in
        ap Ok (sym (here-value (ltb-true r (start + count) w.0)))
        ∙ way-since gap t (get_or l (r - start - 1) blank) (get_or l (r - start) blank) (ltb (r - start) (length l)) (ltb 0 (r - start)) (sym near-at ∙ sym ey ∙ e) ∙ sym answer_at

    module _ (ny : y ≡ false) {z : Bool} (ez : z ≡ (ltb start r && near (get_or ts (r - 1) nan) t)) where
      first : (ltb (r - start) (length l) && near (get_or l (r - start) blank).time t) ≡ false
      first = sym near-at ∙ sym ey ∙ ny

      pub answer-before : z ≡ true → Ok (get_or xs (r - 1) nan) ≡ answer_in l gap t
      answer-before e =
          let w = and_both (ltb start r) (near (get_or ts (r - 1) nan) t) (sym ez ∙ e) in
          ap Ok (sym (ahead-value (ltb-true start r w.0)))
          ∙ way-before gap t (get_or l (r - start - 1) blank) (get_or l (r - start) blank) (ltb (r - start) (length l)) (ltb 0 (r - start)) first (sym near-ahead ∙ sym ez ∙ e) ∙ sym answer_at

      module _ (nz : z ≡ false) where
        second : (ltb 0 (r - start) && near (get_or l (r - start - 1) blank).time t) ≡ false
        second = sym near-ahead ∙ sym ez ∙ nz

        pub answer-ends : (ltb r (start + count) && ltb start r) ≡ false → Err NoCorrection ≡ answer_in l gap t
        answer-ends e =
            way-ends gap t (get_or l (r - start - 1) blank) (get_or l (r - start) blank) (ltb (r - start) (length l)) (ltb 0 (r - start)) first second (sym both-in ∙ e) ∙ sym answer_at

        module _ (both : (ltb r (start + count) && ltb start r) ≡ true) where
          b-in : r < start + count
          b-in = ltb-true r (start + count) (and_both (ltb r (start + count)) (ltb start r) both).0

          a_in : start < r
          a_in = ltb-true start r (and_both (ltb r (start + count)) (ltb start r) both).1

          pub answer-gap : lt gap (get_or ts r nan ⊖ get_or ts (r - 1) nan) ≡ true → Err NoCorrection ≡ answer_in l gap t
          answer-gap e =
              way-gap gap t (get_or l (r - start - 1) blank) (get_or l (r - start) blank) (ltb (r - start) (length l)) (ltb 0 (r - start)) first second (sym both-in ∙ both)
              (rw (here-time b-in, ahead-time a_in) e)
              ∙ sym answer_at

          pub answer-line : lt gap (get_or ts r nan ⊖ get_or ts (r - 1) nan) ≡ false → Ok (through t (get_or ts (r - 1) nan) (get_or xs (r - 1) nan) (get_or ts r nan) (get_or xs r nan)) ≡ answer_in l gap t
          answer-line e =
              rw (← (ahead-time a_in), ← (ahead-value a_in), ← (here-time b-in), ← (here-value b-in))
              (way-line gap t (get_or l (r - start - 1) blank) (get_or l (r - start) blank) (ltb (r - start) (length l)) (ltb 0 (r - start)) first second (sym both-in ∙ both)
              (rw (here-time b-in, ahead-time a_in) e)
              ∙ sym answer_at)

-- ---- the answer of a directory's table is that of the signal's block
module _ (d : Directory) (s : sound_directory d ≡ true) (gap : Float) (g : ℕ) (t : Float) where
  pub block-answer : answer_in (block_of d g) gap t ≡ answer_in (series_of g (flat d)) gap t
  block-answer = ap (λ (l : List Sample). answer_in l gap t) (sym (block_series d g (sound-parts d s).ascending))

  -- no block, no correction
  none-answer : Err NoCorrection ≡ answer_in [] gap t
  unfolding answer_in correction_rule near_or spanned first_of last_of
  none-answer = refl

  pub answer-none : block_of d g ≡ [] → Err NoCorrection ≡ answer_in (series_of g (flat d)) gap t
  answer-none e = none-answer ∙ ap (λ (l : List Sample). answer_in l gap t) (sym e) ∙ block-answer

  pub answer-some : (l : List Sample) → block_of d g ≡ l → answer_in l gap t ≡ answer_in (series_of g (flat d)) gap t
  answer-some l e = ap (λ (l : List Sample). answer_in l gap t) (sym e) ∙ block-answer
