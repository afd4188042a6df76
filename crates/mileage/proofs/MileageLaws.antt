-- The words that calls leave, one after the other from the start, are those of the list of epochs taken, and so are report, distance and fuel, for every list.
-- Assumes nothing.
use Rattle.std.specs.Prelude.{Ok}
use mathlib.Core.Path.{◌≡◌, refl, sym, ap, ◌∙◌}
use mathlib.Core.List.{List, [], ◌∷◌, ◌++◌, append_assoc, append-nil}
use mathlib.Core.Bool.{Bool, true, false, cond, not, ◌&&◌, ◌||◌, and-false, false≢true}
use Prim.Native.Nat.{ℕ, suc, ◌+◌, ◌-◌, ◌≤◌, ◌<◌}
use native.Mathlib.Omega.{arith}
use lib.Dec.{T, leb, ltb, lit≤}
use lib.ListN.{length, take, length-append}
use lib.Seq.{take-nil}
use borrow.Author.Tests.{ltb-true, ltb-false, leb-true}
use lib.Ieee.{Float, binary64, fits}
use Rattle.lists.specs.Walk.{collect, fold, every}
use Rattle.lists.proofs.Walk.{and_both}
use Rattle.numeric.specs.Real.{in_range}
use Rattle.numeric.proofs.OrderLaws.{pattern_back}
use Rattle.trip.specs.Measure.{measurable}
use Rattle.trip.proofs.MeasureLaws.{measured}
use Rattle.mileage.specs.Mileage.{is_refused, is_usable, length_of, sum, in_places, mileage_report, mileage_of, sound_mileage, mileage_started, grown, is_taken, mileage_added, mileage_reported, mileage_distance, fuel_over, mileage_fuelled, distance_of, takens, taking}
use Rattle.mileage.specs.Words.{mileage_from, mileage_words, mileage_reported_words, distance_words, mileage_fuelled_words, mileage_after, mileage_next, called}
use Rattle.mileage.specs.declared.mileage.Epoch.{Epoch}
use Rattle.mileage.specs.declared.mileage.Mileage.{Mileage}
use Rattle.mileage.proofs.BoundsLaws.{bounds, bounded}
use Rattle.mileage.proofs.ListLaws.{more, reported-of}

-- pulses per epoch are 16-bit
unfoldable pub narrow_epoch : Epoch → Bool
narrow_epoch e = leb e.pulses 65535

-- ---- an addition keeps a mileage sound

-- the millimetres of an epoch go to one place
module _ (u k n : Bool) (l w : ℕ) where
  one_place : (u ≡ true → l ≤ 1000000) → cond n w 0 + cond (u && k) l 0 + cond (not n) w 0 + cond (u && not k) l 0 ≤ w + 1000000
  one_place h = go n u k h
    where
      go : (n u k : Bool) → (u ≡ true → l ≤ 1000000) → cond n w 0 + cond (u && k) l 0 + cond (not n) w 0 + cond (u && not k) l 0 ≤ w + 1000000
      go true false k h = omega arith
      go false false k h = omega arith
      go true true true h = let s : l ≤ 1000000 = h refl in omega arith
      go true true false h = let s : l ≤ 1000000 = h refl in omega arith
      go false true true h = let s : l ≤ 1000000 = h refl in omega arith
      go false true false h = let s : l ≤ 1000000 = h refl in omega arith

one_class : (r u : Bool) → cond r 1 0 + cond (not r && not u) 1 0 ≤ 1
one_class true u = lit≤ tt
one_class false true = lit≤ tt
one_class false false = lit≤ tt

at_most : (b : Bool) (n : ℕ) → cond b n 0 ≤ n
at_most true n = omega arith
at_most false n = omega arith

pub grown-sound : (m : Mileage) (r u : Bool) (l p : ℕ) → sound_mileage m ≡ true → m.epochs < 65535 → (u ≡ true → l ≤ 1000000) → p ≤ 65535 → sound_mileage (grown m r u l p) ≡ true
unfolding grown
grown-sound m r u l p s room h k =
    let b = bounds m s in
    bounded (grown m r u l p) (record {
      few = omega arith;
      ranged = b.ranged;
      classes = omega (arith, one_class r u);
      far = omega (arith, one_place u (ltb 0 m.moved || ltb 0 p) (ltb 0 p) l m.waiting h);
      pulses = omega arith;
      covered = omega (arith, at_most (u && (ltb 0 m.moved || ltb 0 p)) p);
      moved = at_most (ltb 0 p) 1;
    })

-- an epoch that is taken and of use is short
usable-short : (limit : Float) (e : Epoch) → is_taken e ≡ true → is_usable limit e ≡ true → length_of e ≤ 1000000
unfolding is_taken is_usable
usable-short limit e t u = go (is_refused e) t (and_both _ _ u).0
  where
    go : (r : Bool) → (r || measurable e.displacement) ≡ true → not r ≡ true → length_of e ≤ 1000000
    go true t n = absurd (false≢true n)
    go false t n = (measured e.displacement t).short

-- ---- one call on words

-- a mileage whose limit is a double is the one that its words hold
pub held-again : (m : Mileage) → T (fits binary64 m.limit) → mileage_from (mileage_words m) ≡ m
held-again m f = rw (pattern_back m.limit f)

module _ (limit : Float) (f : T (fits binary64 limit)) where
  limit_is : (es : List Epoch) → T (fits binary64 (mileage_of limit es).limit)
  unfolding mileage_of
  limit_is es = f

  held_of : (es : List Epoch) → mileage_from (mileage_words (mileage_of limit es)) ≡ mileage_of limit es
  held_of es = held-again (mileage_of limit es) (limit_is es)

  next-is : (done : List Epoch) (e : Epoch) → mileage_next (mileage_words (mileage_of limit done)) e ≡ mileage_after (mileage_added (mileage_of limit done) e) (mileage_words (mileage_of limit done))
  unfolding mileage_next
  next-is done e = ap (λ (m : Mileage). mileage_after (mileage_added m e) (mileage_words (mileage_of limit done))) (held_of done)

  epochs-is : (es : List Epoch) → (mileage_of limit es).epochs ≡ length es
  unfolding mileage_of mileage_report
  epochs-is es = refl

  module _ (done : List Epoch) (e : Epoch) where
    test : Bool
    test = sound_mileage (mileage_of limit done) && ltb (mileage_of limit done).epochs 65535 && is_taken e

    next-refused : test ≡ false → mileage_next (mileage_words (mileage_of limit done)) e ≡ mileage_words (mileage_of limit done)
    unfolding test mileage_added
    next-refused h = next-is done e ∙ rw h

    next-added : test ≡ true → mileage_next (mileage_words (mileage_of limit done)) e ≡ mileage_words (mileage_of limit (done ++ (e ∷ [])))
    unfolding test mileage_added mileage_of
    next-added h = next-is done e ∙ rw h (ap (λ (m : Mileage). mileage_words m) (sym (more limit done e)))

  more-sound : (done : List Epoch) (e : Epoch) → sound_mileage (mileage_of limit done) ≡ true → length done < 65535 → is_taken e ≡ true → narrow_epoch e ≡ true → sound_mileage (mileage_of limit (done ++ (e ∷ []))) ≡ true
  unfolding narrow_epoch
  more-sound done e s l t n =
      rw (more limit done e)
      (grown-sound (mileage_of limit done) (is_refused e) (is_usable limit e) (length_of e) e.pulses s (omega (arith, epochs-is done)) (usable-short limit e t) (leb-true e.pulses 65535 n))

  -- ---- all of them

  length_more : (es : List Epoch) (e : Epoch) → length (es ++ (e ∷ [])) ≡ suc (length es)
  length_more es e = rw length-append (omega arith)

  -- the list that these calls make of the list done
  reached : List Epoch → List Epoch → List Epoch
  reached es done = done ++ take (65535 - length done) (takens es)

  -- the words after them are that list's, and it is sound
  record Reaches (es done : List Epoch) : Type 0 where
    words : fold mileage_next (mileage_words (mileage_of limit done)) es ≡ mileage_words (mileage_of limit (reached es done))
    is-sound : sound_mileage (mileage_of limit (reached es done)) ≡ true

  step : (e : Epoch) (es done next : List Epoch) → mileage_next (mileage_words (mileage_of limit done)) e ≡ mileage_words (mileage_of limit next) → reached (e ∷ es) done ≡ reached es next → Reaches es next → Reaches (e ∷ es) done
  unfolding fold
  step e es done next w l r = record { words = rw (w, l) r.words; is-sound = rw l r.is-sound }

  turn : (e : Epoch) (es done : List Epoch) → sound_mileage (mileage_of limit done) ≡ true → narrow_epoch e ≡ true → ((d : List Epoch) → sound_mileage (mileage_of limit d) ≡ true → Reaches es d) → Reaches (e ∷ es) done
  unfolding reached takens collect test mileage_of mileage_report
  turn e es done s n rest = go (is_taken e) refl (ltb (length done) 65535) refl
    where
      go : (b : Bool) → is_taken e ≡ b → (c : Bool) → ltb (length done) 65535 ≡ c → Reaches (e ∷ es) done
      go false t c f = step e es done done (next-refused done e (rw t (and-false (sound_mileage (mileage_of limit done) && ltb (mileage_of limit done).epochs 65535)))) (rw t) (rest done s)
      go true t false f =
          let full : 65535 ≤ length done = ltb-false (length done) 65535 f in
          let z : 65535 - length done ≡ 0 = omega arith in
          step e es done done (next-refused done e (rw (f, and-false (sound_mileage (mileage_of limit done))))) (rw z) (rest done s)
      go true t true f =
          let room : length done < 65535 = ltb-true (length done) 65535 f in
          let z : 65535 - length done ≡ suc (65535 - length (done ++ (e ∷ []))) = rw (length_more done e) (omega arith) in
          step e es done (done ++ (e ∷ [])) (next-added done e (rw (s, f, t))) (rw (t, z, append_assoc)) (rest (done ++ (e ∷ [])) (more-sound done e s room t n))

  from : (es done : List Epoch) → sound_mileage (mileage_of limit done) ≡ true → every narrow_epoch es ≡ true → Reaches es done
  unfolding reached fold every takens collect
  from [] done s n =
      let l : reached [] done ≡ done = ap (λ (xs : List Epoch). done ++ xs) (take-nil (65535 - length done)) ∙ append-nil done in
      record { words = ap (λ (d : List Epoch). mileage_words (mileage_of limit d)) (sym l); is-sound = rw l s }
  from (e ∷ es) done s n = let k = and_both (narrow_epoch e) (every narrow_epoch es) n in turn e es done s k.0 (λ d h. from es d h k.1)

-- ---- from the start

-- what is asked of the caller: the limit is a double in range, and pulses are 16-bit
pub record Given (limit : Float) (es : List Epoch) : Type 0 where
  pub double : T (fits binary64 limit)
  pub ranged : in_range limit ≡ true
  pub pulses : every narrow_epoch es ≡ true

module _ (limit : Float) (es : List Epoch) (g : Given limit es) where
  start-sound : sound_mileage (mileage_of limit []) ≡ true
  unfolding mileage_of mileage_report in_places sum
  start-sound = bounded _ (record { few = lit≤ tt; ranged = g.ranged; classes = lit≤ tt; far = lit≤ tt; pulses = lit≤ tt; covered = lit≤ tt; moved = lit≤ tt })

  all : Reaches limit g.double es []
  all = from limit g.double es [] start-sound g.pulses

  -- 1. For every list of calls, from the start: the words that they leave are those of the epochs taken,
  pub words-law : (w : List ℕ) → called limit w es ≡ mileage_words (mileage_of limit (taking es))
  unfolding called mileage_started taking reached
  words-law w = rw g.ranged all.words

  sound : sound_mileage (mileage_of limit (taking es)) ≡ true
  unfolding taking reached
  sound = all.is-sound

  -- 65,535 epochs have at most 1,000,000 mm each
  pub counted-bound : (mileage_report limit (taking es)).counted ≤ 65535000000
  unfolding mileage_of
  counted-bound = omega (arith, bounds (mileage_of limit (taking es)) sound)

  held-law : (w : List ℕ) → mileage_from (called limit w es) ≡ mileage_of limit (taking es)
  held-law w = ap (λ (v : List ℕ). mileage_from v) (words-law w) ∙ held_of limit g.double (taking es)

  -- and so are report,
  reported-list : mileage_reported (mileage_of limit (taking es)) ≡ Ok (mileage_report limit (taking es))
  unfolding mileage_reported
  reported-list = rw (sound, sym (reported-of limit (taking es))) (unfold mileage_of in refl)

  pub report-law : (w : List ℕ) → mileage_reported_words (called limit w es) ≡ Ok (mileage_report limit (taking es))
  report-law w = ap (λ (m : Mileage). mileage_reported m) (held-law w) ∙ reported-list

  -- distance
  measured-list : mileage_distance (mileage_of limit (taking es)) ≡ distance_of limit (taking es)
  unfolding mileage_distance distance_of
  measured-list = rw sound (unfold mileage_of in refl)

  pub distance-law : (w : List ℕ) → distance_words (called limit w es) ≡ distance_of limit (taking es)
  distance-law w = ap (λ (m : Mileage). mileage_distance m) (held-law w) ∙ measured-list

  -- and fuel.
  pub fuel-law : (w : List ℕ) (millilitres : ℕ) → mileage_fuelled_words (called limit w es) millilitres ≡ fuel_over millilitres (distance_of limit (taking es))
  unfolding mileage_fuelled
  fuel-law w millilitres = ap (fuel_over millilitres) (distance-law w)
