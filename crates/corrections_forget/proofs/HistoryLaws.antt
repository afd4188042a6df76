-- Several drops with additions between them: no query that is not before a drop tells whether it was made. Assumes nothing.
use mathlib.Core.Path.{◌≡◌, refl, sym, ap, ◌∙◌}
use mathlib.Core.List.{List, [], ◌∷◌}
use mathlib.Core.Bool.{Bool, true, false, cond, not, ◌&&◌, ◌||◌}
use Prim.Native.Nat.{ℕ, suc, ◌≤◌}
use native.Mathlib.Omega.{arith}
use lib.Dec.{eqb}
use lib.ListN.{length}
use borrow.Author.Tests.{eqb-true, not-true}
use lib.Ieee.{Float, is_nan, lt}
use Rattle.lists.specs.Walk.{every, fold}
use Rattle.corrections_table.specs.Table.{ranged, signal_of, sorted, sound_table}
use Rattle.corrections_table.specs.Add.{insert_all}
use Rattle.corrections_table.specs.declared.sample.Sample.{Sample}
use Rattle.corrections_table.proofs.Places.{rises, sorted_rises}
use Rattle.corrections_table.proofs.TableLaws.{and_left, and_right}
use Rattle.corrections_table.proofs.SeriesLaws.{insert_all-rises}
use Rattle.corrections_table.proofs.UnitLaws.{never}
use Rattle.corrections_query.specs.Query.{sample_before, since, answer_at}
use Rattle.corrections_forget.specs.Forget.{earlier, some, forget}
use Rattle.corrections_forget.specs.History.{Event, add, drop, happen, history, not_before, allowed, undropped}
use Rattle.corrections_forget.proofs.TimeLaws.{lt-through, lt_asym, lt-self, not_before-nan}
use Rattle.corrections_forget.proofs.ForgetLaws.{some-later, forget-rises, forget-insert_all, forget-answer}

-- ---- two drops, u not after t
module _ (u t : Float) (n : is_nan t ≡ false) (h : lt t u ≡ false) where
  some_forgotten : (g : ℕ) (l : List Sample) → some (earlier g t) (forget u l) ≡ some (earlier g t) l
  unfolding some forget
  some_forgotten g [] = refl
  some_forgotten g (s ∷ l) = go (lt s.time u) (some (earlier (signal_of s) u) l) refl refl (some_forgotten g l)
    where
      go : (x y : Bool) → lt s.time u ≡ x → some (earlier (signal_of s) u) l ≡ y → some (earlier g t) (forget u l) ≡ some (earlier g t) l
          → some (earlier g t) (cond (x && y) (forget u l) (s ∷ forget u l)) ≡ (earlier g t s || some (earlier g t) l)
      go true true k w ih = ih ∙ test (eqb (signal_of s) g) refl
        where
          test : (z : Bool) → eqb (signal_of s) g ≡ z → some (earlier g t) l ≡ (z && lt s.time t || some (earlier g t) l)
          test true e =
              let same : signal_of s ≡ g = eqb-true (signal_of s) g e in
              rw (some-later u t n h g l (rw same at w), lt-through s.time u t n k h)
          test false e = refl
      go true false k w ih = ap (λ (x : Bool). earlier g t s || x) ih
      go false y k w ih = ap (λ (x : Bool). earlier g t s || x) ih

-- the drop at u before or after the one at t changes nothing
module _ (u t : Float) (n : is_nan t ≡ false) (h : lt t u ≡ false) where
  forget-first : (l : List Sample) → forget t (forget u l) ≡ forget t l
  unfolding forget
  forget-first [] = refl
  forget-first (s ∷ l) = go (lt s.time u) (some (earlier (signal_of s) u) l) refl refl (forget-first l)
    where
      stays : forget t (forget u l) ≡ forget t l → forget t (s ∷ forget u l) ≡ forget t (s ∷ l)
      stays ih =
          ap (λ (x : Bool). cond (sample_before t s && x) (forget t (forget u l)) (s ∷ forget t (forget u l))) (some_forgotten u t n h (signal_of s) l)
          ∙ ap (λ (m : List Sample). cond (sample_before t s && some (earlier (signal_of s) t) l) m (s ∷ m)) ih

      go : (x y : Bool) → lt s.time u ≡ x → some (earlier (signal_of s) u) l ≡ y → forget t (forget u l) ≡ forget t l → forget t (cond (x && y) (forget u l) (s ∷ forget u l)) ≡ forget t (s ∷ l)
      go true true k w ih = ih ∙ sym (gone (lt-through s.time u t n k h) (some-later u t n h (signal_of s) l w))
        where
          gone : lt s.time t ≡ true → some (earlier (signal_of s) t) l ≡ true → forget t (s ∷ l) ≡ forget t l
          gone a b = rw (a, b)
      go true false k w ih = stays ih
      go false y k w ih = stays ih

  forget-second : (l : List Sample) → forget u (forget t l) ≡ forget t l
  unfolding forget
  forget-second [] = refl
  forget-second (s ∷ l) = go (lt s.time t && some (earlier (signal_of s) t) l) refl (forget-second l)
    where
      go : (x : Bool) → (lt s.time t && some (earlier (signal_of s) t) l) ≡ x → forget u (forget t l) ≡ forget t l → forget u (cond x (forget t l) (s ∷ forget t l)) ≡ cond x (forget t l) (s ∷ forget t l)
      go true e ih = ih
      go false e ih = stay (lt s.time u) (some (earlier (signal_of s) u) (forget t l)) refl refl
        where
          stay : (x y : Bool) → lt s.time u ≡ x → some (earlier (signal_of s) u) (forget t l) ≡ y → cond (x && y) (forget u (forget t l)) (s ∷ forget u (forget t l)) ≡ s ∷ forget t l
          stay true true k w =
              let a : lt s.time t ≡ true = lt-through s.time u t n k h in
              let b : some (earlier (signal_of s) t) l ≡ true = sym (some_forgotten t t n (lt-self t) (signal_of s) l) ∙ some-later u t n h (signal_of s) (forget t l) w in
              let c : true ≡ false = rw (a, b) at e in
              never (sym c)
          stay true false k w = ap (λ (m : List Sample). s ∷ m) ih
          stay false y k w = ap (λ (m : List Sample). s ∷ m) ih

-- nothing is before NaN
forget-nan : (t : Float) (l : List Sample) → is_nan t ≡ true → forget t l ≡ l
unfolding forget
forget-nan t [] n = refl
forget-nan t (s ∷ l) n = rw (not_before-nan s.time t n) (ap (λ (m : List Sample). s ∷ m) (forget-nan t l n))

-- drops in either order
pub forget-swap : (u t : Float) (l : List Sample) → forget u (forget t l) ≡ forget t (forget u l)
forget-swap u t l = go (is_nan u) (is_nan t) (lt t u) refl refl refl
  where
    go : (x y z : Bool) → is_nan u ≡ x → is_nan t ≡ y → lt t u ≡ z → forget u (forget t l) ≡ forget t (forget u l)
    go true y z a b c = forget-nan u (forget t l) a ∙ ap (forget t) (sym (forget-nan u l a))
    go false true z a b c = ap (forget u) (forget-nan t l b) ∙ sym (forget-nan t (forget u l) b)
    go false false false a b c = forget-second u t b c l ∙ sym (forget-first u t b c l)
    go false false true a b c = forget-first t u a (lt_asym t u c) l ∙ sym (forget-second t u a (lt_asym t u c) l)

-- a drop goes past additions not earlier than it, and past other drops
forget-history : (time : Float) (t : List Sample) (es : List Event) → rises 0 t ≡ true → every (not_before time) es ≡ true → history (forget time t) es ≡ forget time (history t es)
unfolding fold happen every not_before
forget-history time t [] r e = refl
forget-history time t (add ss ∷ es) r e =
    ap (λ (m : List Sample). history m es) (sym (forget-insert_all time t ss r (and_left _ _ e)))
    ∙ forget-history time (insert_all t ss) es (insert_all-rises t ss r) (and_right (every (since time) ss) _ e)
forget-history time t (drop other ∷ es) r e =
    ap (λ (m : List Sample). history m es) (forget-swap other time t) ∙ forget-history time (forget other t) es (forget-rises other 0 t r) e

-- ---- the table after events
pub sorted_of : (t : List Sample) → sound_table t ≡ true → rises 0 t ≡ true
unfolding sound_table
sorted_of t e = sym (sorted_rises t) ∙ and_right (every ranged t) _ e

-- ---- the answers

-- as if this drop had not been made, whatever drops and additions not earlier than it follow
pub drop-law : (time : Float) (t : List Sample) (es : List Event) (gap : Float) (c v b : ℕ) (q : Float) → sorted t ≡ true → every (not_before time) es ≡ true → lt q time ≡ false
    → answer_at (history (forget time t) es) gap c v b q ≡ answer_at (history t es) gap c v b q
drop-law time t es gap c v b q r e h =
    ap (λ (m : List Sample). answer_at m gap c v b q) (forget-history time t es (sym (sorted_rises t) ∙ r) e) ∙ forget-answer time (history t es) gap c v b q h

-- as if no drop had been made
pub history-law : (t : List Sample) (es : List Event) (gap : Float) (c v b : ℕ) (q : Float) → sorted t ≡ true → allowed q es ≡ true
    → answer_at (history t es) gap c v b q ≡ answer_at (history t (undropped es)) gap c v b q
unfolding fold happen allowed undropped
history-law t [] gap c v b q r a = refl
history-law t (add ss ∷ es) gap c v b q r a = history-law (insert_all t ss) es gap c v b q (sorted_rises (insert_all t ss) ∙ insert_all-rises t ss (sym (sorted_rises t) ∙ r)) a
history-law t (drop time ∷ es) gap c v b q r a =
    drop-law time t es gap c v b q r (and_left _ _ (and_right (not (lt q time)) _ a)) (not-true (lt q time) (and_left _ _ a))
    ∙ history-law t es gap c v b q r (and_right (every (not_before time) es) _ (and_right (not (lt q time)) _ a))

-- ---- a drop leaves no more than there was
pub forget-length : (time : Float) (l : List Sample) → length (forget time l) ≤ length l
unfolding forget
forget-length time [] = omega arith
forget-length time (s ∷ l) = go (sample_before time s && some (earlier (signal_of s) time) l) (forget-length time l)
  where
    go : (x : Bool) → length (forget time l) ≤ length l → length (cond x (forget time l) (s ∷ forget time l)) ≤ suc (length l)
    go true ih = omega arith
    go false ih = omega arith
