-- Forgetting leaves a sound table sound, keeps the answers at and after its time, and commutes with additions not earlier than it. Assumes nothing.
use Rattle.std.specs.Prelude.{Err}
use mathlib.Core.Path.{◌≡◌, refl, sym, ap, ◌∙◌}
use mathlib.Core.List.{List, [], ◌∷◌, ◌++◌}
use mathlib.Core.Bool.{Bool, true, false, cond, ◌&&◌, ◌||◌}
use Prim.Native.Nat.{ℕ, ◌<◌}
use native.Mathlib.Nat.{le_refl, lt_of_lt_of_le}
use native.Mathlib.Omega.{arith}
use lib.Dec.{eqb, leb}
use borrow.Author.Tests.{ltb-true, leb-true, eqb-true, le-leb, lt-ltb, not-true}
use lib.Ieee.{Float, nan, inf, fin, is_nan, lt, le, eq, add, sub, neg}
use Rattle.lists.specs.Walk.{collect, every}
use Rattle.numeric.specs.Real.{abs}
use Rattle.numeric.specs.declared.refusal.Refusal.TheVariants.{NoCorrection}
use Rattle.signal.specs.Signal.{signal}
use Rattle.corrections_table.specs.Table.{ranged, series_of, signal_of, sound_table, stands_before}
use Rattle.corrections_table.specs.Add.{insert, insert_all}
use Rattle.corrections_table.specs.declared.sample.Sample.{Sample}
use Rattle.corrections_table.proofs.Places.{before-place, place_of, rises, sorted_rises}
use Rattle.corrections_table.proofs.TableLaws.{and_left, and_right}
use Rattle.corrections_table.proofs.SeriesLaws.{mine, other, insert-rises}
use Rattle.corrections_table.proofs.UnitLaws.{never}
use Rattle.corrections_directory.proofs.DirectoryLaws.{rises-weak}
use Rattle.corrections_query.specs.Query.{Found, missing, the, near, first_of, last_of, sample_before, since, near_or, spanned, correction_rule, answer_in, answer_at}
use Rattle.corrections_query.proofs.FoundLaws.{later, earlier_series, later_series}
use Rattle.corrections_forget.specs.Forget.{earlier, some, forget}
use Rattle.corrections_forget.proofs.TimeLaws.{lt-through, not_before-nan}

-- ---- a forgotten table is sound
pub forget-rises : (time : Float) (p : ℕ) (l : List Sample) → rises p l ≡ true → rises p (forget time l) ≡ true
unfolding rises forget
forget-rises time p [] r = refl
forget-rises time p (s ∷ l) r = go (sample_before time s && some (earlier (signal_of s) time) l) (forget-rises time (place_of s) l (and_right (leb p (place_of s)) _ r))
  where
    go : (x : Bool) → rises (place_of s) (forget time l) ≡ true → rises p (cond x (forget time l) (s ∷ forget time l)) ≡ true
    go true ih = rises-weak p (place_of s) (forget time l) (leb-true p (place_of s) (and_left _ _ r)) ih
    go false ih = rw (and_left (leb p (place_of s)) _ r) ih

pub forget-every : (test : Sample → Bool) (time : Float) (l : List Sample) → every test l ≡ true → every test (forget time l) ≡ true
unfolding every forget
forget-every test time [] e = refl
forget-every test time (s ∷ l) e = go (sample_before time s && some (earlier (signal_of s) time) l) (forget-every test time l (and_right (test s) _ e))
  where
    go : (x : Bool) → every test (forget time l) ≡ true → every test (cond x (forget time l) (s ∷ forget time l)) ≡ true
    go true ih = ih
    go false ih = rw (and_left (test s) _ e) ih

pub forget-sound : (time : Float) (t : List Sample) → sound_table t ≡ true → sound_table (forget time t) ≡ true
unfolding sound_table
forget-sound time t e = rw (forget-every ranged time t (and_left _ _ e)) (sorted_rises (forget time t) ∙ forget-rises time 0 t (sym (sorted_rises t) ∙ and_right (every ranged t) _ e))

-- ---- the forgotten table's series are the forgotten series
pub some_series : (g : ℕ) (time : Float) (l : List Sample) → some (earlier g time) (series_of g l) ≡ some (earlier g time) l
unfolding some collect
some_series g time [] = refl
some_series g time (s ∷ l) = go (eqb (signal_of s) g) refl (some_series g time l)
  where
    go : (x : Bool) → eqb (signal_of s) g ≡ x → some (earlier g time) (series_of g l) ≡ some (earlier g time) l
        → some (earlier g time) (cond x (s ∷ []) [] ++ series_of g l) ≡ (x && lt s.time time || some (earlier g time) l)
    go true e ih = rw (e, ih)
    go false e ih = ih

pub forget_series : (g : ℕ) (time : Float) (l : List Sample) → series_of g (forget time l) ≡ forget time (series_of g l)
unfolding forget
forget_series g time [] = none g
  where
    none : (g : ℕ) → series_of g [] ≡ forget time (series_of g [])
    none g = unfold collect in refl
forget_series g time (s ∷ l) = go (eqb (signal_of s) g) refl (forget_series g time l)
  where
    go : (x : Bool) → eqb (signal_of s) g ≡ x → series_of g (forget time l) ≡ forget time (series_of g l)
        → series_of g (cond (sample_before time s && some (earlier (signal_of s) time) l) (forget time l) (s ∷ forget time l)) ≡ forget time (series_of g (s ∷ l))
    go true e ih =
        let same : signal_of s ≡ g = eqb-true (signal_of s) g e in
        ap (λ (h : ℕ). series_of g (cond (sample_before time s && some (earlier h time) l) (forget time l) (s ∷ forget time l))) same
        ∙ test (sample_before time s && some (earlier g time) l)
        ∙ ap (λ (x : Bool). cond (sample_before time s && x) (forget time (series_of g l)) (s ∷ forget time (series_of g l))) (sym (some_series g time l))
        ∙ ap (λ (h : ℕ). cond (sample_before time s && some (earlier h time) (series_of g l)) (forget time (series_of g l)) (s ∷ forget time (series_of g l))) (sym same)
        ∙ sym (ap (forget time) (mine g s l same))
      where
        test : (y : Bool) → series_of g (cond y (forget time l) (s ∷ forget time l)) ≡ cond y (forget time (series_of g l)) (s ∷ forget time (series_of g l))
        test true = ih
        test false = mine g s (forget time l) (eqb-true (signal_of s) g e) ∙ ap (λ (m : List Sample). s ∷ m) ih
    go false e ih = test (sample_before time s && some (earlier (signal_of s) time) l) ∙ ih ∙ sym (ap (forget time) (other g s l e))
      where
        test : (y : Bool) → series_of g (cond y (forget time l) (s ∷ forget time l)) ≡ series_of g (forget time l)
        test true = refl
        test false = other g s (forget time l) e

-- ---- what is found at and after the time, for every list of samples
module _ (time q : Float) (n : is_nan q ≡ false) (h : lt q time ≡ false) where
  pub some-later : (g : ℕ) (l : List Sample) → some (earlier g time) l ≡ true → some (earlier g q) l ≡ true
  unfolding some
  some-later g [] e = e
  some-later g (s ∷ l) e = go (eqb (signal_of s) g) (lt s.time time) refl e (some-later g l)
    where
      go : (x y : Bool) → lt s.time time ≡ y → (x && y || some (earlier g time) l) ≡ true → (some (earlier g time) l ≡ true → some (earlier g q) l ≡ true) → (x && lt s.time q || some (earlier g q) l) ≡ true
      go true true k e ih = rw (lt-through s.time time q n k h)
      go true false k e ih = test (lt s.time q)
        where
          test : (z : Bool) → (z || some (earlier g q) l) ≡ true
          test true = refl
          test false = ih e
      go false y k e ih = ih e

  last_some : (test : Sample → Bool) (f k : Found) (l : List Sample) → some test l ≡ true → last_of test f l ≡ last_of test k l
  unfolding some last_of
  last_some test f k [] e = never e
  last_some test f k (s ∷ l) e = go (test s) refl e (λ x y z. last_some test x y l z)
    where
      go : (x : Bool) → test s ≡ x → (x || some test l) ≡ true → ((f k : Found) → some test l ≡ true → last_of test f l ≡ last_of test k l) → last_of test (cond x (the s) f) l ≡ last_of test (cond x (the s) k) l
      go true w e ih = refl
      go false w e ih = ih f k e

  pub first_forgotten : (g : ℕ) (l : List Sample) → first_of (later g q) (forget time l) ≡ first_of (later g q) l
  unfolding forget first_of
  first_forgotten g [] = refl
  first_forgotten g (s ∷ l) = go (lt s.time time) (some (earlier (signal_of s) time) l) refl (first_forgotten g l)
    where
      stays : first_of (later g q) (forget time l) ≡ first_of (later g q) l → first_of (later g q) (s ∷ forget time l) ≡ cond (later g q s) (the s) (first_of (later g q) l)
      stays ih = ap (λ (m : Found). cond (later g q s) (the s) m) ih

      go : (x y : Bool) → lt s.time time ≡ x → first_of (later g q) (forget time l) ≡ first_of (later g q) l
          → first_of (later g q) (cond (x && y) (forget time l) (s ∷ forget time l)) ≡ cond (later g q s) (the s) (first_of (later g q) l)
      go true true k ih = rw (lt-through s.time time q n k h) (test (eqb (signal_of s) g))
        where
          test : (z : Bool) → first_of (later g q) (forget time l) ≡ cond (z && false) (the s) (first_of (later g q) l)
          test true = ih
          test false = ih
      go true false k ih = stays ih
      go false y k ih = stays ih

  pub last_forgotten : (g : ℕ) (f : Found) (l : List Sample) → last_of (earlier g q) f (forget time l) ≡ last_of (earlier g q) f l
  unfolding forget last_of
  last_forgotten g f [] = refl
  last_forgotten g f (s ∷ l) = go (lt s.time time) (some (earlier (signal_of s) time) l) refl refl (λ k. last_forgotten g k l)
    where
      go : (x y : Bool) → lt s.time time ≡ x → some (earlier (signal_of s) time) l ≡ y → ((k : Found) → last_of (earlier g q) k (forget time l) ≡ last_of (earlier g q) k l)
          → last_of (earlier g q) f (cond (x && y) (forget time l) (s ∷ forget time l)) ≡ last_of (earlier g q) (cond (earlier g q s) (the s) f) l
      go true true k w ih = ih f ∙ test (eqb (signal_of s) g) refl
        where
          test : (z : Bool) → eqb (signal_of s) g ≡ z → last_of (earlier g q) f l ≡ last_of (earlier g q) (cond (z && lt s.time q) (the s) f) l
          test true e =
              let same : signal_of s ≡ g = eqb-true (signal_of s) g e in
              last_some (earlier g q) f (cond (lt s.time q) (the s) f) l (some-later g l (rw same at w))
          test false e = refl
      go true false k w ih = ih (cond (earlier g q s) (the s) f)
      go false y k w ih = ih (cond (earlier g q s) (the s) f)

-- ---- the answer at and after the time

-- a time that is NaN has no answer
near-nan : (x q : Float) → is_nan q ≡ true → near x q ≡ false
unfolding near is_nan abs sub add neg lt le eq
near-nan nan nan n = refl
near-nan (inf s) nan n = refl
near-nan (fin s m e) nan n = refl
near-nan nan (inf r) n = never n
near-nan (inf s) (inf r) n = never n
near-nan (fin s m e) (inf r) n = never n
near-nan nan (fin r u k) n = never n
near-nan (inf s) (fin r u k) n = never n
near-nan (fin s m e) (fin r u k) n = never n

none_before : (g : ℕ) (q : Float) (f : Found) (l : List Sample) → is_nan q ≡ true → last_of (earlier g q) f l ≡ f
unfolding last_of
none_before g q f [] n = refl
none_before g q f (s ∷ l) n = rw (not_before-nan s.time q n) (test (eqb (signal_of s) g) (none_before g q f l n))
  where
    test : (x : Bool) → last_of (earlier g q) f l ≡ f → last_of (earlier g q) (cond (x && false) (the s) f) l ≡ f
    test true e = e
    test false e = e

-- the answer of a signal by its samples in the table
answer-found : (l : List Sample) (gap : Float) (c v b : ℕ) (q : Float) → answer_at l gap c v b q ≡ correction_rule gap q (last_of (earlier (signal c v b) q) missing l) (first_of (later (signal c v b) q) l)
unfolding answer_at answer_in
answer-found l gap c v b q = rw (earlier_series (signal c v b) q l, later_series (signal c v b) q l)

at-nan : (l : List Sample) (gap : Float) (c v b : ℕ) (q : Float) → is_nan q ≡ true → answer_at l gap c v b q ≡ Err NoCorrection
at-nan l gap c v b q n = rw (answer-found l gap c v b q, none_before (signal c v b) q missing l n) (go (first_of (later (signal c v b) q) l))
  where
    go : (h : Found) → correction_rule gap q missing h ≡ Err NoCorrection
    go missing = unfold correction_rule near_or spanned in refl
    go (the s) = unfold correction_rule near_or spanned in rw (near-nan s.time q n)

-- for every list of samples, drop time and query not before it, the answer is that without the drop
pub forget-answer : (time : Float) (l : List Sample) (gap : Float) (c v b : ℕ) (q : Float) → lt q time ≡ false → answer_at (forget time l) gap c v b q ≡ answer_at l gap c v b q
forget-answer time l gap c v b q h = go (is_nan q) refl
  where
    go : (x : Bool) → is_nan q ≡ x → answer_at (forget time l) gap c v b q ≡ answer_at l gap c v b q
    go true n = at-nan (forget time l) gap c v b q n ∙ sym (at-nan l gap c v b q n)
    go false n = rw (answer-found (forget time l) gap c v b q, answer-found l gap c v b q, last_forgotten time q n h (signal c v b) missing l, first_forgotten time q n h (signal c v b) l)

-- ---- additions not earlier than the time
pub insert-front : (s : Sample) (p : ℕ) (l : List Sample) → place_of s < p → rises p l ≡ true → insert s l ≡ s ∷ l
unfolding insert rises
insert-front s p [] h r = refl
insert-front s p (a ∷ l) h r = rw (before-place s a, lt-ltb (place_of s) (place_of a) (lt_of_lt_of_le h (leb-true p (place_of a) (and_left _ _ r))))

some-insert : (test : Sample → Bool) (s : Sample) (l : List Sample) → test s ≡ false → some test (insert s l) ≡ some test l
unfolding some insert
some-insert test s [] e = rw e
some-insert test s (a ∷ l) e = go (stands_before s a) (some-insert test s l e)
  where
    go : (x : Bool) → some test (insert s l) ≡ some test l → some test (cond x (s ∷ a ∷ l) (a ∷ insert s l)) ≡ (test a || some test l)
    go true ih = rw e
    go false ih = rw ih

and-false : (x y : Bool) → y ≡ false → (x && y) ≡ false
and-false true y e = e
and-false false y e = refl

pub forget-insert : (time : Float) (s : Sample) (p : ℕ) (t : List Sample) → since time s ≡ true → rises p t ≡ true → forget time (insert s t) ≡ insert s (forget time t)
unfolding forget insert rises
forget-insert time s p [] h r = rw (not-true (sample_before time s) h)
forget-insert time s p (a ∷ t) h r = go (stands_before s a) refl (forget-insert time s (place_of a) t h rest)
  where
    rest : rises (place_of a) t ≡ true
    rest = and_right (leb p (place_of a)) (rises (place_of a) t) r

    whole : rises (place_of a) (a ∷ t) ≡ true
    whole = rw (le-leb (place_of a) (place_of a) (le_refl (place_of a))) rest

    late : sample_before time s ≡ false
    late = not-true (sample_before time s) h

    go : (x : Bool) → stands_before s a ≡ x → forget time (insert s t) ≡ insert s (forget time t)
        → forget time (cond x (s ∷ a ∷ t) (a ∷ insert s t)) ≡ insert s (forget time (a ∷ t))
    go true e ih = front ∙ sym (insert-front s (place_of a) (forget time (a ∷ t)) (ltb-true _ _ (sym (before-place s a) ∙ e)) (forget-rises time (place_of a) (a ∷ t) whole))
      where
        front : forget time (s ∷ a ∷ t) ≡ s ∷ forget time (a ∷ t)
        front = rw late
    go false e ih =
        ap (λ (x : Bool). cond (sample_before time a && x) (forget time (insert s t)) (a ∷ forget time (insert s t))) (some-insert (earlier (signal_of a) time) s t (and-false (eqb (signal_of s) (signal_of a)) (sample_before time s) late))
        ∙ test (sample_before time a && some (earlier (signal_of a) time) t)
      where
        test : (y : Bool) → cond y (forget time (insert s t)) (a ∷ forget time (insert s t)) ≡ insert s (cond y (forget time t) (a ∷ forget time t))
        test true = ih
        test false = ap (λ (m : List Sample). a ∷ m) ih ∙ sym (stay e)
          where
            stay : stands_before s a ≡ false → insert s (a ∷ forget time t) ≡ a ∷ insert s (forget time t)
            stay e = rw e

pub forget-insert_all : (time : Float) (t ss : List Sample) → rises 0 t ≡ true → every (since time) ss ≡ true → forget time (insert_all t ss) ≡ insert_all (forget time t) ss
unfolding insert_all every
forget-insert_all time t [] r e = refl
forget-insert_all time t (s ∷ ss) r e =
    forget-insert_all time (insert s t) ss (insert-rises 0 s t (omega arith) r) (and_right (since time s) _ e)
    ∙ ap (λ (m : List Sample). insert_all m ss) (forget-insert time s 0 t (and_left _ _ e) r)

-- for every sorted table, drop time, additions not earlier than it and query not before it, the answer is that without the drop
pub forget-law : (time : Float) (t ss : List Sample) (gap : Float) (c v b : ℕ) (q : Float) → rises 0 t ≡ true → every (since time) ss ≡ true → lt q time ≡ false
    → answer_at (insert_all (forget time t) ss) gap c v b q ≡ answer_at (insert_all t ss) gap c v b q
forget-law time t ss gap c v b q r e h =
    ap (λ (m : List Sample). answer_at m gap c v b q) (sym (forget-insert_all time t ss r e)) ∙ forget-answer time (insert_all t ss) gap c v b q h
