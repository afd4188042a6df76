-- Samples added one by one leave what `built_of` gives of them all. Assumes nothing.
use mathlib.Core.Path.{◌≡◌, refl, sym, ap, ◌∙◌}
use mathlib.Core.List.{List, [], ◌∷◌, ◌++◌}
use mathlib.Core.Bool.{Bool, true, false, cond}
use Prim.Native.Nat.{ℕ, ◌+◌, ◌*◌, ◌^◌, ◌≤◌, ◌<◌}
use native.Mathlib.Omega.{arith}
use lib.Dec.{ltb, leb, eqb}
use borrow.Author.Tests.{ltb-true, ltb-false, leb-true, eqb-true, le-leb, eq-eqb}
use Rattle.lists.specs.Walk.{collect}
use Rattle.corrections_table.specs.Table.{stands_before, time_before, signal_of, of_signal, series_of}
use Rattle.corrections_table.specs.Add.{insert, insert_all}
use Rattle.corrections_table.specs.Build.{put, sort_times}
use Rattle.corrections_table.specs.declared.sample.Sample.{Sample}
use Rattle.corrections_table.proofs.Places.{time_key, place_of, rises, before-place, earlier-true, earlier-false, lt-earlier, le-earlier}
use Rattle.corrections_table.proofs.TableLaws.{and_left, and_right}

-- ---- the table stays sorted
pub insert-rises : (p : ℕ) (s : Sample) (t : List Sample) → p ≤ place_of s → rises p t ≡ true → rises p (insert s t) ≡ true
unfolding rises insert
insert-rises p s [] h r = rw (le-leb p (place_of s) h)
insert-rises p s (a ∷ t) h r = go (stands_before s a) (sym (before-place s a)) (λ l. insert-rises (place_of a) s t l (and_right (leb p (place_of a)) _ r))
  where
    first : leb p (place_of a) ≡ true
    first = and_left _ _ r

    rest : rises (place_of a) t ≡ true
    rest = and_right (leb p (place_of a)) _ r

    go : (x : Bool) → ltb (place_of s) (place_of a) ≡ x → (place_of a ≤ place_of s → rises (place_of a) (insert s t) ≡ true) → rises p (cond x (s ∷ a ∷ t) (a ∷ insert s t)) ≡ true
    go true e ih = let l : place_of s ≤ place_of a = native.Mathlib.Nat.le_of_lt (ltb-true _ _ e) in rw (le-leb p (place_of s) h, le-leb (place_of s) (place_of a) l) rest
    go false e ih = rw first (ih (ltb-false _ _ e))

pub insert_all-rises : (t ss : List Sample) → rises 0 t ≡ true → rises 0 (insert_all t ss) ≡ true
unfolding insert_all
insert_all-rises t [] r = r
insert_all-rises t (s ∷ ss) r = insert_all-rises (insert s t) ss (insert-rises 0 s t (omega arith) r)

pub insert_all-append : (t a b : List Sample) → insert_all t (a ++ b) ≡ insert_all (insert_all t a) b
unfolding insert_all
insert_all-append t [] b = refl
insert_all-append t (s ∷ a) b = insert_all-append (insert s t) a b

-- ---- within a series: after those that it does not precede in time
unfoldable pub after : Sample → List Sample → List Sample
after s [] = s ∷ []
after s (a ∷ l) = cond (time_before s.time a.time) (s ∷ a ∷ l) (a ∷ after s l)

unfoldable pub after_all : List Sample → List Sample → List Sample
after_all t [] = t
after_all t (s ∷ ss) = after_all (after s t) ss

-- an earlier x and a later y go in either way round
swap : (x y : Sample) (l : List Sample) → after y (put x l) ≡ put x (after y l)
unfolding after put
swap x y [] = go (time_before y.time x.time) refl
  where
    go : (t : Bool) → time_before y.time x.time ≡ t → cond t (y ∷ x ∷ []) (x ∷ y ∷ []) ≡ cond t (y ∷ x ∷ []) (x ∷ y ∷ [])
    go t e = refl
swap x y (a ∷ l) = go (time_before a.time x.time) (time_before y.time a.time) (time_before y.time x.time) refl refl refl (swap x y l)
  where
    go : (t u v : Bool) → time_before a.time x.time ≡ t → time_before y.time a.time ≡ u → time_before y.time x.time ≡ v
        → after y (put x l) ≡ put x (after y l) → after y (cond t (a ∷ put x l) (x ∷ a ∷ l)) ≡ put x (cond u (y ∷ a ∷ l) (a ∷ after y l))
    go true true v p q r ih =
        let w : time_before y.time x.time ≡ true = lt-earlier y.time x.time (omega (arith, earlier-true a.time x.time p, earlier-true y.time a.time q)) in
        rw (q, w, p)
    go true false v p q r ih = rw (q, p, ih)
    go false true true p q r ih = rw (r, p)
    go false true false p q r ih = rw (r, q)
    go false false true p q r ih =
        absurd (let z : ⊥ = omega (arith, earlier-false a.time x.time p, earlier-false y.time a.time q, earlier-true y.time x.time r) in z)
    go false false false p q r ih = rw (r, q, p)

put_first : (x : Sample) (t l : List Sample) → after_all (put x t) l ≡ put x (after_all t l)
unfolding after_all
put_first x t [] = refl
put_first x t (y ∷ l) = ap (λ (m : List Sample). after_all m l) (swap x y t) ∙ put_first x (after y t) l

pub after-sorts : (l : List Sample) → after_all [] l ≡ sort_times l
unfolding after_all sort_times put after
after-sorts [] = refl
after-sorts (x ∷ l) = put_first x [] l ∙ ap (put x) (after-sorts l)

-- ---- the series of a signal, in the table
pub collect-cons : (g : ℕ) (a : Sample) (t : List Sample) → series_of g (a ∷ t) ≡ of_signal g a ++ series_of g t
unfolding collect
collect-cons g a t = refl

pub mine : (g : ℕ) (a : Sample) (t : List Sample) → signal_of a ≡ g → series_of g (a ∷ t) ≡ a ∷ series_of g t
unfolding collect
mine g a t e = rw (eq-eqb (signal_of a) g e)

pub other : (g : ℕ) (a : Sample) (t : List Sample) → eqb (signal_of a) g ≡ false → series_of g (a ∷ t) ≡ series_of g t
unfolding collect
other g a t e = rw e

-- numbers of two digits: equal first digits
less : (g j k : ℕ) → g * 2 ^ 64 + j < g * 2 ^ 64 + k → j < k
less g j k h = omega arith

least : (g j k : ℕ) → g * 2 ^ 64 + j ≤ g * 2 ^ 64 + k → j ≤ k
least g j k h = omega arith

key-less : (s a : Sample) → signal_of s ≡ signal_of a → place_of s < place_of a → time_key s.time < time_key a.time
key-less s a e h = less (signal_of a) (time_key s.time) (time_key a.time) (rw e at h)

key-least : (s a : Sample) → signal_of s ≡ signal_of a → place_of s ≤ place_of a → time_key s.time ≤ time_key a.time
key-least s a e h = least (signal_of a) (time_key s.time) (time_key a.time) (rw e at h)

-- in front of what has later places
after_front : (g : ℕ) (s : Sample) (p : ℕ) (t : List Sample) → signal_of s ≡ g → place_of s < p → rises p t ≡ true → after s (series_of g t) ≡ s ∷ series_of g t
unfolding collect after rises
after_front g s p [] e h r = refl
after_front g s p (a ∷ t) e h r = go (eqb (signal_of a) g) refl (after_front g s (place_of a) t e far (and_right (leb p (place_of a)) _ r))
  where
    far : place_of s < place_of a
    far = native.Mathlib.Nat.lt_of_lt_of_le h (leb-true p (place_of a) (and_left _ _ r))

    go : (x : Bool) → eqb (signal_of a) g ≡ x → after s (series_of g t) ≡ s ∷ series_of g t → after s (cond x (a ∷ []) [] ++ series_of g t) ≡ s ∷ cond x (a ∷ []) [] ++ series_of g t
    go true q ih = rw (lt-earlier s.time a.time (key-less s a (e ∙ sym (eqb-true _ _ q)) far))
    go false q ih = ih

after_none : (g : ℕ) (s : Sample) → after s (series_of g []) ≡ s ∷ series_of g []
unfolding collect after
after_none g s = refl

insert-mine : (g : ℕ) (s : Sample) (p : ℕ) (t : List Sample) → signal_of s ≡ g → rises p t ≡ true → series_of g (insert s t) ≡ after s (series_of g t)
unfolding insert after rises
insert-mine g s p [] e r = mine g s [] e ∙ sym (after_none g s)
insert-mine g s p (a ∷ t) e r = go (stands_before s a) (sym (before-place s a)) (insert-mine g s (place_of a) t e rest)
  where
    rest : rises (place_of a) t ≡ true
    rest = and_right (leb p (place_of a)) _ r

    whole : rises (place_of a) (a ∷ t) ≡ true
    whole = rw (le-leb (place_of a) (place_of a) (native.Mathlib.Nat.le_refl (place_of a))) rest

    go : (x : Bool) → ltb (place_of s) (place_of a) ≡ x → series_of g (insert s t) ≡ after s (series_of g t) → series_of g (cond x (s ∷ a ∷ t) (a ∷ insert s t)) ≡ after s (series_of g (a ∷ t))
    go true q ih = mine g s (a ∷ t) e ∙ sym (after_front g s (place_of a) (a ∷ t) e (ltb-true _ _ q) whole)
    go false q ih = in-turn (eqb (signal_of a) g) refl
      where
        in-turn : (y : Bool) → eqb (signal_of a) g ≡ y → series_of g (a ∷ insert s t) ≡ after s (series_of g (a ∷ t))
        in-turn true w =
            let same = eqb-true _ _ w in
            let late : time_before s.time a.time ≡ false = le-earlier s.time a.time (key-least a s (same ∙ sym e) (ltb-false _ _ q)) in
            rw (mine g a (insert s t) same, mine g a t same, late, ih)
        in-turn false w = other g a (insert s t) w ∙ ih ∙ ap (after s) (sym (other g a t w))

insert-other : (g : ℕ) (s : Sample) (t : List Sample) → eqb (signal_of s) g ≡ false → series_of g (insert s t) ≡ series_of g t
unfolding insert
insert-other g s [] e = other g s [] e
insert-other g s (a ∷ t) e = go (stands_before s a) (insert-other g s t e)
  where
    go : (x : Bool) → series_of g (insert s t) ≡ series_of g t → series_of g (cond x (s ∷ a ∷ t) (a ∷ insert s t)) ≡ series_of g (a ∷ t)
    go true ih = other g s (a ∷ t) e
    go false ih = collect-cons g a (insert s t) ∙ ap (λ (m : List Sample). of_signal g a ++ m) ih ∙ sym (collect-cons g a t)

pub series_insert_all : (g : ℕ) (t ss : List Sample) → rises 0 t ≡ true → series_of g (insert_all t ss) ≡ after_all (series_of g t) (series_of g ss)
unfolding insert_all after_all
series_insert_all g t [] r = unfold collect in refl
series_insert_all g t (s ∷ ss) r = series_insert_all g (insert s t) ss (insert-rises 0 s t (omega arith) r) ∙ go (eqb (signal_of s) g) refl
  where
    go : (x : Bool) → eqb (signal_of s) g ≡ x → after_all (series_of g (insert s t)) (series_of g ss) ≡ after_all (series_of g t) (series_of g (s ∷ ss))
    go true e = rw (insert-mine g s 0 t (eqb-true _ _ e) r, mine g s ss (eqb-true _ _ e))
    go false e = rw (insert-other g s t e, other g s ss e)

-- from an empty table, the series of each signal is the stable sort of that signal's samples as they arrived
pub series_law : (g : ℕ) (l : List Sample) → series_of g (insert_all [] l) ≡ sort_times (series_of g l)
series_law g l = series_insert_all g [] l (unfold rises in refl) ∙ none g ∙ after-sorts (series_of g l)
  where
    none : (g : ℕ) → after_all (series_of g []) (series_of g l) ≡ after_all [] (series_of g l)
    none g = unfold collect in refl
