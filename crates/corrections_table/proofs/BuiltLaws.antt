-- The table that samples leave, added one by one, is `built_of` of them all. Assumes nothing.
use mathlib.Core.Path.{◌≡◌, refl, sym, ap, ◌∙◌}
use mathlib.Core.List.{List, [], ◌∷◌, ◌++◌, append_assoc, append-nil}
use mathlib.Core.Bool.{Bool, true, false, cond, ◌&&◌, ◌||◌}
use Prim.Native.Nat.{ℕ, suc, ◌+◌, ◌*◌, ◌^◌, ◌≤◌, ◌<◌}
use native.Mathlib.Omega.{arith}
use native.Mathlib.Nat.{le_trans, le_refl}
use lib.Dec.{ltb, leb, eqb}
use borrow.Author.Tests.{ltb-true, ltb-false, leb-true, eqb-true, eqb-false, le-leb, ne_eqb}
use Rattle.lists.specs.Walk.{collect}
use Rattle.corrections_table.specs.Table.{time_before, signal_of, of_signal, series_of}
use Rattle.corrections_table.specs.Add.{insert_all}
use Rattle.corrections_table.specs.Build.{built_of, put, signals, sort_times, with_signal}
use Rattle.corrections_table.specs.declared.sample.Sample.{Sample}
use Rattle.corrections_table.proofs.Places.{time_key, place_of, rises, key-lt}
use Rattle.corrections_table.proofs.TableLaws.{and_left, and_right}
use Rattle.corrections_table.proofs.UnitLaws.{never}
use Rattle.corrections_table.proofs.SeriesLaws.{mine, other, insert_all-rises, series_law}

clash : {A : Type 0} (x : Sample) (l : List Sample) → x ∷ l ≡ [] → A
clash x l e = absurd (let z : ◌≡◌ {A = ℕ} 0 1 = cc in omega arith)

or_left : (a b : Bool) → (a || b) ≡ false → a ≡ false
or_left true b e = e
or_left false b e = refl

or_right : (a b : Bool) → (a || b) ≡ false → b ≡ false
or_right true b e = never (sym e)
or_right false b e = e

series_none : (g : ℕ) → series_of g [] ≡ []
unfolding collect
series_none g = refl

-- ---- signals that do not fall, from p on
unfoldable pub climbs : ℕ → List Sample → Bool
climbs p [] = true
climbs p (a ∷ l) = leb p (signal_of a) && climbs (signal_of a) l

climbs-low : (p : ℕ) (l : List Sample) (g : ℕ) → climbs p l ≡ true → g < p → series_of g l ≡ []
unfolding climbs
climbs-low p [] g c h = series_none g
climbs-low p (a ∷ l) g c h =
    let k : p ≤ signal_of a = leb-true p (signal_of a) (and_left _ _ c) in
    other g a l (ne_eqb (signal_of a) g (λ (e : signal_of a ≡ g). omega arith)) ∙ climbs-low (signal_of a) l g (and_right (leb p (signal_of a)) _ c) (omega arith)

climbs-weak : (p q : ℕ) (l : List Sample) → p ≤ q → climbs q l ≡ true → climbs p l ≡ true
unfolding climbs
climbs-weak p q [] h c = refl
climbs-weak p q (a ∷ l) h c = rw (le-leb p (signal_of a) (le_trans h (leb-true q (signal_of a) (and_left _ _ c)))) (and_right (leb q (signal_of a)) _ c)

-- a list whose signals do not fall is known by its series
pub unique : (p q : ℕ) (xs ys : List Sample) → climbs p xs ≡ true → climbs q ys ≡ true → ((g : ℕ) → series_of g xs ≡ series_of g ys) → xs ≡ ys
unfolding climbs
unique p q [] [] c d h = refl
unique p q [] (y ∷ ys) c d h = clash y (series_of (signal_of y) ys) (sym (mine (signal_of y) y ys refl) ∙ sym (h (signal_of y)) ∙ series_none (signal_of y))
unique p q (x ∷ xs) [] c d h = clash x (series_of (signal_of x) xs) (sym (mine (signal_of x) x xs refl) ∙ h (signal_of x) ∙ series_none (signal_of x))
unique p q (x ∷ xs) (y ∷ ys) c d h = go (ltb (signal_of x) (signal_of y)) (ltb (signal_of y) (signal_of x)) refl refl (unique (signal_of x) (signal_of y) xs ys cx cy)
  where
    cx : climbs (signal_of x) xs ≡ true
    cx = and_right (leb p (signal_of x)) _ c

    cy : climbs (signal_of y) ys ≡ true
    cy = and_right (leb q (signal_of y)) _ d

    wx : climbs (signal_of x) (x ∷ xs) ≡ true
    wx = rw (le-leb (signal_of x) (signal_of x) (le_refl (signal_of x))) cx

    wy : climbs (signal_of y) (y ∷ ys) ≡ true
    wy = rw (le-leb (signal_of y) (signal_of y) (le_refl (signal_of y))) cy

    go : (u v : Bool) → ltb (signal_of x) (signal_of y) ≡ u → ltb (signal_of y) (signal_of x) ≡ v → (((g : ℕ) → series_of g xs ≡ series_of g ys) → xs ≡ ys) → x ∷ xs ≡ y ∷ ys
    go true v e f ih = clash x (series_of (signal_of x) xs) (sym (mine (signal_of x) x xs refl) ∙ h (signal_of x) ∙ climbs-low (signal_of y) (y ∷ ys) (signal_of x) wy (ltb-true _ _ e))
    go false true e f ih = clash y (series_of (signal_of y) ys) (sym (mine (signal_of y) y ys refl) ∙ sym (h (signal_of y)) ∙ climbs-low (signal_of x) (x ∷ xs) (signal_of y) wx (ltb-true _ _ f))
    go false false e f ih =
        let same : signal_of y ≡ signal_of x = omega (arith, ltb-false (signal_of x) (signal_of y) e, ltb-false (signal_of y) (signal_of x) f) in
        let heads : x ∷ series_of (signal_of x) xs ≡ y ∷ series_of (signal_of x) ys = sym (mine (signal_of x) x xs refl) ∙ h (signal_of x) ∙ mine (signal_of x) y ys same in
        let hd : x ≡ y = cc in
        let tails = ih (λ g. tail g (eqb (signal_of x) g) refl same heads) in
        cc
      where
        tail : (g : ℕ) (u : Bool) → eqb (signal_of x) g ≡ u → signal_of y ≡ signal_of x → x ∷ series_of (signal_of x) xs ≡ y ∷ series_of (signal_of x) ys → series_of g xs ≡ series_of g ys
        tail g true e s t = let k : signal_of x ≡ g = eqb-true _ _ e in rw (← k) (let z : series_of (signal_of x) xs ≡ series_of (signal_of x) ys = cc in z)
        tail g false e s t = sym (other g x xs e) ∙ h g ∙ other g y ys (rw s e)

-- ---- the table's signals do not fall
digit : (g h j k : ℕ) → k < 2 ^ 64 → g * 2 ^ 64 + j ≤ h * 2 ^ 64 + k → g ≤ h
digit g h j k l m = omega arith

rises-climbs : (g j : ℕ) (t : List Sample) → rises (g * 2 ^ 64 + j) t ≡ true → climbs g t ≡ true
unfolding rises climbs
rises-climbs g j [] r = refl
rises-climbs g j (a ∷ t) r =
    rw (le-leb g (signal_of a) (digit g (signal_of a) j (time_key a.time) (key-lt a.time) (leb-true (g * 2 ^ 64 + j) (place_of a) (and_left _ _ r))))
    (rises-climbs (signal_of a) (time_key a.time) t (and_right (leb (g * 2 ^ 64 + j) (place_of a)) _ r))

-- ---- lists of one signal
abbrev Only : ℕ → List Sample → Type 0
Only g [] = Unit {0}
Only g (a ∷ l) = (signal_of a ≡ g) × Only g l

only-put : (g : ℕ) (s : Sample) (l : List Sample) → signal_of s ≡ g → Only g l → Only g (put s l)
unfolding put
only-put g s [] e h = (e, tt)
only-put g s (a ∷ l) e h = go (time_before a.time s.time) (only-put g s l e h.1)
  where
    go : (x : Bool) → Only g (put s l) → Only g (cond x (a ∷ put s l) (s ∷ a ∷ l))
    go true r = (h.0, r)
    go false r = (e, h)

only-sorted : (g : ℕ) (l : List Sample) → Only g l → Only g (sort_times l)
unfolding sort_times
only-sorted g [] h = tt
only-sorted g (s ∷ l) h = only-put g s (sort_times l) h.0 (only-sorted g l h.1)

only_series : (g : ℕ) (l : List Sample) → Only g (series_of g l)
unfolding collect
only_series g [] = tt
only_series g (a ∷ l) = go (eqb (signal_of a) g) refl (only_series g l)
  where
    go : (x : Bool) → eqb (signal_of a) g ≡ x → Only g (series_of g l) → Only g (cond x (a ∷ []) [] ++ series_of g l)
    go true e r = (eqb-true _ _ e, r)
    go false e r = r

series_append : (g : ℕ) (xs ys : List Sample) → series_of g (xs ++ ys) ≡ series_of g xs ++ series_of g ys
unfolding collect
series_append g [] ys = refl
series_append g (x ∷ xs) ys = ap (λ (m : List Sample). of_signal g x ++ m) (series_append g xs ys) ∙ sym (append_assoc (of_signal g x) (series_of g xs) (series_of g ys))

only_same : (g : ℕ) (l : List Sample) → Only g l → series_of g l ≡ l
only_same g [] h = series_none g
only_same g (a ∷ l) h = mine g a l h.0 ∙ ap (λ (m : List Sample). a ∷ m) (only_same g l h.1)

only-other : (g k : ℕ) (l : List Sample) → eqb k g ≡ false → Only k l → series_of g l ≡ []
only-other g k [] e h = series_none g
only-other g k (a ∷ l) e h = other g a l (rw h.0 e) ∙ only-other g k l e h.1

climbs-only : (p g : ℕ) (xs ys : List Sample) → p ≤ g → Only g xs → climbs (suc g) ys ≡ true → climbs p (xs ++ ys) ≡ true
unfolding climbs
climbs-only p g [] ys h o c = climbs-weak p (suc g) ys (omega arith) c
climbs-only p g (a ∷ xs) ys h o c =
    let e = o.0 in
    rw (le-leb p (signal_of a) (omega arith)) (climbs-only (signal_of a) g xs ys (omega arith) o.1 c)

-- ---- the signals, each once, in ascending order
unfoldable ascends : ℕ → List ℕ → Bool
ascends p [] = true
ascends p (g ∷ gs) = leb p g && ascends (suc g) gs

unfoldable has : ℕ → List ℕ → Bool
has g [] = false
has g (h ∷ hs) = eqb h g || has g hs

with-ascends : (p g : ℕ) (hs : List ℕ) → p ≤ g → ascends p hs ≡ true → ascends p (with_signal g hs) ≡ true
unfolding ascends with_signal
with-ascends p g [] h c = rw (le-leb p g h)
with-ascends p g (k ∷ ks) h c = go (ltb g k) (eqb g k) refl refl (λ l. with-ascends (suc k) g ks l (and_right (leb p k) _ c))
  where
    rest : ascends (suc k) ks ≡ true
    rest = and_right (leb p k) _ c

    go : (x y : Bool) → ltb g k ≡ x → eqb g k ≡ y → (suc k ≤ g → ascends (suc k) (with_signal g ks) ≡ true) → ascends p (cond x (g ∷ k ∷ ks) (cond y (k ∷ ks) (k ∷ with_signal g ks))) ≡ true
    go true y e f ih = rw (le-leb p g h, le-leb (suc g) k (ltb-true g k e)) rest
    go false true e f ih = c
    go false false e f ih =
        let ne = eqb-false g k f in
        let l : k ≤ g = ltb-false g k e in
        rw (and_left (leb p k) _ c) (ih (omega arith))

signals_ascend : (l : List Sample) → ascends 0 (signals l) ≡ true
unfolding ascends signals
signals_ascend [] = refl
signals_ascend (s ∷ l) = with-ascends 0 (signal_of s) (signals l) (omega arith) (signals_ascend l)

has-with : (g k : ℕ) (hs : List ℕ) → has g (with_signal k hs) ≡ false → (eqb k g ≡ false) × (has g hs ≡ false)
unfolding has with_signal
has-with g k [] e = (or_left _ _ e, refl)
has-with g k (h ∷ hs) e = go (ltb k h) (eqb k h) refl refl e (has-with g k hs)
  where
    go : (x y : Bool) → ltb k h ≡ x → eqb k h ≡ y → has g (cond x (k ∷ h ∷ hs) (cond y (h ∷ hs) (h ∷ with_signal k hs))) ≡ false
        → (has g (with_signal k hs) ≡ false → (eqb k g ≡ false) × (has g hs ≡ false)) → (eqb k g ≡ false) × ((eqb h g || has g hs) ≡ false)
    go true y p q e ih = (or_left (eqb k g) _ e, or_right (eqb k g) _ e)
    go false true p q e ih = let s : k ≡ h = eqb-true k h q in (rw s (or_left (eqb h g) _ e), e)
    go false false p q e ih =
        let r = ih (or_right (eqb h g) _ e) in
        (r.0, rw (or_left (eqb h g) _ e) r.1)

no-signal : (g : ℕ) (l : List Sample) → has g (signals l) ≡ false → series_of g l ≡ []
unfolding signals
no-signal g [] e = series_none g
no-signal g (s ∷ l) e = let r = has-with g (signal_of s) (signals l) e in other g s l r.0 ∙ no-signal g l r.1

-- ---- the series one after the other
module _ (f : ℕ → List Sample) (only : (g : ℕ) → Only g (f g)) where
  built-climbs : (p : ℕ) (gs : List ℕ) → ascends p gs ≡ true → climbs p (collect f gs) ≡ true
  unfolding collect ascends
  built-climbs p [] c = unfold climbs in refl
  built-climbs p (g ∷ gs) c = climbs-only p g (f g) (collect f gs) (leb-true p g (and_left _ _ c)) (only g) (built-climbs (suc g) gs (and_right (leb p g) _ c))

  built-none : (p : ℕ) (gs : List ℕ) (g : ℕ) → has g gs ≡ false → series_of g (collect f gs) ≡ []
  unfolding has
  built-none p [] g e = none g
    where
      none : (g : ℕ) → series_of g (collect f []) ≡ []
      none g = unfold collect in refl
  built-none p (h ∷ gs) g e =
      first g ∙ series_append g (f h) (collect f gs) ∙ rw (only-other g h (f h) (or_left (eqb h g) _ e) (only h)) (built-none p gs g (or_right (eqb h g) _ e))
    where
      first : (g : ℕ) → series_of g (collect f (h ∷ gs)) ≡ series_of g (f h ++ collect f gs)
      first g = unfold collect in refl

  built-has : (p : ℕ) (gs : List ℕ) (g : ℕ) → ascends p gs ≡ true → has g gs ≡ true → series_of g (collect f gs) ≡ f g
  unfolding has ascends
  built-has p [] g c e = never e
  built-has p (h ∷ gs) g c e = first g ∙ series_append g (f h) (collect f gs) ∙ go (eqb h g) refl e (λ x. built-has (suc h) gs g rest x)
    where
      first : (g : ℕ) → series_of g (collect f (h ∷ gs)) ≡ series_of g (f h ++ collect f gs)
      first g = unfold collect in refl

      rest : ascends (suc h) gs ≡ true
      rest = and_right (leb p h) _ c

      go : (x : Bool) → eqb h g ≡ x → (x || has g gs) ≡ true → (has g gs ≡ true → series_of g (collect f gs) ≡ f g) → series_of g (f h) ++ series_of g (collect f gs) ≡ f g
      go true q e ih =
          let s : h ≡ g = eqb-true h g q in
          let low : series_of g (collect f gs) ≡ [] = climbs-low (suc h) (collect f gs) g (built-climbs (suc h) gs rest) (omega arith) in
          rw (low, append-nil (series_of g (f h)), s) (only_same g (f g) (only g))
      go false q e ih = rw (only-other g h (f h) q (only h)) (ih e)

built_series : (g : ℕ) (l : List Sample) → series_of g (built_of l) ≡ sort_times (series_of g l)
unfolding built_of
built_series g l = go (has g (signals l)) refl
  where
    f : ℕ → List Sample
    f h = sort_times (series_of h l)

    only : (h : ℕ) → Only h (f h)
    only h = only-sorted h (series_of h l) (only_series h l)

    go : (x : Bool) → has g (signals l) ≡ x → series_of g (collect f (signals l)) ≡ sort_times (series_of g l)
    go true e = built-has f only 0 (signals l) g (signals_ascend l) e
    go false e = built-none f only 0 (signals l) g e ∙ rw (no-signal g l e) (unfold sort_times in refl)

-- from an empty table, samples added one by one leave what `built_of` gives
pub build-law : (l : List Sample) → insert_all [] l ≡ built_of l
unfolding built_of
build-law l = unique 0 0 (insert_all [] l) (built_of l) (rises-climbs 0 0 (insert_all [] l) (insert_all-rises [] l (unfold rises in refl)))
    (built-climbs (λ g. sort_times (series_of g l)) (λ g. only-sorted g (series_of g l) (only_series g l)) 0 (signals l) (signals_ascend l))
    (λ g. series_law g l ∙ sym (built_series g l))
