-- The clocks that are given one constellation after the other are those of the whole list. Assumes nothing.
use Rattle.std.proofs.Common.{◌≡◌, ℕ, zero, suc, ◌+◌, ◌<◌, ◌≤◌, Bool, true, false, cond, ◌||◌, eqb, ltb, List, [], ◌∷◌, ◌++◌, map, length, get_or, set, sym, refl, ap, ◌∙◌, ap₂, ⊎_elim, le_of_suc-le-suc, not-suc-le-zero, add-zero, eq-or-lt_of_le, zero-add, arith, length-append, le-ltb, eq-eqb, ne_eqb}
use mathlib.Core.Bool.{or-false, or-true, or_assoc}
use Rattle.lists.proofs.Walk.{or_no}
use Rattle.lists.specs.Walk.{fold}
use Rattle.clocks.specs.Clocks.{place, not_given, none, slot, given, has, appearing, slot_from, clocks_in, clocks_of}
use Rattle.clocks.specs.declared.clocks.Clocks.{Clocks}

-- ---- a place in a list, and one more at its end
has_more : (js : List ℕ) (k j : ℕ) → has (js ++ (k ∷ [])) j ≡ (has js j || eqb k j)
unfolding has
has_more [] k j = or-false (eqb k j)
has_more (i ∷ js) k j = ap (λ (b : Bool). eqb i j || b) (has_more js k j) ∙ sym (or_assoc (eqb i j) (has js j) (eqb k j))

-- ---- the slots
slot-new : (s : ℕ) (js : List ℕ) (k : ℕ) → has js k ≡ false → slot_from s (js ++ (k ∷ [])) k ≡ s + length js
unfolding has slot_from
slot-new s [] k e = rw (eq-eqb k k refl) (omega arith)
slot-new s (j ∷ js) k e =
    let n = or_no (eqb j k) (has js k) e in
    rw n.0 (slot-new (s + 1) js k n.1 ∙ omega arith)

slot-other : (s : ℕ) (js : List ℕ) (k j : ℕ) → (j ≡ k → ⊥) → slot_from s (js ++ (k ∷ [])) j ≡ slot_from s js j
unfolding slot_from
slot-other s [] k j ne = rw (ne_eqb k j (λ e. ne (sym e)))
slot-other s (i ∷ js) k j ne = ap (λ (n : ℕ). cond (eqb i j) s n) (slot-other (s + 1) js k j ne)

slot-no : (s : ℕ) (js : List ℕ) (k : ℕ) → has js k ≡ false → slot_from s js k ≡ not_given
unfolding has slot_from
slot-no s [] k e = refl
slot-no s (j ∷ js) k e =
    let n = or_no (eqb j k) (has js k) e in
    rw n.0 (slot-no (s + 1) js k n.1)

slot-yes : (s : ℕ) (js : List ℕ) (k : ℕ) → has js k ≡ true → slot_from s js k < s + length js
unfolding has slot_from
slot-yes s [] k e = let z : ◌≡◌ {A = ℕ} 0 1 = cc in omega arith
slot-yes s (j ∷ js) k e = go (eqb j k) e (λ h. slot-yes (s + 1) js k h)
  where
    go : (b : Bool) → (b || has js k) ≡ true → (has js k ≡ true → slot_from (s + 1) js k < s + 1 + length js) → cond b s (slot_from (s + 1) js k) < s + suc (length js)
    go true h ih = omega arith
    go false h ih = omega (arith, ih h)

-- ---- how many of the places below n are in a list
tally : List ℕ → ℕ → ℕ
tally js zero = 0
tally js (suc n) = cond (has js n) 1 0 + tally js n

bit_le : (b : Bool) → cond b 1 0 ≤ 1
bit_le true = omega arith
bit_le false = omega arith

tally-le : (js : List ℕ) (n : ℕ) → tally js n ≤ n
unfolding tally
tally-le js zero = omega arith
tally-le js (suc n) = omega (arith, tally-le js n, bit_le (has js n))

tally-lt : (js : List ℕ) (k : ℕ) → has js k ≡ false → (n : ℕ) → k < n → tally js n < n
unfolding tally
tally-lt js k e zero l = omega arith
tally-lt js k e (suc n) l =
    ⊎_elim
    (λ (h : k ≡ n). rw (ap (has js) (sym h) ∙ e) (omega (arith, tally-le js n)))
    (λ h. omega (arith, tally-lt js k e n h, bit_le (has js n)))
    (eq-or-lt_of_le (le_of_suc-le-suc l))

tally-past : (js : List ℕ) (k n : ℕ) → n ≤ k → tally (js ++ (k ∷ [])) n ≡ tally js n
unfolding tally
tally-past js k zero l = refl
tally-past js k (suc n) l =
    rw (has_more js k n, ne_eqb k n (λ (e : k ≡ n). omega arith), or-false (has js n), tally-past js k n (omega arith))

tally-more : (js : List ℕ) (k : ℕ) → has js k ≡ false → (n : ℕ) → k < n → tally (js ++ (k ∷ [])) n ≡ suc (tally js n)
unfolding tally
tally-more js k e zero l = omega arith
tally-more js k e (suc n) l =
    ⊎_elim
    (λ (h : k ≡ n). rw (has_more js k n, eq-eqb k n h, or-true (has js n), tally-past js k n (omega arith), ap (has js) (sym h) ∙ e) (omega arith))
    (λ (h : k < n). rw (has_more js k n, ne_eqb k n (λ (e : k ≡ n). omega arith), or-false (has js n), tally-more js k e n h) (omega arith))
    (eq-or-lt_of_le (le_of_suc-le-suc l))

-- ---- the eight places
from : ℕ → ℕ → List ℕ
from a zero = []
from a (suc n) = a ∷ from (a + 1) n

at_from : (f : ℕ → ℕ) (a n k : ℕ) → k < n → get_or (map f (from a n)) k 0 ≡ f (a + k)
unfolding from
at_from f a zero k l = absurd (not-suc-le-zero l)
at_from f a (suc n) zero l = ap f (sym (add-zero a))
at_from f a (suc n) (suc k) l =
    let e : a + 1 + k ≡ a + suc k = omega arith in
    at_from f (a + 1) n k (le_of_suc-le-suc l) ∙ ap f e

same_from : (f g : ℕ → ℕ) (a n : ℕ) → ((j : ℕ) → a ≤ j → f j ≡ g j) → map f (from a n) ≡ map g (from a n)
unfolding from
same_from f g a zero h = refl
same_from f g a (suc n) h = ap₂ ◌∷◌ (h a (omega arith)) (same_from f g (a + 1) n (λ j l. h j (omega arith)))

set-from : (f g : ℕ → ℕ) (a n k v : ℕ) → k < n → ((j : ℕ) → (j ≡ a + k → ⊥) → f j ≡ g j) → v ≡ g (a + k) → set (map f (from a n)) k v ≡ map g (from a n)
unfolding from
set-from f g a zero k v l h e = absurd (not-suc-le-zero l)
set-from f g a (suc n) zero v l h e =
    ap₂ ◌∷◌ (e ∙ ap g (add-zero a)) (same_from f g (a + 1) n (λ j l. h j (λ (e : j ≡ a + 0). omega arith)))
set-from f g a (suc n) (suc k) v l h e =
    let q : a + suc k ≡ a + 1 + k = omega arith in
    ap₂ ◌∷◌ (h a (λ (e : a ≡ a + suc k). omega arith))
    (set-from f g (a + 1) n k v (le_of_suc-le-suc l) (λ j ne. h j (λ (e : j ≡ a + suc k). ne (e ∙ q))) (e ∙ ap g q))

-- ---- one constellation more
Good : List ℕ → Type 0
Good js = tally js 8 ≡ length js

always : (b : Bool) (k : Clocks) → cond b k k ≡ k
always true k = refl
always false k = refl

the-slot : (js : List ℕ) (c : ℕ) → slot (clocks_in js) c ≡ slot_from 3 js (place c)
unfolding clocks_in from
the-slot js c = at_from (slot_from 3 js) 0 8 (place c) (omega arith) ∙ ap (slot_from 3 js) (zero-add (place c))

given-old : (js : List ℕ) (c : ℕ) → Good js → has js (place c) ≡ true → given (clocks_in js) c ≡ clocks_in js
unfolding given Good
given-old js c good e =
    let no : eqb (slot (clocks_in js) c) not_given ≡ false = ne_eqb _ _ (λ (q : slot (clocks_in js) c ≡ not_given). omega (arith, the-slot js c, slot-yes 3 js (place c) e, tally-le js 8)) in
    rw no (always (ltb 7 (clocks_in js).count) (clocks_in js))

given-new : (js : List ℕ) (c : ℕ) → Good js → has js (place c) ≡ false → given (clocks_in js) c ≡ clocks_in (js ++ (place c ∷ []))
unfolding given Good clocks_in from
given-new js c good e =
    let few : length js ≤ 7 = omega (arith, tally-lt js (place c) e 8 (omega arith)) in
    let yes : eqb (slot (clocks_in js) c) not_given ≡ true = eq-eqb _ _ (the-slot js c ∙ slot-no 3 js (place c) e) in
    let k = place c in
    let slots = set-from (slot_from 3 js) (slot_from 3 (js ++ (k ∷ []))) 0 8 k (3 + length js) (omega arith)
    (λ j ne. sym (slot-other 3 js k j (λ q. ne (q ∙ sym (zero-add k)))))
    (sym (slot-new 3 js k e) ∙ ap (slot_from 3 (js ++ (k ∷ []))) (sym (zero-add k))) in
    rw (le-ltb 7 (length js) few, yes)
    (ap₂ (λ (s : List ℕ) (n : ℕ). record { slot = s; count = n }) slots (sym (length-append js (k ∷ []))))

good_new : (js : List ℕ) (k : ℕ) → Good js → has js k ≡ false → k < 8 → Good (js ++ (k ∷ []))
unfolding Good
good_new js k good e l = tally-more js k e 8 l ∙ (rw length-append (omega arith))

-- ---- all of them
law-from : (cs js : List ℕ) → Good js → fold given (clocks_in js) cs ≡ clocks_in (appearing js cs)
unfolding fold appearing
law-from [] js good = refl
law-from (c ∷ cs) js good = go (has js (place c)) refl (λ ks. law-from cs ks)
  where
    go : (b : Bool) → has js (place c) ≡ b → ((ks : List ℕ) → Good ks → fold given (clocks_in ks) cs ≡ clocks_in (appearing ks cs)) → fold given (given (clocks_in js) c) cs ≡ clocks_in (appearing (cond b js (js ++ (place c ∷ []))) cs)
    go true e rest = rw (given-old js c good e) (rest js good)
    go false e rest = rw (given-new js c good e) (rest (js ++ (place c ∷ [])) (good_new js (place c) good e (omega arith)))

-- slots by order of first appearance
pub law : (cs : List ℕ) → fold given none cs ≡ clocks_of cs
unfolding clocks_of clocks_in slot_from Good tally has
law cs = law-from cs [] refl

-- the same, where each constellation is read off something else
pub fold-map : {A S B : Type 0} (g : S → B → S) (f : A → B) (s : S) (xs : List A) → fold (λ s a. g s (f a)) s xs ≡ fold g s (map f xs)
unfolding fold
fold-map g f s [] = refl
fold-map g f s (x ∷ xs) = fold-map g f (g s (f x)) xs

-- ---- there are at most eight
good-all : (cs js : List ℕ) → Good js → Good (appearing js cs)
unfolding appearing
good-all [] js good = good
good-all (c ∷ cs) js good = go (has js (place c)) refl (λ ks. good-all cs ks)
  where
    go : (b : Bool) → has js (place c) ≡ b → ((ks : List ℕ) → Good ks → Good (appearing ks cs)) → Good (appearing (cond b js (js ++ (place c ∷ []))) cs)
    go true e rest = rest js good
    go false e rest = rest (js ++ (place c ∷ [])) (good_new js (place c) good e (omega arith))

-- there are never more than eight clocks
pub few : (cs : List ℕ) → (clocks_of cs).count ≤ 8
unfolding clocks_of clocks_in Good tally has
few cs = omega (arith, good-all cs [] refl, tally-le (appearing [] cs) 8)
