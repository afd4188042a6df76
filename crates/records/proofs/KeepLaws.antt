-- The elements that pass a test, and arrays that are filled one element after the other. Assumes nothing.
use mathlib.Core.Path.{◌≡◌, refl, ap, ◌∙◌}
use mathlib.Core.List.{List, [], ◌∷◌, ◌++◌, map, map-append}
use mathlib.Core.Bool.{Bool, true, false, cond, ◌&&◌}
use Prim.Native.Nat.{ℕ, ◌+◌, ◌≤◌, ◌<◌}
use native.Mathlib.Nat.{not-suc-le-zero}
use native.Mathlib.Decide.{ℕ_discrete}
use native.Mathlib.Numerals.{add-one}
use native.Mathlib.Omega.{arith}
use lib.ListN.{length, take, set, get_or, length-set}
use lib.Seq.{take-suc, take-suc-set, get_or-set_same, get_or-set_other}
use Rattle.lists.specs.Walk.{every, collect}
use Rattle.records.specs.Record.{keep}

module _ {A : Type 0} (test : A → Bool) where
  pub keep-yes : (x : A) {r : Bool} → r ≡ test x → r ≡ true → keep test x ≡ x ∷ []
  keep-yes x is t = cc

  pub keep-no : (x : A) {r : Bool} → r ≡ test x → r ≡ false → keep test x ≡ []
  keep-no x is t = cc

  -- no more pass than there are
  pub keep-few : (xs : List A) → length (collect (keep test) xs) ≤ length xs
  unfolding collect
  keep-few [] = omega arith
  keep-few (x ∷ xs) = go (test x) (keep-few xs)
    where
      go : (b : Bool) → length (collect (keep test) xs) ≤ length xs → length (cond b (x ∷ []) [] ++ collect (keep test) xs) ≤ length (x ∷ xs)
      go true ih = omega arith
      go false ih = omega arith

-- what f gives of those that pass is what it gives of each, and none of the others
pub collect-kept : {A B : Type 0} (f : A → List B) (test : A → Bool) (xs : List A) → collect f (collect (keep test) xs) ≡ collect (λ x. cond (test x) (f x) []) xs
unfolding collect
collect-kept f test [] = refl
collect-kept f test (x ∷ xs) = go (test x) (collect-kept f test xs)
  where
    go : (b : Bool) → collect f (collect (keep test) xs) ≡ collect (λ x. cond (test x) (f x) []) xs → collect f (cond b (x ∷ []) [] ++ collect (keep test) xs) ≡ cond b (f x) [] ++ collect (λ x. cond (test x) (f x) []) xs
    go true e = ap (λ ys. f x ++ ys) e
    go false e = e

-- ---- an array that is filled with what f gives of each element

map_snoc : {A B : Type 0} (f : A → B) (xs : List A) (x : A) → map f (xs ++ (x ∷ [])) ≡ map f xs ++ (f x ∷ [])
map_snoc f [] x = refl
map_snoc f (y ∷ ys) x = ap (λ zs. f y ∷ zs) (map_snoc f ys x)

pub filled_next : {A B : Type 0} (f : A → B) (xs : List A) (out : List B) (i : ℕ) (d : A) → i < length xs → i < length out → take i out ≡ map f (take i xs)
    → take (i + 1) (set out i (f (get_or xs i d))) ≡ map f (take (i + 1) xs)
filled_next f xs out i d h g e = rw (add-one, take-suc-set out i (f (get_or xs i d)) g, take-suc xs i d h, map_snoc, e)

-- whether each element passes, of an array that is filled one place further
every-snoc : {A : Type 0} (test : A → Bool) (xs : List A) (x : A) → every test (xs ++ (x ∷ [])) ≡ (every test xs && test x)
unfolding every
every-snoc test [] x = go (test x)
  where
    go : (b : Bool) → (b && true) ≡ b
    go true = refl
    go false = refl
every-snoc test (y ∷ ys) x = go (test y) (every-snoc test ys x)
  where
    go : (b : Bool) → every test (ys ++ (x ∷ [])) ≡ (every test ys && test x) → (b && every test (ys ++ (x ∷ []))) ≡ ((b && every test ys) && test x)
    go true e = e
    go false e = refl

pub every-next : {A : Type 0} (test : A → Bool) (out : List A) (k : ℕ) (x : A) → k < length out → {b r : Bool} → b ≡ every test (take k out) → r ≡ test x
    → (b && r) ≡ every test (take (k + 1) (set out k x))
every-next test out k x g e is = rw (add-one, take-suc-set out k x g, every-snoc, e, is)

-- an array of 64 whose first j places are what g gives of the places
pub record Filled {B : Type 0} (g : ℕ → B) (d : B) (j : ℕ) (array : List B) : Type 0 where
  pub long : length array ≡ 64
  pub at : (i : ℕ) → i < j → get_or array i d ≡ g i

module _ {B : Type 0} (g : ℕ → B) (d : B) where
  pub filled-start : (array : List B) → length array ≡ 64 → Filled g d 0 array
  filled-start array h = record { long = h; at = λ i b. absurd (not-suc-le-zero b) }

  pub filled_more : (j : ℕ) (array : List B) (v : B) → j < 64 → v ≡ g j → Filled g d j array → Filled g d (j + 1) (set array j v)
  filled_more j array v b e h = record { long = length-set array j v ∙ h.long; at = λ i l. go i l (ℕ_discrete i j) }
    where
      go : (i : ℕ) → i < j + 1 → Dec (i ≡ j) → get_or (set array j v) i d ≡ g i
      go i l (yes q) = rw q (get_or-set_same array j v d (omega (arith, h.long)) ∙ e)
      go i l (no q) = get_or-set_other array j i v d q ∙ h.at i (omega arith)

-- ---- what f gives of the elements that pass a test
pub collect-map : {A B C : Type 0} (g : B → C) (f : A → List B) (xs : List A) → collect (λ a. map g (f a)) xs ≡ map g (collect f xs)
unfolding collect
collect-map g f [] = refl
collect-map g f (x ∷ xs) = rw (map-append, collect-map g f xs)
