-- Laws of the parts of a text, from a place on. Assumes nothing.
use mathlib.Core.Path.{◌≡◌, refl, ap, ◌∙◌}
use mathlib.Core.List.{List, [], ◌∷◌}
use mathlib.Core.Bool.{Bool, true, false, cond, ◌&&◌}
use Prim.Native.Nat.{ℕ, suc, ◌+◌, ◌-◌, ◌≤◌, ◌<◌}
use native.Mathlib.Numerals.{add-one}
use native.Mathlib.Omega.{arith}
use lib.Dec.{eqb}
use borrow.Author.Tests.{eq-eqb, ne_eqb}
use lib.ListN.{length, get_or, take, drop, length-drop, drop_of_length-le}
use lib.Seq.{drop-cons, drop-drop, length-take-le}
use Rattle.lists.specs.Walk.{every}
use Rattle.line_form.specs.Split.{onto, split}
use Rattle.line_form.specs.Steps.{count_before}

-- ---- before and split along a list

pub before-le : (c : ℕ) (s : List ℕ) → count_before c s ≤ length s
unfolding count_before
before-le c [] = omega arith
before-le c (b ∷ s) = go (eqb b c) (before-le c s)
  where
    go : (t : Bool) → count_before c s ≤ length s → cond t 0 (suc (count_before c s)) ≤ suc (length s)
    go true h = omega arith
    go false h = omega arith

pub split-last : (c : ℕ) (s : List ℕ) → count_before c s ≡ length s → split c s ≡ s ∷ []
unfolding count_before split
split-last c [] e = refl
split-last c (b ∷ s) e = go (eqb b c) (split-last c s) e
  where
    go : (t : Bool) → (count_before c s ≡ length s → split c s ≡ s ∷ []) → cond t 0 (suc (count_before c s)) ≡ suc (length s) → cond t ([] ∷ split c s) (onto b (split c s)) ≡ (b ∷ s) ∷ []
    go true ih h = absurd (omega arith)
    go false ih h = ap (onto b) (ih (omega arith))

pub split-part : (c : ℕ) (s : List ℕ) → count_before c s < length s → split c s ≡ take (count_before c s) s ∷ split c (drop (suc (count_before c s)) s)
unfolding count_before split
split-part c [] l = absurd (omega arith)
split-part c (b ∷ s) l = go (eqb b c) (split-part c s) l
  where
    go : (t : Bool) → (count_before c s < length s → split c s ≡ take (count_before c s) s ∷ split c (drop (suc (count_before c s)) s)) → cond t 0 (suc (count_before c s)) < suc (length s)
        → cond t ([] ∷ split c s) (onto b (split c s)) ≡ take (cond t 0 (suc (count_before c s))) (b ∷ s) ∷ split c (drop (suc (cond t 0 (suc (count_before c s)))) (b ∷ s))
    go true ih h = refl
    go false ih h = ap (onto b) (ih (omega arith))

head-onto : (b : ℕ) (ps : List (List ℕ)) → get_or (onto b ps) 0 [] ≡ b ∷ get_or ps 0 []
head-onto b [] = refl
head-onto b (p ∷ ps) = refl

split-head : (c : ℕ) (s : List ℕ) → get_or (split c s) 0 [] ≡ take (count_before c s) s
unfolding count_before split
split-head c [] = refl
split-head c (b ∷ s) = go (eqb b c) (split-head c s)
  where
    go : (t : Bool) → get_or (split c s) 0 [] ≡ take (count_before c s) s → get_or (cond t ([] ∷ split c s) (onto b (split c s))) 0 [] ≡ take (cond t 0 (suc (count_before c s))) (b ∷ s)
    go true ih = refl
    go false ih = head-onto b (split c s) ∙ ap (λ (t : List ℕ). b ∷ t) ih

pub split-some : (c : ℕ) (s : List ℕ) → 0 < length (split c s)
unfolding split
split-some c [] = omega arith
split-some c (b ∷ s) = go (eqb b c) (split c s)
  where
    go : (t : Bool) (ps : List (List ℕ)) → 0 < length (cond t ([] ∷ ps) (onto b ps))
    go true ps = omega arith
    go false [] = omega arith
    go false (p ∷ ps) = omega arith

-- ---- one step: the byte at i
pub left_end : (s : List ℕ) (i : ℕ) → length s ≤ i → drop i s ≡ []
left_end s i l = drop_of_length-le s {i = i} l

pub left_at : (s : List ℕ) (i : ℕ) → i < length s → drop i s ≡ get_or s i 0 ∷ drop (i + 1) s
left_at s i l = rw (add-one, drop-cons s i 0)

module _ (c : ℕ) (s : List ℕ) (i : ℕ) where
  pub before-end : length s ≤ i → count_before c (drop i s) ≡ 0
  unfolding count_before
  before-end l = ap (count_before c) (left_end s i l)

  pub before-yes : i < length s → get_or s i 0 ≡ c → count_before c (drop i s) ≡ 0
  unfolding count_before
  before-yes l e = ap (count_before c) (left_at s i l) ∙ ap (λ (t : Bool). cond t 0 (suc (count_before c (drop (i + 1) s)))) (eq-eqb _ _ e)

  pub before-no : i < length s → (get_or s i 0 ≡ c → ⊥) → count_before c (drop i s) ≡ suc (count_before c (drop (i + 1) s))
  unfolding count_before
  before-no l e = ap (count_before c) (left_at s i l) ∙ ap (λ (t : Bool). cond t 0 (suc (count_before c (drop (i + 1) s)))) (ne_eqb _ _ e)

pub every-at : (test : ℕ → Bool) (s : List ℕ) (i : ℕ) → i < length s → every test (drop i s) ≡ (test (get_or s i 0) && every test (drop (i + 1) s))
unfolding every
every-at test s i l = ap (every test) (left_at s i l)

-- ---- the part from at to r, where r is what `find` answers
module _ (c : ℕ) (s : List ℕ) (at r : ℕ) (h : at ≤ length s) (is : r ≡ at + count_before c (drop at s)) where
  pub found-le : r ≤ length s
  found-le = omega (arith, before-le c (drop at s), length-drop at s)

  pub found_lt : (r ≡ length s → ⊥) → r < length s
  found_lt ne = omega (arith, found-le)

  pub found-length : length (take (r - at) (drop at s)) ≤ length s
  found-length =
      let n : r - at ≤ length (drop at s) = omega (arith, found-le, length-drop at s) in
      omega (arith, length-take-le (r - at) (drop at s) n, found-le)

  len : count_before c (drop at s) ≡ r - at
  len = omega arith

  next : at + suc (count_before c (drop at s)) ≡ r + 1
  next = omega arith

  pub part-last : r ≡ length s → split c (drop at s) ≡ drop at s ∷ []
  part-last e = split-last c (drop at s) (omega (arith, length-drop at s))

  pub part-next : r < length s → split c (drop at s) ≡ take (r - at) (drop at s) ∷ split c (drop (r + 1) s)
  part-next l = split-part c (drop at s) (omega (arith, length-drop at s))
      ∙ ap (λ (k : ℕ). take k (drop at s) ∷ split c (drop (suc (count_before c (drop at s))) (drop at s))) len
      ∙ ap (λ (t : List ℕ). take (r - at) (drop at s) ∷ split c t) (drop-drop (suc (count_before c (drop at s))) at s)
      ∙ ap (λ (k : ℕ). take (r - at) (drop at s) ∷ split c (drop k s)) next

  pub part-head : get_or (split c (drop at s)) 0 [] ≡ take (r - at) (drop at s)
  part-head = split-head c (drop at s) ∙ ap (λ (k : ℕ). take k (drop at s)) len
