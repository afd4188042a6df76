-- Sums over the rows of a round, one row more at a time. Assumes nothing.
use mathlib.Core.Path.{◌≡◌, refl, sym, ap, ◌∙◌}
use Prim.Native.Nat.{ℕ, zero, suc, ◌+◌, ◌≤◌, ◌<◌}
use native.Mathlib.Numerals.{add-one}
use native.Mathlib.Omega.{arith}
use mathlib.Core.List.{List, [], ◌∷◌, ◌++◌, map, map-append, foldl}
use lib.ListN.{length, get_or, set, take}
use lib.Seq.{take-suc, take-suc-set}
use lib.Ieee.{Float, nan}
use Rattle.lists.specs.Walk.{places}
use Rattle.exact.specs.Float.{◌⊕◌, +0}
use Rattle.normal_equations.specs.Equations.{total}
use Rattle.normal_equations.specs.declared.row.Row.{Row}

-- what the logic has for a row past the end
abbrev pub blank : Row
blank = record { unit = record { x = nan; y = nan; z = nan }; clock = 0; residual = 0; sigma = nan }

-- f 0 + .. + f (n - 1), from +0 on
unfoldable pub sum_to : (ℕ → Float) → ℕ → Float
sum_to f zero = +0
sum_to f (suc k) = sum_to f k ⊕ f k

pub sum_to-zero : (f : ℕ → Float) → sum_to f 0 ≡ +0
unfolding sum_to
sum_to-zero f = refl

pub sum_to-next : (f : ℕ → Float) (k : ℕ) → sum_to f (k + 1) ≡ sum_to f k ⊕ f k
unfolding sum_to
sum_to-next f k = rw add-one

foldl_append : {A S : Type 0} (g : S → A → S) (s : S) (a b : List A) → foldl g s (a ++ b) ≡ foldl g (foldl g s a) b
foldl_append g s [] b = refl
foldl_append g s (x ∷ xs) b = foldl_append g (g s x) xs b

-- the sum over the first n rows
pub sum-total : (g : Row → Float) (xs : List Row) (n : ℕ) → n ≤ length xs → sum_to (λ k. g (get_or xs k blank)) n ≡ total g (take n xs)
unfolding sum_to total
sum-total g xs zero h = refl
sum-total g xs (suc n) h =
    ap (λ (z : Float). z ⊕ g (get_or xs n blank)) (sum-total g xs n (omega arith))
    ∙ sym (ap (foldl (λ s r. s ⊕ g r) +0) (take-suc xs n blank h) ∙ foldl_append (λ s r. s ⊕ g r) +0 (take n xs) (get_or xs n blank ∷ []))

pub sum-places : (g : Row → Float) (f : ℕ → Row) (n : ℕ) → sum_to (λ k. g (f k)) n ≡ total g (places f n)
unfolding sum_to total places
sum-places g f zero = refl
sum-places g f (suc n) =
    ap (λ (z : Float). z ⊕ g (f n)) (sum-places g f n)
    ∙ sym (foldl_append (λ s r. s ⊕ g r) +0 (places f n) (f n ∷ []))

-- an array by a list, one element more
pub mapped_next : {A B : Type 0} (f : A → B) (xs : List A) (a : List B) (d : A) (k : ℕ) (v : B) → k < length a → k < length xs → v ≡ f (get_or xs k d)
    → take k a ≡ map f (take k xs) → take (k + 1) (set a k v) ≡ map f (take (k + 1) xs)
mapped_next f xs a d k v p q e h = rw (add-one, take-suc-set a k v p, take-suc xs k d q, map-append, h, e)
