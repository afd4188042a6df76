-- A list sorted by IEEE 754 total_order, and its element at place len/2 (docs/SCOPE.md, "Centre"). Definitions only.
use Rattle.std.specs.Prelude.{ℕ, ◌+◌, ◌/◌, ◌^◌, ◌<◌, Bool, cond, List, [], ◌∷◌, get_or, length, eqb}
use Rattle.numeric.specs.Order.{total_order}

-- x inserted into a sorted list, before the first element that it comes before or equals
unfoldable pub insert_by : (ℕ → ℕ → Bool) → ℕ → List ℕ → List ℕ
insert_by before x [] = x ∷ []
insert_by before x (y ∷ ys) = cond (before x y) (x ∷ (y ∷ ys)) (y ∷ insert_by before x ys)

-- the list sorted by the order `before`
unfoldable pub sorted_by : (ℕ → ℕ → Bool) → List ℕ → List ℕ
sorted_by before [] = []
sorted_by before (x ∷ xs) = insert_by before x (sorted_by before xs)

-- a list of patterns sorted by total_order
abbrev pub in_total_order : List ℕ → List ℕ
in_total_order xs = sorted_by total_order xs

-- the element at place len/2, counted from 0: of an even number of patterns the later of the two in the middle.
-- Of no patterns it is 0, the pattern of +0.
unfoldable pub median_of : List ℕ → ℕ
median_of xs = get_or (in_total_order xs) (length xs / 2) 0

-- ---- used by the laws

-- each element has the property P
module _ {A : Type 0} where
  unfoldable pub Each : (A → Type 0) → List A → Type 0
  Each P [] = Unit
  Each P (x ∷ xs) = P x × Each P xs

-- each is a pattern, 64 bits
abbrev pub Patterns : List ℕ → Type 0
Patterns xs = Each (λ (x : ℕ). x < 2 ^ 64) xs

-- how often x occurs in a list
unfoldable pub occurrences : ℕ → List ℕ → ℕ
occurrences x [] = 0
occurrences x (y ∷ ys) = cond (eqb x y) 1 0 + occurrences x ys
