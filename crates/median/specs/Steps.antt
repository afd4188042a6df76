-- The steps of finding a median: the number at a place of the ascending order, the patterns of one sign, and the numbers on one side of a pivot. Definitions only.
use Rattle.std.specs.Prelude.{ℕ, ◌%◌, ◌^◌, ◌≤◌, ◌<◌, ◌≡◌, Bool, true, false, List, [], ◌∷◌, get_or, take, length, leb, ltb}
use Rattle.std.specs.Bool.{beq}
use Rattle.lists.specs.Memory.{before, after, LentNumbers}
use Rattle.exact.specs.Pattern.{sign}
use Rattle.median.specs.Sorted.{sorted_by, in_total_order, Each}

-- the pattern at place m, counted from 0, of the patterns in total_order
abbrev pub pattern_at : ℕ → List ℕ → ℕ
pattern_at m l = get_or (in_total_order l) m 0

-- the number at place m of the list in ascending order
abbrev pub number_at : ℕ → List ℕ → ℕ
number_at m l = get_or (sorted_by leb l) m 0

-- the list with x in front if it passed
abbrev pub in_front : Bool → ℕ → List ℕ → List ℕ
in_front true x l = x ∷ l
in_front false x l = l

-- the elements that pass the test, in their order
unfoldable pub passing : (ℕ → Bool) → List ℕ → List ℕ
passing test [] = []
passing test (x ∷ xs) = in_front (test x) x (passing test xs)

-- what is below p, and what is above it
abbrev pub lows : ℕ → List ℕ → List ℕ
lows p l = passing (λ (x : ℕ). ltb x p) l

abbrev pub highs : ℕ → List ℕ → List ℕ
highs p l = passing (λ (x : ℕ). ltb p x) l

-- a pattern without its sign: the exponent field, and below it the digits
abbrev pub without_sign : ℕ → ℕ
without_sign x = x % 2 ^ 63

-- each is a pattern whose sign is clear
abbrev pub Unsigned : List ℕ → Type 0
Unsigned xs = Each (λ (x : ℕ). x < 2 ^ 63) xs

-- the patterns of the sign s, without it
unfoldable pub of_sign : Bool → List ℕ → List ℕ
of_sign s [] = []
of_sign s (x ∷ xs) = in_front (beq (sign x) s) (without_sign x) (of_sign s xs)

-- ---- the first n numbers of the array k of 64

abbrev pub Room : ℕ → List ℕ → Type 0
Room n k = (n ≤ 64) × (length k ≡ 64)

-- place m is one of the first n, whose signs are clear
abbrev pub Among : ℕ → ℕ → List ℕ → Type 0
Among m n k = (m < n) × (n ≤ 64) × (length k ≡ 64) × Unsigned (take n k)

-- it is one of the four at an end
abbrev pub AmongFour : ℕ → ℕ → List ℕ → Type 0
AmongFour m n k = (m < n) × (m < 4) × (n ≤ 64) × (length k ≡ 64) × Unsigned (take n k)

-- the element at place m of the first n, by what `place` says; the array stays one of 64
abbrev pub FoundBy : (ℕ → List ℕ → ℕ) → ℕ → ℕ → (k : LentNumbers) → ℕ → Type 0
FoundBy place m n k r = (r ≡ place m (take n (before k))) × (length (after k) ≡ 64)

-- one to 64 patterns
abbrev pub OneTo64 : List ℕ → Type 0
OneTo64 ps = (0 < length ps) × (length ps ≤ 64)

-- the first r numbers of the array k of 64 are l
pub record Front (l : List ℕ) (r : ℕ) (k : List ℕ) : Type 0 where
  pub long : length k ≡ 64
  pub few : r ≤ 64
  pub is : take r k ≡ l
