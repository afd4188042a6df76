-- What it means that x solves A x = b up to rounding. A is symmetric and given by its lower triangle, and L is the factor that was computed. Definitions only.
use Rattle.std.specs.Prelude.{ℕ, ◌<◌, cond, leb, Float}
use Rattle.exact.specs.Number.{Number, ◌+ₑ◌, ◌-ₑ◌, ◌*ₑ◌, ∣◌∣, ◌≤ₑ◌, 0ₑ, 1ₑ, 2^-◌, Σ, exactly}

infix 90 ◌ᵀ
-- a column is a function of the row, a matrix one of the row and the column
abbrev pub Column : Type 0
Column = ℕ → Number

abbrev pub Matrix : Type 0
Matrix = ℕ → ℕ → Number

-- the transpose
abbrev pub ◌ᵀ : Matrix → Matrix
(A ᵀ) i j = A j i

-- each entry's magnitude
abbrev pub ∣◌∣ₘ : Matrix → Matrix
∣ A ∣ₘ i j = ∣ A i j ∣

abbrev pub ∣◌∣ᵥ : Column → Column
∣ x ∣ᵥ i = ∣ x i ∣

module _ (n : ℕ) where
  infixr 75 ◌·◌
  -- the product of a matrix of n columns and a column of n rows
  abbrev pub ◌·◌ : Matrix → Column → Column
  (A · x) i = Σ n (λ j. A i j *ₑ x j)

  -- the sum of the entries of a matrix of n rows and columns
  abbrev pub total : Matrix → Number
  total A = Σ n (λ i. Σ n (λ j. A i j))

  -- x solves A x = b up to rounding, as the factor L allows. F and X are the sums of the magnitudes of L's entries and of x's.
  abbrev pub Within : Matrix → Matrix → Column → Column → Type 0
  Within A L b x =
      let F : Number = total ∣ L ∣ₘ in
      let X : Number = Σ n ∣ x ∣ᵥ in
      (i : ℕ) → i < n → ∣ (A · x) i -ₑ b i ∣ ≤ₑ 2^- 48 *ₑ (∣ L ∣ₘ · ∣ L ᵀ ∣ₘ · ∣ x ∣ᵥ) i +ₑ 2^- 1070 *ₑ (1ₑ +ₑ F) *ₑ (1ₑ +ₑ F) *ₑ (1ₑ +ₑ X)

-- the column of the floats x
abbrev pub column : (ℕ → Float) → Column
column x i = exactly (x i)

-- the entry in row i and column j of the symmetric matrix whose lower triangle is a
abbrev pub entry : (ℕ → ℕ → Float) → ℕ → ℕ → Float
entry a i j = cond (leb j i) (a i j) (a j i)

-- the symmetric matrix whose lower triangle is a
abbrev pub symmetric : (ℕ → ℕ → Float) → Matrix
symmetric a i j = exactly (entry a i j)

-- the lower triangle l, with 0 above it
abbrev pub triangle : (ℕ → ℕ → Float) → Matrix
triangle l i k = cond (leb k i) (exactly (l i k)) 0ₑ

-- demand 3 for floats: a is the lower triangle of the matrix, l that of the factor
abbrev pub Accurate : ℕ → (ℕ → ℕ → Float) → (ℕ → ℕ → Float) → (ℕ → Float) → (ℕ → Float) → Type 0
Accurate n a l b x = Within n (symmetric a) (triangle l) (column b) (column x)
