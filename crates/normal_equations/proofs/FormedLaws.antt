-- The sums that the code has after k rows, the normal equations that they make, and which of their unknowns are unused. Assumes nothing.
use mathlib.Core.Path.{◌≡◌, refl, ap, ◌∙◌, fun_ext}
use Prim.Native.Nat.{ℕ, ◌+◌, ◌≤◌, ◌<◌}
use native.Mathlib.Omega.{arith}
use mathlib.Core.Bool.{cond, ◌&&◌}
use mathlib.Core.List.{List}
use lib.Dec.{ltb, leb, eqb}
use borrow.Author.Tests.{le-ltb, le-leb, eq-eqb, ne_eqb}
use lib.Ieee.{Float, nan}
use Rattle.lists.specs.Walk.{places}
use Rattle.exact.specs.Float.{◌⊕◌, ◌⊗◌, +0, 1·0, bits}
use Rattle.cholesky.specs.Factor.{at, Unused, UnusedPlaces}
use Rattle.median.specs.declared.centre.CentreScale.{CentreScale}
use Rattle.normal_equations.specs.Nine.{nine}
use Rattle.normal_equations.specs.Weight.{weight}
use Rattle.normal_equations.specs.Equations.{wide, total, cell_of, side_of, triangle_of, matrix_of, right_of}
use Rattle.normal_equations.specs.Steps.{Formed, times, side_added, triangle_added}
use Rattle.normal_equations.specs.declared.row.Row.{Row}
use Rattle.normal_equations.proofs.NineLaws.{nine-at, cell_at}
use Rattle.normal_equations.proofs.AddedLaws.{times-at, triangle-more, in_sides, side-more}
use Rattle.normal_equations.proofs.Sums.{sum_to, sum_to-zero, sum_to-next, sum-places}

-- ---- a triangle whose cells sum what f gives of each row
module _ (f : Row → ℕ → ℕ → Float) (rows : ℕ → Row) where
  pub sums : ℕ → ℕ → ℕ → Float
  sums k p q = sum_to (λ k. f (rows k) p q) k

  pub sums-is : (k p q : ℕ) → sums k p q ≡ sum_to (λ k. f (rows k) p q) k
  unfolding sums
  sums-is k p q = refl

  pub sums-zero : (p q : ℕ) → sums 0 p q ≡ +0
  unfolding sums
  sums-zero p q = sum_to-zero _

  pub sums_next : (k p q : ℕ) (s v : Float) → s ≡ sums k p q → v ≡ f (rows k) p q → s ⊕ v ≡ sums (k + 1) p q
  unfolding sums
  sums_next k p q s v h e = rw (sum_to-next, h, e)

  pub sums-triangle : (count n : ℕ) → triangle_of n (sums count) ≡ triangle_of n (λ p q. total (λ r. f r p q) (places rows count))
  unfolding sums
  sums-triangle count n = ap (triangle_of n) (fun_ext (λ p. fun_ext (λ q. sum-places (λ r. f r p q) rows count)))

-- ---- the round's own
module _ (c : CentreScale) (huber : Float) (rows : ℕ → Row) where
  abbrev weighted : Row → ℕ → ℕ → Float
  weighted r p q = weight c huber r ⊗ at (wide r) p ⊗ at (wide r) q

  abbrev pub cells : ℕ → ℕ → ℕ → Float
  cells = sums weighted rows

  pub sides : ℕ → ℕ → Float
  sides k p = sum_to (λ k. weight c huber (rows k) ⊗ at (wide (rows k)) p ⊗ bits (rows k).residual) k

  pub sides-sum : (k p : ℕ) → sides k p ≡ sum_to (λ k. weight c huber (rows k) ⊗ at (wide (rows k)) p ⊗ bits (rows k).residual) k
  unfolding sides
  sides-sum k p = refl

  pub cells-zero : (p q : ℕ) → cells 0 p q ≡ +0
  cells-zero = sums-zero weighted rows

  pub sides-zero : (p : ℕ) → sides 0 p ≡ +0
  unfolding sides
  sides-zero p = sum_to-zero _

  -- what one row more adds, by the weight w and the wide row e that the code has of it
  module _ (k : ℕ) (w : Float) (e : List Float) (w-is : w ≡ weight c huber (rows k)) (e-is : e ≡ wide (rows k)) where
    pub cells-next : (p q : ℕ) (s : Float) → s ≡ cells k p q → s ⊕ w ⊗ at e p ⊗ at e q ≡ cells (k + 1) p q
    cells-next p q s h = sums_next weighted rows k p q s _ h (rw (w-is, e-is))

    pub sides-next : (p : ℕ) (s y : Float) → s ≡ sides k p → y ≡ bits (rows k).residual → s ⊕ w ⊗ at e p ⊗ y ≡ sides (k + 1) p
    unfolding sides
    sides-next p s y h y-is = rw (sum_to-next, h, w-is, e-is, y-is)

    -- over every place of the row
    module _ (n : ℕ) (few : n ≤ 9) (t : List Float) (t-is : t ≡ times w e) where
      pub triangle-row : (a : List (List Float)) → a ≡ triangle_of n (cells k) → triangle_added n t e a ≡ triangle_of n (cells (k + 1))
      triangle-row a h = triangle-more n (cells k) (cells (k + 1)) t e a (λ p q pb qb. rw (t-is, times-at w e p (omega arith)) (cells-next p q _ refl)) h

      pub side-row : (b : List Float) (y : Float) → y ≡ bits (rows k).residual → b ≡ nine (in_sides n (sides k)) → side_added n t y b ≡ nine (in_sides n (sides (k + 1)))
      side-row b y y-is h = side-more n (sides k) (sides (k + 1)) t y b (λ p pb. rw (t-is, times-at w e p (omega arith)) (sides-next p _ y refl y-is)) h

  module _ (count : ℕ) where
    sides_all : (p : ℕ) → sides count p ≡ side_of (weight c huber) (places rows count) p
    unfolding sides side_of
    sides_all p = sum-places (λ r. weight c huber r ⊗ at (wide r) p ⊗ bits r.residual) rows count

    matrix-is : (n : ℕ) → triangle_of n (cells count) ≡ matrix_of (weight c huber) (places rows count) n
    unfolding matrix_of cell_of
    matrix-is n = sums-triangle weighted rows count n

    right_is : (n : ℕ) → nine (λ i. cond (ltb i n) (sides count i) +0) ≡ right_of (weight c huber) (places rows count) n
    unfolding right_of
    right_is n = ap nine (fun_ext (λ i. ap (λ (z : Float). cond (ltb i n) z +0) (sides_all i)))

    formed : (n : ℕ) (a : List (List Float)) (b : List Float) → a ≡ triangle_of n (cells count) → b ≡ nine (λ i. cond (ltb i n) (sides count i) +0) → Formed (weight c huber) (places rows count) n a b
    formed n a b a-is b-is = record { matrix-is = a-is ∙ matrix-is n; right_is = b-is ∙ right_is n }

    -- by the sums over all rows
    pub formed-last : (n k : ℕ) (a : List (List Float)) (b : List Float) → k ≡ count → a ≡ triangle_of n (cells k) → b ≡ nine (in_sides n (sides k)) → Formed (weight c huber) (places rows count) n a b
    formed-last n k a b e h g = formed n a b (h ∙ ap (λ (z : ℕ). triangle_of n (cells z)) e) (g ∙ ap (λ (z : ℕ). nine (in_sides n (sides z))) e)

-- ---- the unknowns from n on are unused, and so are those from m on, where m is at least n
pub triangle-unused : (cells : ℕ → ℕ → Float) (n m : ℕ) → n ≤ m → Unused m (triangle_of n cells)
unfolding triangle_of
triangle-unused cells n m h =
    record {
      diagonal-is = λ i l b. let k : n ≤ i = omega arith in cell_at all i i b b ∙ rw (le-ltb i n k, le-leb n i k, eq-eqb i i refl);
      below-is = λ i j l b d. let k : n ≤ i = omega arith in let e : j < 9 = omega arith in cell_at all i j b e ∙ rw (le-ltb i n k, le-leb n i k, ne_eqb i j (λ q. omega arith));
    }
  where
    all : ℕ → ℕ → Float
    all i j = cond (ltb i n && leb j i) (cells i j) (cond (leb n i && eqb i j) 1·0 +0)

module _ (w : Row → Float) (rows : List Row) (n m : ℕ) (h : n ≤ m) where
  pub matrix-unused : Unused m (matrix_of w rows n)
  unfolding matrix_of
  matrix-unused = triangle-unused (cell_of w rows) n m h

  pub right-unused : UnusedPlaces m (right_of w rows n)
  unfolding right_of
  right-unused = record { zero-at = λ i l b. let k : n ≤ i = omega arith in nine-at (λ i. cond (ltb i n) (side_of w rows i) +0) nan i b ∙ rw (le-ltb i n k) }
