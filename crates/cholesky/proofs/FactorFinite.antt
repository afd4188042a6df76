-- Acceptance implies that the whole factor is finite. A row's pivot is finite, and it is the row's element of the matrix less the squares of the row's elements
-- below the diagonal: an infinity or a NaN among them would not leave it finite. The diagonal is the root of that pivot, and above it stand zeros. Assumes nothing.
use Prim.Native.Nat.{ℕ, zero, suc, ◌+◌, ◌-◌, ◌*◌, ◌/◌, ◌%◌, ◌^◌, ◌<◌}
use native.Mathlib.Nat.{le_refl}
use native.Mathlib.Omega.{arith}
use native.Mathlib.Decide.{dec_lt}
use mathlib.Core.Path.{◌≡◌, sym, subst}
use mathlib.Core.Bool.{Bool, true, false}
use mathlib.Core.List.{List}
use lib.Dec.{T}
use lib.Ieee.{Float, nan, inf, fin, lt, of_bits, odd, size, up, down}
use lib.Ieee.Scale.{finite}
use Rattle.exact.specs.Float.{+0}
use Rattle.exact.specs.Products.{less_products}
use Rattle.exact.proofs.Products.{less-finite}
use Rattle.root.specs.Root.{root_of}
use Rattle.root.specs.Digits.{root_units, root_parts, nearest_root, isqrt}
use Rattle.cholesky.specs.Factor.{cell, is_pivot, Lower, factor_of}
use Rattle.cholesky.proofs.FactorElements.{Rows, factor_to-rows}

pivot-finite : (p : Float) → is_pivot p ≡ true → T (finite p)
unfolding is_pivot
pivot-finite nan h = subst T (sym h) tt
pivot-finite (inf s) h = subst T (sym h) tt
pivot-finite (fin s m e) h = tt

-- ---- the root of a pivot is finite

odd-finite : (d : ℕ) (s : Bool) (q k l : ℕ) → T (finite (odd d s q k l))
unfolding odd
odd-finite d s zero k l = tt
odd-finite d s (suc q) k l = tt

parts-finite : (m y : ℕ) → T (finite (root_parts m y))
unfolding root_parts
parts-finite m y = odd-finite 53 false (nearest_root (m * 2 ^ (52 + y % 2)) (isqrt 53 (m * 2 ^ (52 + y % 2)))) (y / 2 + 485) 1074

units-finite : (a : ℕ) → T (finite (root_units a))
unfolding root_units
units-finite a = parts-finite (a * 2 ^ 52 / 2 ^ (size a - 1)) (size a - 1)

root-finite : (p : Float) → is_pivot p ≡ true → T (finite (root_of p))
unfolding root_of is_pivot lt of_bits
root-finite nan h = subst T (sym h) tt
root-finite (inf true) h = subst T (sym h) tt
root-finite (inf false) h = subst T (sym h) tt
root-finite (fin s zero e) h = tt
root-finite (fin true (suc m) e) h = subst T (sym h) tt
root-finite (fin false (suc m) e) h = units-finite (suc m * up e * 2 ^ 1074 / down e)

pub zero-finite : T (finite +0)
unfolding of_bits
zero-finite = tt

-- the first n rows
pub rows-finite : (n : ℕ) (a l : List (List Float)) → Rows n a l → (i j : ℕ) → i < n → j < 9 → T (finite (cell l i j))
rows-finite n a l h i j ib jb = go (dec_lt j i) (dec_lt i j)
  where
    P : Float
    P = less_products (cell a i i) (cell l i) (cell l i) i

    pivot : is_pivot P ≡ true
    pivot = h.pivot i ib

    go : Dec (j < i) → Dec (i < j) → T (finite (cell l i j))
    go (yes g) d = (less-finite (cell a i i) (cell l i) (cell l i) i (pivot-finite P pivot) j g).0
    go (no f) (yes g) = subst (λ (z : Float). T (finite z)) (sym (h.upper i j ib g jb)) zero-finite
    go (no f) (no g) = let q : i ≡ j = omega arith in subst (λ (z : ℕ). T (finite (cell l i z))) q (subst (λ (z : Float). T (finite z)) (sym (h.diagonal i ib)) (root-finite P pivot))

-- THE THEOREM: all of an accepted factor's cells are finite
pub factor-finite : (a l : List (List Float)) → factor_of a ≡ Lower l → (i j : ℕ) → i < 9 → j < 9 → T (finite (cell l i j))
unfolding factor_of
factor-finite a l e i j ib jb = rows-finite 9 a l (factor_to-rows 9 a l (le_refl 9) e) i j ib jb
