-- The factor of a matrix whose unknowns from n on are unused. Its first n rows are finite, so that below them every sum is one of zeros: those rows are the identity's too. Assumes nothing.
use Prim.Native.Nat.{ℕ, zero, suc, ◌+◌, ◌*◌, ◌^◌, ◌≤◌, ◌<◌}
use native.Mathlib.Nat.{le_refl, le_step, mul-pos, lt_of_lt_of_le, zero-mul}
use native.Mathlib.Omega.{arith}
use native.Mathlib.Decide.{ℕ_discrete, dec_lt}
use mathlib.Core.Path.{◌≡◌, refl, sym, ap, ap₂, ◌∙◌, subst}
use mathlib.Core.Bool.{true, false}
use mathlib.Core.List.{List, []}
use lib.Dec.{T, ltb→lt}
use lib.Pow.{pow_pos}
use lib.ListN.{set, length, length-set, get_or-replicate}
use lib.Seq.{get_or-set_same, get_or-set_other, set-get_or}
use lib.Ieee.{Float, nan, inf, fin, binary64, up, down, fits, lt, of_bits}
use lib.Ieee.Fits.{sub-fits}
use lib.Ieee.Scale.{finite}
use Rattle.exact.specs.Float.{◌⊗◌, ◌⊘◌, +0, 1·0}
use Rattle.exact.specs.Products.{less_products}
use Rattle.root.specs.Root.{root_of}
use Rattle.cholesky.specs.Factor.{at, row, cell, zeros, is_pivot, below, with_element, pivot_of, row_of, Lower, factor_of, Unused}
use Rattle.numeric.proofs.Zeros.{zero-over, less-zeros, less-nothing, one-fits, one-finite, zero-over-one}
use Rattle.root.proofs.Theorems.{root_of-root}
use Rattle.cholesky.proofs.FactorColumns.{Columns, Made, made, made-next, made_kept, made_all, kept}
use Rattle.cholesky.proofs.FactorElements.{Rows, factor_to-rows}
use Rattle.cholesky.proofs.FactorFinite.{rows-finite, zero-finite}

-- row i of the identity
abbrev pub unit : ℕ → List Float
unit i = set zeros i 1·0

unit-diagonal : (i : ℕ) → i < 9 → at (unit i) i ≡ 1·0
unit-diagonal i b = get_or-set_same zeros i 1·0 nan b

unit-other : (i j : ℕ) → j < 9 → (j ≡ i → ⊥) → at (unit i) j ≡ +0
unit-other i j b d = get_or-set_other zeros i j 1·0 nan d ∙ get_or-replicate 9 j +0 nan b

-- ---- the root of a pivot is above 0

over_root : (p : Float) → T (fits binary64 p) → is_pivot p ≡ true → +0 ⊘ root_of p ≡ +0
unfolding is_pivot lt of_bits
over_root nan f h = absurd (let z : ◌≡◌ {A = ℕ} 0 1 = cc in omega arith)
over_root (inf s) f h = absurd (let z : ◌≡◌ {A = ℕ} 0 1 = cc in omega arith)
over_root (fin true m e) f h = absurd (let z : ◌≡◌ {A = ℕ} 0 1 = cc in omega arith)
over_root (fin false zero e) f h = absurd (none (ltb→lt (0 * 1 * down e) (0 * up e * 1) (subst T (sym h) tt)))
  where
    none : 0 * 1 * down e < 0 * up e * 1 → ⊥
    none l = omega (arith, zero-mul (up e))
over_root (fin false (suc m) e) f h =
    let g = root_of-root (fin false (suc m) e) f in
    zero-over (root_of (fin false (suc m) e)) (g.q * 2 ^ g.k) (2 ^ 589) g.r-is (mul-pos (lt_of_lt_of_le (pow_pos 52) g.q-from) (pow_pos g.k))

-- ---- a row of an unused unknown

-- the first n rows of l are finite, and their diagonals above 0
record Usable (n : ℕ) (l : List (List Float)) : Type 0 where
  finite-at : (i j : ℕ) → i < n → j < 9 → T (finite (cell l i j))
  over : (i : ℕ) → i < n → +0 ⊘ cell l i i ≡ +0

below-unused : (j : ℕ) (l : List (List Float)) (a : List Float) → j ≤ 9 → Usable j l → ((k : ℕ) → k < j → at a k ≡ +0) → below j l a ≡ zeros
unfolding below with_element
below-unused zero l a b h z = refl
below-unused (suc j) l a b h z =
    let before = below-unused j l a (omega arith) (record { finite-at = λ i k ib. h.finite-at i k (le_step ib); over = λ i ib. h.over i (le_step ib) }) (λ k kb. z k (le_step kb)) in
    let sum : less_products (at a j) (at zeros) (cell l j) j ≡ +0 =
    ap (λ (s : Float). less_products s (at zeros) (cell l j) j) (z j (le_refl (suc j))) ∙ less-zeros (at zeros) (cell l j) j (λ k kb. get_or-replicate 9 k +0 nan (omega arith)) (λ k kb. h.finite-at j k (le_refl (suc j)) (omega arith)) in
    ap (λ (r : List Float). set r j (less_products (at a j) (at r) (cell l j) j ⊘ cell l j j)) before
    ∙ ap (λ (s : Float). set zeros j (s ⊘ cell l j j)) sum
    ∙ ap (set zeros j) (h.over j (le_refl (suc j)) ∙ sym (get_or-replicate 9 j +0 nan b))
    ∙ set-get_or zeros j nan

less_one : (n : ℕ) → ((k : ℕ) → k < n → at zeros k ≡ +0) → less_products 1·0 (at zeros) (at zeros) n ≡ 1·0
unfolding less_products
less_one n q = let e : 0 + n ≡ n = omega arith in rw e at (less-nothing 1·0 (at zeros) (at zeros) 0 n one-fits (λ k kb kc. (q k (omega arith), q k (omega arith))))

root-one : root_of 1·0 ≡ 1·0
unfolding root_of of_bits
root-one = refl

module _ (i : ℕ) (b : i < 9) (l : List (List Float)) (a : List Float) (h : Usable i l) (d : at a i ≡ 1·0) (z : (k : ℕ) → k < i → at a k ≡ +0) where
  pivot-unused : pivot_of i l a ≡ 1·0
  unfolding pivot_of
  pivot-unused =
      ap₂ (λ (s : Float) (r : List Float). less_products s (at r) (at r) i) d (below-unused i l a (omega arith) h z)
      ∙ less_one i (λ k kb. get_or-replicate 9 k +0 nan (omega arith))

  row-unused : row_of i l a ≡ unit i
  unfolding row_of
  row-unused = ap₂ (λ (r : List Float) (p : Float). set r i (root_of p)) (below-unused i l a (omega arith) h z) pivot-unused ∙ ap (set zeros i) root-one

-- ---- the rows below the factor's first n

-- the factor's first n rows are those of w; then the identity's up to, not including, row i, and zeros from there on
pub record Closing (n i : ℕ) (a w : List (List Float)) : Type 0 where
  pub nine : length w ≡ 9
  pub top : Made n a w
  pub done : (r : ℕ) → n ≤ r → r < i → row w r ≡ unit r
  pub left : (r : ℕ) → i ≤ r → r < 9 → row w r ≡ zeros

pub closing-none : (n : ℕ) (a w : List (List Float)) → n ≤ 9 → Columns n n n a w → Closing n n a w
closing-none n a w b h =
    record {
      nine = h.nine;
      top = made a w n n h b n (le_refl n);
      done = λ r rb rc. absurd (omega arith);
      left = h.rest;
    }

pub closing-next : (n i : ℕ) (a w : List (List Float)) → n ≤ i → i < 9 → Closing n i a w → Closing n (i + 1) a (set w i (set (row w i) i 1·0))
closing-next n i a w b c h =
    record {
      nine = length-set w i x ∙ h.nine;
      top = made_kept a w n i x b h.top;
      done = λ r rb rc. done r rb rc (ℕ_discrete r i);
      left = λ r rb rc. kept w i x r (omega arith) ∙ h.left r (omega arith) rc;
    }
  where
    x : List Float
    x = set (row w i) i 1·0

    done : (r : ℕ) → n ≤ r → r < i + 1 → Dec (r ≡ i) → row (set w i x) r ≡ unit r
    done r rb rc (yes f) = rw f (get_or-set_same w i x [] (omega (arith, h.nine)) ∙ ap (λ (y : List Float). set y i 1·0) (h.left i (le_refl i) c))
    done r rb rc (no f) = kept w i x r f ∙ h.done r rb (omega arith)

-- what the rows are, once nine are closed
module _ (n : ℕ) (a w : List (List Float)) (b : n ≤ 9) (u : Unused n a) (f : T (fits binary64 (cell a 0 0))) (h : Closing n 9 a w) where
  top-rows : Rows n a h.top.l
  top-rows = factor_to-rows n a h.top.l b h.top.is

  cell-is : (i j : ℕ) → i < n → cell h.top.l i j ≡ cell w i j
  cell-is i j ib = ap (λ (r : List Float). at r j) (h.top.rows i ib)

  pivot-fits : (i : ℕ) (p q : ℕ → Float) → T (fits binary64 (less_products (cell a i i) p q i))
  unfolding less_products
  pivot-fits zero p q = f
  pivot-fits (suc i) p q = sub-fits binary64 (less_products (cell a (suc i) (suc i)) p q i) (p i ⊗ q i)

  sound : (m : ℕ) → m ≤ 9 → Usable m w
  sound m mb = record { finite-at = λ i j ib jb. fine i j (omega arith) jb (dec_lt i n); over = λ i ib. over i (omega arith) (dec_lt i n) }
    where
      unit-finite : (i j : ℕ) → i < 9 → j < 9 → Dec (j ≡ i) → T (finite (at (unit i) j))
      unit-finite i j ib jb (yes e) = subst (λ (z : Float). T (finite z)) (sym (ap (at (unit i)) e ∙ unit-diagonal i ib)) one-finite
      unit-finite i j ib jb (no e) = subst (λ (z : Float). T (finite z)) (sym (unit-other i j jb e)) zero-finite

      fine : (i j : ℕ) → i < 9 → j < 9 → Dec (i < n) → T (finite (cell w i j))
      fine i j ib jb (yes g) = subst (λ (z : Float). T (finite z)) (cell-is i j g) (rows-finite n a h.top.l top-rows i j g jb)
      fine i j ib jb (no g) = subst (λ (r : List Float). T (finite (at r j))) (sym (h.done i (omega arith) ib)) (unit-finite i j ib jb (ℕ_discrete j i))

      over : (i : ℕ) → i < 9 → Dec (i < n) → +0 ⊘ cell w i i ≡ +0
      over i ib (yes g) =
          let l = h.top.l in
          ap (λ (z : Float). +0 ⊘ z) (sym (cell-is i i g) ∙ top-rows.diagonal i g)
          ∙ over_root (less_products (cell a i i) (cell l i) (cell l i) i) (pivot-fits i (cell l i) (cell l i)) (top-rows.pivot i g)
      over i ib (no g) = ap (λ (z : Float). +0 ⊘ z) (ap (λ (r : List Float). at r i) (h.done i (omega arith) ib) ∙ unit-diagonal i ib) ∙ zero-over-one

  one-pivot : is_pivot 1·0 ≡ true
  unfolding is_pivot lt of_bits
  one-pivot = refl

  more : (i : ℕ) → n ≤ i → i ≤ 9 → Made i a w
  more zero ib ic = let e : n ≡ 0 = omega arith in subst (λ (z : ℕ). Made z a w) e h.top
  more (suc i) ib ic = go (ℕ_discrete n (suc i)) (λ k. more i k (omega arith))
    where
      go : Dec (n ≡ suc i) → (n ≤ i → Made i a w) → Made (suc i) a w
      go (yes e) g = subst (λ (z : ℕ). Made z a w) e h.top
      go (no e) g =
          let k : n ≤ i = omega arith in
          let s = sound i (omega arith) in
          let d = u.diagonal-is i k ic in
          let z : (j : ℕ) → j < i → cell a i j ≡ +0 = λ j jb. u.below-is i j k ic jb in
          made-next a w i ic (ap is_pivot (pivot-unused i ic w (row a i) s d z) ∙ one-pivot) (h.done i k ic ∙ sym (row-unused i ic w (row a i) s d z)) (g k)

  pub closing_end : factor_of a ≡ Lower w
  closing_end = made_all a w h.nine (more 9 b (le_refl 9))

  pub closing-unused : Unused n w
  closing-unused =
      record {
        diagonal-is = λ i ib ic. ap (λ (r : List Float). at r i) (h.done i ib ic) ∙ unit-diagonal i ic;
        below-is = λ i j ib ic jb. ap (λ (r : List Float). at r j) (h.done i ib ic) ∙ unit-other i j (omega arith) (omega arith);
      }
