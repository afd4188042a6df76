-- One column, in place: its elements one after the other, that the columns are then one more, and the rows of the unused unknowns. Assumes nothing.
use Prim.Native.Nat.{ℕ, zero, suc, ◌+◌, ◌-◌, ◌≤◌, ◌<◌}
use native.Mathlib.Nat.{add-zero}
use native.Mathlib.Omega.{arith}
use mathlib.Core.Path.{◌≡◌, refl, sym, ap, ◌∙◌, subst}
use mathlib.Core.Bool.{true}
use mathlib.Core.List.{List}
use lib.Ieee.{Float}
use Rattle.exact.specs.Float.{◌⊖◌, ◌⊗◌, ◌⊘◌, 1·0}
use Rattle.exact.specs.Products.{less_products}
use Rattle.root.specs.Root.{root_of}
use Rattle.cholesky.specs.Factor.{at, row, cell, is_pivot}
use Rattle.cholesky.specs.Steps.{store, sum_of, filled, ones_marked}
use Rattle.cholesky.proofs.FactorColumns.{Columns, kept, columns-diagonal, columns-root, columns-element, diagonal-kept, pivot-next}
use Rattle.cholesky.proofs.FactorUsed.{Closing, closing-none, closing-next}

-- ---- the elements of column j, from row i on
module _ (j : ℕ) (d : Float) (i : ℕ) (a w : List (List Float)) where
  pub filled-start : w ≡ filled (i - i) j d i a w
  unfolding filled
  filled-start = let e : i - i ≡ 0 = omega arith in rw e

  pub filled_next : (r : ℕ) (l : List (List Float)) → i ≤ r → l ≡ filled (r - i) j d i a w → store l r j (sum_of j r j a l ⊘ d) ≡ filled (r + 1 - i) j d i a w
  unfolding filled
  filled_next r l b h =
      let e : r + 1 - i ≡ suc (r - i) = omega arith in
      let f : i + (r - i) ≡ r = omega arith in
      rw (e, f, h)

  pub filled-end : (n r : ℕ) (l : List (List Float)) → r ≡ n → l ≡ filled (r - i) j d i a w → l ≡ filled (n - i) j d i a w
  filled-end n r l e h = rw e at h

  -- the rows above row i
  filled-kept : (k r : ℕ) → r < i → row (filled k j d i a w) r ≡ row w r
  unfolding filled
  filled-kept zero r b = refl
  filled-kept (suc k) r b = kept (filled k j d i a w) (i + k) _ r (omega arith) ∙ filled-kept k r b

  columns-filled : (m k : ℕ) → m ≤ 9 → j < i → i + k ≤ m → d ≡ cell w j j → Columns m (j + 1) i a w → Columns m (j + 1) (i + k) a (filled k j d i a w)
  unfolding filled
  columns-filled m zero mb b c q h = rw add-zero h
  columns-filled m (suc k) mb b c q h =
      let e : i + k + 1 ≡ i + suc k = omega arith in
      let l = filled k j d i a w in
      let o = q ∙ ap (λ (r : List Float). at r j) (sym (filled-kept k j b)) in
      subst (λ (z : ℕ). Columns m (j + 1) z a (store l (i + k) j (sum_of j (i + k) j a l ⊘ d))) e
      (columns-element a l m j (i + k) mb (omega arith) (omega arith) (columns-filled m k mb b (omega arith) q h) (sum_of j (i + k) j a l) d refl o)

-- ---- a whole column, of whose elements the first is made before the others
module _ (a w : List (List Float)) (n j : ℕ) (nb : n ≤ 9) (b : j < n) (h : Columns n j n a w) (p : Float) (e : p ≡ sum_of j j j a w) (ok : is_pivot p ≡ true) (d : Float) (root : d ≡ root_of p) where
  pub rooted : Columns n (j + 1) (j + 1) a (store w j j d)
  rooted = columns-root a w n j nb b h p e ok d root

  module _ (c : j + 1 < n) (s : Float) (s-is : s ≡ sum_of j (j + 1) j a (store w j j d)) where
    abbrev first : List (List Float)
    first = store (store w j j d) (j + 1) j (s ⊘ d)

    abbrev whole : List (List Float)
    whole = filled (n - (j + 1 + 1)) j d (j + 1 + 1) a first

    o : d ≡ cell (store w j j d) j j
    o = sym (columns-diagonal a w n j nb b h p e d)

    pub columns-next : Columns n (j + 1) n a whole
    columns-next =
        let f : j + 1 + 1 + (n - (j + 1 + 1)) ≡ n = omega arith in
        let one = columns-element a (store w j j d) n j (j + 1) nb (omega arith) c rooted s d s-is o in
        let left = diagonal-kept a (store w j j d) n j (j + 1) nb (omega arith) c rooted s d s-is o in
        subst (λ (z : ℕ). Columns n (j + 1) z a whole) f (columns-filled j d (j + 1 + 1) a first n (n - (j + 1 + 1)) nb (omega arith) (omega arith) left one)

    pub pivot-after : (q : Float) → q ≡ sum_of j (j + 1) (j + 1) a (store w j j d) → q ⊖ (s ⊘ d) ⊗ (s ⊘ d) ≡ sum_of (j + 1) (j + 1) (j + 1) a whole
    pivot-after q f =
        pivot-next a (store w j j d) n j (j + 1) nb (omega arith) c rooted s d s-is o (cell a (j + 1) (j + 1)) q f
        ∙ ap (λ (r : List Float). less_products (cell a (j + 1) (j + 1)) (at r) (at r) (j + 1)) (sym (filled-kept j d (j + 1 + 1) a first (n - (j + 1 + 1)) (j + 1) (omega arith)))

-- ---- 1 on the diagonal, from row n on
module _ (n : ℕ) (w : List (List Float)) where
  pub marked_start : w ≡ ones_marked (n - n) n w
  unfolding ones_marked
  marked_start = let e : n - n ≡ 0 = omega arith in rw e

  pub marked_next : (i : ℕ) (l : List (List Float)) → n ≤ i → l ≡ ones_marked (i - n) n w → store l i i 1·0 ≡ ones_marked (i + 1 - n) n w
  unfolding ones_marked
  marked_next i l b h =
      let e : i + 1 - n ≡ suc (i - n) = omega arith in
      let f : n + (i - n) ≡ i = omega arith in
      rw (e, f, h)

  pub marked-end : (m i : ℕ) (l : List (List Float)) → i ≡ m → l ≡ ones_marked (i - n) n w → l ≡ ones_marked (m - n) n w
  marked-end m i l e h = rw e at h

  closing-some : (a : List (List Float)) (k : ℕ) → n + k ≤ 9 → Closing n n a w → Closing n (n + k) a (ones_marked k n w)
  unfolding ones_marked
  closing-some a zero b h = rw add-zero h
  closing-some a (suc k) b h =
      let e : n + k + 1 ≡ n + suc k = omega arith in
      let l = ones_marked k n w in
      subst (λ (z : ℕ). Closing n z a (store l (n + k) (n + k) 1·0)) e (closing-next n (n + k) a l (omega arith) (omega arith) (closing-some a k (omega arith) h))

  pub closing-marked : (a : List (List Float)) → n ≤ 9 → Columns n n n a w → Closing n 9 a (ones_marked (9 - n) n w)
  closing-marked a b h =
      let e : n + (9 - n) ≡ 9 = omega arith in
      subst (λ (z : ℕ). Closing n z a (ones_marked (9 - n) n w)) e (closing-some a (9 - n) (omega arith) (closing-none n a w b h))
