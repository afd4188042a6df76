-- Why the places that are not 0 are all that count: where every number is finite, what is left out adds nothing. Assumes nothing.
use mathlib.Core.Path.{◌≡◌, sym, ap, ◌∙◌, subst}
use Prim.Native.Nat.{ℕ, zero, suc, ◌≤◌, ◌<◌}
use native.Mathlib.Decide.{ℕ_discrete, dec_lt}
use native.Mathlib.Omega.{arith}
use mathlib.Core.Bool.{true, false, cond, ◌&&◌}
use mathlib.Core.List.{List}
use lib.Dec.{T, ltb, leb, eqb}
use borrow.Author.Tests.{lt-ltb, le-ltb, le-leb, lt-leb, eq-eqb, ne_eqb}
use lib.ListN.{length, set, length-set}
use lib.Seq.{get_or-set_same, get_or-set_other}
use lib.Ieee.{Float, nan, binary64, fits}
use lib.Ieee.Fits.{mul-fits, div-fits}
use lib.Ieee.Scale.{finite}
use Rattle.lists.specs.Walk.{places}
use Rattle.exact.specs.Float.{◌⊗◌, +0, bits}
use Rattle.exact.proofs.Ops.{mul-finite}
use Rattle.cholesky.specs.Factor.{at}
use Rattle.numeric.specs.declared.vec3.Vec3.{Vec3}
use Rattle.median.specs.declared.centre.CentreScale.{CentreScale}
use Rattle.normal_equations.specs.Nine.{nine}
use Rattle.normal_equations.specs.Weight.{weight}
use Rattle.normal_equations.specs.Equations.{wide, triangle_of}
use Rattle.normal_equations.specs.Steps.{Formed, corner_put, corner_sides}
use Rattle.numeric.proofs.Zeros.{is_zero, +0-is-zero, zero-times, one-finite}
use Rattle.cholesky.proofs.FactorFinite.{zero-finite}
use Rattle.normal_equations.proofs.Zeros.{times_zero, times-one}
use Rattle.normal_equations.specs.declared.row.Row.{Row}
use Rattle.normal_equations.specs.declared.equations.Corner.{Corner}
use Rattle.normal_equations.proofs.NineLaws.{nine-is, square-is, put, Known, known_store}
use Rattle.normal_equations.proofs.FormedLaws.{sums-is, sides, sides-sum, formed-last}
use Rattle.normal_equations.proofs.SomeSums.{some_to, some-none, some-all, sum-finite}
use Rattle.normal_equations.proofs.Places.{wide-clock, wide-none, product, cell_sums, idle, reached, placed_cell, PlacedCells, sided, PlacedSides, weighted_at, Placed}

-- ---- finite sums have finite terms: places of rows, and what stands on the left of them
module _ (t : Row → ℕ → Float) (rows : ℕ → Row) (n : ℕ) (few : n ≤ 9) (m : ℕ) {s : Corner} {a : List (List Float)} (h : PlacedCells t rows n m s a)
    (fx : T (finite s.xx)) (fy : T (finite s.yy)) (fz : T (finite s.zz)) where
  operands : (p : ℕ) (v : Float) → v ≡ cell_sums t rows n m p p → T (finite v) → (k : ℕ) → k < m → T (finite (t (rows k) p)) × T (finite (at (wide (rows k)) p))
  operands p v v-is f k kb =
      mul-finite (t (rows k) p) (at (wide (rows k)) p)
      (sum-finite (product t rows n p p) m (subst (λ (z : Float). T (finite z)) (v-is ∙ sums-is (λ r p q. t r p ⊗ at (wide r) q) rows m p p) f) k kb)

  pub left-finite : (k : ℕ) → k < m → T (finite (t (rows k) 0))
  left-finite k kb = (operands 0 s.xx h.xx-is fx k kb).0

  pub entry-finite : (k : ℕ) → k < m → (q : ℕ) → q < 9 → T (finite (at (wide (rows k)) q))
  entry-finite k kb zero qb = (operands 0 s.xx h.xx-is fx k kb).1
  entry-finite k kb (suc zero) qb = (operands 1 s.yy h.yy_is fy k kb).1
  entry-finite k kb (suc (suc zero)) qb = (operands 2 s.zz h.zz_is fz k kb).1
  entry-finite k kb (suc (suc (suc q))) qb = go (ℕ_discrete (suc (suc (suc q))) (rows k).clock)
    where
      go : Dec (suc (suc (suc q)) ≡ (rows k).clock) → T (finite (at (wide (rows k)) (suc (suc (suc q)))))
      go (yes i) = subst (λ (z : ℕ). T (finite (at (wide (rows k)) z))) (sym i) (subst (λ (z : Float). T (finite z)) (wide-clock (rows k) (omega (arith, (h.clocks k kb).1))) one-finite)
      go (no i) = subst (λ (z : Float). T (finite z)) (wide-none (rows k) (suc (suc (suc q))) (omega arith) qb i) zero-finite

-- ---- the matrix, where the places of the rows are finite, and what stands on the left of them is finite at the clock and 0 beside it
module _ (t : Row → ℕ → Float) (rows : ℕ → Row) (n : ℕ) (few : n ≤ 9) (three : 3 ≤ n) (m : ℕ) {s : Corner} {a : List (List Float)} (h : PlacedCells t rows n m s a)
    (entries : (k : ℕ) → k < m → (q : ℕ) → q < 9 → T (finite (at (wide (rows k)) q)))
    (clock-finite : (k : ℕ) → k < m → T (finite (t (rows k) (rows k).clock)))
    (beside : (k : ℕ) → k < m → (p : ℕ) → 3 ≤ p → p < 9 → (p ≡ (rows k).clock → ⊥) → T (is_zero (t (rows k) p))) where
  cell-zero : (p q : ℕ) → 3 ≤ p → p < n → q ≤ p → (k : ℕ) → k < m → reached t rows n p q k ≡ false → T (is_zero (product t rows n p q k))
  cell-zero p q low pb qb k kb off = go (ℕ_discrete p (rows k).clock) (dec_lt q 3) (ℕ_discrete q (rows k).clock)
    where
      never : true ≡ false → T (is_zero (product t rows n p q k))
      never z = absurd (let o : ◌≡◌ {A = ℕ} 0 1 = cc in omega arith)

      go : Dec (p ≡ (rows k).clock) → Dec (q < 3) → Dec (q ≡ (rows k).clock) → T (is_zero (product t rows n p q k))
      go (no i) dq di = zero-times (t (rows k) p) (at (wide (rows k)) q) (beside k kb p low (omega arith) i) (entries k kb q (omega arith))
      go (yes i) (yes l) di = never (rw (eq-eqb p (rows k).clock i, lt-ltb q 3 l) at off)
      go (yes i) (no l) (yes j) = never (rw (eq-eqb p (rows k).clock i, le-ltb q 3 (omega arith), eq-eqb q (rows k).clock j) at off)
      go (yes i) (no l) (no j) =
          times_zero (t (rows k) p) (at (wide (rows k)) q) (subst (λ (z : ℕ). T (finite (t (rows k) z))) (sym i) (clock-finite k kb))
          (subst (λ (z : Float). T (is_zero z)) (wide-none (rows k) q (omega arith) (omega arith) j) +0-is-zero)

  -- the cells of a clock's row are the sums, and no others are added to
  cell-sum : (p q : ℕ) → 3 ≤ p → p < n → q ≤ p → placed_cell t rows n m p q ≡ cell_sums t rows n m p q
  cell-sum p q low pb qb =
      ap (λ (z : Float). some_to z (reached t rows n p q) (product t rows n p q) m) (rw (lt-leb n p pb))
      ∙ some-all (reached t rows n p q) (product t rows n p q) m (λ k. mul-fits binary64 _ _) (cell-zero p q low pb qb)
      ∙ sym (sums-is (λ r p q. t r p ⊗ at (wide r) q) rows m p q)

  cell-idle : (p q : ℕ) → ((k : ℕ) → k < m → reached t rows n p q k ≡ false) → placed_cell t rows n m p q ≡ idle t rows n p q
  cell-idle p q off = some-none (idle t rows n p q) (reached t rows n p q) (product t rows n p q) m off

  abbrev cell_in : ℕ → ℕ → Float
  cell_in p q = cond (ltb p n && leb q p) (cell_sums t rows n m p q) (idle t rows n p q)

  below : (p q : ℕ) (v : Float) → p < n → q ≤ p → v ≡ cell_sums t rows n m p q → v ≡ cell_in p q
  below p q v pb qb i = i ∙ rw (lt-ltb p n pb, le-leb q p qb)

  -- above the diagonal nothing is added
  above : (p q : ℕ) → p < n → p < q → placed_cell t rows n m p q ≡ cell_in p q
  above p q pb qb = cell-idle p q (λ k kb. off k kb (ℕ_discrete p (rows k).clock)) ∙ rw (lt-ltb p n pb, lt-leb q p qb)
    where
      off : (k : ℕ) → k < m → Dec (p ≡ (rows k).clock) → reached t rows n p q k ≡ false
      off k kb (no i) = rw (ne_eqb p (rows k).clock i)
      off k kb (yes i) =
          let low : 3 ≤ (rows k).clock = (h.clocks k kb).0 in
          rw (eq-eqb p (rows k).clock i, le-ltb q 3 (omega arith), ne_eqb q (rows k).clock (omega arith))

  abbrev stored : List (List Float)
  stored = corner_put s a

  abbrev known : ℕ → ℕ → Float
  known = put (put (put (put (put (put (placed_cell t rows n m) 0 0 s.xx) 1 0 s.yx) 1 1 s.yy) 2 0 s.zx) 2 1 s.zy) 2 2 s.zz

  stored-known : Known known stored
  stored-known =
      known_store 2 2 s.zz (omega arith) (omega arith) (known_store 2 1 s.zy (omega arith) (omega arith) (known_store 2 0 s.zx (omega arith) (omega arith)
      (known_store 1 1 s.yy (omega arith) (omega arith) (known_store 1 0 s.yx (omega arith) (omega arith) (known_store 0 0 s.xx (omega arith) (omega arith)
      (record { square = h.square; is = h.cells_are }))))))

  first : (p q : ℕ) → p < 3 → known p q ≡ cell_in p q
  first zero zero l = below 0 0 s.xx (omega arith) (omega arith) h.xx-is
  first zero (suc q) l = rw (ne_eqb (suc q) 0 (omega arith)) (above 0 (suc q) (omega arith) (omega arith))
  first (suc zero) zero l = below 1 0 s.yx (omega arith) (omega arith) h.yx-is
  first (suc zero) (suc zero) l = below 1 1 s.yy (omega arith) (omega arith) h.yy_is
  first (suc zero) (suc (suc q)) l = rw (ne_eqb (suc (suc q)) 0 (omega arith), ne_eqb (suc (suc q)) 1 (omega arith)) (above 1 (suc (suc q)) (omega arith) (omega arith))
  first (suc (suc zero)) zero l = below 2 0 s.zx (omega arith) (omega arith) h.zx_is
  first (suc (suc zero)) (suc zero) l = below 2 1 s.zy (omega arith) (omega arith) h.zy_is
  first (suc (suc zero)) (suc (suc zero)) l = below 2 2 s.zz (omega arith) (omega arith) h.zz_is
  first (suc (suc zero)) (suc (suc (suc q))) l =
      rw (ne_eqb (suc (suc (suc q))) 0 (omega arith), ne_eqb (suc (suc (suc q))) 1 (omega arith), ne_eqb (suc (suc (suc q))) 2 (omega arith)) (above 2 (suc (suc (suc q))) (omega arith) (omega arith))
  first (suc (suc (suc p))) q l = absurd (omega arith)

  later : (p q : ℕ) → 3 ≤ p → Dec (p < n) → Dec (p < q) → known p q ≡ cell_in p q
  later p q l d g = rw (ne_eqb p 0 (omega arith), ne_eqb p 1 (omega arith), ne_eqb p 2 (omega arith)) (go d g)
    where
      go : Dec (p < n) → Dec (p < q) → placed_cell t rows n m p q ≡ cell_in p q
      go (yes u) (yes g) = above p q u g
      go (yes u) (no g) = let i : q ≤ p = omega arith in below p q _ u i (cell-sum p q l u i)
      go (no u) g = let i : n ≤ p = omega arith in cell-idle p q (λ k kb. rw (ne_eqb p (rows k).clock (omega (arith, (h.clocks k kb).1)))) ∙ rw (le-ltb p n i)

  pub matrix-stored : stored ≡ triangle_of n (cell_sums t rows n m)
  unfolding triangle_of
  matrix-stored = square-is cell_in stored stored-known.square (λ p q pb qb. stored-known.is p q pb qb ∙ go p q (dec_lt p 3))
    where
      go : (p q : ℕ) → Dec (p < 3) → known p q ≡ cell_in p q
      go p q (yes l) = first p q l
      go p q (no l) = later p q (omega arith) (dec_lt p n) (dec_lt p q)

-- ---- the right side, and both
module _ (c : CentreScale) (huber : Float) (rows : ℕ → Row) (n : ℕ) (few : n ≤ 9) (three : 3 ≤ n) (m : ℕ) {s : Corner} {v : Vec3} {a : List (List Float)} {b : List Float} (p : Placed c huber rows n m s v a b)
    (fx : T (finite s.xx)) (fy : T (finite s.yy)) (fz : T (finite s.zz)) (fs : T (finite v.x)) where
  abbrev g : PlacedCells (weighted_at c huber rows n) rows n m s a
  g = p.cells-placed

  abbrev h : PlacedSides c huber rows n m v b
  h = p.sides-placed

  abbrev w : ℕ → Float
  w k = weight c huber (rows k)

  abbrev e : ℕ → ℕ → Float
  e k p = at (wide (rows k)) p

  residual-finite : (k : ℕ) → k < m → T (finite (bits (rows k).residual))
  residual-finite k kb = (mul-finite (w k ⊗ e k 0) (bits (rows k).residual) (sum-finite (sided c huber rows n 0) m (subst (λ (z : Float). T (finite z)) (h.x-is ∙ sides-sum c huber rows m 0) fs) k kb)).1

  weight-finite : (k : ℕ) → k < m → T (finite (w k))
  weight-finite k kb = (mul-finite (w k) (e k 0) (left-finite (weighted_at c huber rows n) rows n few m g fx fy fz k kb)).0

  weight-fits : (k : ℕ) → T (fits binary64 (w k))
  unfolding weight
  weight-fits k = div-fits binary64 _ _

  -- at the clock a row weighs what its weight is
  clock-finite : (k : ℕ) → k < m → T (finite (w k ⊗ e k (rows k).clock))
  clock-finite k kb =
      subst (λ (z : Float). T (finite (w k ⊗ z))) (wide-clock (rows k) (omega (arith, (g.clocks k kb).1)))
      (subst (λ (z : Float). T (finite z)) (sym (times-one (w k) (weight-fits k))) (weight-finite k kb))

  -- beside the clock it weighs nothing
  beside : (k : ℕ) → k < m → (p : ℕ) → 3 ≤ p → p < 9 → (p ≡ (rows k).clock → ⊥) → T (is_zero (w k ⊗ e k p))
  beside k kb p low pb i = times_zero (w k) (e k p) (weight-finite k kb) (subst (λ (z : Float). T (is_zero z)) (wide-none (rows k) p low pb i) +0-is-zero)

  side-zero : (p : ℕ) → 3 ≤ p → p < n → (k : ℕ) → k < m → eqb p (rows k).clock ≡ false → T (is_zero (sided c huber rows n p k))
  side-zero p low pb k kb off = go (ℕ_discrete p (rows k).clock)
    where
      go : Dec (p ≡ (rows k).clock) → T (is_zero (sided c huber rows n p k))
      go (no i) = zero-times (w k ⊗ e k p) (bits (rows k).residual) (beside k kb p low (omega arith) i) (residual-finite k kb)
      go (yes i) = absurd (let o : true ≡ false = rw (eq-eqb p (rows k).clock i) at off in let z : ◌≡◌ {A = ℕ} 0 1 = cc in omega arith)

  abbrev side_stored : List Float
  side_stored = corner_sides v b

  long-1 : length (set b 0 v.x) ≡ 9
  long-1 = length-set b 0 v.x ∙ h.long

  long-2 : length (set (set b 0 v.x) 1 v.y) ≡ 9
  long-2 = length-set (set b 0 v.x) 1 v.y ∙ long-1

  right-stored : side_stored ≡ nine (λ i. cond (ltb i n) (sides c huber rows m i) +0)
  right-stored = nine-is (λ i. cond (ltb i n) (sides c huber rows m i) +0) nan side_stored (length-set (set (set b 0 v.x) 1 v.y) 2 v.z ∙ long-2) (λ p pb. go p pb (dec_lt p n))
    where
      within : (p : ℕ) (u : Float) → p < n → u ≡ sides c huber rows m p → u ≡ cond (ltb p n) (sides c huber rows m p) +0
      within p u pb i = i ∙ rw (lt-ltb p n pb)

      beyond : (p : ℕ) → 3 ≤ p → at side_stored p ≡ at b p
      beyond p l = get_or-set_other (set (set b 0 v.x) 1 v.y) 2 p v.z nan (omega arith) ∙ get_or-set_other (set b 0 v.x) 1 p v.y nan (omega arith) ∙ get_or-set_other b 0 p v.x nan (omega arith)

      go : (p : ℕ) → p < 9 → Dec (p < n) → at side_stored p ≡ cond (ltb p n) (sides c huber rows m p) +0
      go zero pb d = get_or-set_other (set (set b 0 v.x) 1 v.y) 2 0 v.z nan (omega arith) ∙ get_or-set_other (set b 0 v.x) 1 0 v.y nan (omega arith) ∙ get_or-set_same b 0 v.x nan (omega (arith, h.long)) ∙ within 0 v.x (omega arith) h.x-is
      go (suc zero) pb d = get_or-set_other (set (set b 0 v.x) 1 v.y) 2 1 v.z nan (omega arith) ∙ get_or-set_same (set b 0 v.x) 1 v.y nan (omega (arith, long-1)) ∙ within 1 v.y (omega arith) h.y-is
      go (suc (suc zero)) pb d = get_or-set_same (set (set b 0 v.x) 1 v.y) 2 v.z nan (omega (arith, long-2)) ∙ within 2 v.z (omega arith) h.z-is
      go (suc (suc (suc p))) pb (yes u) =
          beyond (suc (suc (suc p))) (omega arith) ∙ h.sides-are (suc (suc (suc p))) pb
          ∙ some-all (λ k. eqb (suc (suc (suc p))) (rows k).clock) (sided c huber rows n (suc (suc (suc p)))) m (λ k. mul-fits binary64 _ _) (side-zero (suc (suc (suc p))) (omega arith) u)
          ∙ sym (sides-sum c huber rows m (suc (suc (suc p)))) ∙ rw (lt-ltb (suc (suc (suc p))) n u)
      go (suc (suc (suc p))) pb (no u) =
          let i : n ≤ suc (suc (suc p)) = omega arith in
          beyond (suc (suc (suc p))) (omega arith) ∙ h.sides-are (suc (suc (suc p))) pb
          ∙ some-none +0 (λ k. eqb (suc (suc (suc p))) (rows k).clock) (sided c huber rows n (suc (suc (suc p)))) m (λ k kb. ne_eqb (suc (suc (suc p))) (rows k).clock (omega (arith, (g.clocks k kb).1)))
          ∙ rw (le-ltb (suc (suc (suc p))) n i)

  pub formed-by-places : (count : ℕ) → m ≡ count → {a' : List (List Float)} {b' : List Float} → a' ≡ corner_put s a → b' ≡ corner_sides v b → Formed (weight c huber) (places rows count) n a' b'
  formed-by-places count last {a'} {b'} a-is b-is =
      let matrix = matrix-stored (weighted_at c huber rows n) rows n few three m g (entry-finite (weighted_at c huber rows n) rows n few m g fx fy fz) clock-finite beside in
      formed-last c huber rows count n m a' b' last (a-is ∙ matrix) (b-is ∙ right-stored)
