-- The normal equations over the places of a row that are not 0: what the loop over the rows has. Assumes nothing.
use mathlib.Core.Path.{◌≡◌, refl, sym, ap, ap₂, ◌∙◌, subst}
use Prim.Native.Nat.{ℕ, zero, suc, ◌+◌, ◌≤◌, ◌<◌}
use native.Mathlib.Nat.{not-suc-le-zero}
use native.Mathlib.Decide.{ℕ_discrete}
use native.Mathlib.Omega.{arith}
use mathlib.Core.Bool.{Bool, true, false, cond, ◌&&◌, ◌||◌}
use mathlib.Core.List.{List, ◌∷◌}
use lib.Dec.{ltb, leb, eqb}
use borrow.Author.Tests.{lt-ltb, le-ltb, eq-eqb, ne_eqb}
use lib.ListN.{length, get_or, set, length-set, replicate, get_or-replicate}
use lib.Seq.{get_or-set_same, get_or-set_other}
use lib.Ieee.{Float, nan}
use Rattle.exact.specs.Float.{◌⊕◌, ◌⊗◌, +0, 1·0, bits}
use Rattle.cholesky.specs.Factor.{at, cell}
use Rattle.numeric.specs.declared.vec3.Vec3.{Vec3}
use Rattle.median.specs.declared.centre.CentreScale.{CentreScale}
use Rattle.normal_equations.specs.Weight.{weight}
use Rattle.normal_equations.specs.Equations.{wide}
use Rattle.normal_equations.specs.Nine.{Square}
use Rattle.normal_equations.specs.Steps.{unused, raise_cell, clock_added, no_corner, corner_added, vector_times, vector_added}
use Rattle.normal_equations.specs.declared.row.Row.{Row}
use Rattle.normal_equations.specs.declared.equations.Corner.{Corner}
use Rattle.normal_equations.proofs.NineLaws.{cell_at, square-nine, square-store, cell_same, cell_other}
use Rattle.normal_equations.proofs.FormedLaws.{sums, sums-zero, sums_next, sides, sides-zero, sides-next}
use Rattle.normal_equations.proofs.SomeSums.{some_to, some-taken, some_left}

-- ---- a row nine wide whose clock is at 3 or beyond

-- before the clock is marked
abbrev plain : Row → List Float
plain r = r.unit.x ∷ r.unit.y ∷ r.unit.z ∷ replicate 6 +0

module _ (r : Row) (low : 3 ≤ r.clock) where
  pub wide-x : r.unit.x ≡ at (wide r) 0
  unfolding wide
  wide-x = sym (get_or-set_other (plain r) r.clock 0 1·0 nan (omega arith))

  pub wide-y : r.unit.y ≡ at (wide r) 1
  unfolding wide
  wide-y = sym (get_or-set_other (plain r) r.clock 1 1·0 nan (omega arith))

  pub wide-z : r.unit.z ≡ at (wide r) 2
  unfolding wide
  wide-z = sym (get_or-set_other (plain r) r.clock 2 1·0 nan (omega arith))

pub wide-clock : (r : Row) → r.clock < 9 → 1·0 ≡ at (wide r) r.clock
unfolding wide
wide-clock r h = sym (get_or-set_same (plain r) r.clock 1·0 nan h)

pub wide-none : (r : Row) (p : ℕ) → 3 ≤ p → p < 9 → (p ≡ r.clock → ⊥) → +0 ≡ at (wide r) p
unfolding wide
wide-none r p low pb n = sym (get_or-set_other (plain r) r.clock p 1·0 nan n ∙ rest p low pb)
  where
    rest : (p : ℕ) → 3 ≤ p → p < 9 → get_or (plain r) p nan ≡ +0
    rest zero l b = absurd (omega arith)
    rest (suc zero) l b = absurd (omega arith)
    rest (suc (suc zero)) l b = absurd (omega arith)
    rest (suc (suc (suc p))) l b = get_or-replicate 6 p +0 nan (omega arith)

-- ---- four sums of one row of a matrix, at 0, 1, 2 and at the diagonal
module _ (a : List (List Float)) (s : Square a) (i : ℕ) (low : 3 ≤ i) (high : i < 9) (u v w d : Float) where
  abbrev pub one : List (List Float)
  one = raise_cell a i 0 u

  abbrev pub two : List (List Float)
  two = raise_cell one i 1 v

  abbrev pub three : List (List Float)
  three = raise_cell two i 2 w

  abbrev pub four : List (List Float)
  four = raise_cell three i i d

  square-1 : Square one
  square-1 = square-store a s i 0 _ high

  square-2 : Square two
  square-2 = square-store one square-1 i 1 _ high

  square-3 : Square three
  square-3 = square-store two square-2 i 2 _ high

  square-4 : Square four
  square-4 = square-store three square-3 i i _ high

  other-1 : (p q : ℕ) → (p ≡ i → q ≡ 0 → ⊥) → cell one p q ≡ cell a p q
  other-1 p q n = cell_other a s i 0 _ high p q n

  other-2 : (p q : ℕ) → (p ≡ i → q ≡ 1 → ⊥) → cell two p q ≡ cell one p q
  other-2 p q n = cell_other one square-1 i 1 _ high p q n

  other-3 : (p q : ℕ) → (p ≡ i → q ≡ 2 → ⊥) → cell three p q ≡ cell two p q
  other-3 p q n = cell_other two square-2 i 2 _ high p q n

  other-4 : (p q : ℕ) → (p ≡ i → q ≡ i → ⊥) → cell four p q ≡ cell three p q
  other-4 p q n = cell_other three square-3 i i _ high p q n

  cell-0 : cell four i 0 ≡ cell a i 0 ⊕ u
  cell-0 = other-4 i 0 (λ x y. omega arith) ∙ other-3 i 0 (λ x y. omega arith) ∙ other-2 i 0 (λ x y. omega arith) ∙ cell_same a s i 0 _ high (omega arith)

  cell-1 : cell four i 1 ≡ cell a i 1 ⊕ v
  cell-1 =
      other-4 i 1 (λ x y. omega arith) ∙ other-3 i 1 (λ x y. omega arith) ∙ cell_same one square-1 i 1 _ high (omega arith)
      ∙ ap (λ (z : Float). z ⊕ v) (other-1 i 1 (λ x y. omega arith))

  cell-2 : cell four i 2 ≡ cell a i 2 ⊕ w
  cell-2 =
      other-4 i 2 (λ x y. omega arith) ∙ cell_same two square-2 i 2 _ high (omega arith)
      ∙ ap (λ (z : Float). z ⊕ w) (other-2 i 2 (λ x y. omega arith) ∙ other-1 i 2 (λ x y. omega arith))

  cell-i : cell four i i ≡ cell a i i ⊕ d
  cell-i =
      cell_same three square-3 i i _ high high
      ∙ ap (λ (z : Float). z ⊕ d) (other-3 i i (λ x y. omega arith) ∙ other-2 i i (λ x y. omega arith) ∙ other-1 i i (λ x y. omega arith))

  cell-rest : (p q : ℕ) → (p ≡ i → q < 3 → ⊥) → (p ≡ i → q ≡ i → ⊥) → cell four p q ≡ cell a p q
  cell-rest p q n m = other-4 p q m ∙ other-3 p q (λ x y. n x (omega arith)) ∙ other-2 p q (λ x y. n x (omega arith)) ∙ other-1 p q (λ x y. n x (omega arith))

-- ---- the matrix: t r p is place p of a row times what it weighs, if it is weighted
module _ (t : Row → ℕ → Float) (rows : ℕ → Row) (n : ℕ) where
  abbrev pub clock : ℕ → ℕ
  clock k = (rows k).clock

  abbrev pub product : ℕ → ℕ → ℕ → Float
  product p q k = t (rows k) p ⊗ at (wide (rows k)) q

  abbrev pub cell_sums : ℕ → ℕ → ℕ → Float
  cell_sums = sums (λ r p q. t r p ⊗ at (wide r) q) rows

  abbrev pub idle : ℕ → ℕ → Float
  idle p q = cond (leb n p && eqb p q) 1·0 +0

  -- a row of the matrix is added to where the clock is, at 0, 1, 2 and the diagonal
  abbrev pub reached : ℕ → ℕ → ℕ → Bool
  reached p q k = eqb p (clock k) && (ltb q 3 || eqb q (clock k))

  abbrev pub placed_cell : ℕ → ℕ → ℕ → Float
  placed_cell k p q = some_to (idle p q) (reached p q) (product p q) k

  -- what the loop has after k rows: the sums of the first three rows and columns, and in a those of the clocks
  pub record PlacedCells (k : ℕ) (s : Corner) (a : List (List Float)) : Type 0 where
    pub clocks : (j : ℕ) → j < k → (3 ≤ clock j) × (clock j < n)
    pub xx-is : s.xx ≡ cell_sums k 0 0
    pub yx-is : s.yx ≡ cell_sums k 1 0
    pub yy_is : s.yy ≡ cell_sums k 1 1
    pub zx_is : s.zx ≡ cell_sums k 2 0
    pub zy_is : s.zy ≡ cell_sums k 2 1
    pub zz_is : s.zz ≡ cell_sums k 2 2
    pub square : Square a
    pub cells_are : (p q : ℕ) → p < 9 → q < 9 → cell a p q ≡ placed_cell k p q

  none : (p q : ℕ) → +0 ≡ cell_sums 0 p q
  none p q = sym (sums-zero (λ r p q. t r p ⊗ at (wide r) q) rows p q)

  pub cells-start : (s : Corner) (a : List (List Float)) → s ≡ no_corner → a ≡ unused n → PlacedCells 0 s a
  unfolding unused some_to
  cells-start s a d e =
      rw (d, e)
      record {
        clocks = λ j jb. absurd (not-suc-le-zero jb);
        xx-is = none 0 0;
        yx-is = none 1 0;
        yy_is = none 1 1;
        zx_is = none 2 0;
        zy_is = none 2 1;
        zz_is = none 2 2;
        square = square-nine idle;
        cells_are = λ p q pb qb. cell_at idle p q pb qb;
      }

  -- one row more, by its first three places v and its clock's place w on the left of a product
  module _ (few : n ≤ 9) (k : ℕ) (low : 3 ≤ clock k) (high : clock k < n) (v : Vec3) (w : Float) (x-is : v.x ≡ t (rows k) 0) (y-is : v.y ≡ t (rows k) 1) (z-is : v.z ≡ t (rows k) 2) (w-is : w ≡ t (rows k) (clock k)) where
    abbrev r : Row
    r = rows k

    cell-more : (p q : ℕ) (u e s : Float) → u ≡ t r p → e ≡ at (wide r) q → s ≡ cell_sums k p q → s ⊕ u ⊗ e ≡ cell_sums (k + 1) p q
    cell-more p q u e s u-is e-is h = sums_next (λ r p q. t r p ⊗ at (wide r) q) rows k p q s _ h (rw (u-is, e-is))

    -- the term of a cell of the clock's row
    term : (q : ℕ) (e : Float) → e ≡ at (wide r) q → w ⊗ e ≡ product (clock k) q k
    term q e e-is = rw (w-is, e-is)

    clocks-more : ((j : ℕ) → j < k → (3 ≤ clock j) × (clock j < n)) → (j : ℕ) → j < k + 1 → (3 ≤ clock j) × (clock j < n)
    clocks-more h j jb = go (ℕ_discrete j k)
      where
        go : Dec (j ≡ k) → (3 ≤ clock j) × (clock j < n)
        go (yes e) = subst (λ (z : ℕ). (3 ≤ clock z) × (clock z < n)) (sym e) (low, high)
        go (no e) = h j (omega arith)

    module _ (a : List (List Float)) (s : Square a) (is : (p q : ℕ) → p < 9 → q < 9 → cell a p q ≡ placed_cell k p q) where
      abbrev added : List (List Float)
      added = clock_added (clock k) w r.unit a

      -- a cell of the clock's row that is added to
      hit : (q : ℕ) (v : Float) → q < 9 → reached (clock k) q k ≡ true → cell added (clock k) q ≡ cell a (clock k) q ⊕ v → v ≡ product (clock k) q k → cell added (clock k) q ≡ placed_cell (k + 1) (clock k) q
      hit q v qb on e h = e ∙ ap (λ (z : Float). z ⊕ v) (is (clock k) q (omega arith) qb) ∙ ap (λ (z : Float). placed_cell k (clock k) q ⊕ z) h ∙ sym (some-taken (idle (clock k) q) (reached (clock k) q) (product (clock k) q) k on)

      on-low : (q : ℕ) → q < 3 → reached (clock k) q k ≡ true
      on-low q h = rw (eq-eqb (clock k) (clock k) refl, lt-ltb q 3 h)

      on-diagonal : reached (clock k) (clock k) k ≡ true
      on-diagonal = rw (eq-eqb (clock k) (clock k) refl, le-ltb (clock k) 3 low)

      cells-more : (p q : ℕ) → p < 9 → q < 9 → cell added p q ≡ placed_cell (k + 1) p q
      cells-more p q pb qb = go (ℕ_discrete p (clock k))
        where
          kept : (p : ℕ) → p < 9 → reached p q k ≡ false → cell added p q ≡ cell a p q → cell added p q ≡ placed_cell (k + 1) p q
          kept p pb off e = e ∙ is p q pb qb ∙ sym (some_left (idle p q) (reached p q) (product p q) k off)

          at_place : (c : ℕ) → q ≡ c → cell added (clock k) c ≡ placed_cell (k + 1) (clock k) c → cell added (clock k) q ≡ placed_cell (k + 1) (clock k) q
          at_place c e h = subst (λ (z : ℕ). cell added (clock k) z ≡ placed_cell (k + 1) (clock k) z) (sym e) h

          in_row : Dec (q ≡ 0) → Dec (q ≡ 1) → Dec (q ≡ 2) → Dec (q ≡ clock k) → cell added (clock k) q ≡ placed_cell (k + 1) (clock k) q
          in_row (yes e) d1 d2 di = at_place 0 e (hit 0 _ (omega arith) (on-low 0 (omega arith)) (cell-0 a s (clock k) low (omega arith) _ _ _ _) (term 0 r.unit.x (wide-x r low)))
          in_row (no n0) (yes e) d2 di = at_place 1 e (hit 1 _ (omega arith) (on-low 1 (omega arith)) (cell-1 a s (clock k) low (omega arith) _ _ _ _) (term 1 r.unit.y (wide-y r low)))
          in_row (no n0) (no n1) (yes e) di = at_place 2 e (hit 2 _ (omega arith) (on-low 2 (omega arith)) (cell-2 a s (clock k) low (omega arith) _ _ _ _) (term 2 r.unit.z (wide-z r low)))
          in_row (no n0) (no n1) (no n2) (yes e) =
              at_place (clock k) e (hit (clock k) _ (omega arith) on-diagonal (cell-i a s (clock k) low (omega arith) _ _ _ _) (term (clock k) 1·0 (wide-clock r (omega arith))))
          in_row (no n0) (no n1) (no n2) (no ni) =
              kept (clock k) (omega arith) (rw (eq-eqb (clock k) (clock k) refl, le-ltb q 3 (omega arith), ne_eqb q (clock k) ni))
              (cell-rest a s (clock k) low (omega arith) _ _ _ _ (clock k) q (λ x y. omega arith) (λ x y. ni y))

          go : Dec (p ≡ clock k) → cell added p q ≡ placed_cell (k + 1) p q
          go (yes e) = subst (λ (z : ℕ). cell added z q ≡ placed_cell (k + 1) z q) (sym e) (in_row (ℕ_discrete q 0) (ℕ_discrete q 1) (ℕ_discrete q 2) (ℕ_discrete q (clock k)))
          go (no n) = kept p pb (rw (ne_eqb p (clock k) n)) (cell-rest a s (clock k) low (omega arith) _ _ _ _ p q (λ x y. n x) (λ x y. n x))

    pub cells-next : {s : Corner} {a : List (List Float)} → PlacedCells k s a → PlacedCells (k + 1) (corner_added s v r.unit) (clock_added (clock k) w r.unit a)
    cells-next {a = a} h =
        let x = wide-x r low in
        let y = wide-y r low in
        let z = wide-z r low in
        record {
          clocks = clocks-more h.clocks;
          xx-is = cell-more 0 0 _ _ _ x-is x h.xx-is;
          yx-is = cell-more 1 0 _ _ _ y-is x h.yx-is;
          yy_is = cell-more 1 1 _ _ _ y-is y h.yy_is;
          zx_is = cell-more 2 0 _ _ _ z-is x h.zx_is;
          zy_is = cell-more 2 1 _ _ _ z-is y h.zy_is;
          zz_is = cell-more 2 2 _ _ _ z-is z h.zz_is;
          square = square-4 a h.square (clock k) low (omega arith) _ _ _ _;
          cells_are = cells-more a h.square h.cells_are;
        }

-- ---- the right side, of rows with weights
module _ (c : CentreScale) (huber : Float) (rows : ℕ → Row) (n : ℕ) where
  abbrev pub sided : ℕ → ℕ → Float
  sided p k = weight c huber (rows k) ⊗ at (wide (rows k)) p ⊗ bits (rows k).residual

  abbrev pub placed_side : ℕ → ℕ → Float
  placed_side k p = some_to +0 (λ k. eqb p (rows k).clock) (sided p) k

  -- what the loop has after k rows: the sums of the first three places, and in b those of the clocks
  pub record PlacedSides (k : ℕ) (v : Vec3) (b : List Float) : Type 0 where
    pub x-is : v.x ≡ sides c huber rows k 0
    pub y-is : v.y ≡ sides c huber rows k 1
    pub z-is : v.z ≡ sides c huber rows k 2
    pub long : length b ≡ 9
    pub sides-are : (p : ℕ) → p < 9 → at b p ≡ placed_side k p

  pub sides-start : PlacedSides 0 (record { x = +0; y = +0; z = +0 }) (replicate 9 +0)
  unfolding some_to
  sides-start =
      record {
        x-is = sym (sides-zero c huber rows 0);
        y-is = sym (sides-zero c huber rows 1);
        z-is = sym (sides-zero c huber rows 2);
        long = refl;
        sides-are = λ p pb. get_or-replicate 9 p +0 nan pb;
      }

  -- one row more, by its weight w and its residual d
  module _ (few : n ≤ 9) (k : ℕ) (low : 3 ≤ (rows k).clock) (high : (rows k).clock < n) (w d : Float) (w-is : w ≡ weight c huber (rows k)) (d-is : d ≡ bits (rows k).residual) where
    side-more : (p : ℕ) (u s : Float) → u ≡ at (wide (rows k)) p → s ≡ sides c huber rows k p → s ⊕ w ⊗ u ⊗ d ≡ sides c huber rows (k + 1) p
    side-more p u s eu h = rw eu (sides-next c huber rows k w (wide (rows k)) w-is refl p s d h d-is)

    module _ (b : List Float) (long : length b ≡ 9) (is : (p : ℕ) → p < 9 → at b p ≡ placed_side k p) where
      abbrev moved : List Float
      moved = set b (rows k).clock (at b (rows k).clock ⊕ w ⊗ 1·0 ⊗ d)

      sides-more : (p : ℕ) → p < 9 → at moved p ≡ placed_side (k + 1) p
      sides-more p pb = go (ℕ_discrete p (rows k).clock)
        where
          here : at moved (rows k).clock ≡ placed_side (k + 1) (rows k).clock
          here =
              get_or-set_same b (rows k).clock _ nan (omega (arith, long))
              ∙ ap (λ (z : Float). z ⊕ w ⊗ 1·0 ⊗ d) (is (rows k).clock (omega arith))
              ∙ rw (w-is, d-is, wide-clock (rows k) (omega arith)) (sym (some-taken +0 (λ j. eqb (rows k).clock (rows j).clock) (sided (rows k).clock) k (eq-eqb (rows k).clock (rows k).clock refl)))

          go : Dec (p ≡ (rows k).clock) → at moved p ≡ placed_side (k + 1) p
          go (yes e) = subst (λ (z : ℕ). at moved z ≡ placed_side (k + 1) z) (sym e) here
          go (no n) = get_or-set_other b (rows k).clock p _ nan n ∙ is p pb ∙ sym (some_left +0 (λ k. eqb p (rows k).clock) (sided p) k (ne_eqb p (rows k).clock n))

    pub side-next : {v : Vec3} {b : List Float} → PlacedSides k v b → PlacedSides (k + 1) (vector_added v (vector_times w (rows k).unit) d) (set b (rows k).clock (at b (rows k).clock ⊕ w ⊗ 1·0 ⊗ d))
    side-next {b = b} h =
        record {
          x-is = side-more 0 _ _ (wide-x (rows k) low) h.x-is;
          y-is = side-more 1 _ _ (wide-y (rows k) low) h.y-is;
          z-is = side-more 2 _ _ (wide-z (rows k) low) h.z-is;
          long = length-set b (rows k).clock _ ∙ h.long;
          sides-are = sides-more b h.long h.sides-are;
        }

-- ---- both, as the code has them
module _ (c : CentreScale) (huber : Float) (rows : ℕ → Row) (n : ℕ) where
  abbrev pub weighted_at : Row → ℕ → Float
  weighted_at r p = weight c huber r ⊗ at (wide r) p

  pub record Placed (k : ℕ) (s : Corner) (v : Vec3) (a : List (List Float)) (b : List Float) : Type 0 where
    pub cells-placed : PlacedCells weighted_at rows n k s a
    pub sides-placed : PlacedSides c huber rows n k v b

  -- one row more, by a row r that the code has read, and by what its callees answer
  pub placed_row : (few : n ≤ 9) (k : ℕ) (r : Row) → r ≡ rows k → 3 ≤ r.clock → r.clock < n → (w d : Float) → w ≡ weight c huber r → d ≡ bits r.residual
      → {t : Vec3} {s s' : Corner} {v v' : Vec3} {a a' : List (List Float)} {b : List Float}
      → t ≡ vector_times w r.unit → s' ≡ corner_added s t r.unit → v' ≡ vector_added v t d → a' ≡ clock_added r.clock (w ⊗ 1·0) r.unit a
      → Placed k s v a b → Placed (k + 1) s' v' a' (set b r.clock (at b r.clock ⊕ w ⊗ 1·0 ⊗ d))
  placed_row few k r e low high w d w-is d-is {s = s} {v = v} {a = a} {b = b} t-is s-is v-is a-is h =
      rw (s-is, v-is, a-is, t-is)
      (subst (λ (z : Row). 3 ≤ z.clock → z.clock < n → w ≡ weight c huber z → d ≡ bits z.residual
      → Placed (k + 1) (corner_added s (vector_times w z.unit) z.unit) (vector_added v (vector_times w z.unit) d) (clock_added z.clock (w ⊗ 1·0) z.unit a) (set b z.clock (at b z.clock ⊕ w ⊗ 1·0 ⊗ d))) (sym e)
      (λ low high w-is d-is. next low high w-is d-is) low high w-is d-is)
    where
      next : 3 ≤ (rows k).clock → (rows k).clock < n → w ≡ weight c huber (rows k) → d ≡ bits (rows k).residual
          → Placed (k + 1) (corner_added s (vector_times w (rows k).unit) (rows k).unit) (vector_added v (vector_times w (rows k).unit) d) (clock_added (rows k).clock (w ⊗ 1·0) (rows k).unit a)
          (set b (rows k).clock (at b (rows k).clock ⊕ w ⊗ 1·0 ⊗ d))
      next low high w-is d-is =
          record {
            cells-placed = cells-next weighted_at rows n few k low high (vector_times w (rows k).unit) (w ⊗ 1·0) (ap₂ ◌⊗◌ w-is (wide-x (rows k) low)) (ap₂ ◌⊗◌ w-is (wide-y (rows k) low)) (ap₂ ◌⊗◌ w-is (wide-z (rows k) low)) (ap₂ ◌⊗◌ w-is (wide-clock (rows k) (omega arith))) h.cells-placed;
            sides-placed = side-next c huber rows n few k low high w d w-is d-is h.sides-placed;
          }
