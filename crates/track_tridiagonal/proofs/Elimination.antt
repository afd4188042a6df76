-- The elimination, one row of the three axes at a time. Assumes nothing.
use mathlib.Core.Path.{◌≡◌, refl, sym, ◌∙◌, ap}
use mathlib.Core.Logic.{⊎_elim}
use mathlib.Core.Bool.{Bool, true, false, not, ◌&&◌}
use mathlib.Core.List.{List}
use Prim.Native.Nat.{ℕ, ◌+◌, ◌*◌, ◌≤◌, ◌<◌}
use native.Mathlib.Nat.{eq-or-lt_of_le}
use native.Mathlib.Numerals.{add-one}
use native.Mathlib.Omega.{arith}
use lib.Dec.{T}
use lib.ListN.{length, set, length-set}
use lib.Ieee.{Float, is_nan, le, binary64, fits, to_bits}
use lib.Ieee.Fits.{sub-fits}
use Rattle.exact.specs.Float.{◌⊖◌, ◌⊗◌, ◌⊘◌, +0}
use Rattle.numeric.specs.Order.{pattern_of}
use Rattle.numeric.proofs.OrderLaws.{pattern_bits}
use Rattle.track_tridiagonal.specs.Rows.{float_at, row_cell, axis_in, Axes, SameOutside}
use Rattle.track_tridiagonal.specs.Tridiagonal.{Equations, pivot, reduced, vanishing, axis_solved, NoNan}
use Rattle.track_tridiagonal.specs.Steps.{NumbersAt, FirstRow, RowEliminated, Left, Eliminated, goes_on, good_row}
use Rattle.track_tridiagonal.specs.declared.solve.Row.{Row}
use Rattle.track_tridiagonal.proofs.EachBelow.{each_of, left-true, right-true, first-fails, second-fails, third-fails, who-fails}
use Rattle.track_tridiagonal.proofs.Cells.{grown, kept_then, float-place, float-hit, float-miss}
use Rattle.track_tridiagonal.proofs.Axes.{Beside, beside, Touched, touched_none, touched-diagonal, touched-right, touched_if, taken}
use Rattle.track_tridiagonal.proofs.Nan.{bad-fails}

-- ---- the definitions at i + 1

pivot-next : (e : Equations) (i : ℕ) (x y p : Float) → x ≡ e.diagonal (i + 1) → y ≡ e.upper i → p ≡ pivot e i → x ⊖ (y ⊘ p) ⊗ y ≡ pivot e (i + 1)
unfolding pivot
pivot-next e i x y p ex ey ep = rw (add-one, ex, ey, ep, add-one)

reduced-next : (e : Equations) (i : ℕ) (x y p q : Float) → x ≡ e.right (i + 1) → y ≡ e.upper i → p ≡ pivot e i → q ≡ reduced e i → x ⊖ (y ⊘ p) ⊗ q ≡ reduced e (i + 1)
unfolding reduced
reduced-next e i x y p q ex ey ep eq = rw (add-one, ex, ey, ep, eq, add-one)

goes_same : (d d' p p' q q' : Float) → d ≡ d' → p ≡ p' → q ≡ q' → goes_on d p q ≡ goes_on d' p' q'
goes_same d d' p p' q q' ed ep eq = rw (ed, ep, eq)

-- ---- one axis, its rows 0 to i done

pub record Rows (w₀ : List ℕ) (n i t : ℕ) (w : List ℕ) : Type 0 where
  pub pivots : (k : ℕ) → k ≤ i → row_cell w t k ≡ pivot (axis_in w₀ t) k
  pub below : (k : ℕ) → i < k → k < n → row_cell w t k ≡ row_cell w₀ t k
  pub uppers : (k : ℕ) → k < n → row_cell w (3 + t) k ≡ row_cell w₀ (3 + t) k
  pub rights : (k : ℕ) → k ≤ i → row_cell w (6 + t) k ≡ reduced (axis_in w₀ t) k
  pub under : (k : ℕ) → i < k → k < n → row_cell w (6 + t) k ≡ row_cell w₀ (6 + t) k

rows_none : (w₀ : List ℕ) (n t : ℕ) → Rows w₀ n 0 t w₀
unfolding pivot reduced
rows_none w₀ n t = record {
  pivots = λ k l. let e : k ≡ 0 = omega arith in rw e;
  below = λ k l m. refl;
  uppers = λ k m. refl;
  rights = λ k l. let e : k ≡ 0 = omega arith in rw e;
  under = λ k l m. refl;
}

rows-beside : (w₀ : List ℕ) (n i t : ℕ) (w w' : List ℕ) → Beside t w w' → Rows w₀ n i t w → Rows w₀ n i t w'
rows-beside w₀ n i t w w' b s = record {
  pivots = λ k l. b.diagonal k ∙ s.pivots k l;
  below = λ k l m. b.diagonal k ∙ s.below k l m;
  uppers = λ k m. b.upper k ∙ s.uppers k m;
  rights = λ k l. b.right k ∙ s.rights k l;
  under = λ k l m. b.right k ∙ s.under k l m;
}

-- r is row i, and the rows above let the elimination go on; if r does too, the list holds the rows so far
pub record Reached (w₀ : List ℕ) (n i t : ℕ) (w : List ℕ) (r : Row) : Type 0 where
  pub pivot-is : r.pivot ≡ pivot (axis_in w₀ t) i
  pub right_is : r.right ≡ reduced (axis_in w₀ t) i
  pub good-is : r.good ≡ good_row (axis_in w₀ t) i
  pub above : (k : ℕ) → k < i → good_row (axis_in w₀ t) k ≡ true
  pub rows : r.good ≡ true → Rows w₀ n i t w

pub reached-beside : (w₀ : List ℕ) (n i t : ℕ) (w w' : List ℕ) (r : Row) → Beside t w w' → Reached w₀ n i t w r → Reached w₀ n i t w' r
reached-beside w₀ n i t w w' r b s = record {
  pivot-is = s.pivot-is;
  right_is = s.right_is;
  good-is = s.good-is;
  above = s.above;
  rows = λ g. rows-beside w₀ n i t w w' b (s.rows g);
}

-- the first row
pub reached-none : (w₀ : List ℕ) (n at t : ℕ) (r : Row) → at ≡ t → FirstRow w₀ at r → Reached w₀ n 0 t w₀ r
unfolding pivot reduced
reached-none w₀ n at t r e s =
    let d : float_at w₀ at ≡ row_cell w₀ t 0 = float-place w₀ at (0 * 9 + t) (omega arith) in
    let q : float_at w₀ (at + 6) ≡ row_cell w₀ (6 + t) 0 = float-place w₀ (at + 6) (0 * 9 + (6 + t)) (omega arith) in
    record {
      pivot-is = s.pivot ∙ d;
      right_is = s.right ∙ q;
      good-is = s.good ∙ goes_same _ _ _ _ _ _ d (s.pivot ∙ d) (s.right ∙ q);
      above = λ k l. absurd (omega arith);
      rows = λ g. rows_none w₀ n t;
    }

pub first-needs : (w : List ℕ) (n at t : ℕ) → at ≡ t → 0 < n → NoNan (axis_in w t) n → NumbersAt w at (at + 6) (at + 6)
first-needs w n at t e h m =
    let d : is_nan (float_at w at) ≡ false = ap is_nan (float-place w at (0 * 9 + t) (omega arith)) ∙ m.diagonal 0 h in
    let q : is_nan (float_at w (at + 6)) ≡ false = ap is_nan (float-place w (at + 6) (0 * 9 + (6 + t)) (omega arith)) ∙ m.right 0 h in
    record { first = d; second = q; third = q }

-- ---- what is stored is no NaN

un_not : (b : Bool) → not b ≡ true → T (not b)
un_not b h = rw h tt

module _ (d p q : Float) (g : goes_on d p q ≡ true) where
  numbers : (not (is_nan p) && not (is_nan q)) ≡ true
  numbers = right-true (not (vanishing p)) (not (is_nan p) && not (is_nan q)) (right-true (not (le d +0)) (not (vanishing p) && (not (is_nan p) && not (is_nan q))) g)

  pub pivot-writable : T (not (is_nan p))
  pivot-writable = un_not (is_nan p) (left-true (not (is_nan p)) (not (is_nan q)) numbers)

  pub right-writable : T (not (is_nan q))
  right-writable = un_not (is_nan q) (right-true (not (is_nan p)) (not (is_nan q)) numbers)

-- the row that the call gives, stored or not
module _ (w : List ℕ) (at : ℕ) (above r : Row) (ep : r.pivot ≡ float_at w (at + 9) ⊖ (float_at w (at + 3) ⊘ above.pivot) ⊗ float_at w (at + 3))
    (eq : r.right ≡ float_at w (at + 15) ⊖ (float_at w (at + 3) ⊘ above.pivot) ⊗ above.right) (eg : r.good ≡ goes_on (float_at w (at + 9)) r.pivot r.right) where
  pub row_ends : r.good ≡ false → RowEliminated w at above r w
  row_ends f = record { pivot = ep; right = eq; good = eg; stored = rw f }

  pub row_goes : r.good ≡ true → RowEliminated w at above r (set (set w (at + 9) (to_bits binary64 r.pivot)) (at + 15) (to_bits binary64 r.right))
  row_goes t = record { pivot = ep; right = eq; good = eg; stored = rw (t, pattern_bits r.pivot, pattern_bits r.right) }

-- ---- one row more, of one axis

module _ (w₀ : List ℕ) (n i t : ℕ) (w : List ℕ) (above : Row) (at : ℕ) (place : at ≡ i * 9 + t) (small : t < 3) (more : i + 1 < n) (s : Reached w₀ n i t w above) (g : above.good ≡ true) where
  abbrev e : Equations
  e = axis_in w₀ t

  upper-at : float_at w (at + 3) ≡ row_cell w₀ (3 + t) i
  upper-at = float-place w (at + 3) (i * 9 + (3 + t)) (omega arith) ∙ (s.rows g).uppers i (omega arith)

  diagonal-at : float_at w (at + 9) ≡ row_cell w₀ t (i + 1)
  diagonal-at = float-place w (at + 9) ((i + 1) * 9 + t) (omega arith) ∙ (s.rows g).below (i + 1) (omega arith) more

  right-at : float_at w (at + 15) ≡ row_cell w₀ (6 + t) (i + 1)
  right-at = float-place w (at + 15) ((i + 1) * 9 + (6 + t)) (omega arith) ∙ (s.rows g).under (i + 1) (omega arith) more

  pub numbers-below : NoNan (axis_in w₀ t) n → NumbersAt w (at + 3) (at + 9) (at + 15)
  numbers-below m = record {
    first = ap is_nan upper-at ∙ m.upper i (omega arith);
    second = ap is_nan diagonal-at ∙ m.diagonal (i + 1) more;
    third = ap is_nan right-at ∙ m.right (i + 1) more;
  }

  module _ (r : Row) (w' : List ℕ) (room : n * 9 ≤ length w) (d : RowEliminated w at above r w') where
    pub row-touched : Touched t n w w'
    row-touched =
        touched_if t n w _ w' r.good d.stored
        (touched-right t n w (set w (at + 9) (pattern_of r.pivot)) small
        (touched-diagonal t n w w small (touched_none t n w) (i + 1) (at + 9) (pattern_of r.pivot) more (omega arith))
        (i + 1) (at + 15) (pattern_of r.right) more (omega arith))

    new-pivot : r.pivot ≡ pivot e (i + 1)
    new-pivot = d.pivot ∙ pivot-next e i _ _ _ diagonal-at upper-at s.pivot-is

    new-right : r.right ≡ reduced e (i + 1)
    new-right = d.right ∙ reduced-next e i _ _ _ _ right-at upper-at s.pivot-is s.right_is

    pivot-fits : T (fits binary64 r.pivot)
    pivot-fits = rw d.pivot (sub-fits binary64 _ _)

    right-fits : T (fits binary64 r.right)
    right-fits = rw d.right (sub-fits binary64 _ _)

    stored-rows : Rows w₀ n (i + 1) t (set (set w (at + 9) (pattern_of r.pivot)) (at + 15) (pattern_of r.right))
    stored-rows =
        let p = pattern_of r.pivot in
        let q = pattern_of r.right in
        let w1 = set w (at + 9) p in
        let o = s.rows g in
        record {
          pivots = λ k l. ⊎_elim
              (λ h. float-miss w1 (at + 15) (k * 9 + t) q (omega arith) ∙ float-hit w (at + 9) (k * 9 + t) r.pivot pivot-fits (omega arith) (omega arith) ∙ new-pivot ∙ ap (pivot e) (sym h))
              (λ h. float-miss w1 (at + 15) (k * 9 + t) q (omega arith) ∙ float-miss w (at + 9) (k * 9 + t) p (omega arith) ∙ o.pivots k h)
              (grown k i l);
          below = λ k l m. float-miss w1 (at + 15) (k * 9 + t) q (omega arith) ∙ float-miss w (at + 9) (k * 9 + t) p (omega arith) ∙ o.below k (omega arith) m;
          uppers = λ k m. float-miss w1 (at + 15) (k * 9 + (3 + t)) q (omega arith) ∙ float-miss w (at + 9) (k * 9 + (3 + t)) p (omega arith) ∙ o.uppers k m;
          rights = λ k l. ⊎_elim
              (λ h. float-hit w1 (at + 15) (k * 9 + (6 + t)) r.right right-fits (simp length-set (omega arith)) (omega arith) ∙ new-right ∙ ap (reduced e) (sym h))
              (λ h. float-miss w1 (at + 15) (k * 9 + (6 + t)) q (omega arith) ∙ float-miss w (at + 9) (k * 9 + (6 + t)) p (omega arith) ∙ o.rights k h)
              (grown k i l);
          under = λ k l m. float-miss w1 (at + 15) (k * 9 + (6 + t)) q (omega arith) ∙ float-miss w (at + 9) (k * 9 + (6 + t)) p (omega arith) ∙ o.under k (omega arith) m;
        }

    pub reached-more : Reached w₀ n (i + 1) t w' r
    reached-more = record {
      pivot-is = new-pivot;
      right_is = new-right;
      good-is = d.good ∙ goes_same _ _ _ _ _ _ diagonal-at new-pivot new-right;
      above = λ k l. ⊎_elim
          (λ h. let q : k ≡ i = omega arith in ap (good_row e) q ∙ sym s.good-is ∙ g)
          (λ h. s.above k (omega arith))
          (eq-or-lt_of_le l);
      rows = λ y. let q : w' ≡ set (set w (at + 9) (pattern_of r.pivot)) (at + 15) (pattern_of r.right) = taken r.good _ _ _ y d.stored in rw q stored-rows;
    }

-- ---- the three axes

pub record Eliminating (w₀ : List ℕ) (n i : ℕ) (w : List ℕ) (x y z : Row) : Type 0 where
  pub inside : i < n
  pub room : n * 9 ≤ length w₀
  pub long : length w ≡ length w₀
  pub kept : SameOutside 0 (n * 9) w₀ w
  pub on-x : Reached w₀ n i 0 w x
  pub on-y : Reached w₀ n i 1 w y
  pub on-z : Reached w₀ n i 2 w z

module _ (w₀ : List ℕ) (n i : ℕ) (w : List ℕ) (x y z : Row) (s : Eliminating w₀ n i w x y z) where
  pub eliminating_ends : (x.good && (y.good && z.good)) ≡ false → Eliminated w₀ n false w
  eliminating_ends f =
      let X = axis_solved (axis_in w₀ 0) n in
      let Y = axis_solved (axis_in w₀ 1) n in
      let Z = axis_solved (axis_in w₀ 2) n in
      record {
        kept = s.kept;
        left = λ h. let q : ◌≡◌ {A = ℕ} 0 1 = cc in absurd (omega arith);
        ends = λ _. ⊎_elim
            (λ a. first-fails X Y Z (bad-fails (axis_in w₀ 0) n i s.inside (sym s.on-x.good-is ∙ a)))
            (λ b. ⊎_elim
            (λ a. second-fails X Y Z (bad-fails (axis_in w₀ 1) n i s.inside (sym s.on-y.good-is ∙ a)))
            (λ a. third-fails X Y Z (bad-fails (axis_in w₀ 2) n i s.inside (sym s.on-z.good-is ∙ a))) b)
            (who-fails x.good y.good z.good f);
      }

  left-of : (t : ℕ) (r : Row) → n ≤ i + 1 → Reached w₀ n i t w r → r.good ≡ true → Left (axis_in w₀ t) n (axis_in w t)
  left-of t r h a g = record {
    good = each_of (good_row (axis_in w₀ t)) n (λ k l. ⊎_elim
        (λ q. let e : k ≡ i = omega (arith, s.inside) in ap (good_row (axis_in w₀ t)) e ∙ sym a.good-is ∙ g)
        (λ q. a.above k (omega (arith, s.inside)))
        (eq-or-lt_of_le l));
    same = record {
      diagonal = λ k l. (a.rows g).pivots k (omega arith);
      upper = λ k l. (a.rows g).uppers k l;
      right = λ k l. (a.rows g).rights k (omega arith);
    };
  }

  pub eliminating_all : (x.good && (y.good && z.good)) ≡ true → n ≤ i + 1 → Eliminated w₀ n true w
  eliminating_all g h = record {
    kept = s.kept;
    left = λ _. record {
      x = left-of 0 x h s.on-x (left-true x.good (y.good && z.good) g);
      y = left-of 1 y h s.on-y (left-true y.good z.good (right-true x.good (y.good && z.good) g));
      z = left-of 2 z h s.on-z (right-true y.good z.good (right-true x.good (y.good && z.good) g));
    };
    ends = λ q. let z : ◌≡◌ {A = ℕ} 0 1 = cc in absurd (omega arith);
  }

  pub eliminating_done : n ≤ i + 1 → Eliminated w₀ n (x.good && (y.good && z.good)) w
  eliminating_done h = go (x.good && (y.good && z.good)) refl
    where
      go : (b : Bool) → (x.good && (y.good && z.good)) ≡ b → Eliminated w₀ n b w
      go true e = eliminating_all e h
      go false e = eliminating_ends e

-- one row more: the calls on x, y and z, from w to w1, w2 and w3
module _ (w₀ : List ℕ) (n i : ℕ) (w : List ℕ) (x y z : Row) (s : Eliminating w₀ n i w x y z) (m : Axes (λ t. NoNan (axis_in w₀ t) n)) (g : (x.good && (y.good && z.good)) ≡ true) (more : i + 1 < n)
    (at : ℕ) (place : at ≡ i * 9) where
  good-x : x.good ≡ true
  good-x = left-true x.good (y.good && z.good) g

  good-y : y.good ≡ true
  good-y = left-true y.good z.good (right-true x.good (y.good && z.good) g)

  good-z : z.good ≡ true
  good-z = right-true y.good z.good (right-true x.good (y.good && z.good) g)

  pub row-x-needs : NumbersAt w (at + 3) (at + 9) (at + 15)
  row-x-needs = numbers-below w₀ n i 0 w x at (omega arith) (omega arith) more s.on-x good-x m.x

  module _ (x' : Row) (w1 : List ℕ) (d1 : RowEliminated w at x x' w1) where
    touched-x : Touched 0 n w w1
    touched-x = row-touched w₀ n i 0 w x at (omega arith) (omega arith) more s.on-x good-x x' w1 (omega (arith, s.long, s.room)) d1

    y1 : Reached w₀ n i 1 w1 y
    y1 = reached-beside w₀ n i 1 w w1 y (beside 0 1 n w w1 (omega arith) (omega arith) (omega arith) touched-x) s.on-y

    pub row-y-needs : NumbersAt w1 (at + 1 + 3) (at + 1 + 9) (at + 1 + 15)
    row-y-needs = numbers-below w₀ n i 1 w1 y (at + 1) (omega arith) (omega arith) more y1 good-y m.y

    module _ (l1 : length w1 ≡ length w) (y' : Row) (w2 : List ℕ) (d2 : RowEliminated w1 (at + 1) y y' w2) where
      touched-y : Touched 1 n w1 w2
      touched-y = row-touched w₀ n i 1 w1 y (at + 1) (omega arith) (omega arith) more y1 good-y y' w2 (omega (arith, l1, s.long, s.room)) d2

      z2 : Reached w₀ n i 2 w2 z
      z2 = reached-beside w₀ n i 2 w1 w2 z (beside 1 2 n w1 w2 (omega arith) (omega arith) (omega arith) touched-y)
          (reached-beside w₀ n i 2 w w1 z (beside 0 2 n w w1 (omega arith) (omega arith) (omega arith) touched-x) s.on-z)

      pub row-z-needs : NumbersAt w2 (at + 2 + 3) (at + 2 + 9) (at + 2 + 15)
      row-z-needs = numbers-below w₀ n i 2 w2 z (at + 2) (omega arith) (omega arith) more z2 good-z m.z

      module _ (l2 : length w2 ≡ length w1) (z' : Row) (w3 : List ℕ) (d3 : RowEliminated w2 (at + 2) z z' w3) (l3 : length w3 ≡ length w2) where
        touched-z : Touched 2 n w2 w3
        touched-z = row-touched w₀ n i 2 w2 z (at + 2) (omega arith) (omega arith) more z2 good-z z' w3 (omega (arith, l2, l1, s.long, s.room)) d3

        pub eliminating_more : Eliminating w₀ n (i + 1) w3 x' y' z'
        eliminating_more = record {
          inside = more;
          room = s.room;
          long = l3 ∙ l2 ∙ l1 ∙ s.long;
          kept = kept_then 0 (n * 9) 0 (n * 9) w₀ w2 w3 (omega arith) (omega arith)
              (kept_then 0 (n * 9) 0 (n * 9) w₀ w1 w2 (omega arith) (omega arith)
              (kept_then 0 (n * 9) 0 (n * 9) w₀ w w1 (omega arith) (omega arith) s.kept touched-x.kept) touched-y.kept) touched-z.kept;
          on-x = reached-beside w₀ n (i + 1) 0 w2 w3 x' (beside 2 0 n w2 w3 (omega arith) (omega arith) (omega arith) touched-z)
              (reached-beside w₀ n (i + 1) 0 w1 w2 x' (beside 1 0 n w1 w2 (omega arith) (omega arith) (omega arith) touched-y)
              (reached-more w₀ n i 0 w x at (omega arith) (omega arith) more s.on-x good-x x' w1 (omega (arith, s.long, s.room)) d1));
          on-y = reached-beside w₀ n (i + 1) 1 w2 w3 y' (beside 2 1 n w2 w3 (omega arith) (omega arith) (omega arith) touched-z)
              (reached-more w₀ n i 1 w1 y (at + 1) (omega arith) (omega arith) more y1 good-y y' w2 (omega (arith, l1, s.long, s.room)) d2);
          on-z = reached-more w₀ n i 2 w2 z (at + 2) (omega arith) (omega arith) more z2 good-z z' w3 (omega (arith, l2, l1, s.long, s.room)) d3;
        }
