-- The back substitution, one row of the three axes at a time, and the whole solution. Assumes nothing.
use mathlib.Core.Path.{◌≡◌, refl, sym, ◌∙◌, ap, subst}
use mathlib.Core.Logic.{⊎_elim}
use mathlib.Core.Bool.{Bool, true, false, not, ◌&&◌, cond}
use mathlib.Core.List.{List}
use Prim.Native.Nat.{ℕ, suc, ◌+◌, ◌-◌, ◌*◌, ◌≤◌, ◌<◌}
use native.Mathlib.Nat.{eq-or-lt_of_le}
use native.Mathlib.Omega.{arith}
use lib.Dec.{T, eqb}
use borrow.Author.Tests.{eqb-true, eqb-false}
use lib.ListN.{length, set}
use lib.Ieee.{Float, is_nan, le, binary64, fits, to_bits}
use lib.Ieee.Scale.{finite}
use lib.Ieee.Fits.{div-fits}
use Rattle.exact.specs.Float.{◌⊖◌, ◌⊗◌, ◌⊘◌, +0}
use Rattle.numeric.specs.Order.{pattern_of}
use Rattle.numeric.proofs.OrderLaws.{pattern_bits}
use Rattle.track_tridiagonal.specs.Rows.{float_at, row_cell, axis_in, Axes, SameOutside, Solved}
use Rattle.track_tridiagonal.specs.Tridiagonal.{Equations, each_below, pivot, reduced, vanishing, eliminated, solvable, back, solution, held, finite_solution, axis_solved, NoNan}
use Rattle.track_tridiagonal.specs.Steps.{NumbersAt, RowSolved, Left, Eliminated, Substituted, good_row}
use Rattle.track_tridiagonal.proofs.EachBelow.{each_at, each_of, each_same, each-fails, left-true, right-true, first-fails, second-fails, third-fails, who-fails, all_three}
use Rattle.track_tridiagonal.proofs.Cells.{kept_then, float-place, float-hit, float-miss}
use Rattle.track_tridiagonal.proofs.Axes.{Beside, beside, Touched, touched_none, touched-right, touched_if, taken}
use Rattle.track_tridiagonal.proofs.Alike.{back-same}

back_last : (e : Equations) (m j : ℕ) (a c : Float) → j ≡ 0 → a ≡ e.right m → c ≡ e.diagonal m → a ⊘ c ≡ back e m j
unfolding back
back_last e m j a c ej ea ec = rw (ej, ea, ec)

back-next : (e : Equations) (m k : ℕ) (a b c x : Float) → k < m → a ≡ e.right k → b ≡ e.upper k → c ≡ e.diagonal k → x ≡ back e m (m - (k + 1)) → (a ⊖ b ⊗ x) ⊘ c ≡ back e m (m - k)
unfolding back
back-next e m k a b c x h ea eb ec ex =
    let f : m - k ≡ suc (m - (k + 1)) = omega arith in
    let g : m - suc (m - (k + 1)) ≡ k = omega arith in
    rw (f, g, ea, eb, ec, ex)

-- the unknown of row j
abbrev pub unknown_of : List ℕ → (n t j : ℕ) → Float
unknown_of w n t j = back (axis_in w t) (n - 1) (n - 1 - j)

-- ---- one axis, the unknowns of rows k to n - 1 found and finite; x is that of row k

pub record Found (w₀ : List ℕ) (n k t : ℕ) (w : List ℕ) (x : Float) : Type 0 where
  pub diagonal : (j : ℕ) → j < n → row_cell w t j ≡ row_cell w₀ t j
  pub upper : (j : ℕ) → j < n → row_cell w (3 + t) j ≡ row_cell w₀ (3 + t) j
  pub above : (j : ℕ) → j < k → row_cell w (6 + t) j ≡ row_cell w₀ (6 + t) j
  pub done : (j : ℕ) → k ≤ j → j < n → row_cell w (6 + t) j ≡ unknown_of w₀ n t j
  pub ends : (j : ℕ) → k ≤ j → j < n → finite (unknown_of w₀ n t j) ≡ true
  pub next : k < n → x ≡ unknown_of w₀ n t k

pub found_none : (w₀ : List ℕ) (n t : ℕ) (x : Float) → Found w₀ n n t w₀ x
found_none w₀ n t x = record {
  diagonal = λ j l. refl;
  upper = λ j l. refl;
  above = λ j l. refl;
  done = λ j l m. absurd (omega arith);
  ends = λ j l m. absurd (omega arith);
  next = λ l. absurd (omega arith);
}

found-beside : (w₀ : List ℕ) (n k t : ℕ) (w w' : List ℕ) (x : Float) → Beside t w w' → Found w₀ n k t w x → Found w₀ n k t w' x
found-beside w₀ n k t w w' x b s = record {
  diagonal = λ j l. b.diagonal j ∙ s.diagonal j l;
  upper = λ j l. b.upper j ∙ s.upper j l;
  above = λ j l. b.right j ∙ s.above j l;
  done = λ j l m. b.right j ∙ s.done j l m;
  ends = s.ends;
  next = s.next;
}

-- row k, by the unknown x of row k + 1
module _ (w₀ : List ℕ) (n k t : ℕ) (w : List ℕ) (x : Float) (at : ℕ) (place : at ≡ k * 9 + t) (small : t < 3) (inside : k < n) (s : Found w₀ n (k + 1) t w x) where
  diagonal-at : float_at w at ≡ row_cell w₀ t k
  diagonal-at = float-place w at (k * 9 + t) place ∙ s.diagonal k inside

  upper-at : float_at w (at + 3) ≡ row_cell w₀ (3 + t) k
  upper-at = float-place w (at + 3) (k * 9 + (3 + t)) (omega arith) ∙ s.upper k inside

  right-at : float_at w (at + 6) ≡ row_cell w₀ (6 + t) k
  right-at = float-place w (at + 6) (k * 9 + (6 + t)) (omega arith) ∙ s.above k (omega arith)

  pub row-needs : NoNan (axis_in w₀ t) n → NumbersAt w at (at + 3) (at + 6)
  row-needs m = record {
    first = ap is_nan diagonal-at ∙ m.diagonal k inside;
    second = ap is_nan upper-at ∙ m.upper k inside;
    third = ap is_nan right-at ∙ m.right k inside;
  }

  module _ (last : Bool) (v : Float) (w' : List ℕ) (room : n * 9 ≤ length w) (el : last ≡ eqb (k + 1) n) (d : RowSolved w at last x v w') where
    pub solved-touched : Touched t n w w'
    solved-touched = touched_if t n w _ w' (finite v) d.stored (touched-right t n w w small (touched_none t n w) k (at + 6) (pattern_of v) inside (omega arith))

    pub unknown-is : v ≡ unknown_of w₀ n t k
    unknown-is = d.unknown ∙ go last el
      where
        go : (b : Bool) → b ≡ eqb (k + 1) n → cond b (float_at w (at + 6)) (float_at w (at + 6) ⊖ float_at w (at + 3) ⊗ x) ⊘ float_at w at ≡ unknown_of w₀ n t k
        go true e =
            let h : k + 1 ≡ n = eqb-true (k + 1) n (sym e) in
            let g : k ≡ n - 1 = omega arith in
            back_last (axis_in w₀ t) (n - 1) (n - 1 - k) _ _ (omega arith) (right-at ∙ ap (row_cell w₀ (6 + t)) g) (diagonal-at ∙ ap (row_cell w₀ t) g)
        go false e =
            let h : k + 1 < n = strict (eqb-false (k + 1) n (sym e)) in
            back-next (axis_in w₀ t) (n - 1) k _ _ _ _ (omega arith) right-at upper-at diagonal-at (s.next h)
          where
            strict : (k + 1 ≡ n → ⊥) → k + 1 < n
            strict f = ⊎_elim (λ q. absurd (f (omega arith))) (λ q. omega arith) (eq-or-lt_of_le inside)

    value-fits : T (fits binary64 v)
    value-fits = rw d.unknown (div-fits binary64 _ _)

    pub found-more : finite v ≡ true → Found w₀ n k t w' v
    found-more f =
        let p = at + 6 in
        let q : w' ≡ set w p (pattern_of v) = taken (finite v) _ _ _ f d.stored in
        rw q
        (record {
          diagonal = λ j l. float-miss w p (j * 9 + t) (pattern_of v) (omega arith) ∙ s.diagonal j l;
          upper = λ j l. float-miss w p (j * 9 + (3 + t)) (pattern_of v) (omega arith) ∙ s.upper j l;
          above = λ j l. float-miss w p (j * 9 + (6 + t)) (pattern_of v) (omega arith) ∙ s.above j (omega arith);
          done = λ j l m. ⊎_elim
              (λ g. float-hit w p (j * 9 + (6 + t)) v value-fits (omega arith) (omega arith) ∙ unknown-is ∙ ap (unknown_of w₀ n t) g)
              (λ g. float-miss w p (j * 9 + (6 + t)) (pattern_of v) (omega arith) ∙ s.done j (omega arith) m)
              (eq-or-lt_of_le l);
          ends = λ j l m. ⊎_elim (λ g. ap (λ (i : ℕ). finite (unknown_of w₀ n t i)) (sym g) ∙ ap finite (sym unknown-is) ∙ f) (λ g. s.ends j (omega arith) m) (eq-or-lt_of_le l);
          next = λ l. unknown-is;
        })

-- the value that the call gives, stored or not
module _ (w : List ℕ) (at : ℕ) (last : Bool) (x v : Float) (e : v ≡ cond last (float_at w (at + 6)) (float_at w (at + 6) ⊖ float_at w (at + 3) ⊗ x) ⊘ float_at w at) where
  pub row-left : finite v ≡ false → RowSolved w at last x v w
  row-left f = record { unknown = e; stored = rw f }

  pub row-stored : finite v ≡ true → RowSolved w at last x v (set w (at + 6) (to_bits binary64 v))
  row-stored f = record { unknown = e; stored = rw (f, pattern_bits v) }

-- ---- the three axes

pub record Substituting (w₀ : List ℕ) (n k : ℕ) (w : List ℕ) (x y z : Float) : Type 0 where
  pub inside : k ≤ n
  pub room : n * 9 ≤ length w₀
  pub long : length w ≡ length w₀
  pub kept : SameOutside 0 (n * 9) w₀ w
  pub on-x : Found w₀ n k 0 w x
  pub on-y : Found w₀ n k 1 w y
  pub on-z : Found w₀ n k 2 w z

pub substituting_all : (w₀ : List ℕ) (n k : ℕ) (w : List ℕ) (x y z : Float) → k ≤ 0 → Substituting w₀ n k w x y z → Substituted w₀ n true w
substituting_all w₀ n k w x y z h s =
    let f : ℕ → ℕ → Bool = λ t j. finite (unknown_of w₀ n t j) in
    record {
      kept = s.kept;
      answer = sym (all_three (each_below (f 0) n) (each_below (f 1) n) (each_below (f 2) n)
          (each_of (f 0) n (λ j l. s.on-x.ends j (omega arith) l))
          (each_of (f 1) n (λ j l. s.on-y.ends j (omega arith) l))
          (each_of (f 2) n (λ j l. s.on-z.ends j (omega arith) l)));
      unknowns = λ _. record { x = λ j l. s.on-x.done j (omega arith) l; y = λ j l. s.on-y.done j (omega arith) l; z = λ j l. s.on-z.done j (omega arith) l };
    }

-- row k: the calls on x, y and z, from w to w1, w2 and w3
module _ (w₀ : List ℕ) (n k : ℕ) (w : List ℕ) (x y z : Float) (s : Substituting w₀ n (k + 1) w x y z) (m : Axes (λ t. NoNan (axis_in w₀ t) n)) (at : ℕ) (place : at ≡ k * 9) (last : Bool) (el : last ≡ eqb (k + 1) n) where
  pub row-x-needs : NumbersAt w at (at + 3) (at + 6)
  row-x-needs = row-needs w₀ n k 0 w x at (omega arith) (omega arith) (omega (arith, s.inside)) s.on-x m.x

  module _ (x' : Float) (w1 : List ℕ) (d1 : RowSolved w at last x x' w1) where
    touched-x : Touched 0 n w w1
    touched-x = solved-touched w₀ n k 0 w x at (omega arith) (omega arith) (omega (arith, s.inside)) s.on-x last x' w1 (omega (arith, s.long, s.room)) el d1

    y1 : Found w₀ n (k + 1) 1 w1 y
    y1 = found-beside w₀ n (k + 1) 1 w w1 y (beside 0 1 n w w1 (omega arith) (omega arith) (omega arith) touched-x) s.on-y

    pub row-y-needs : NumbersAt w1 (at + 1) (at + 1 + 3) (at + 1 + 6)
    row-y-needs = row-needs w₀ n k 1 w1 y (at + 1) (omega arith) (omega arith) (omega (arith, s.inside)) y1 m.y

    module _ (l1 : length w1 ≡ length w) (y' : Float) (w2 : List ℕ) (d2 : RowSolved w1 (at + 1) last y y' w2) where
      touched-y : Touched 1 n w1 w2
      touched-y = solved-touched w₀ n k 1 w1 y (at + 1) (omega arith) (omega arith) (omega (arith, s.inside)) y1 last y' w2 (omega (arith, l1, s.long, s.room)) el d2

      z2 : Found w₀ n (k + 1) 2 w2 z
      z2 = found-beside w₀ n (k + 1) 2 w1 w2 z (beside 1 2 n w1 w2 (omega arith) (omega arith) (omega arith) touched-y)
          (found-beside w₀ n (k + 1) 2 w w1 z (beside 0 2 n w w1 (omega arith) (omega arith) (omega arith) touched-x) s.on-z)

      pub row-z-needs : NumbersAt w2 (at + 2) (at + 2 + 3) (at + 2 + 6)
      row-z-needs = row-needs w₀ n k 2 w2 z (at + 2) (omega arith) (omega arith) (omega (arith, s.inside)) z2 m.z

      module _ (l2 : length w2 ≡ length w1) (z' : Float) (w3 : List ℕ) (d3 : RowSolved w2 (at + 2) last z z' w3) (l3 : length w3 ≡ length w2) where
        touched-z : Touched 2 n w2 w3
        touched-z = solved-touched w₀ n k 2 w2 z (at + 2) (omega arith) (omega arith) (omega (arith, s.inside)) z2 last z' w3 (omega (arith, l2, l1, s.long, s.room)) el d3

        kept-all : SameOutside 0 (n * 9) w₀ w3
        kept-all = kept_then 0 (n * 9) 0 (n * 9) w₀ w2 w3 (omega arith) (omega arith)
            (kept_then 0 (n * 9) 0 (n * 9) w₀ w1 w2 (omega arith) (omega arith)
            (kept_then 0 (n * 9) 0 (n * 9) w₀ w w1 (omega arith) (omega arith) s.kept touched-x.kept) touched-y.kept) touched-z.kept

        is_x : x' ≡ unknown_of w₀ n 0 k
        is_x = unknown-is w₀ n k 0 w x at (omega arith) (omega arith) (omega (arith, s.inside)) s.on-x last x' w1 (omega (arith, s.long, s.room)) el d1

        is_y : y' ≡ unknown_of w₀ n 1 k
        is_y = unknown-is w₀ n k 1 w1 y (at + 1) (omega arith) (omega arith) (omega (arith, s.inside)) y1 last y' w2 (omega (arith, l1, s.long, s.room)) el d2

        is-z : z' ≡ unknown_of w₀ n 2 k
        is-z = unknown-is w₀ n k 2 w2 z (at + 2) (omega arith) (omega arith) (omega (arith, s.inside)) z2 last z' w3 (omega (arith, l2, l1, s.long, s.room)) el d3

        pub substituting_ends : (finite x' && (finite y' && finite z')) ≡ false → Substituted w₀ n false w3
        substituting_ends f =
            let g : ℕ → ℕ → Bool = λ t j. finite (unknown_of w₀ n t j) in
            let X = each_below (g 0) n in
            let Y = each_below (g 1) n in
            let Z = each_below (g 2) n in
            let h : k < n = omega (arith, s.inside) in
            record {
              kept = kept-all;
              answer = sym (⊎_elim
                  (λ a. first-fails X Y Z (each-fails (g 0) k n h (ap finite (sym is_x) ∙ a)))
                  (λ b. ⊎_elim
                  (λ a. second-fails X Y Z (each-fails (g 1) k n h (ap finite (sym is_y) ∙ a)))
                  (λ a. third-fails X Y Z (each-fails (g 2) k n h (ap finite (sym is-z) ∙ a))) b)
                  (who-fails (finite x') (finite y') (finite z') f));
              unknowns = λ q. let z : ◌≡◌ {A = ℕ} 0 1 = cc in absurd (omega arith);
            }

        pub substituting_more : (finite x' && (finite y' && finite z')) ≡ true → Substituting w₀ n k w3 x' y' z'
        substituting_more f =
            let fx : finite x' ≡ true = left-true (finite x') (finite y' && finite z') f in
            let fy : finite y' ≡ true = left-true (finite y') (finite z') (right-true (finite x') (finite y' && finite z') f) in
            let fz : finite z' ≡ true = right-true (finite y') (finite z') (right-true (finite x') (finite y' && finite z') f) in
            record {
              inside = omega (arith, s.inside);
              room = s.room;
              long = l3 ∙ l2 ∙ l1 ∙ s.long;
              kept = kept-all;
              on-x = found-beside w₀ n k 0 w2 w3 x' (beside 2 0 n w2 w3 (omega arith) (omega arith) (omega arith) touched-z)
                  (found-beside w₀ n k 0 w1 w2 x' (beside 1 0 n w1 w2 (omega arith) (omega arith) (omega arith) touched-y)
                  (found-more w₀ n k 0 w x at (omega arith) (omega arith) (omega (arith, s.inside)) s.on-x last x' w1 (omega (arith, s.long, s.room)) el d1 fx));
              on-y = found-beside w₀ n k 1 w2 w3 y' (beside 2 1 n w2 w3 (omega arith) (omega arith) (omega arith) touched-z)
                  (found-more w₀ n k 1 w1 y (at + 1) (omega arith) (omega arith) (omega (arith, s.inside)) y1 last y' w2 (omega (arith, l1, s.long, s.room)) el d2 fy);
              on-z = found-more w₀ n k 2 w2 z (at + 2) (omega arith) (omega arith) (omega (arith, s.inside)) z2 last z' w3 (omega (arith, l2, l1, s.long, s.room)) el d3 fz;
            }

-- the loop counts k down first
pub at_next : (w₀ : List ℕ) (n k : ℕ) (w : List ℕ) (x y z : Float) → 0 < k → Substituting w₀ n k w x y z → Substituting w₀ n (k - 1 + 1) w x y z
at_next w₀ n k w x y z h s = let e : k ≡ k - 1 + 1 = omega arith in subst (λ (q : ℕ). Substituting w₀ n q w x y z) e s

pub three-finite : (x y z : Float) (a b c : Bool) → a ≡ finite x → b ≡ finite y → c ≡ finite z → (finite x && (finite y && finite z)) ≡ (a && (b && c))
three-finite x y z a b c e f g = rw (e, f, g)

-- ---- the two together

-- a row that lets the elimination go on is held, its pivot does not vanish, and no NaN stands in it
module _ (e : Equations) (n : ℕ) (g : each_below (good_row e) n ≡ true) where
  good-at : (k : ℕ) → k < n → good_row e k ≡ true
  good-at k h = each_at (good_row e) n g k h

  all_held : held e n ≡ true
  all_held = each_of (λ k. not (le (e.diagonal k) +0)) n
      (λ k h. left-true (not (le (e.diagonal k) +0)) (not (vanishing (pivot e k)) && (not (is_nan (pivot e k)) && not (is_nan (reduced e k)))) (good-at k h))

  rest_at : (k : ℕ) → k < n → (not (vanishing (pivot e k)) && (not (is_nan (pivot e k)) && not (is_nan (reduced e k)))) ≡ true
  rest_at k h = right-true (not (le (e.diagonal k) +0)) (not (vanishing (pivot e k)) && (not (is_nan (pivot e k)) && not (is_nan (reduced e k)))) (good-at k h)

  all-solvable : solvable e n ≡ true
  all-solvable = each_of (λ k. not (vanishing (pivot e k))) n (λ k h. left-true (not (vanishing (pivot e k))) (not (is_nan (pivot e k)) && not (is_nan (reduced e k))) (rest_at k h))

  numbers-at : (k : ℕ) → k < n → (not (is_nan (pivot e k)) && not (is_nan (reduced e k))) ≡ true
  numbers-at k h = right-true (not (vanishing (pivot e k))) (not (is_nan (pivot e k)) && not (is_nan (reduced e k))) (rest_at k h)

  pub answer-left : finite_solution e n ≡ axis_solved e n
  answer-left = rw (all_held, all-solvable)

un_not : (b : Bool) → not b ≡ true → b ≡ false
un_not true h = cc
un_not false h = refl

pub left-numbers : (e : Equations) (n : ℕ) (e' : Equations) → NoNan e n → Left e n e' → NoNan e' n
left-numbers e n e' m l = record {
  diagonal = λ k h. ap is_nan (l.same.diagonal k h) ∙ un_not (is_nan (pivot e k)) (left-true (not (is_nan (pivot e k))) (not (is_nan (reduced e k))) (numbers-at e n l.good k h));
  upper = λ k h. ap is_nan (l.same.upper k h) ∙ m.upper k h;
  right = λ k h. ap is_nan (l.same.right k h) ∙ un_not (is_nan (reduced e k)) (right-true (not (is_nan (pivot e k))) (not (is_nan (reduced e k))) (numbers-at e n l.good k h));
}

module _ (w₀ : List ℕ) (n : ℕ) (ok : Bool) (w w' : List ℕ) (some : 0 < n) (e : Eliminated w₀ n ok w) where
  same-unknown : (t : ℕ) → Left (axis_in w₀ t) n (axis_in w t) → (k : ℕ) → unknown_of w n t k ≡ solution (axis_in w₀ t) n k
  unfolding solution
  same-unknown t l k = back-same (eliminated (axis_in w₀ t)) (axis_in w t) (n - 1) n (omega arith) l.same (n - 1 - k)

  same_answer : (t : ℕ) → Left (axis_in w₀ t) n (axis_in w t) → each_below (λ k. finite (unknown_of w n t k)) n ≡ axis_solved (axis_in w₀ t) n
  same_answer t l =
      each_same (λ k. finite (unknown_of w n t k)) (λ k. finite (solution (axis_in w₀ t) n k)) n (λ k h. ap finite (same-unknown t l k)) ∙ answer-left (axis_in w₀ t) n l.good

  pub solved : ok ≡ true → (ok' : Bool) → Substituted w n ok' w' → Solved w₀ n ok' w'
  solved t ok' s =
      let l = e.left t in
      record {
        kept = kept_then 0 (n * 9) 0 (n * 9) w₀ w w' (omega arith) (omega arith) e.kept s.kept;
        answer = s.answer ∙ rw (same_answer 0 l.x, same_answer 1 l.y, same_answer 2 l.z);
        solutions = λ y. record {
          x = λ k h. (s.unknowns y).x k h ∙ same-unknown 0 l.x k;
          y = λ k h. (s.unknowns y).y k h ∙ same-unknown 1 l.y k;
          z = λ k h. (s.unknowns y).z k h ∙ same-unknown 2 l.z k;
        };
      }

pub unsolved : (w₀ : List ℕ) (n : ℕ) (ok : Bool) (w : List ℕ) → Eliminated w₀ n ok w → ok ≡ false → Solved w₀ n false w
unsolved w₀ n ok w e t = record { kept = e.kept; answer = sym (e.ends t); solutions = λ h. let z : ◌≡◌ {A = ℕ} 0 1 = cc in absurd (omega arith) }
