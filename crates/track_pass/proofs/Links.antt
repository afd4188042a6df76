-- A link, added to the row of one axis and the next. Assumes nothing.
use mathlib.Core.Path.{◌≡◌, refl, sym, ◌∙◌, ap}
use mathlib.Core.Logic.{inl, inr, ⊎_elim}
use mathlib.Core.Bool.{Bool, true, false, ◌&&◌, cond}
use mathlib.Core.List.{List}
use Prim.Native.Nat.{ℕ, ◌+◌, ◌*◌, ◌≤◌, ◌<◌}
use native.Mathlib.Omega.{arith}
use lib.Dec.{eqb}
use lib.ListN.{length, get_or, set, length-set}
use lib.Ieee.{Float, nan, is_nan, eq, binary64, to_bits}
use lib.Ieee.Fits.{add-fits, sub-fits}
use Rattle.exact.specs.Float.{◌⊕◌, ◌⊖◌, ◌⊗◌, ◌⊘◌}
use Rattle.numeric.specs.Order.{pattern_of}
use Rattle.numeric.proofs.OrderLaws.{pattern_bits}
use Rattle.track_tridiagonal.specs.Rows.{float_at, row_cell, axis_in}
use Rattle.track_tridiagonal.specs.Steps.{Alike, NumbersAt}
use Rattle.track_tridiagonal.specs.Tridiagonal.{Spoilt}
use Rattle.track_tridiagonal.proofs.EachBelow.{left-true, right-true}
use Rattle.track_tridiagonal.proofs.Cells.{same_float, float-place, float-hit, float-miss, float-miss2, float-miss3, number-set, update}
use Rattle.track_tridiagonal.proofs.Axes.{touched_none, touched-diagonal, touched-upper, touched-right, touched_if, taken}
use Rattle.track_tridiagonal.proofs.Nan.{IsNan, which-fails, un_not}
use Rattle.track_pass.specs.Input.{Measured, index_at}
use Rattle.track_pass.specs.Equations.{track_weight, link_pull}
use Rattle.track_pass.specs.Steps.{number, LinkAdded, AddDone, link_change, changed_by}
use Rattle.track_pass.proofs.Changed.{lower-next, both-next, across-next}
use Rattle.track_pass.proofs.Adding.{AxisAdded, Step, Adding, links-steady, y-next, z-next, adding-ends, adding-more}
use Rattle.track_pass.proofs.Anchors.{not_number, self-equal}

-- five numbers
pub record Five (a b c d e : Bool) : Type 0 where
  pub one : a ≡ true
  pub two : b ≡ true
  pub three : c ≡ true
  pub four : d ≡ true
  pub five : e ≡ true

pub all-five : (a b c d e : Bool) → (a && (b && (c && (d && e)))) ≡ true → Five a b c d e
all-five a b c d e h =
    let h1 = right-true a (b && (c && (d && e))) h in
    let h2 = right-true b (c && (d && e)) h1 in
    let h3 = right-true c (d && e) h2 in
    record { one = left-true a _ h; two = left-true b _ h1; three = left-true c _ h2; four = left-true d e h3; five = right-true d e h3 }

-- ---- the call

pub five-numbers : (d u r e q : Float) → (eq d d && (eq u u && (eq r r && (eq e e && eq q q)))) ≡ true → Five (number d) (number u) (number r) (number e) (number q)
five-numbers d u r e q t =
    let f = all-five (eq d d) (eq u u) (eq r r) (eq e e) (eq q q) t in
    record { one = sym (self-equal d) ∙ f.one; two = sym (self-equal u) ∙ f.two; three = sym (self-equal r) ∙ f.three; four = sym (self-equal e) ∙ f.four; five = sym (self-equal q) ∙ f.five }

module _ (w : List ℕ) (at : ℕ) (a b : Float) where
  abbrev D : Float
  D = float_at w at ⊕ a

  abbrev U : Float
  U = float_at w (at + 3) ⊖ a

  abbrev R : Float
  R = float_at w (at + 6) ⊖ b

  abbrev E : Float
  E = float_at w (at + 9) ⊕ a

  abbrev Q : Float
  Q = float_at w (at + 15) ⊕ b

  link-test : (eq D D && (eq U U && (eq R R && (eq E E && eq Q Q)))) ≡ (number D && (number U && (number R && (number E && number Q))))
  link-test = rw (self-equal D, self-equal U, self-equal R, self-equal E, self-equal Q)

  pub link_left : (eq D D && (eq U U && (eq R R && (eq E E && eq Q Q)))) ≡ false → LinkAdded w at a b false w
  link_left f = record { answer = sym (sym link-test ∙ f); stored = refl }

  pub link-stored : (eq D D && (eq U U && (eq R R && (eq E E && eq Q Q)))) ≡ true
      → LinkAdded w at a b true (set (set (set (set (set w at (to_bits binary64 D)) (at + 3) (to_bits binary64 U)) (at + 6) (to_bits binary64 R)) (at + 9) (to_bits binary64 E)) (at + 15) (to_bits binary64 Q))
  link-stored t = record { answer = sym (sym link-test ∙ t); stored = rw (pattern_bits D, pattern_bits U, pattern_bits R, pattern_bits E, pattern_bits Q) }

-- ---- what it does to its axis

module _ (w₀ : List ℕ) (n : ℕ) (m : Measured) (scale : ℕ → Float) (j t i : ℕ) (w : List ℕ) (at : ℕ) (a b : Float) (place : at ≡ i * 9 + t) (small : t < 3) (inside : i + 1 < n) (room : n * 9 ≤ length w) (ei : i ≡ index_at m j)
    (ea : a ≡ track_weight m scale t j) (eb : b ≡ link_pull m scale t j) (s : AxisAdded (link_change m scale) w₀ n t j w) where
  abbrev d : Float
  d = float_at w at ⊕ a

  abbrev u : Float
  u = float_at w (at + 3) ⊖ a

  abbrev r : Float
  r = float_at w (at + 6) ⊖ b

  abbrev e : Float
  e = float_at w (at + 9) ⊕ a

  abbrev q : Float
  q = float_at w (at + 15) ⊕ b

  abbrev w1 : List ℕ
  w1 = set w at (pattern_of d)

  abbrev w2 : List ℕ
  w2 = set w1 (at + 3) (pattern_of u)

  abbrev w3 : List ℕ
  w3 = set w2 (at + 6) (pattern_of r)

  abbrev w4 : List ℕ
  w4 = set w3 (at + 9) (pattern_of e)

  abbrev w5 : List ℕ
  w5 = set w4 (at + 15) (pattern_of q)

  stored_same : Alike (changed_by (link_change m scale) (axis_in w₀ t) t (j + 1)) (axis_in w5 t) n
  stored_same = record {
    diagonal = λ k h. float-miss w4 (at + 15) (k * 9 + t) (pattern_of q) (omega arith)
        ∙ update w3 (at + 9) t (i + 1) k e (λ x. x ⊕ a) (omega arith) (omega arith) (simp length-set (omega arith)) (add-fits binary64 _ _)
        (ap (λ (x : Float). x ⊕ a) (sym (float-miss3 w at (at + 3) (at + 6) (at + 9) _ _ _ (omega arith) (omega arith) (omega arith))))
        ∙ ap (λ (x : Float). cond (eqb (i + 1) k) (x ⊕ a) x)
        (float-miss2 w1 (at + 3) (at + 6) (k * 9 + t) _ _ (omega arith) (omega arith) ∙ update w at t i k d (λ x. x ⊕ a) (omega arith) place (omega arith) (add-fits binary64 _ _) refl)
        ∙ both-next (index_at m) (track_weight m scale t) (row_cell w₀ t) j k i a _ ei ea (s.same.diagonal k h);
    upper = λ k h. float-miss3 w2 (at + 6) (at + 9) (at + 15) (k * 9 + (3 + t)) _ _ _ (omega arith) (omega arith) (omega arith)
        ∙ update w1 (at + 3) (3 + t) i k u (λ x. x ⊖ a) (omega arith) (omega arith) (simp length-set (omega arith)) (sub-fits binary64 _ _)
        (ap (λ (x : Float). x ⊖ a) (sym (float-miss w at (at + 3) (pattern_of d) (omega arith))))
        ∙ lower-next (index_at m) (track_weight m scale t) (row_cell w₀ (3 + t)) j k i a _ ei ea (float-miss w at (k * 9 + (3 + t)) (pattern_of d) (omega arith) ∙ s.same.upper k h);
    right = λ k h. update w4 (at + 15) (6 + t) (i + 1) k q (λ x. x ⊕ b) (omega arith) (omega arith) (simp length-set (omega arith)) (add-fits binary64 _ _)
        (ap (λ (x : Float). x ⊕ b) (sym (float-miss w3 (at + 9) (at + 15) (pattern_of e) (omega arith) ∙ float-miss3 w at (at + 3) (at + 6) (at + 15) _ _ _ (omega arith) (omega arith) (omega arith))))
        ∙ ap (λ (x : Float). cond (eqb (i + 1) k) (x ⊕ b) x)
        (float-miss w3 (at + 9) (k * 9 + (6 + t)) (pattern_of e) (omega arith)
        ∙ update w2 (at + 6) (6 + t) i k r (λ x. x ⊖ b) (omega arith) (omega arith) (simp length-set (omega arith)) (sub-fits binary64 _ _)
        (ap (λ (x : Float). x ⊖ b) (sym (float-miss2 w at (at + 3) (at + 6) _ _ (omega arith) (omega arith)))))
        ∙ across-next (index_at m) (link_pull m scale t) (row_cell w₀ (6 + t)) j k i b _ ei eb (float-miss2 w at (at + 3) (k * 9 + (6 + t)) _ _ (omega arith) (omega arith) ∙ s.same.right k h);
  }

  stored-number : (k : ℕ) → Five (number d) (number u) (number r) (number e) (number q) → is_nan (float_at w k) ≡ false → is_nan (float_at w5 k) ≡ false
  stored-number k f o =
      number-set w4 (at + 15) k q (add-fits binary64 _ _) (simp length-set (omega arith)) (not_number q f.five)
      (number-set w3 (at + 9) k e (add-fits binary64 _ _) (simp length-set (omega arith)) (not_number e f.four)
      (number-set w2 (at + 6) k r (sub-fits binary64 _ _) (simp length-set (omega arith)) (not_number r f.three)
      (number-set w1 (at + 3) k u (sub-fits binary64 _ _) (simp length-set (omega arith)) (not_number u f.two)
      (number-set w at k d (add-fits binary64 _ _) (omega arith) (not_number d f.one) o))))

  pub link-needs : NumbersAt w at (at + 3) (at + 6)
  link-needs = record {
    first = ap is_nan (float-place w at (i * 9 + t) place) ∙ s.numbers.diagonal i (omega arith);
    second = ap is_nan (float-place w (at + 3) (i * 9 + (3 + t)) (omega arith)) ∙ s.numbers.upper i (omega arith);
    third = ap is_nan (float-place w (at + 6) (i * 9 + (6 + t)) (omega arith)) ∙ s.numbers.right i (omega arith);
  }

  pub link-needs-below : NumbersAt w (at + 9) (at + 9) (at + 15)
  link-needs-below =
      let f : is_nan (float_at w (at + 9)) ≡ false = ap is_nan (float-place w (at + 9) ((i + 1) * 9 + t) (omega arith)) ∙ s.numbers.diagonal (i + 1) inside in
      record { first = f; second = f; third = ap is_nan (float-place w (at + 15) ((i + 1) * 9 + (6 + t)) (omega arith)) ∙ s.numbers.right (i + 1) inside }

  -- a NaN that would be stored is one that the links make
  on-d : number d ≡ false → IsNan ((changed_by (link_change m scale) (axis_in w₀ t) t (j + 1)).diagonal i)
  on-d f = ap is_nan (sym (stored_same.diagonal i (omega arith)) ∙ (float-miss w4 (at + 15) (i * 9 + t) (pattern_of q) (omega arith)
      ∙ float-miss3 w1 (at + 3) (at + 6) (at + 9) (i * 9 + t) _ _ _ (omega arith) (omega arith) (omega arith) ∙ float-hit w at (i * 9 + t) d (add-fits binary64 _ _) (omega arith) (omega arith))) ∙ un_not (is_nan d) f

  on-u : number u ≡ false → IsNan ((changed_by (link_change m scale) (axis_in w₀ t) t (j + 1)).upper i)
  on-u f = ap is_nan (sym (stored_same.upper i (omega arith)) ∙ (float-miss3 w2 (at + 6) (at + 9) (at + 15) (i * 9 + (3 + t)) _ _ _ (omega arith) (omega arith) (omega arith)
      ∙ float-hit w1 (at + 3) (i * 9 + (3 + t)) u (sub-fits binary64 _ _) (simp length-set (omega arith)) (omega arith))) ∙ un_not (is_nan u) f

  on-r : number r ≡ false → IsNan ((changed_by (link_change m scale) (axis_in w₀ t) t (j + 1)).right i)
  on-r f = ap is_nan (sym (stored_same.right i (omega arith)) ∙ (float-miss2 w3 (at + 9) (at + 15) (i * 9 + (6 + t)) _ _ (omega arith) (omega arith)
      ∙ float-hit w2 (at + 6) (i * 9 + (6 + t)) r (sub-fits binary64 _ _) (simp length-set (omega arith)) (omega arith))) ∙ un_not (is_nan r) f

  on-e : number e ≡ false → IsNan ((changed_by (link_change m scale) (axis_in w₀ t) t (j + 1)).diagonal (i + 1))
  on-e f = ap is_nan (sym (stored_same.diagonal (i + 1) inside) ∙ (float-miss w4 (at + 15) ((i + 1) * 9 + t) (pattern_of q) (omega arith)
      ∙ float-hit w3 (at + 9) ((i + 1) * 9 + t) e (add-fits binary64 _ _) (simp length-set (omega arith)) (omega arith))) ∙ un_not (is_nan e) f

  on-q : number q ≡ false → IsNan ((changed_by (link_change m scale) (axis_in w₀ t) t (j + 1)).right (i + 1))
  on-q f = ap is_nan (sym (stored_same.right (i + 1) inside) ∙ float-hit w4 (at + 15) ((i + 1) * 9 + (6 + t)) q (add-fits binary64 _ _) (simp length-set (omega arith)) (omega arith)) ∙ un_not (is_nan q) f

  spoils : (number d && (number u && (number r && (number e && number q)))) ≡ false → Spoilt (changed_by (link_change m scale) (axis_in w₀ t) t (j + 1)) n
  spoils f = ⊎_elim
      (λ x. record { row = i; inside = omega arith; spoilt = inl (on-d x) })
      (λ g. ⊎_elim
      (λ x. record { row = i; inside = omega arith; spoilt = inr (inr (omega arith, on-u x)) })
      (λ g. ⊎_elim
      (λ x. record { row = i; inside = omega arith; spoilt = inr (inl (on-r x)) })
      (λ g. ⊎_elim
      (λ x. record { row = i + 1; inside = inside; spoilt = inl (on-e x) })
      (λ x. record { row = i + 1; inside = inside; spoilt = inr (inl (on-q x)) })
      (which-fails (number e) (number q) g))
      (which-fails (number r) (number e && number q) g))
      (which-fails (number u) (number r && (number e && number q)) g))
      (which-fails (number d) (number u && (number r && (number e && number q))) f)

  pub link-step : (ok : Bool) (w' : List ℕ) → LinkAdded w at a b ok w' → Step (link_change m scale) w₀ n t j w ok w'
  link-step ok w' x = record {
    touched = touched_if t n w w5 w' ok x.stored
        (touched-right t n w w4 small
        (touched-diagonal t n w w3 small
        (touched-right t n w w2 small
        (touched-upper t n w w1 small
        (touched-diagonal t n w w small (touched_none t n w) i at (pattern_of d) (omega arith) place)
        i (at + 3) (pattern_of u) (omega arith) (omega arith))
        i (at + 6) (pattern_of r) (omega arith) (omega arith))
        (i + 1) (at + 9) (pattern_of e) inside (omega arith))
        (i + 1) (at + 15) (pattern_of q) inside (omega arith));
    more = λ y.
        let z : w' ≡ w5 = taken ok _ _ _ y x.stored in
        let f = all-five (number d) (number u) (number r) (number e) (number q) (sym x.answer ∙ y) in
        rw z (record {
          same = stored_same;
          numbers = record {
            diagonal = λ k h. stored-number (k * 9 + t) f (s.numbers.diagonal k h);
            upper = λ k h. stored-number (k * 9 + (3 + t)) f (s.numbers.upper k h);
            right = λ k h. stored-number (k * 9 + (6 + t)) f (s.numbers.right k h);
          };
        });
    spoils = λ y. spoils (sym x.answer ∙ y);
  }

-- a link's weight and pull, from what its columns hold
pub link-weight : (m : Measured) (scale : ℕ → Float) (t j q : ℕ) (c : Float) → c ≡ scale j → q ≡ j * 3 + t → (let g = get_or m.sigma q nan in c ⊘ (g ⊗ g) ≡ track_weight m scale t j)
link-weight m scale t j q c ec eq = rw (ec, eq)

pub link-pull : (m : Measured) (scale : ℕ → Float) (t j q : ℕ) (c : Float) → c ≡ scale j → q ≡ j * 3 + t
    → (let g = get_or m.sigma q nan in c ⊘ (g ⊗ g) ⊗ get_or m.value q nan ≡ link_pull m scale t j)
link-pull m scale t j q c ec eq = rw (ec, eq)

-- ---- link j: the calls on x, y and z, from w to w1, w2 and w3

module _ (w₀ : List ℕ) (n skip : ℕ) (m : Measured) (j : ℕ) (w : List ℕ) (s : Adding (link_change m (λ j. float_at w₀ (n * 9 + skip + j))) w₀ n m.count j w) (more : j < m.count) (inside : index_at m j + 1 < n) (at : ℕ) (place : at ≡ index_at m j * 9)
    (c : Float) (ec : c ≡ float_at w (n * 9 + skip + j)) where
  abbrev scale : ℕ → Float
  scale j = float_at w₀ (n * 9 + skip + j)

  abbrev a : ℕ → Float
  a q = c ⊘ (get_or m.sigma q nan ⊗ get_or m.sigma q nan)

  abbrev b : ℕ → Float
  b q = a q ⊗ get_or m.value q nan

  scale-is : c ≡ scale j
  scale-is = ec ∙ same_float w₀ w (n * 9 + skip + j) (s.kept.high (n * 9 + skip + j) (omega arith))

  weight_is : (t q : ℕ) → q ≡ j * 3 + t → a q ≡ track_weight m scale t j
  weight_is t q e = link-weight m scale t j q c scale-is e

  pull-is : (t q : ℕ) → q ≡ j * 3 + t → b q ≡ link_pull m scale t j
  pull-is t q e = link-pull m scale t j q c scale-is e

  pub link-x-needs : NumbersAt w at (at + 3) (at + 6) × NumbersAt w (at + 9) (at + 9) (at + 15)
  link-x-needs = (link-needs w₀ n m scale j 0 (index_at m j) w at (a (j * 3)) (b (j * 3)) (omega arith) (omega arith) inside (omega (arith, s.long, s.room)) refl (weight_is 0 (j * 3) (omega arith)) (pull-is 0 (j * 3) (omega arith)) s.on-x, link-needs-below w₀ n m scale j 0 (index_at m j) w at (a (j * 3)) (b (j * 3)) (omega arith) (omega arith) inside (omega (arith, s.long, s.room)) refl (weight_is 0 (j * 3) (omega arith)) (pull-is 0 (j * 3) (omega arith)) s.on-x)

  module _ (b1 : Bool) (w1 : List ℕ) (d1 : LinkAdded w at (a (j * 3)) (b (j * 3)) b1 w1) (l1 : length w1 ≡ length w) where
    x-step : Step (link_change m scale) w₀ n 0 j w b1 w1
    x-step = link-step w₀ n m scale j 0 (index_at m j) w at (a (j * 3)) (b (j * 3)) (omega arith) (omega arith) inside (omega (arith, s.long, s.room)) refl (weight_is 0 (j * 3) (omega arith)) (pull-is 0 (j * 3) (omega arith)) s.on-x b1 w1 d1

    y1 : AxisAdded (link_change m scale) w₀ n 1 j w1
    y1 = y-next (link_change m scale) (links-steady m scale) w₀ n m.count j w s more b1 w1 x-step

    pub link-y-needs : NumbersAt w1 (at + 1) (at + 1 + 3) (at + 1 + 6) × NumbersAt w1 (at + 1 + 9) (at + 1 + 9) (at + 1 + 15)
    link-y-needs = (link-needs w₀ n m scale j 1 (index_at m j) w1 (at + 1) (a (j * 3 + 1)) (b (j * 3 + 1)) (omega arith) (omega arith) inside (omega (arith, l1, s.long, s.room)) refl (weight_is 1 (j * 3 + 1) refl) (pull-is 1 (j * 3 + 1) refl) y1, link-needs-below w₀ n m scale j 1 (index_at m j) w1 (at + 1) (a (j * 3 + 1)) (b (j * 3 + 1)) (omega arith) (omega arith) inside (omega (arith, l1, s.long, s.room)) refl (weight_is 1 (j * 3 + 1) refl) (pull-is 1 (j * 3 + 1) refl) y1)

    module _ (b2 : Bool) (w2 : List ℕ) (d2 : LinkAdded w1 (at + 1) (a (j * 3 + 1)) (b (j * 3 + 1)) b2 w2) (l2 : length w2 ≡ length w1) where
      y-step : Step (link_change m scale) w₀ n 1 j w1 b2 w2
      y-step = link-step w₀ n m scale j 1 (index_at m j) w1 (at + 1) (a (j * 3 + 1)) (b (j * 3 + 1)) (omega arith) (omega arith) inside (omega (arith, l1, s.long, s.room)) refl (weight_is 1 (j * 3 + 1) refl) (pull-is 1 (j * 3 + 1) refl) y1 b2 w2 d2

      z2 : AxisAdded (link_change m scale) w₀ n 2 j w2
      z2 = z-next (link_change m scale) (links-steady m scale) w₀ n m.count j w s more b1 w1 x-step b2 w2 y-step

      pub link-z-needs : NumbersAt w2 (at + 2) (at + 2 + 3) (at + 2 + 6) × NumbersAt w2 (at + 2 + 9) (at + 2 + 9) (at + 2 + 15)
      link-z-needs = (link-needs w₀ n m scale j 2 (index_at m j) w2 (at + 2) (a (j * 3 + 2)) (b (j * 3 + 2)) (omega arith) (omega arith) inside (omega (arith, l2, l1, s.long, s.room)) refl (weight_is 2 (j * 3 + 2) refl) (pull-is 2 (j * 3 + 2) refl) z2, link-needs-below w₀ n m scale j 2 (index_at m j) w2 (at + 2) (a (j * 3 + 2)) (b (j * 3 + 2)) (omega arith) (omega arith) inside (omega (arith, l2, l1, s.long, s.room)) refl (weight_is 2 (j * 3 + 2) refl) (pull-is 2 (j * 3 + 2) refl) z2)

      module _ (b3 : Bool) (w3 : List ℕ) (d3 : LinkAdded w2 (at + 2) (a (j * 3 + 2)) (b (j * 3 + 2)) b3 w3) (l3 : length w3 ≡ length w2) where
        z-step : Step (link_change m scale) w₀ n 2 j w2 b3 w3
        z-step = link-step w₀ n m scale j 2 (index_at m j) w2 (at + 2) (a (j * 3 + 2)) (b (j * 3 + 2)) (omega arith) (omega arith) inside (omega (arith, l2, l1, s.long, s.room)) refl (weight_is 2 (j * 3 + 2) refl) (pull-is 2 (j * 3 + 2) refl) z2 b3 w3 d3

        pub links_end : (b1 && (b2 && b3)) ≡ false → AddDone (link_change m scale) w₀ n m.count false w3
        links_end f = adding-ends (link_change m scale) (links-steady m scale) w₀ n m.count j w s more b1 w1 x-step b2 w2 y-step b3 w3 z-step f

        pub links-more : (b1 && (b2 && b3)) ≡ true → Adding (link_change m scale) w₀ n m.count (j + 1) w3
        links-more g = adding-more (link_change m scale) (links-steady m scale) w₀ n m.count j w s more b1 w1 x-step b2 w2 y-step b3 w3 z-step g l1 l2 l3
