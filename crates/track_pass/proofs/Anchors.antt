-- An anchor, added to the row of one axis. Assumes nothing.
use mathlib.Core.Path.{◌≡◌, refl, sym, ◌∙◌, ap}
use mathlib.Core.Logic.{inl, inr, ⊎_elim}
use mathlib.Core.Bool.{Bool, true, false, not, ◌&&◌}
use mathlib.Core.List.{List}
use Prim.Native.Nat.{ℕ, ◌+◌, ◌*◌, ◌≤◌, ◌<◌}
use native.Mathlib.Omega.{arith}
use lib.Dec.{T}
use lib.ListN.{length, get_or, set, length-set}
use lib.Ieee.{Float, nan, is_nan, eq, ne, binary64, to_bits}
use lib.Ieee.Fits.{add-fits}
use Rattle.exact.specs.Float.{◌⊕◌, ◌⊖◌, ◌⊗◌, ◌⊘◌}
use Rattle.numeric.specs.Order.{pattern_of}
use Rattle.numeric.proofs.OrderLaws.{pattern_bits, is_nan-differs}
use Rattle.track_tridiagonal.specs.Rows.{float_at, row_cell, axis_in}
use Rattle.track_tridiagonal.specs.Steps.{Alike, NumbersAt}
use Rattle.track_tridiagonal.proofs.EachBelow.{left-true, right-true}
use Rattle.track_tridiagonal.proofs.Cells.{same_float, float-place, float-hit, float-miss, number-set, update}
use Rattle.track_tridiagonal.proofs.Axes.{touched_none, touched-diagonal, touched-right, touched_if, taken}
use Rattle.track_tridiagonal.proofs.Nan.{which-fails, un_not}
use Rattle.track_pass.specs.Input.{Measured, index_at}
use Rattle.track_pass.specs.Equations.{track_weight, anchor_pull}
use Rattle.track_pass.specs.Steps.{number, AnchorAdded, AddDone, anchor_change, changed_by}
use Rattle.track_pass.proofs.Changed.{changed-next, raise-next}
use Rattle.track_pass.proofs.Adding.{AxisAdded, Step, Adding, anchors-steady, y-next, z-next, adding-ends, adding-more}

-- ---- the call

not-not : (b : Bool) → not (not b) ≡ b
not-not true = refl
not-not false = refl

pub not_number : (x : Float) → number x ≡ true → is_nan x ≡ false
not_number x h = sym (not-not (is_nan x)) ∙ ap not h

-- a number equals itself, and a NaN does not
pub self-equal : (x : Float) → eq x x ≡ number x
unfolding ne
self-equal x = sym (not-not (eq x x)) ∙ ap not (sym (is_nan-differs x))

pub writable : (x : Float) → number x ≡ true → T (not (is_nan x))
writable x h = rw h tt

pub first-writable : (d r : Float) → (eq d d && eq r r) ≡ true → T (not (is_nan d))
first-writable d r t = writable d (sym (self-equal d) ∙ left-true (eq d d) (eq r r) t)

pub second-writable : (d r : Float) → (eq d d && eq r r) ≡ true → T (not (is_nan r))
second-writable d r t = writable r (sym (self-equal r) ∙ right-true (eq d d) (eq r r) t)

module _ (w : List ℕ) (at : ℕ) (a b : Float) where
  abbrev D : Float
  D = float_at w at ⊕ a

  abbrev R : Float
  R = float_at w (at + 6) ⊕ b

  pub anchor_test : (eq D D && eq R R) ≡ (number D && number R)
  anchor_test = rw (self-equal D, self-equal R)

  pub anchor_left : (eq D D && eq R R) ≡ false → AnchorAdded w at a b false w
  anchor_left f = record { answer = sym (sym anchor_test ∙ f); stored = refl }

  pub anchor_stored : (eq D D && eq R R) ≡ true → AnchorAdded w at a b true (set (set w at (to_bits binary64 D)) (at + 6) (to_bits binary64 R))
  anchor_stored t = record { answer = sym (sym anchor_test ∙ t); stored = rw (pattern_bits D, pattern_bits R) }

-- ---- what it does to its axis

module _ (w₀ : List ℕ) (n : ℕ) (m : Measured) (scale : ℕ → Float) (j t i : ℕ) (w : List ℕ) (at : ℕ) (a b : Float) (place : at ≡ i * 9 + t) (small : t < 3) (inside : i < n) (room : n * 9 ≤ length w) (ei : i ≡ index_at m j)
    (ea : a ≡ track_weight m scale t j) (eb : b ≡ anchor_pull m scale t j) (s : AxisAdded (anchor_change m scale) w₀ n t j w) where
  abbrev d : Float
  d = float_at w at ⊕ a

  abbrev r : Float
  r = float_at w (at + 6) ⊕ b

  abbrev w1 : List ℕ
  w1 = set w at (pattern_of d)

  abbrev w2 : List ℕ
  w2 = set w1 (at + 6) (pattern_of r)

  stored_same : Alike (changed_by (anchor_change m scale) (axis_in w₀ t) t (j + 1)) (axis_in w2 t) n
  stored_same = record {
    diagonal = λ k h. float-miss w1 (at + 6) (k * 9 + t) (pattern_of r) (omega arith)
        ∙ update w at t i k d (λ x. x ⊕ a) (omega arith) place (omega arith) (add-fits binary64 _ _) refl
        ∙ raise-next (index_at m) (track_weight m scale t) (row_cell w₀ t) j k i a _ ei ea (s.same.diagonal k h);
    upper = λ k h. float-miss w1 (at + 6) (k * 9 + (3 + t)) (pattern_of r) (omega arith) ∙ float-miss w at (k * 9 + (3 + t)) (pattern_of d) (omega arith)
        ∙ changed-next (λ j k x. x) (row_cell w₀ (3 + t)) j k _ (s.same.upper k h);
    right = λ k h. update w1 (at + 6) (6 + t) i k r (λ x. x ⊕ b) (omega arith) (omega arith) (simp length-set (omega arith)) (add-fits binary64 _ _)
        (ap (λ (x : Float). x ⊕ b) (sym (float-miss w at (at + 6) (pattern_of d) (omega arith))))
        ∙ raise-next (index_at m) (anchor_pull m scale t) (row_cell w₀ (6 + t)) j k i b _ ei eb (float-miss w at (k * 9 + (6 + t)) (pattern_of d) (omega arith) ∙ s.same.right k h);
  }

  stored-number : (k : ℕ) → is_nan d ≡ false → is_nan r ≡ false → is_nan (float_at w k) ≡ false → is_nan (float_at w2 k) ≡ false
  stored-number k f g o = number-set w1 (at + 6) k r (add-fits binary64 _ _) (simp length-set (omega arith)) g (number-set w at k d (add-fits binary64 _ _) (omega arith) f o)

  pub anchor_needs : NumbersAt w at (at + 6) (at + 6)
  anchor_needs =
      let f : is_nan (float_at w at) ≡ false = ap is_nan (float-place w at (i * 9 + t) place) ∙ s.numbers.diagonal i inside in
      let g : is_nan (float_at w (at + 6)) ≡ false = ap is_nan (float-place w (at + 6) (i * 9 + (6 + t)) (omega arith)) ∙ s.numbers.right i inside in
      record { first = f; second = g; third = g }

  pub anchor_step : (ok : Bool) (w' : List ℕ) → AnchorAdded w at a b ok w' → Step (anchor_change m scale) w₀ n t j w ok w'
  anchor_step ok w' x = record {
    touched = touched_if t n w w2 w' ok x.stored
        (touched-right t n w w1 small (touched-diagonal t n w w small (touched_none t n w) i at (pattern_of d) inside place) i (at + 6) (pattern_of r) inside (omega arith));
    more = λ y.
        let e : w' ≡ w2 = taken ok _ _ _ y x.stored in
        let fd : is_nan d ≡ false = not_number d (left-true (number d) (number r) (sym x.answer ∙ y)) in
        let fr : is_nan r ≡ false = not_number r (right-true (number d) (number r) (sym x.answer ∙ y)) in
        rw e (record {
          same = stored_same;
          numbers = record {
            diagonal = λ k h. stored-number (k * 9 + t) fd fr (s.numbers.diagonal k h);
            upper = λ k h. stored-number (k * 9 + (3 + t)) fd fr (s.numbers.upper k h);
            right = λ k h. stored-number (k * 9 + (6 + t)) fd fr (s.numbers.right k h);
          };
        });
    spoils = λ y. record {
      row = i;
      inside = inside;
      spoilt = ⊎_elim
          (λ f. inl (ap is_nan (sym (stored_same.diagonal i inside) ∙ (float-miss w1 (at + 6) (i * 9 + t) (pattern_of r) (omega arith) ∙ float-hit w at (i * 9 + t) d (add-fits binary64 _ _) (omega arith) (omega arith))) ∙ un_not (is_nan d) f))
          (λ f. inr (inl (ap is_nan (sym (stored_same.right i inside) ∙ float-hit w1 (at + 6) (i * 9 + (6 + t)) r (add-fits binary64 _ _) (simp length-set (omega arith)) (omega arith)) ∙ un_not (is_nan r) f)))
          (which-fails (number d) (number r) (sym x.answer ∙ y));
    };
  }

-- an anchor's weight and pull, from what its columns hold
pub anchor_weight : (m : Measured) (scale : ℕ → Float) (t j q : ℕ) (c : Float) → c ≡ scale j → q ≡ j * 3 + t → (let g = get_or m.sigma q nan in c ⊘ (g ⊗ g) ≡ track_weight m scale t j)
anchor_weight m scale t j q c ec eq = rw (ec, eq)

pub anchor_pull_lem : (m : Measured) (scale : ℕ → Float) (t j q o : ℕ) (c : Float) → c ≡ scale j → q ≡ j * 3 + t → o ≡ 0 * 3 + t
    → (let g = get_or m.sigma q nan in c ⊘ (g ⊗ g) ⊗ (get_or m.value q nan ⊖ get_or m.value o nan) ≡ anchor_pull m scale t j)
anchor_pull_lem m scale t j q o c ec eq eo = rw (ec, eq, eo)

-- ---- anchor j: the calls on x, y and z, from w to w1, w2 and w3

module _ (w₀ : List ℕ) (n : ℕ) (m : Measured) (j : ℕ) (w : List ℕ) (s : Adding (anchor_change m (λ j. float_at w₀ (n * 9 + j))) w₀ n m.count j w) (more : j < m.count) (inside : index_at m j < n) (at : ℕ) (place : at ≡ index_at m j * 9)
    (c : Float) (ec : c ≡ float_at w (n * 9 + j)) where
  abbrev scale : ℕ → Float
  scale j = float_at w₀ (n * 9 + j)

  abbrev a : ℕ → Float
  a q = c ⊘ (get_or m.sigma q nan ⊗ get_or m.sigma q nan)

  abbrev b : ℕ → ℕ → Float
  b q t = a q ⊗ (get_or m.value q nan ⊖ get_or m.value t nan)

  scale-is : c ≡ scale j
  scale-is = ec ∙ same_float w₀ w (n * 9 + j) (s.kept.high (n * 9 + j) (omega arith))

  weight_is : (t q : ℕ) → q ≡ j * 3 + t → a q ≡ track_weight m scale t j
  weight_is t q e = anchor_weight m scale t j q c scale-is e

  pull-is : (t q : ℕ) → q ≡ j * 3 + t → b q t ≡ anchor_pull m scale t j
  pull-is t q e = anchor_pull_lem m scale t j q t c scale-is e (omega arith)

  pub anchor_x-needs : NumbersAt w at (at + 6) (at + 6)
  anchor_x-needs = anchor_needs w₀ n m scale j 0 (index_at m j) w at (a (j * 3)) (b (j * 3) 0) (omega arith) (omega arith) inside (omega (arith, s.long, s.room)) refl (weight_is 0 (j * 3) (omega arith)) (pull-is 0 (j * 3) (omega arith)) s.on-x

  module _ (b1 : Bool) (w1 : List ℕ) (d1 : AnchorAdded w at (a (j * 3)) (b (j * 3) 0) b1 w1) (l1 : length w1 ≡ length w) where
    x-step : Step (anchor_change m scale) w₀ n 0 j w b1 w1
    x-step = anchor_step w₀ n m scale j 0 (index_at m j) w at (a (j * 3)) (b (j * 3) 0) (omega arith) (omega arith) inside (omega (arith, s.long, s.room)) refl (weight_is 0 (j * 3) (omega arith)) (pull-is 0 (j * 3) (omega arith)) s.on-x b1 w1 d1

    y1 : AxisAdded (anchor_change m scale) w₀ n 1 j w1
    y1 = y-next (anchor_change m scale) (anchors-steady m scale) w₀ n m.count j w s more b1 w1 x-step

    pub anchor_y-needs : NumbersAt w1 (at + 1) (at + 1 + 6) (at + 1 + 6)
    anchor_y-needs = anchor_needs w₀ n m scale j 1 (index_at m j) w1 (at + 1) (a (j * 3 + 1)) (b (j * 3 + 1) 1) (omega arith) (omega arith) inside (omega (arith, l1, s.long, s.room)) refl (weight_is 1 (j * 3 + 1) refl) (pull-is 1 (j * 3 + 1) refl) y1

    module _ (b2 : Bool) (w2 : List ℕ) (d2 : AnchorAdded w1 (at + 1) (a (j * 3 + 1)) (b (j * 3 + 1) 1) b2 w2) (l2 : length w2 ≡ length w1) where
      y-step : Step (anchor_change m scale) w₀ n 1 j w1 b2 w2
      y-step = anchor_step w₀ n m scale j 1 (index_at m j) w1 (at + 1) (a (j * 3 + 1)) (b (j * 3 + 1) 1) (omega arith) (omega arith) inside (omega (arith, l1, s.long, s.room)) refl (weight_is 1 (j * 3 + 1) refl) (pull-is 1 (j * 3 + 1) refl) y1 b2 w2 d2

      z2 : AxisAdded (anchor_change m scale) w₀ n 2 j w2
      z2 = z-next (anchor_change m scale) (anchors-steady m scale) w₀ n m.count j w s more b1 w1 x-step b2 w2 y-step

      pub anchor_z-needs : NumbersAt w2 (at + 2) (at + 2 + 6) (at + 2 + 6)
      anchor_z-needs = anchor_needs w₀ n m scale j 2 (index_at m j) w2 (at + 2) (a (j * 3 + 2)) (b (j * 3 + 2) 2) (omega arith) (omega arith) inside (omega (arith, l2, l1, s.long, s.room)) refl (weight_is 2 (j * 3 + 2) refl) (pull-is 2 (j * 3 + 2) refl) z2

      module _ (b3 : Bool) (w3 : List ℕ) (d3 : AnchorAdded w2 (at + 2) (a (j * 3 + 2)) (b (j * 3 + 2) 2) b3 w3) (l3 : length w3 ≡ length w2) where
        z-step : Step (anchor_change m scale) w₀ n 2 j w2 b3 w3
        z-step = anchor_step w₀ n m scale j 2 (index_at m j) w2 (at + 2) (a (j * 3 + 2)) (b (j * 3 + 2) 2) (omega arith) (omega arith) inside (omega (arith, l2, l1, s.long, s.room)) refl (weight_is 2 (j * 3 + 2) refl) (pull-is 2 (j * 3 + 2) refl) z2 b3 w3 d3

        pub anchors-end : (b1 && (b2 && b3)) ≡ false → AddDone (anchor_change m scale) w₀ n m.count false w3
        anchors-end f = adding-ends (anchor_change m scale) (anchors-steady m scale) w₀ n m.count j w s more b1 w1 x-step b2 w2 y-step b3 w3 z-step f

        pub anchors-more : (b1 && (b2 && b3)) ≡ true → Adding (anchor_change m scale) w₀ n m.count (j + 1) w3
        anchors-more g = adding-more (anchor_change m scale) (anchors-steady m scale) w₀ n m.count j w s more b1 w1 x-step b2 w2 y-step b3 w3 z-step g l1 l2 l3
