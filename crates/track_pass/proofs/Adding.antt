-- Measurements added one at a time to the three axes, whatever they are, and a NaN that stays once it is there. Assumes nothing.
use mathlib.Core.Path.{◌≡◌, refl, sym, ◌∙◌, ap}
use mathlib.Core.Logic.{inl, inr, ⊎_elim}
use mathlib.Core.Bool.{Bool, true, false, ◌&&◌, cond}
use mathlib.Core.List.{List}
use Prim.Native.Nat.{ℕ, zero, suc, ◌+◌, ◌-◌, ◌*◌, ◌≤◌, ◌<◌}
use native.Mathlib.Nat.{add-zero, add-suc}
use native.Mathlib.Omega.{arith}
use lib.Dec.{eqb}
use lib.ListN.{length}
use lib.Ieee.{Float, is_nan}
use Rattle.exact.specs.Float.{◌⊕◌, ◌⊖◌}
use Rattle.track_tridiagonal.specs.Rows.{axis_in, Axes, SameOutside}
use Rattle.track_tridiagonal.specs.Tridiagonal.{Equations, NoNan, Spoilt}
use Rattle.track_tridiagonal.specs.Steps.{Alike}
use Rattle.track_tridiagonal.proofs.EachBelow.{left-true, right-true, who-fails}
use Rattle.track_tridiagonal.proofs.Cells.{kept-none, kept_then}
use Rattle.track_tridiagonal.proofs.Axes.{Beside, beside, Touched}
use Rattle.track_tridiagonal.proofs.Nan.{IsNan, add-nan, sub-nan}
use Rattle.track_pass.specs.Input.{Measured, index_at}
use Rattle.track_pass.specs.Equations.{changed, raised_at, lower, track_weight, next_at, anchor_pull, link_pull}
use Rattle.track_pass.specs.Steps.{Added, AddDone, Change, anchor_change, link_change, changed_by}
use Rattle.track_pass.proofs.Changed.{changed-none}

-- ---- a NaN stays

-- no measurement makes a number of a NaN
pub record Steady (c : Change) : Type 0 where
  pub diagonal : (t j k : ℕ) (x : Float) → IsNan x → IsNan (c.diagonal t j k x)
  pub upper : (t j k : ℕ) (x : Float) → IsNan x → IsNan (c.upper t j k x)
  pub right : (t j k : ℕ) (x : Float) → IsNan x → IsNan (c.right t j k x)

pick : (b : Bool) (x y : Float) → IsNan x → IsNan y → IsNan (cond b x y)
pick true x y f g = f
pick false x y f g = g

raise-nan : (row : ℕ → ℕ) (amount : ℕ → Float) (j k : ℕ) (x : Float) → IsNan x → IsNan (raised_at row amount j k x)
raise-nan row amount j k x h = pick (eqb (row j) k) (x ⊕ amount j) x (add-nan x (amount j) h) h

lower-nan : (row : ℕ → ℕ) (amount : ℕ → Float) (j k : ℕ) (x : Float) → IsNan x → IsNan (lower row amount j k x)
lower-nan row amount j k x h = pick (eqb (row j) k) (x ⊖ amount j) x (sub-nan x (amount j) h) h

pub anchors-steady : (m : Measured) (scale : ℕ → Float) → Steady (anchor_change m scale)
anchors-steady m scale = record {
  diagonal = λ t. raise-nan (index_at m) (track_weight m scale t);
  upper = λ t j k x h. h;
  right = λ t. raise-nan (index_at m) (anchor_pull m scale t);
}

pub links-steady : (m : Measured) (scale : ℕ → Float) → Steady (link_change m scale)
links-steady m scale = record {
  diagonal = λ t j k x h. raise-nan (next_at m) (track_weight m scale t) j k _ (raise-nan (index_at m) (track_weight m scale t) j k x h);
  upper = λ t. lower-nan (index_at m) (track_weight m scale t);
  right = λ t j k x h. raise-nan (next_at m) (link_pull m scale t) j k _ (lower-nan (index_at m) (link_pull m scale t) j k x h);
}

changed-nan : (step : ℕ → ℕ → Float → Float) → ((j k : ℕ) (x : Float) → IsNan x → IsNan (step j k x)) → (c : ℕ → Float) (j i k : ℕ) → IsNan (changed step c j k) → IsNan (changed step c (j + i) k)
unfolding changed
changed-nan step f c j zero k h = rw add-zero h
changed-nan step f c j (suc i) k h = rw add-suc (f (j + i) k (changed step c (j + i) k) (changed-nan step f c j i k h))

pub changed-keeps : (step : ℕ → ℕ → Float → Float) → ((j k : ℕ) (x : Float) → IsNan x → IsNan (step j k x)) → (c : ℕ → Float) (j k : ℕ) → IsNan (c k) → IsNan (changed step c j k)
unfolding changed
changed-keeps step f c zero k h = h
changed-keeps step f c (suc j) k h = f j k (changed step c j k) (changed-keeps step f c j k h)

module _ (c : Change) (s : Steady c) (e : Equations) (t n j count : ℕ) (h : j ≤ count) where
  on-diagonal : (k : ℕ) → IsNan ((changed_by c e t j).diagonal k) → IsNan ((changed_by c e t count).diagonal k)
  on-diagonal k g = let q : j + (count - j) ≡ count = omega arith in rw q at (changed-nan (c.diagonal t) (s.diagonal t) e.diagonal j (count - j) k g)

  on-upper : (k : ℕ) → IsNan ((changed_by c e t j).upper k) → IsNan ((changed_by c e t count).upper k)
  on-upper k g = let q : j + (count - j) ≡ count = omega arith in rw q at (changed-nan (c.upper t) (s.upper t) e.upper j (count - j) k g)

  on-right : (k : ℕ) → IsNan ((changed_by c e t j).right k) → IsNan ((changed_by c e t count).right k)
  on-right k g = let q : j + (count - j) ≡ count = omega arith in rw q at (changed-nan (c.right t) (s.right t) e.right j (count - j) k g)

  pub spoilt-stays : Spoilt (changed_by c e t j) n → Spoilt (changed_by c e t count) n
  spoilt-stays p = record {
    row = p.row;
    inside = p.inside;
    spoilt = ⊎_elim (λ g. inl (on-diagonal p.row g)) (λ r. inr (⊎_elim (λ g. inl (on-right p.row g)) (λ g. inr (g.0, on-upper p.row g.1)) r)) p.spoilt;
  }

-- ---- one axis

pub record AxisAdded (c : Change) (w₀ : List ℕ) (n t j : ℕ) (w : List ℕ) : Type 0 where
  pub same : Alike (changed_by c (axis_in w₀ t) t j) (axis_in w t) n
  pub numbers : NoNan (axis_in w t) n

pub axis_none : (c : Change) (w₀ : List ℕ) (n t : ℕ) → NoNan (axis_in w₀ t) n → AxisAdded c w₀ n t 0 w₀
axis_none c w₀ n t m = record {
  same = record { diagonal = λ k h. sym (changed-none _ _ k); upper = λ k h. sym (changed-none _ _ k); right = λ k h. sym (changed-none _ _ k) };
  numbers = m;
}

axis_beside : (c : Change) (w₀ : List ℕ) (n t j : ℕ) (w w' : List ℕ) → Beside t w w' → AxisAdded c w₀ n t j w → AxisAdded c w₀ n t j w'
axis_beside c w₀ n t j w w' b s = record {
  same = record { diagonal = λ k h. b.diagonal k ∙ s.same.diagonal k h; upper = λ k h. b.upper k ∙ s.same.upper k h; right = λ k h. b.right k ∙ s.same.right k h };
  numbers = record {
    diagonal = λ k h. ap is_nan (b.diagonal k) ∙ s.numbers.diagonal k h;
    upper = λ k h. ap is_nan (b.upper k) ∙ s.numbers.upper k h;
    right = λ k h. ap is_nan (b.right k) ∙ s.numbers.right k h;
  };
}

-- measurement j on one axis
pub record Step (c : Change) (w₀ : List ℕ) (n t j : ℕ) (w : List ℕ) (ok : Bool) (w' : List ℕ) : Type 0 where
  pub touched : Touched t n w w'
  pub more : ok ≡ true → AxisAdded c w₀ n t (j + 1) w'
  pub spoils : ok ≡ false → Spoilt (changed_by c (axis_in w₀ t) t (j + 1)) n

-- ---- the three axes

pub record Adding (c : Change) (w₀ : List ℕ) (n count j : ℕ) (w : List ℕ) : Type 0 where
  pub below : j ≤ count
  pub room : n * 9 ≤ length w₀
  pub long : length w ≡ length w₀
  pub kept : SameOutside 0 (n * 9) w₀ w
  pub on-x : AxisAdded c w₀ n 0 j w
  pub on-y : AxisAdded c w₀ n 1 j w
  pub on-z : AxisAdded c w₀ n 2 j w

pub adding-none : (c : Change) (w₀ : List ℕ) (n count : ℕ) → n * 9 ≤ length w₀ → Axes (λ t. NoNan (axis_in w₀ t) n) → Adding c w₀ n count 0 w₀
adding-none c w₀ n count room m = record {
  below = omega arith;
  room = room;
  long = refl;
  kept = kept-none 0 (n * 9) w₀;
  on-x = axis_none c w₀ n 0 m.x;
  on-y = axis_none c w₀ n 1 m.y;
  on-z = axis_none c w₀ n 2 m.z;
}

pub adding-all : (c : Change) (w₀ : List ℕ) (n count j : ℕ) (w : List ℕ) → count ≤ j → Adding c w₀ n count j w → AddDone c w₀ n count true w
adding-all c w₀ n count j w h s =
    let e : j ≡ count = omega (arith, s.below) in
    let a : Added c w₀ n j w = record {
      kept = s.kept;
      rows = record { x = s.on-x.same; y = s.on-y.same; z = s.on-z.same };
      numbers = record { x = s.on-x.numbers; y = s.on-y.numbers; z = s.on-z.numbers };
    } in
    record {
      kept = s.kept;
      done = λ _. rw e at a;
      ends = λ q. let z : ◌≡◌ {A = ℕ} 0 1 = cc in absurd (omega arith);
    }

-- measurement j: the calls on x, y and z, from w to w1, w2 and w3
module _ (c : Change) (steady : Steady c) (w₀ : List ℕ) (n count j : ℕ) (w : List ℕ) (s : Adding c w₀ n count j w) (more : j < count) (b1 : Bool) (w1 : List ℕ) (d1 : Step c w₀ n 0 j w b1 w1) where
  pub y-next : AxisAdded c w₀ n 1 j w1
  y-next = axis_beside c w₀ n 1 j w w1 (beside 0 1 n w w1 (omega arith) (omega arith) (omega arith) d1.touched) s.on-y

  module _ (b2 : Bool) (w2 : List ℕ) (d2 : Step c w₀ n 1 j w1 b2 w2) where
    pub z-next : AxisAdded c w₀ n 2 j w2
    z-next = axis_beside c w₀ n 2 j w1 w2 (beside 1 2 n w1 w2 (omega arith) (omega arith) (omega arith) d2.touched)
        (axis_beside c w₀ n 2 j w w1 (beside 0 2 n w w1 (omega arith) (omega arith) (omega arith) d1.touched) s.on-z)

    module _ (b3 : Bool) (w3 : List ℕ) (d3 : Step c w₀ n 2 j w2 b3 w3) where
      kept-all : SameOutside 0 (n * 9) w₀ w3
      kept-all = kept_then 0 (n * 9) 0 (n * 9) w₀ w2 w3 (omega arith) (omega arith)
          (kept_then 0 (n * 9) 0 (n * 9) w₀ w1 w2 (omega arith) (omega arith)
          (kept_then 0 (n * 9) 0 (n * 9) w₀ w w1 (omega arith) (omega arith) s.kept d1.touched.kept) d2.touched.kept) d3.touched.kept

      stays : (t : ℕ) → Spoilt (changed_by c (axis_in w₀ t) t (j + 1)) n → Spoilt (changed_by c (axis_in w₀ t) t count) n
      stays t p = spoilt-stays c steady (axis_in w₀ t) t n (j + 1) count (omega arith) p

      pub adding-ends : (b1 && (b2 && b3)) ≡ false → AddDone c w₀ n count false w3
      adding-ends f = record {
        kept = kept-all;
        done = λ q. let z : ◌≡◌ {A = ℕ} 0 1 = cc in absurd (omega arith);
        ends = λ _. ⊎_elim
            (λ a. inl (stays 0 (d1.spoils a)))
            (λ r. inr (⊎_elim (λ a. inl (stays 1 (d2.spoils a))) (λ a. inr (stays 2 (d3.spoils a))) r))
            (who-fails b1 b2 b3 f);
      }

      pub adding-more : (b1 && (b2 && b3)) ≡ true → length w1 ≡ length w → length w2 ≡ length w1 → length w3 ≡ length w2 → Adding c w₀ n count (j + 1) w3
      adding-more g l1 l2 l3 = record {
        below = omega arith;
        room = s.room;
        long = l3 ∙ l2 ∙ l1 ∙ s.long;
        kept = kept-all;
        on-x = axis_beside c w₀ n 0 (j + 1) w2 w3 (beside 2 0 n w2 w3 (omega arith) (omega arith) (omega arith) d3.touched)
            (axis_beside c w₀ n 0 (j + 1) w1 w2 (beside 1 0 n w1 w2 (omega arith) (omega arith) (omega arith) d2.touched) (d1.more (left-true b1 (b2 && b3) g)));
        on-y = axis_beside c w₀ n 1 (j + 1) w2 w3 (beside 2 1 n w2 w3 (omega arith) (omega arith) (omega arith) d3.touched) (d2.more (left-true b2 b3 (right-true b1 (b2 && b3) g)));
        on-z = d3.more (right-true b2 b3 (right-true b1 (b2 && b3) g));
      }
