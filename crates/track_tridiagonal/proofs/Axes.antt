-- A step on one axis of the rows leaves the other two as they were. Assumes nothing.
use mathlib.Core.Path.{◌≡◌, refl, ◌∙◌}
use mathlib.Core.Bool.{Bool, true, false, cond}
use mathlib.Core.List.{List}
use Prim.Native.Nat.{ℕ, ◌+◌, ◌*◌, ◌<◌}
use native.Mathlib.Omega.{arith}
use lib.ListN.{get_or, set}
use Rattle.track_tridiagonal.specs.Rows.{row_cell, SameOutside}
use Rattle.track_tridiagonal.proofs.Cells.{miss, same_float, kept-none, kept_set}

-- axis u is as it was
pub record Beside (u : ℕ) (w w' : List ℕ) : Type 0 where
  pub diagonal : (k : ℕ) → row_cell w' u k ≡ row_cell w u k
  pub upper : (k : ℕ) → row_cell w' (3 + u) k ≡ row_cell w (3 + u) k
  pub right : (k : ℕ) → row_cell w' (6 + u) k ≡ row_cell w (6 + u) k

-- w' is w but for the places of axis t in the first n rows
pub record Touched (t n : ℕ) (w w' : List ℕ) : Type 0 where
  pub kept : SameOutside 0 (n * 9) w w'
  pub others : (k s : ℕ) → s < 9 → (s ≡ t → ⊥) → (s ≡ 3 + t → ⊥) → (s ≡ 6 + t → ⊥) → get_or w' (k * 9 + s) 0 ≡ get_or w (k * 9 + s) 0

pub beside : (t u n : ℕ) (w w' : List ℕ) → t < 3 → u < 3 → (u ≡ t → ⊥) → Touched t n w w' → Beside u w w'
beside t u n w w' ht hu h s = record {
  diagonal = λ k. same_float w w' (k * 9 + u) (s.others k u (omega arith) h (omega arith) (omega arith));
  upper = λ k. same_float w w' (k * 9 + (3 + u)) (s.others k (3 + u) (omega arith) (omega arith) (λ e. h (omega arith)) (omega arith));
  right = λ k. same_float w w' (k * 9 + (6 + u)) (s.others k (6 + u) (omega arith) (omega arith) (omega arith) (λ e. h (omega arith)));
}

pub touched_none : (t n : ℕ) (w : List ℕ) → Touched t n w w
touched_none t n w = record { kept = kept-none 0 (n * 9) w; others = λ k s h a b c. refl }

module _ (t n : ℕ) (w w' : List ℕ) (small : t < 3) (s : Touched t n w w') (i p v : ℕ) (inside : i < n) where
  pub touched-diagonal : p ≡ i * 9 + t → Touched t n w (set w' p v)
  touched-diagonal e = record {
    kept = kept_set 0 (n * 9) w w' p v (omega arith) (omega arith) s.kept;
    others = λ k q h a b c. miss w' p (k * 9 + q) v (λ g. a (omega arith)) ∙ s.others k q h a b c;
  }

  pub touched-upper : p ≡ i * 9 + (3 + t) → Touched t n w (set w' p v)
  touched-upper e = record {
    kept = kept_set 0 (n * 9) w w' p v (omega arith) (omega arith) s.kept;
    others = λ k q h a b c. miss w' p (k * 9 + q) v (λ g. b (omega arith)) ∙ s.others k q h a b c;
  }

  pub touched-right : p ≡ i * 9 + (6 + t) → Touched t n w (set w' p v)
  touched-right e = record {
    kept = kept_set 0 (n * 9) w w' p v (omega arith) (omega arith) s.kept;
    others = λ k q h a b c. miss w' p (k * 9 + q) v (λ g. c (omega arith)) ∙ s.others k q h a b c;
  }

-- a step that is made, or not
pub touched_if : (t n : ℕ) (w w1 w' : List ℕ) (b : Bool) → w' ≡ cond b w1 w → Touched t n w w1 → Touched t n w w'
touched_if t n w w1 w' true e s = rw e s
touched_if t n w w1 w' false e s = rw e (touched_none t n w)

pub taken : {A : Type 0} (b : Bool) (x y z : A) → b ≡ true → z ≡ cond b x y → z ≡ x
taken b x y z e h = rw e at h
