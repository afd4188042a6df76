-- Patterns in one list, place by place: what stands at a place after a store and what a step keeps. Assumes nothing.
use mathlib.Core.Path.{◌≡◌, refl, sym, ◌∙◌, ap}
use mathlib.Core.Logic.{◌⊎◌, inl, inr, ⊎_elim}
use mathlib.Core.List.{List, ◌++◌}
use Prim.Native.Nat.{ℕ, ◌+◌, ◌-◌, ◌*◌, ◌≤◌, ◌<◌}
use mathlib.Core.Bool.{Bool, true, false, not, cond}
use native.Mathlib.Nat.{eq-or-lt_of_le}
use native.Mathlib.Decide.{dec_lt}
use native.Mathlib.Omega.{arith}
use lib.ListN.{length, get_or, set, drop, replicate, length-append, length-drop, length-replicate, get_or-replicate, get_or-append}
use lib.Seq.{get_or-set_same, get_or-set_other, get_or-drop, get_or-append-add, ext_get_or}
use lib.Dec.{T, eqb}
use lib.Ieee.Bits.{nan_bits_is}
use Rattle.exact.specs.Float.{bits}
use Rattle.numeric.specs.Order.{pattern_of}
use Rattle.numeric.proofs.OrderLaws.{pattern_back}
use lib.Ieee.{Float, is_nan, nan_bits, binary64, fits}
use borrow.Author.Tests.{eqb-true, eqb-false}
use Rattle.track_tridiagonal.specs.Rows.{float_at, row_cell, SameOutside}
use Rattle.track_tridiagonal.specs.Steps.{Filled}

-- equal places
pub place : (xs : List ℕ) (i k : ℕ) → i ≡ k → get_or xs i 0 ≡ get_or xs k 0
place xs i k e = ap (λ (j : ℕ). get_or xs j 0) e

-- the store at i is what a reading at i finds, and any other place is as it was
pub hit : (xs : List ℕ) (i k : ℕ) (v : ℕ) → i < length xs → k ≡ i → get_or (set xs i v) k 0 ≡ v
hit xs i k v h e = ap (λ (j : ℕ). get_or (set xs i v) j 0) e ∙ get_or-set_same xs i v 0 h

pub miss : (xs : List ℕ) (i k : ℕ) (v : ℕ) → (k ≡ i → ⊥) → get_or (set xs i v) k 0 ≡ get_or xs k 0
miss xs i k v h = get_or-set_other xs i k v 0 h

-- the same after two stores
pub miss2 : (xs : List ℕ) (i j k : ℕ) (v w : ℕ) → (k ≡ i → ⊥) → (k ≡ j → ⊥) → get_or (set (set xs i v) j w) k 0 ≡ get_or xs k 0
miss2 xs i j k v w h g = miss (set xs i v) j k w g ∙ miss xs i k v h

-- a bound that grew by one
pub grown : (k i : ℕ) → k ≤ i + 1 → (k ≡ i + 1) ⊎ (k ≤ i)
grown k i h = ⊎_elim inl (λ g. inr (omega arith)) (eq-or-lt_of_le h)

-- ---- floats

-- a pattern that is no NaN's can be read
pub readable : (b : ℕ) → is_nan (bits b) ≡ false → T (not (nan_bits binary64 b))
readable b h = rw (nan_bits_is binary64 b ∙ h) tt

pub same_float : (w w' : List ℕ) (k : ℕ) → get_or w' k 0 ≡ get_or w k 0 → float_at w' k ≡ float_at w k
same_float w w' k e = ap bits e

pub float-place : (w : List ℕ) (i k : ℕ) → i ≡ k → float_at w i ≡ float_at w k
float-place w i k e = ap (float_at w) e

-- the float stored at i is what a reading at i finds
pub float-hit : (w : List ℕ) (i k : ℕ) (x : Float) → T (fits binary64 x) → i < length w → k ≡ i → float_at (set w i (pattern_of x)) k ≡ x
float-hit w i k x f h e = ap bits (hit w i k (pattern_of x) h e) ∙ pattern_back x f

pub float-miss : (w : List ℕ) (i k v : ℕ) → (k ≡ i → ⊥) → float_at (set w i v) k ≡ float_at w k
float-miss w i k v h = same_float w (set w i v) k (miss w i k v h)

pub float-miss2 : (w : List ℕ) (i j k u v : ℕ) → (k ≡ i → ⊥) → (k ≡ j → ⊥) → float_at (set (set w i u) j v) k ≡ float_at w k
float-miss2 w i j k u v f g = float-miss (set w i u) j k v g ∙ float-miss w i k u f

pub float-miss3 : (w : List ℕ) (h i j k t u v : ℕ) → (k ≡ h → ⊥) → (k ≡ i → ⊥) → (k ≡ j → ⊥) → float_at (set (set (set w h t) i u) j v) k ≡ float_at w k
float-miss3 w h i j k t u v e f g = float-miss (set (set w h t) i u) j k v g ∙ float-miss2 w h i k t u e f

-- a number among numbers
pub number-set : (w : List ℕ) (i k : ℕ) (x : Float) → T (fits binary64 x) → i < length w → is_nan x ≡ false → is_nan (float_at w k) ≡ false → is_nan (float_at (set w i (pattern_of x)) k) ≡ false
number-set w i k x f h g o = go (eqb k i) refl
  where
    go : (b : Bool) → eqb k i ≡ b → is_nan (float_at (set w i (pattern_of x)) k) ≡ false
    go true e = ap is_nan (float-hit w i k x f h (eqb-true k i e)) ∙ g
    go false e = ap is_nan (float-miss w i k (pattern_of x) (eqb-false k i e)) ∙ o

-- ---- a store into rows of nine

-- The store of f of what stood there, at place s of row i: row k is changed where k is i.
pub update : (w : List ℕ) (p s i k : ℕ) (x : Float) (f : Float → Float) → s < 9 → p ≡ i * 9 + s → p < length w → T (fits binary64 x) → x ≡ f (float_at w p)
    → row_cell (set w p (pattern_of x)) s k ≡ cond (eqb i k) (f (row_cell w s k)) (row_cell w s k)
update w p s i k x f small e h g ev = go (eqb i k) refl
  where
    go : (b : Bool) → eqb i k ≡ b → row_cell (set w p (pattern_of x)) s k ≡ cond b (f (row_cell w s k)) (row_cell w s k)
    go true q =
        let same : k * 9 + s ≡ p = omega (arith, eqb-true i k q) in
        float-hit w p (k * 9 + s) x g h same ∙ ev ∙ ap f (float-place w p (k * 9 + s) (sym same))
    go false q = float-miss w p (k * 9 + s) (pattern_of x) (λ r. eqb-false i k q (omega arith))

-- ---- what is kept

pub kept-none : (lo hi : ℕ) (w : List ℕ) → SameOutside lo hi w w
kept-none lo hi w = record { low = λ k h. refl; high = λ k h. refl }

pub kept_set : (lo hi : ℕ) (w w' : List ℕ) (p : ℕ) (v : ℕ) → lo ≤ p → p < hi → SameOutside lo hi w w' → SameOutside lo hi w (set w' p v)
kept_set lo hi w w' p v a b s = record {
  low = λ k h. miss w' p k v (omega arith) ∙ s.low k h;
  high = λ k h. miss w' p k v (omega arith) ∙ s.high k h;
}

pub kept_then : (lo hi lo' hi' : ℕ) (w w' w'' : List ℕ) → lo ≤ lo' → hi' ≤ hi → SameOutside lo hi w w' → SameOutside lo' hi' w' w'' → SameOutside lo hi w w''
kept_then lo hi lo' hi' w w' w'' a b s t = record {
  low = λ k h. t.low k (omega arith) ∙ s.low k h;
  high = λ k h. t.high k (omega arith) ∙ s.high k h;
}

-- ---- filling

pub miss3 : (xs : List ℕ) (i j l k : ℕ) (v w y : ℕ) → (k ≡ i → ⊥) → (k ≡ j → ⊥) → (k ≡ l → ⊥) → get_or (set (set (set xs i v) j w) l y) k 0 ≡ get_or xs k 0
miss3 xs i j l k v w y h g f = miss (set (set xs i v) j w) l k y f ∙ miss2 xs i j k v w h g

-- ---- a list from its places: v at the first n, and the rest as it was
pub fill-list : (n : ℕ) (v : ℕ) (w w' : List ℕ) → length w' ≡ length w → n ≤ length w → ((k : ℕ) → k < n → get_or w' k 0 ≡ v) → ((k : ℕ) → n ≤ k → get_or w' k 0 ≡ get_or w k 0)
    → w' ≡ replicate n v ++ drop n w
fill-list n v w w' long room front rest = ext_get_or 0 w' (replicate n v ++ drop n w) same at
  where
    same : length w' ≡ length (replicate n v ++ drop n w)
    same = long ∙ sym (length-append (replicate n v) (drop n w) ∙ simp (length-replicate, length-drop) (omega arith))

    at : (k : ℕ) → k < length w' → get_or w' k 0 ≡ get_or (replicate n v ++ drop n w) k 0
    at k l = go (dec_lt k n)
      where
        go : Dec (k < n) → get_or w' k 0 ≡ get_or (replicate n v ++ drop n w) k 0
        go (yes h) = front k h ∙ sym (get_or-append (replicate n v) (drop n w) 0 k (simp length-replicate h) ∙ get_or-replicate n k v 0 h)
        go (no m) =
            let h : n ≤ k = omega arith in
            rest k h ∙ sym (place (replicate n v ++ drop n w) k (length (replicate n v) + (k - n)) (omega (arith, length-replicate n v))
            ∙ get_or-append-add (replicate n v) (drop n w) (k - n) 0 ∙ get_or-drop n w (k - n) 0 ∙ place w (n + (k - n)) k (omega arith))
