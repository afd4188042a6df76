-- Lists of nine, and lists of nine such lists, by their elements. Assumes nothing.
use mathlib.Core.Path.{◌≡◌, refl, sym, ap, ◌∙◌, subst}
use Prim.Native.Nat.{ℕ, zero, suc, ◌+◌, ◌<◌}
use native.Mathlib.Nat.{add-zero, not-suc-le-zero, le_of_suc-le-suc}
use native.Mathlib.Decide.{ℕ_discrete}
use native.Mathlib.Omega.{arith}
use mathlib.Core.Bool.{cond, ◌&&◌}
use mathlib.Core.List.{List, []}
use lib.Dec.{eqb}
use borrow.Author.Tests.{eq-eqb, ne_eqb}
use lib.ListN.{get_or, length, set, length-set}
use lib.Seq.{get_or-set_same, get_or-set_other, ext_get_or}
use lib.Ieee.{Float, nan}
use Rattle.cholesky.specs.Factor.{at, row, cell}
use Rattle.normal_equations.specs.Nine.{from, nine, Square}
use Rattle.cholesky.specs.Steps.{store}

module _ {A : Type 0} where
  from_at : (f : ℕ → A) (d : A) (i n k : ℕ) → k < n → get_or (from i n f) k d ≡ f (i + k)
  unfolding from
  from_at f d i zero k h = absurd (not-suc-le-zero h)
  from_at f d i (suc n) zero h = ap f (sym (add-zero i))
  from_at f d i (suc n) (suc k) h = let e : suc i + k ≡ i + suc k = omega arith in from_at f d (suc i) n k (le_of_suc-le-suc h) ∙ ap f e

  from-length : (f : ℕ → A) (i n : ℕ) → length (from i n f) ≡ n
  unfolding from
  from-length f i zero = refl
  from-length f i (suc n) = ap suc (from-length f (suc i) n)

  pub nine-at : (f : ℕ → A) (d : A) (k : ℕ) → k < 9 → get_or (nine f) k d ≡ f k
  unfolding nine
  nine-at f d k h = let e : 0 + k ≡ k = omega arith in from_at f d 0 9 k h ∙ ap f e

  pub nine-length : (f : ℕ → A) → length (nine f) ≡ 9
  unfolding nine
  nine-length f = from-length f 0 9

  -- a list of nine is known by its elements
  pub nine-is : (f : ℕ → A) (d : A) (xs : List A) → length xs ≡ 9 → ((k : ℕ) → k < 9 → get_or xs k d ≡ f k) → xs ≡ nine f
  nine-is f d xs long each = ext_get_or d xs (nine f) (long ∙ sym (nine-length f)) (λ k kb. each k (omega (arith, long)) ∙ sym (nine-at f d k (omega (arith, long))))

pub cell_at : (f : ℕ → ℕ → Float) (i j : ℕ) → i < 9 → j < 9 → cell (nine (λ i. nine (f i))) i j ≡ f i j
cell_at f i j ib jb = ap (λ (z : List Float). at z j) (nine-at (λ i. nine (f i)) [] i ib) ∙ nine-at (f i) nan j jb

-- ---- nine rows of nine
pub square-nine : (f : ℕ → ℕ → Float) → Square (nine (λ i. nine (f i)))
square-nine f = record { long = nine-length (λ i. nine (f i)); wide = λ p pb. ap length (nine-at (λ i. nine (f i)) [] p pb) ∙ nine-length (f p) }

pub square-is : (f : ℕ → ℕ → Float) (a : List (List Float)) → Square a → ((p q : ℕ) → p < 9 → q < 9 → cell a p q ≡ f p q) → a ≡ nine (λ i. nine (f i))
square-is f a s each = nine-is (λ i. nine (f i)) [] a s.long (λ p pb. nine-is (f p) nan (row a p) (s.wide p pb) (λ q qb. each p q pb qb))

-- ---- a store of v into row i and column j
module _ (a : List (List Float)) (s : Square a) (i j : ℕ) (v : Float) (ib : i < 9) where
  row_same : row (store a i j v) i ≡ set (row a i) j v
  row_same = get_or-set_same a i (set (row a i) j v) [] (omega (arith, s.long))

  pub square-store : Square (store a i j v)
  square-store = record { long = length-set a i _ ∙ s.long; wide = λ p pb. go p pb (ℕ_discrete p i) }
    where
      go : (p : ℕ) → p < 9 → Dec (p ≡ i) → length (row (store a i j v) p) ≡ 9
      go p pb (yes e) = rw e (ap length row_same ∙ length-set (row a i) j v ∙ s.wide i ib)
      go p pb (no n) = ap length (get_or-set_other a i p (set (row a i) j v) [] n) ∙ s.wide p pb

  pub cell_same : j < 9 → cell (store a i j v) i j ≡ v
  cell_same jb = ap (λ (z : List Float). at z j) row_same ∙ get_or-set_same (row a i) j v nan (omega (arith, s.wide i ib))

  pub cell_other : (p q : ℕ) → (p ≡ i → q ≡ j → ⊥) → cell (store a i j v) p q ≡ cell a p q
  cell_other p q n = go (ℕ_discrete p i)
    where
      go : Dec (p ≡ i) → cell (store a i j v) p q ≡ cell a p q
      go (yes e) = subst (λ (z : ℕ). cell (store a i j v) z q ≡ cell a z q) (sym e) (ap (λ (z : List Float). at z q) row_same ∙ get_or-set_other (row a i) j q v nan (n e))
      go (no m) = ap (λ (z : List Float). at z q) (get_or-set_other a i p (set (row a i) j v) [] m)

-- ---- a matrix whose cells are known, after a store
abbrev pub put : (ℕ → ℕ → Float) → ℕ → ℕ → Float → ℕ → ℕ → Float
put T i j v p q = cond (eqb p i && eqb q j) v (T p q)

pub record Known (T : ℕ → ℕ → Float) (a : List (List Float)) : Type 0 where
  pub square : Square a
  pub is : (p q : ℕ) → p < 9 → q < 9 → cell a p q ≡ T p q

pub known_store : {T : ℕ → ℕ → Float} {a : List (List Float)} (i j : ℕ) (v : Float) → i < 9 → j < 9 → Known T a → Known (put T i j v) (store a i j v)
known_store {T} {a} i j v ib jb h = record { square = square-store a h.square i j v ib; is = λ p q pb qb. go p q pb qb (ℕ_discrete p i) (ℕ_discrete q j) }
  where
    go : (p q : ℕ) → p < 9 → q < 9 → Dec (p ≡ i) → Dec (q ≡ j) → cell (store a i j v) p q ≡ put T i j v p q
    go p q pb qb (no n) d = rw (ne_eqb p i n) (cell_other a h.square i j v ib p q (λ x y. n x) ∙ h.is p q pb qb)
    go p q pb qb (yes e) (no n) = rw (eq-eqb p i e, ne_eqb q j n) (cell_other a h.square i j v ib p q (λ x y. n y) ∙ h.is p q pb qb)
    go p q pb qb (yes e) (yes f) = rw (eq-eqb p i e, eq-eqb q j f) (subst (λ (z : ℕ). cell (store a i j v) z q ≡ v) (sym e) (subst (λ (z : ℕ). cell (store a i j v) i z ≡ v) (sym f) (cell_same a h.square i j v ib jb)))

-- a store into a matrix given by its cells
pub square-put : (f : ℕ → ℕ → Float) (i j : ℕ) (v : Float) → i < 9 → j < 9 → store (nine (λ p. nine (f p))) i j v ≡ nine (λ p. nine (put f i j v p))
square-put f i j v ib jb = let k = known_store i j v ib jb (record { square = square-nine f; is = cell_at f }) in square-is (put f i j v) _ k.square k.is
