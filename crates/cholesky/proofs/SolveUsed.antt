-- The solution by a factor whose unknowns from n on are unused, with +0 there in the right side: where the forward solution is finite, the unused places stay +0 and add nothing to the others. Assumes nothing.
use Prim.Native.Nat.{ℕ, zero, suc, ◌+◌, ◌-◌, ◌≤◌, ◌<◌}
use native.Mathlib.Nat.{le_refl, lt_irrefl}
use native.Mathlib.Omega.{arith}
use native.Mathlib.Numerals.{add-one}
use native.Mathlib.Decide.{ℕ_discrete, dec_lt}
use mathlib.Core.Path.{◌≡◌, refl, sym, ap, ap₂, ◌∙◌, subst}
use mathlib.Core.List.{List}
use lib.Dec.{T}
use lib.ListN.{set, length, length-set, get_or-eq_default}
use lib.Seq.{get_or-set_same, get_or-set_other, set-get_or}
use lib.Ieee.{Float, nan, binary64, fits}
use lib.Ieee.Fits.{nan-fits, sub-fits, div-fits}
use lib.Ieee.Scale.{finite}
use Rattle.exact.specs.Float.{◌⊗◌, ◌⊘◌, +0, 1·0}
use Rattle.exact.specs.Products.{less_products}
use Rattle.exact.proofs.Ops.{div-finite}
use Rattle.exact.proofs.Products.{less-finite}
use Rattle.cholesky.specs.Factor.{at, cell, forward_to, with_forward, back_to, solution_of, Unused, UnusedPlaces}
use Rattle.cholesky.proofs.FactorLaws.{forward_to-next, back_to-zero, back_to-next}
use Rattle.cholesky.proofs.FactorFinite.{zero-finite}
use Rattle.numeric.proofs.Zeros.{less-zeros, less-nothing, zero-over-one}

-- all nine are used
pub all-used : (m : List (List Float)) → Unused 9 m
all-used m = record { diagonal-is = λ i b c. absurd (omega arith); below-is = λ i j b c d. absurd (omega arith) }

pub all-places : (x : List Float) → UnusedPlaces 9 x
all-places x = record { zero-at = λ i b c. absurd (omega arith) }

-- a used place set
pub places-kept : (n i : ℕ) (x : List Float) (v : Float) → i < n → UnusedPlaces n x → UnusedPlaces n (set x i v)
places-kept n i x v b h = record { zero-at = λ k kb kc. get_or-set_other x i k v nan (omega arith) ∙ h.zero-at k kb kc }

-- ---- a place set, within the column or past its end, where it stays a NaN
module _ (x : List Float) (k : ℕ) (v : Float) where
  past : (k < length x → ⊥) → at (set x k v) k ≡ nan
  past f = get_or-eq_default (set x k v) nan (omega (arith, length-set x k v))

  set-fits : T (fits binary64 v) → T (fits binary64 (at (set x k v) k))
  set-fits f = go (dec_lt k (length x))
    where
      go : Dec (k < length x) → T (fits binary64 (at (set x k v) k))
      go (yes b) = subst (λ (z : Float). T (fits binary64 z)) (sym (get_or-set_same x k v nan b)) f
      go (no g) = subst (λ (z : Float). T (fits binary64 z)) (sym (past g)) (nan-fits binary64)

  set-finite : T (finite (at (set x k v) k)) → T (finite v)
  set-finite f = go (dec_lt k (length x))
    where
      go : Dec (k < length x) → T (finite v)
      go (yes b) = subst (λ (z : Float). T (finite z)) (get_or-set_same x k v nan b) f
      go (no g) = absurd (subst (λ (z : Float). T (finite z)) (past g) f)

-- ---- forward

-- what the forward substitution puts at place i of x
abbrev forward_at : List (List Float) → List Float → ℕ → Float
forward_at l x i = less_products (at x i) (cell l i) (at x) i ⊘ cell l i i

forward-rest : (n : ℕ) (l : List (List Float)) (b : List Float) (k : ℕ) → n ≤ k → at (forward_to n l b) k ≡ at b k
unfolding forward_to with_forward
forward-rest zero l b k h = refl
forward-rest (suc i) l b k h = get_or-set_other (forward_to i l b) i k (forward_at l (forward_to i l b) i) nan (omega arith) ∙ forward-rest i l b k (omega arith)

pub forward-places : (n : ℕ) (l : List (List Float)) (b : List Float) → UnusedPlaces n b → UnusedPlaces n (forward_to n l b)
forward-places n l b h = record { zero-at = λ i ib ic. forward-rest n l b i ib ∙ h.zero-at i ib ic }

-- the last place solved is a quotient
pub forward-fits : (n : ℕ) (l : List (List Float)) (b : List Float) → 0 < n → T (fits binary64 (at (forward_to n l b) (n - 1)))
unfolding forward_to with_forward
forward-fits zero l b h = absurd (lt_irrefl 0 h)
forward-fits (suc i) l b h =
    let x = forward_to i l b in
    let e : i ≡ suc i - 1 = omega arith in
    subst (λ (k : ℕ). T (fits binary64 (at (forward_to (suc i) l b) k))) e (set-fits x i (forward_at l x i) (div-fits binary64 (less_products (at x i) (cell l i) (at x) i) (cell l i i)))

-- where it is finite all before it are: a finite difference has finite terms
last-finite : (i : ℕ) (l : List (List Float)) (b : List Float) → T (finite (at (forward_to (suc i) l b) i)) → (k : ℕ) → k < suc i → Dec (k ≡ i) → T (finite (at (forward_to (suc i) l b) k))
unfolding forward_to with_forward
last-finite i l b f k kb (yes e) = subst (λ (z : ℕ). T (finite (at (forward_to (suc i) l b) z))) (sym e) f
last-finite i l b f k kb (no g) =
    let x = forward_to i l b in
    let v = forward_at l x i in
    let s = div-finite (less_products (at x i) (cell l i) (at x) i) (cell l i i) (set-finite x i v f) in
    subst (λ (z : Float). T (finite z)) (sym (get_or-set_other x i k v nan g)) (less-finite (at x i) (cell l i) (at x) i s k (omega arith)).1

forward-finite : (n : ℕ) (l : List (List Float)) (b : List Float) → 0 < n → T (finite (at (forward_to n l b) (n - 1))) → (k : ℕ) → k < n → T (finite (at (forward_to n l b) k))
forward-finite zero l b h f k kb = absurd (lt_irrefl 0 h)
forward-finite (suc i) l b h f k kb =
    let e : suc i - 1 ≡ i = omega arith in last-finite i l b (subst (λ (z : ℕ). T (finite (at (forward_to (suc i) l b) z))) e f) k kb (ℕ_discrete k i)

-- +0 put at a place that holds it
put-zero : (y : List Float) (i : ℕ) (v : Float) → v ≡ +0 → at y i ≡ +0 → set y i v ≡ y
put-zero y i v e h = ap (set y i) (e ∙ sym h) ∙ set-get_or y i nan

-- +0 less products with +0, over 1
zero-sum : (s d : Float) (p q : ℕ → Float) (n : ℕ) → s ≡ +0 → d ≡ 1·0 → ((k : ℕ) → k < n → p k ≡ +0) → ((k : ℕ) → k < n → T (finite (q k))) → less_products s p q n ⊘ d ≡ +0
zero-sum s d p q n e f h g = ap₂ (λ (t u : Float). less_products t p q n ⊘ u) e f ∙ ap (λ (t : Float). t ⊘ 1·0) (less-zeros p q n h g) ∙ zero-over-one

module _ (n : ℕ) (l : List (List Float)) (b : List Float) (p : 0 < n) (u : Unused n l) (z : UnusedPlaces n b) (f : T (finite (at (forward_to n l b) (n - 1)))) where
  fine : (k : ℕ) → k < 9 → T (finite (at (forward_to n l b) k))
  fine k kb = go (dec_lt k n)
    where
      go : Dec (k < n) → T (finite (at (forward_to n l b) k))
      go (yes h) = forward-finite n l b p f k h
      go (no h) = subst (λ (x : Float). T (finite x)) (sym ((forward-places n l b z).zero-at k (omega arith) kb)) zero-finite

  more : (i : ℕ) → n ≤ i → i ≤ 9 → forward_to i l b ≡ forward_to n l b
  more zero ib ic = let e : 0 ≡ n = omega arith in ap (λ (k : ℕ). forward_to k l b) e
  more (suc i) ib ic = go (ℕ_discrete n (suc i)) (λ h. more i h (omega arith))
    where
      y : List Float
      y = forward_to n l b

      go : Dec (n ≡ suc i) → (n ≤ i → forward_to i l b ≡ forward_to n l b) → forward_to (suc i) l b ≡ forward_to n l b
      go (yes e) g = ap (λ (k : ℕ). forward_to k l b) (sym e)
      go (no e) g =
          let h : n ≤ i = omega arith in
          let o = (forward-places n l b z).zero-at i h ic in
          ap (λ (k : ℕ). forward_to k l b) (sym (add-one i))
          ∙ forward_to-next i l b
          ∙ ap (λ (x : List Float). set x i (forward_at l x i)) (g h)
          ∙ put-zero y i (forward_at l y i) (zero-sum (at y i) (cell l i i) (cell l i) (at y) i o (u.diagonal-is i h ic) (λ k kb. u.below-is i k h ic kb) (λ k kb. fine k (omega arith))) o

  -- where the last used place is finite, the places of the unused unknowns stay +0
  pub forward-whole : n ≤ 9 → forward_to 9 l b ≡ forward_to n l b
  forward-whole c = more 9 c (le_refl 9)

-- ---- back

-- what the back substitution puts at place i of x, from n products
abbrev back_at : ℕ → List (List Float) → List Float → ℕ → Float
back_at n l x i = less_products (at x i) (λ k. cell l (i + 1 + k) i) (λ k. at x (i + 1 + k)) n ⊘ cell l i i

module _ (n : ℕ) (l : List (List Float)) (y : List Float) (c : n ≤ 9) (u : Unused n l) (z : UnusedPlaces n y) where
  back_start : (t : ℕ) → t ≤ 9 - n → back_to t l y ≡ y
  back_start zero h = back_to-zero l y
  back_start (suc t) h =
      let i = 8 - t in
      let k : n ≤ i = omega arith in
      let o = z.zero-at i k (omega arith) in
      ap (λ (k : ℕ). back_to k l y) (sym (add-one t))
      ∙ back_to-next t l y
      ∙ ap (λ (x : List Float). set x (8 - t) (back_at (8 - (8 - t)) l x (8 - t))) (back_start t (omega arith))
      ∙ put-zero y i (back_at (8 - i) l y i)
      (zero-sum (at y i) (cell l i i) (λ k. cell l (i + 1 + k) i) (λ k. at y (i + 1 + k)) (8 - i) o (u.diagonal-is i k (omega arith)) (λ k kb. u.below-is (i + 1 + k) i (omega arith) (omega arith) (omega arith)) (λ k kb. subst (λ (x : Float). T (finite x)) (sym (z.zero-at (i + 1 + k) (omega arith) (omega arith))) zero-finite)) o

  pub back_none : y ≡ back_to (9 - n + 0) l y
  back_none = let e : 9 - n ≡ 9 - n + 0 = omega arith in sym (back_start (9 - n) (le_refl (9 - n))) ∙ ap (λ (t : ℕ). back_to t l y) e

  module _ (f : T (fits binary64 (at y (n - 1)))) (m i : ℕ) (e : i + 1 + m ≡ n) (x : List Float) (w : UnusedPlaces n x) (h : x ≡ back_to (9 - n + m) l y) where
    sum_fits : (k : ℕ) → k ≡ m → (p q : ℕ → Float) → T (fits binary64 (less_products (at x i) p q k))
    unfolding less_products
    sum_fits zero g p q =
        let a : 9 - n + m ≡ 9 - n + 0 = omega arith in
        let b : n - 1 ≡ i = omega arith in
        subst (λ (v : Float). T (fits binary64 v)) (ap (at y) b ∙ ap (λ (v : List Float). at v i) (back_none ∙ ap (λ (t : ℕ). back_to t l y) (sym a) ∙ sym h)) f
    sum_fits (suc k) g p q = sub-fits binary64 (less_products (at x i) p q k) (p k ⊗ q k)

    -- one place more: the products with the unused places are left out
    pub back-next : (s : Float) → s ≡ less_products (at x i) (λ k. cell l (i + 1 + k) i) (λ k. at x (i + 1 + k)) m → set x i (s ⊘ cell l i i) ≡ back_to (9 - n + (m + 1)) l y
    back-next s q =
        let p : ℕ → Float = λ k. cell l (i + 1 + k) i in
        let r : ℕ → Float = λ k. at x (i + 1 + k) in
        let t = 9 - n + m in
        let a : 8 - t ≡ i = omega arith in
        let b : m + (9 - n) ≡ 8 - i = omega arith in
        let d : t + 1 ≡ 9 - n + (m + 1) = omega arith in
        let whole : less_products (at x i) p r (m + (9 - n)) ≡ less_products (at x i) p r m = less-nothing (at x i) p r m (9 - n) (sum_fits m refl p r) (λ k kb kc. (u.below-is (i + 1 + k) i (omega arith) (omega arith) (omega arith), w.zero-at (i + 1 + k) (omega arith) (omega arith))) in
        ap (λ (v : Float). set x i (v ⊘ cell l i i)) (q ∙ sym whole ∙ ap (less_products (at x i) p r) b)
        ∙ ap (λ (j : ℕ). set x j (back_at (8 - j) l x j)) (sym a)
        ∙ ap (λ (v : List Float). set v (8 - t) (back_at (8 - (8 - t)) l v (8 - t))) h
        ∙ sym (back_to-next t l y)
        ∙ ap (λ (k : ℕ). back_to k l y) d

-- ---- both

pub solution-used : (n : ℕ) (l : List (List Float)) (b y x : List Float) → 0 < n → n ≤ 9 → Unused n l → UnusedPlaces n b → y ≡ forward_to n l b → T (finite (at y (n - 1))) → x ≡ back_to 9 l y → x ≡ solution_of l b
unfolding solution_of
solution-used n l b y x p c u z e f h =
    h ∙ ap (back_to 9 l) (e ∙ sym (forward-whole n l b p u z (subst (λ (v : List Float). T (finite (at v (n - 1)))) e f) c))
