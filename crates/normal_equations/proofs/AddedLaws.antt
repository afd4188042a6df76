-- What a row adds at every place, one place after the other, and to the sums of the rows before it. Assumes nothing.
use mathlib.Core.Path.{◌≡◌, refl, sym, ap, ◌∙◌, fun_ext}
use Prim.Native.Nat.{ℕ, ◌+◌, ◌≤◌, ◌<◌}
use native.Mathlib.Decide.{ℕ_discrete, dec_lt}
use native.Mathlib.Omega.{arith}
use mathlib.Core.Bool.{cond, ◌&&◌}
use mathlib.Core.List.{List}
use lib.Dec.{ltb, leb, eqb}
use borrow.Author.Tests.{lt-ltb, le-ltb, le-leb, lt-leb, eq-eqb, ne_eqb}
use lib.ListN.{length, set, replicate, length-set, get_or-replicate}
use lib.Seq.{get_or-set_same, get_or-set_other}
use lib.Ieee.{Float, nan}
use Rattle.exact.specs.Float.{◌⊕◌, ◌⊗◌, +0, 1·0}
use Rattle.cholesky.specs.Factor.{at, cell}
use Rattle.normal_equations.specs.Nine.{nine, Square}
use Rattle.normal_equations.specs.Equations.{triangle_of}
use Rattle.cholesky.specs.Steps.{store}
use Rattle.normal_equations.specs.Steps.{unused, times, side_added, row_added, triangle_added}
use Rattle.normal_equations.proofs.NineLaws.{nine-at, nine-length, nine-is, cell_at, square-nine, square-is, put, square-put}

-- ---- a list of nine whose first i places are what f gives, and the others what g gives
abbrev part : ℕ → (ℕ → Float) → (ℕ → Float) → List Float
part i f g = nine (λ p. cond (ltb p i) (f p) (g p))

part-next : (i : ℕ) (f g : ℕ → Float) → i < 9 → set (part i f g) i (f i) ≡ part (i + 1) f g
part-next i f g ib = nine-is (λ p. cond (ltb p (i + 1)) (f p) (g p)) nan _ (length-set (part i f g) i (f i) ∙ nine-length _) (λ p pb. go p pb (ℕ_discrete p i) (dec_lt p i))
  where
    old : (p : ℕ) → p < 9 → (p ≡ i → ⊥) → at (set (part i f g) i (f i)) p ≡ cond (ltb p i) (f p) (g p)
    old p pb n = get_or-set_other (part i f g) i p (f i) nan n ∙ nine-at (λ p. cond (ltb p i) (f p) (g p)) nan p pb

    go : (p : ℕ) → p < 9 → Dec (p ≡ i) → Dec (p < i) → at (set (part i f g) i (f i)) p ≡ cond (ltb p (i + 1)) (f p) (g p)
    go p pb (yes e) d = rw (e, lt-ltb i (i + 1) (omega arith)) (get_or-set_same (part i f g) i (f i) nan (omega (arith, nine-length (λ p. cond (ltb p i) (f p) (g p)))))
    go p pb (no n) (yes l) = old p pb n ∙ rw (lt-ltb p i l, lt-ltb p (i + 1) (omega arith))
    go p pb (no n) (no l) = let h : i ≤ p = omega arith in let k : i + 1 ≤ p = omega arith in old p pb n ∙ rw (le-ltb p i h, le-ltb p (i + 1) k)

part_none : (f g : ℕ → Float) (b : List Float) → length b ≡ 9 → ((p : ℕ) → p < 9 → at b p ≡ g p) → b ≡ part 0 f g
part_none f g b long h = nine-is _ nan b long (λ p pb. h p pb ∙ rw (le-ltb p 0 (omega arith)))

part-all : (i : ℕ) (f g : ℕ → Float) → 9 ≤ i → part i f g ≡ nine f
part-all i f g h = nine-is f nan _ (nine-length _) (λ p pb. nine-at (λ p. cond (ltb p i) (f p) (g p)) nan p pb ∙ rw (lt-ltb p i (omega arith)))

-- ---- a row times its weight: the first i places, with zeros beyond them
module _ (w : Float) (e : List Float) where
  pub times_to : ℕ → List Float
  times_to i = part i (λ p. w ⊗ at e p) (λ p. +0)

  pub times-start : replicate 9 +0 ≡ times_to 0
  unfolding times_to
  times-start = part_none (λ p. w ⊗ at e p) (λ p. +0) (replicate 9 +0) refl (λ p pb. get_or-replicate 9 p +0 nan pb)

  pub times-next : (i : ℕ) (t : List Float) → i < 9 → t ≡ times_to i → set t i (w ⊗ at e i) ≡ times_to (i + 1)
  unfolding times_to
  times-next i t ib h = rw h (part-next i (λ p. w ⊗ at e p) (λ p. +0) ib)

  pub times-end : (i : ℕ) (t : List Float) → 9 ≤ i → t ≡ times_to i → t ≡ times w e
  unfolding times_to times
  times-end i t h e = e ∙ part-all i _ _ h

  pub times-at : (p : ℕ) → p < 9 → at (times w e) p ≡ w ⊗ at e p
  unfolding times
  times-at p pb = nine-at (λ i. w ⊗ at e i) nan p pb

-- ---- the right side
module _ (t : List Float) (d : Float) (b : List Float) where
  pub side-start : length b ≡ 9 → b ≡ side_added 0 t d b
  unfolding side_added
  side-start long = part_none (λ p. at b p ⊕ at t p ⊗ d) (λ p. at b p) b long (λ p pb. refl)

  pub side-next : (i : ℕ) (s : List Float) → i < 9 → s ≡ side_added i t d b → set s i (at s i ⊕ at t i ⊗ d) ≡ side_added (i + 1) t d b
  unfolding side_added
  side-next i s ib h =
      let v : at s i ≡ at b i = ap (λ (z : List Float). at z i) h ∙ nine-at (λ p. cond (ltb p i) (at b p ⊕ at t p ⊗ d) (at b p)) nan i ib ∙ rw (le-ltb i i (omega arith)) in
      ap (λ (z : Float). set s i (z ⊕ at t i ⊗ d)) v ∙ ap (λ (z : List Float). set z i (at b i ⊕ at t i ⊗ d)) h ∙ part-next i (λ p. at b p ⊕ at t p ⊗ d) (λ p. at b p) ib

  pub side-end : (n i : ℕ) (s : List Float) → i ≡ n → s ≡ side_added i t d b → s ≡ side_added n t d b
  side-end n i s e h = h ∙ ap (λ (z : ℕ). side_added z t d b) e

-- ---- a row of the matrix
module _ (i : ℕ) (t : Float) (e : List Float) (a : List (List Float)) where
  abbrev in_row : ℕ → ℕ → ℕ → Float
  in_row m p q = cond (eqb p i && ltb q m) (cell a p q ⊕ t ⊗ at e q) (cell a p q)

  pub row-start : Square a → a ≡ row_added i 0 t e a
  unfolding row_added
  row-start s = square-is (in_row 0) a s (λ p q pb qb. go p q (ℕ_discrete p i))
    where
      go : (p q : ℕ) → Dec (p ≡ i) → cell a p q ≡ in_row 0 p q
      go p q (yes h) = rw (eq-eqb p i h, le-ltb q 0 (omega arith))
      go p q (no h) = rw (ne_eqb p i h)

  pub row_next : (j : ℕ) (b : List (List Float)) → i < 9 → j < 9 → b ≡ row_added i j t e a → store b i j (cell b i j ⊕ t ⊗ at e j) ≡ row_added i (j + 1) t e a
  unfolding row_added
  row_next j b ib jb h =
      let v : cell b i j ≡ cell a i j = ap (λ (z : List (List Float)). cell z i j) h ∙ cell_at (in_row j) i j ib jb ∙ rw (eq-eqb i i refl, le-ltb j j (omega arith)) in
      ap (λ (z : Float). store b i j (z ⊕ t ⊗ at e j)) v ∙ ap (λ (z : List (List Float)). store z i j (cell a i j ⊕ t ⊗ at e j)) h
      ∙ square-put (in_row j) i j (cell a i j ⊕ t ⊗ at e j) ib jb
      ∙ ap (λ (f : ℕ → ℕ → Float). nine (λ p. nine (f p))) (fun_ext (λ p. fun_ext (λ q. go p q (ℕ_discrete p i) (ℕ_discrete q j) (dec_lt q j))))
    where
      go : (p q : ℕ) → Dec (p ≡ i) → Dec (q ≡ j) → Dec (q < j) → put (in_row j) i j (cell a i j ⊕ t ⊗ at e j) p q ≡ in_row (j + 1) p q
      go p q (no n) d l = rw (ne_eqb p i n)
      go p q (yes x) (yes y) l = rw (x, y, eq-eqb i i refl, eq-eqb j j refl, lt-ltb j (j + 1) (omega arith))
      go p q (yes x) (no n) (yes l) = rw (eq-eqb p i x, ne_eqb q j n, lt-ltb q j l, lt-ltb q (j + 1) (omega arith))
      go p q (yes x) (no n) (no l) = let u : j ≤ q = omega arith in let w : j + 1 ≤ q = omega arith in rw (eq-eqb p i x, ne_eqb q j n, le-ltb q j u, le-ltb q (j + 1) w)

  pub row-end : (m j : ℕ) (b : List (List Float)) → j ≡ m → b ≡ row_added i j t e a → b ≡ row_added i m t e a
  row-end m j b k h = h ∙ ap (λ (z : ℕ). row_added i z t e a) k

-- ---- the lower triangle
module _ (t e : List Float) (a : List (List Float)) where
  abbrev in_triangle : ℕ → ℕ → ℕ → Float
  in_triangle n p q = cond (ltb p n && leb q p) (cell a p q ⊕ at t p ⊗ at e q) (cell a p q)

  pub triangle-start : Square a → a ≡ triangle_added 0 t e a
  unfolding triangle_added
  triangle-start s = square-is (in_triangle 0) a s (λ p q pb qb. rw (le-ltb p 0 (omega arith)))

  pub triangle-next : (i : ℕ) (b : List (List Float)) → i < 9 → b ≡ triangle_added i t e a → row_added i (i + 1) (at t i) e b ≡ triangle_added (i + 1) t e a
  unfolding row_added triangle_added
  triangle-next i b ib h =
      square-is (in_triangle (i + 1)) _ (square-nine (in_row i (at t i) e b (i + 1)))
      (λ p q pb qb. cell_at (in_row i (at t i) e b (i + 1)) p q pb qb ∙ go p q (ap (λ (z : List (List Float)). cell z p q) h ∙ cell_at (in_triangle i) p q pb qb) (ℕ_discrete p i) (dec_lt q (i + 1)) (dec_lt p i))
    where
      go : (p q : ℕ) → cell b p q ≡ in_triangle i p q → Dec (p ≡ i) → Dec (q < i + 1) → Dec (p < i) → in_row i (at t i) e b (i + 1) p q ≡ in_triangle (i + 1) p q
      go p q k (yes x) (yes l) d =
          let y : cell b i q ≡ cell a i q = rw (x, le-ltb i i (omega arith)) at k in
          rw (x, eq-eqb i i refl, lt-ltb q (i + 1) l, lt-ltb i (i + 1) (omega arith), le-leb q i (omega arith), y)
      go p q k (yes x) (no l) d =
          let y : cell b i q ≡ cell a i q = rw (x, le-ltb i i (omega arith)) at k in
          rw (x, eq-eqb i i refl, le-ltb q (i + 1) (omega arith), lt-ltb i (i + 1) (omega arith), lt-leb q i (omega arith), y)
      go p q k (no n) l (yes d) = rw (ne_eqb p i n, lt-ltb p (i + 1) (omega arith)) (rw (lt-ltb p i d) at k)
      go p q k (no n) l (no d) = rw (ne_eqb p i n, le-ltb p (i + 1) (omega arith)) (rw (le-ltb p i (omega arith)) at k)

  pub triangle-end : (n i : ℕ) (b : List (List Float)) → i ≡ n → b ≡ triangle_added i t e a → b ≡ triangle_added n t e a
  triangle-end n i b k h = h ∙ ap (λ (z : ℕ). triangle_added z t e a) k

  pub triangle-square : (n : ℕ) (b : List (List Float)) → b ≡ triangle_added n t e a → Square b
  unfolding triangle_added
  triangle-square n b h = rw h (square-nine (in_triangle n))

-- ---- added to the sums of the rows before
module _ (n : ℕ) where
  abbrev in_sums : (ℕ → ℕ → Float) → ℕ → ℕ → Float
  in_sums S p q = cond (ltb p n && leb q p) (S p q) (cond (leb n p && eqb p q) 1·0 +0)

  pub triangle-zero : (S : ℕ → ℕ → Float) → ((p q : ℕ) → S p q ≡ +0) → unused n ≡ triangle_of n S
  unfolding unused triangle_of
  triangle-zero S z = ap (λ (f : ℕ → ℕ → Float). nine (λ p. nine (f p))) (fun_ext (λ p. fun_ext (λ q. go p q (dec_lt p n) (dec_lt p q))))
    where
      go : (p q : ℕ) → Dec (p < n) → Dec (p < q) → cond (leb n p && eqb p q) 1·0 +0 ≡ in_sums S p q
      go p q (no l) d = rw (le-ltb p n (omega arith))
      go p q (yes l) (yes d) = rw (lt-ltb p n l, lt-leb q p d)
      go p q (yes l) (no d) = rw (lt-ltb p n l, le-leb q p (omega arith), lt-leb n p l) (sym (z p q))

  pub triangle-more : (S S' : ℕ → ℕ → Float) (t e : List Float) (a : List (List Float)) → ((p q : ℕ) → p < n → q ≤ p → S p q ⊕ at t p ⊗ at e q ≡ S' p q) → a ≡ triangle_of n S → triangle_added n t e a ≡ triangle_of n S'
  unfolding triangle_added triangle_of
  triangle-more S S' t e a more h =
      square-is (in_sums S') _ (square-nine (in_triangle t e a n))
      (λ p q pb qb. cell_at (in_triangle t e a n) p q pb qb ∙ go p q (ap (λ (z : List (List Float)). cell z p q) h ∙ cell_at (in_sums S) p q pb qb) (dec_lt p n) (dec_lt p q))
    where
      go : (p q : ℕ) → cell a p q ≡ in_sums S p q → Dec (p < n) → Dec (p < q) → in_triangle t e a n p q ≡ in_sums S' p q
      go p q k (no l) d = rw (le-ltb p n (omega arith)) (rw (le-ltb p n (omega arith)) at k)
      go p q k (yes l) (yes d) = rw (lt-ltb p n l, lt-leb q p d) (rw (lt-ltb p n l, lt-leb q p d) at k)
      go p q k (yes l) (no d) =
          let u : q ≤ p = omega arith in
          let y : cell a p q ≡ S p q = rw (lt-ltb p n l, le-leb q p u) at k in
          rw (lt-ltb p n l, le-leb q p u, y) (more p q l u)

  pub triangle-wide : (S : ℕ → ℕ → Float) (a : List (List Float)) → a ≡ triangle_of n S → Square a
  unfolding triangle_of
  triangle-wide S a h = rw h (square-nine (in_sums S))

  abbrev pub in_sides : (ℕ → Float) → ℕ → Float
  in_sides B p = cond (ltb p n) (B p) +0

  pub side-zero : (B : ℕ → Float) → ((p : ℕ) → B p ≡ +0) → replicate 9 +0 ≡ nine (in_sides B)
  side-zero B z = nine-is (in_sides B) nan (replicate 9 +0) refl (λ p pb. get_or-replicate 9 p +0 nan pb ∙ go p (dec_lt p n))
    where
      go : (p : ℕ) → Dec (p < n) → +0 ≡ in_sides B p
      go p (yes l) = rw (lt-ltb p n l) (sym (z p))
      go p (no l) = rw (le-ltb p n (omega arith))

  pub side-long : (B : ℕ → Float) (b : List Float) → b ≡ nine (in_sides B) → length b ≡ 9
  side-long B b h = ap length h ∙ nine-length (in_sides B)

  pub side-more : (B B' : ℕ → Float) (t : List Float) (d : Float) (b : List Float) → ((p : ℕ) → p < n → B p ⊕ at t p ⊗ d ≡ B' p) → b ≡ nine (in_sides B) → side_added n t d b ≡ nine (in_sides B')
  unfolding side_added
  side-more B B' t d b more h =
      nine-is (in_sides B') nan _ (nine-length _)
      (λ p pb. nine-at (λ i. cond (ltb i n) (at b i ⊕ at t i ⊗ d) (at b i)) nan p pb ∙ go p (ap (λ (z : List Float). at z p) h ∙ nine-at (in_sides B) nan p pb) (dec_lt p n))
    where
      go : (p : ℕ) → at b p ≡ in_sides B p → Dec (p < n) → cond (ltb p n) (at b p ⊕ at t p ⊗ d) (at b p) ≡ in_sides B' p
      go p k (yes l) = let y : at b p ≡ B p = rw (lt-ltb p n l) at k in rw (lt-ltb p n l, y) (more p l)
      go p k (no l) = rw (le-ltb p n (omega arith)) (rw (le-ltb p n (omega arith)) at k)
