-- A table with the bands of an old one in a wide column is the old one: the same samples, and so the same answers. Assumes nothing.
use Rattle.std.specs.Prelude.{Ok, Err}
use mathlib.Core.Path.{◌≡◌, refl, sym, ap, ◌∙◌}
use mathlib.Core.List.{List, [], ◌∷◌}
use mathlib.Core.Bool.{Bool, true, false, ◌||◌}
use Prim.Native.Nat.{ℕ, zero, suc, ◌+◌, ◌≤◌, ◌<◌, min}
use native.Mathlib.Nat.{not-suc-le-zero, le_of_suc-le-suc}
use native.Mathlib.Numerals.{add-one}
use native.Mathlib.Omega.{arith}
use lib.ListN.{length, get_or, take, set, length-set}
use lib.Dec.{ltb}
use borrow.Author.Tests.{ltb-true, ltb-false, lt-ltb, le-ltb}
use lib.Ieee.{Float}
use Rattle.lists.proofs.Walk.{or_no}
use Rattle.numeric.specs.declared.refusal.Refusal.TheVariants.{TooMany}
use Rattle.corrections_table.specs.Table.{lent_samples, beside, rows, capacity, table_of, sound_table}
use Rattle.corrections_table.specs.Widen.{bands_short, widened, widen_of}
use Rattle.corrections_table.specs.declared.sample.Sample.{Sample}
use Rattle.corrections_table.proofs.ColumnLaws.{rows-length}

-- ---- the column

pub widened-length : (n : ℕ) (narrow wide : List ℕ) → n ≤ length narrow → n ≤ length wide → length (widened n narrow wide) ≡ length wide
widened-length zero narrow wide h k = refl
widened-length (suc n) [] wide h k = absurd (not-suc-le-zero h)
widened-length (suc n) (b ∷ narrow) [] h k = absurd (not-suc-le-zero k)
widened-length (suc n) (b ∷ narrow) (w ∷ wide) h k = ap suc (widened-length n narrow wide (le_of_suc-le-suc h) (le_of_suc-le-suc k))

-- one band more
more : (i : ℕ) (narrow wide : List ℕ) → i < length narrow → i < length wide → set (widened i narrow wide) i (get_or narrow i 0) ≡ widened (suc i) narrow wide
more i [] wide h k = absurd (not-suc-le-zero h)
more i (b ∷ narrow) [] h k = absurd (not-suc-le-zero k)
more zero (b ∷ narrow) (w ∷ wide) h k = refl
more (suc i) (b ∷ narrow) (w ∷ wide) h k = ap (λ (l : List ℕ). b ∷ l) (more i narrow wide (le_of_suc-le-suc h) (le_of_suc-le-suc k))

-- the loop: i bands are written
pub record Widening-so-far (n : ℕ) (narrow wide₀ wide : List ℕ) (i : ℕ) : Type 0 where
  pub within : i ≤ n
  pub long : length wide ≡ length wide₀
  pub so_far : wide ≡ widened i narrow wide₀

module _ (n : ℕ) (narrow wide₀ : List ℕ) where
  pub widening_start : Widening-so-far n narrow wide₀ wide₀ 0
  widening_start = record { within = omega arith; long = refl; so_far = refl }

  module _ (h : n ≤ length narrow) (k : n ≤ length wide₀) (wide : List ℕ) (i : ℕ) (s : Widening-so-far n narrow wide₀ wide i) where
    pub widening_next : i < n → Widening-so-far n narrow wide₀ (set wide i (get_or narrow i 0)) (i + 1)
    widening_next l =
        record { within = omega arith; long = length-set wide i (get_or narrow i 0) ∙ s.long; so_far = rw (add-one i, s.so_far) (more i narrow wide₀ (omega arith) (omega arith)) }

    pub widening_end : n ≤ i → wide ≡ widened n narrow wide₀
    widening_end l = let e : i ≡ n = omega (arith, s.within) in s.so_far ∙ ap (λ (j : ℕ). widened j narrow wide₀) e

-- ---- the answer

pub record Roomy (n : ℕ) (narrow wide : List ℕ) : Type 0 where
  pub few : n ≤ 2048
  pub in-narrow : n ≤ length narrow
  pub in-wide : n ≤ length wide

pub not_short : (n : ℕ) (narrow wide : List ℕ) → (ltb 2048 n || ltb (length narrow) n || ltb (length wide) n) ≡ false → Roomy n narrow wide
not_short n narrow wide e =
    let h = or_no (ltb 2048 n || ltb (length narrow) n) (ltb (length wide) n) e in
    let g = or_no (ltb 2048 n) (ltb (length narrow) n) h.0 in
    record {
      few = ltb-false 2048 n g.0;
      in-narrow = ltb-false (length narrow) n g.1;
      in-wide = ltb-false (length wide) n h.1;
    }

pub widening_refused : (n : ℕ) (narrow wide : List ℕ) → (ltb 2048 n || ltb (length narrow) n || ltb (length wide) n) ≡ true → Err TooMany ≡ widen_of n narrow wide
unfolding widen_of bands_short
widening_refused n narrow wide e = rw e

pub widening_passed : (n : ℕ) (narrow wide : List ℕ) → (ltb 2048 n || ltb (length narrow) n || ltb (length wide) n) ≡ false → (Ok tt) ≡ widen_of n narrow wide
unfolding widen_of bands_short
widening_passed n narrow wide e = rw e

-- ---- the table

rows-widened : (n : ℕ) (cs vs narrow wide : List ℕ) (ts xs : List Float) → n ≤ length narrow → n ≤ length wide
    → take n (beside cs vs (widened n narrow wide) ts xs) ≡ take n (beside cs vs narrow ts xs)
unfolding beside
rows-widened zero cs vs narrow wide ts xs h k = refl
rows-widened (suc n) cs vs [] wide ts xs h k = absurd (not-suc-le-zero h)
rows-widened (suc n) cs vs (b ∷ narrow) [] ts xs h k = absurd (not-suc-le-zero k)
rows-widened (suc n) [] vs (b ∷ narrow) (w ∷ wide) ts xs h k = refl
rows-widened (suc n) (c ∷ cs) [] (b ∷ narrow) (w ∷ wide) ts xs h k = refl
rows-widened (suc n) (c ∷ cs) (v ∷ vs) (b ∷ narrow) (w ∷ wide) [] xs h k = refl
rows-widened (suc n) (c ∷ cs) (v ∷ vs) (b ∷ narrow) (w ∷ wide) (t ∷ ts) [] h k = refl
rows-widened (suc n) (c ∷ cs) (v ∷ vs) (b ∷ narrow) (w ∷ wide) (t ∷ ts) (x ∷ xs) h k =
    ap (λ (l : List Sample). record { constellation = c; svid = v; band = b; time = t; correction = x } ∷ l) (rows-widened n cs vs narrow wide ts xs (le_of_suc-le-suc h) (le_of_suc-le-suc k))

-- a column of which nothing hangs on the length
enough : (n b o k : ℕ) → n ≤ b → n ≤ o → ltb (min b k) n ≡ ltb (min o k) n
enough n b o k h l = go (ltb k n) refl
  where
    go : (y : Bool) → ltb k n ≡ y → ltb (min b k) n ≡ ltb (min o k) n
    go true f = let g : k < n = ltb-true k n f in lt-ltb (min b k) n (omega arith) ∙ sym (lt-ltb (min o k) n (omega arith))
    go false f = let g : n ≤ k = ltb-false k n f in le-ltb (min b k) n (omega arith) ∙ sym (le-ltb (min o k) n (omega arith))

-- one column more
under : (n a k j : ℕ) → ltb k n ≡ ltb j n → ltb (min a k) n ≡ ltb (min a j) n
under n a k j e = go (ltb j n) refl e
  where
    least : (y : Bool) → ltb a n ≡ y → n ≤ k → n ≤ j → ltb (min a k) n ≡ ltb (min a j) n
    least true f g h = let l : a < n = ltb-true a n f in lt-ltb (min a k) n (omega arith) ∙ sym (lt-ltb (min a j) n (omega arith))
    least false f g h = let l : n ≤ a = ltb-false a n f in le-ltb (min a k) n (omega arith) ∙ sym (le-ltb (min a j) n (omega arith))

    go : (y : Bool) → ltb j n ≡ y → ltb k n ≡ y → ltb (min a k) n ≡ ltb (min a j) n
    go true f g =
        let p : j < n = ltb-true j n f in
        let q : k < n = ltb-true k n g in
        lt-ltb (min a k) n (omega arith) ∙ sym (lt-ltb (min a j) n (omega arith))
    go false f g = least (ltb a n) refl (ltb-false k n g) (ltb-false j n f)

module _ (n : ℕ) (cs vs narrow wide : List ℕ) (ts xs : List Float) (r : Roomy n narrow wide) where
  -- the samples are those of the old table: none is lost, and each has the band that it had
  pub table-widened : table_of n (lent_samples cs vs (widened n narrow wide) ts xs) ≡ table_of n (lent_samples cs vs narrow ts xs)
  unfolding rows
  table-widened = rows-widened n cs vs narrow wide ts xs r.in-narrow r.in-wide

  -- it is sound, so also sorted, where the old one is
  pub sound-widened : sound_table (table_of n (lent_samples cs vs (widened n narrow wide) ts xs)) ≡ sound_table (table_of n (lent_samples cs vs narrow ts xs))
  sound-widened = ap sound_table table-widened

  -- number 2 of the table itself is met where it was
  pub fits-widened : ltb (capacity (lent_samples cs vs (widened n narrow wide) ts xs)) n ≡ ltb (capacity (lent_samples cs vs narrow ts xs)) n
  fits-widened =
      let new = length (widened n narrow wide) in
      let old = length narrow in
      let k = min (length ts) (length xs) in
      let long : n ≤ new = rw (widened-length n narrow wide r.in-narrow r.in-wide) r.in-wide in
      rw (rows-length (lent_samples cs vs (widened n narrow wide) ts xs), rows-length (lent_samples cs vs narrow ts xs))
      (under n 2048 (min (length cs) (min (length vs) (min new k))) (min (length cs) (min (length vs) (min old k)))
      (under n (length cs) (min (length vs) (min new k)) (min (length vs) (min old k))
      (under n (length vs) (min new k) (min old k)
      (enough n new old k long r.in-narrow))))

  -- with a new column as long as the old one the capacity is the old one
  pub capacity-widened : length wide ≡ length narrow → capacity (lent_samples cs vs (widened n narrow wide) ts xs) ≡ capacity (lent_samples cs vs narrow ts xs)
  capacity-widened e =
      ap (min 2048)
      (rows-length (lent_samples cs vs (widened n narrow wide) ts xs)
      ∙ rw (widened-length n narrow wide r.in-narrow r.in-wide, e) (sym (rows-length (lent_samples cs vs narrow ts xs))))
