-- The answers of the rearrangements, way by way. Assumes nothing.
use Rattle.std.specs.Prelude.{Ok, Err}
use mathlib.Core.Path.{◌≡◌, refl, sym, ap, ◌∙◌}
use mathlib.Core.Bool.{Bool, true, false, not, ◌||◌}
use Prim.Native.Nat.{ℕ, ◌≤◌, ◌<◌, min}
use native.Mathlib.Omega.{arith}
use lib.Dec.{ltb}
use lib.ListN.{length}
use borrow.Author.Tests.{ltb-false, lt-ltb, le-ltb, not-true, not-false}
use Rattle.numeric.specs.declared.refusal.Refusal.TheVariants.{TooMany, RecordOutOfRange}
use Rattle.numeric.specs.Rules.{ruled}
use Rattle.corrections_table.proofs.UnitLaws.{never}
use Rattle.corrections_table.specs.Table.{Columns, capacity, rows, sound_table, table_of}
use Rattle.corrections_directory.specs.Directory.{Blocks, block_capacity, directory_in, directory_of, entries_from, entries_in, flat, readings_in, sound_directory}
use Rattle.corrections_directory.specs.Rearrange.{entries_with, filed_columns, filed_of, listed_columns, listed_of, signals_with}
use Rattle.corrections_convert.specs.Lent.{filing_of, listing_of}

module _ (n long : ℕ) (t : Columns) (l : Blocks) (r : ℕ) (e : r ≡ min long (capacity t)) where
  pub file_many : r < n → (Err TooMany ≡ filing_of (filed_of n long t)) × (l ≡ filed_columns (filed_of n long t) l)
  unfolding filed_of ruled
  file_many h = rw (← e, lt-ltb r n h) (refl, refl)

  module _ (h : n ≤ r) where
    pub file_fits : (n ≤ long) × (n ≤ length (rows t))
    file_fits = go (length (rows t)) refl
      where
        go : (k : ℕ) → length (rows t) ≡ k → (n ≤ long) × (n ≤ length (rows t))
        go k q = let z : r ≡ min long (min 2048 k) = e ∙ ap (λ (x : ℕ). min long (min 2048 x)) q in (omega arith, rw q (omega arith))

    module _ {x : Bool} (ex : x ≡ sound_table (table_of n t)) where
      pub file_unsound : not x ≡ true → (Err RecordOutOfRange ≡ filing_of (filed_of n long t)) × (l ≡ filed_columns (filed_of n long t) l)
      unfolding filed_of ruled
      file_unsound k = rw (← e, le-ltb r n h, sym ex ∙ not-true x k) (refl, refl)

      pub file_done : not x ≡ false → (m : ℕ) (l' : Blocks) → m ≡ length (entries_from 0 (table_of n t)) → l' ≡ entries_with (entries_from 0 (table_of n t)) l
          → (Ok m ≡ filing_of (filed_of n long t)) × (l' ≡ filed_columns (filed_of n long t) l)
      unfolding filed_of directory_of ruled
      file_done k m l' qm ql = rw (← e, le-ltb r n h, sym ex ∙ not-false x k) (ap Ok qm, ql)

or_left : (a b : Bool) → (a || b) ≡ false → a ≡ false
or_left true b e = e
or_left false b e = refl

or_right : (a b : Bool) → (a || b) ≡ false → b ≡ false
or_right true b e = never (sym e)
or_right false b e = e

module _ (m n long : ℕ) (d : Blocks) (t : Columns) (r k : ℕ) (e : r ≡ block_capacity d) (el : k ≡ long) where
  pub list-many : ((ltb r m || ltb r n) || ltb k n) ≡ true → (Err TooMany ≡ listing_of (listed_of m n long d)) × (t ≡ listed_columns (listed_of m n long d) t)
  unfolding listed_of ruled
  list-many h = rw (← e, ← el, h) (refl, refl)

  module _ (h : ((ltb r m || ltb r n) || ltb k n) ≡ false) where
    pub list-fits : (m ≤ length (entries_in d)) × ((n ≤ length (readings_in d)) × (n ≤ long))
    list-fits = go (length (entries_in d)) (length (readings_in d)) refl refl
      where
        counts : (ltb r m || ltb r n) ≡ false
        counts = or_left (ltb r m || ltb r n) (ltb k n) h

        a : m ≤ r
        a = ltb-false r m (or_left (ltb r m) (ltb r n) counts)

        b : n ≤ r
        b = ltb-false r n (or_right (ltb r m) (ltb r n) counts)

        f : n ≤ k
        f = ltb-false k n (or_right (ltb r m || ltb r n) (ltb k n) h)

        go : (x y : ℕ) → length (entries_in d) ≡ x → length (readings_in d) ≡ y → (m ≤ length (entries_in d)) × ((n ≤ length (readings_in d)) × (n ≤ long))
        go x y qx qy =
            let z : r ≡ min 2048 (min x y) = e ∙ rw (qx, qy) in
            (rw qx (omega (arith, a)), (rw qy (omega (arith, b)), omega (arith, f)))

    module _ {x : Bool} (ex : x ≡ sound_directory (directory_in m n d)) where
      pub list-unsound : not x ≡ true → (Err RecordOutOfRange ≡ listing_of (listed_of m n long d)) × (t ≡ listed_columns (listed_of m n long d) t)
      unfolding listed_of ruled
      list-unsound z = rw (← e, ← el, h, sym ex ∙ not-true x z) (refl, refl)

      pub list_done : not x ≡ false → (t' : Columns) → t' ≡ signals_with (flat (directory_in m n d)) t → ((Ok tt) ≡ listing_of (listed_of m n long d)) × (t' ≡ listed_columns (listed_of m n long d) t)
      unfolding listed_of ruled
      list_done z t' q = rw (← e, ← el, h, sym ex ∙ not-false x z) (refl, q)
