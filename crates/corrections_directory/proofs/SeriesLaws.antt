-- The block of a signal in a sorted directory is the signal's series in the table that the directory stands for. Assumes nothing.
use mathlib.Core.Path.{◌≡◌, refl, sym, ap, ◌∙◌}
use mathlib.Core.List.{List, [], ◌∷◌, ◌++◌, map, append_assoc, append-nil}
use mathlib.Core.Bool.{Bool, true, false, cond}
use Prim.Native.Nat.{ℕ, suc, ◌<◌}
use native.Mathlib.Omega.{arith}
use lib.Dec.{eqb}
use lib.ListN.{take, drop}
use borrow.Author.Tests.{eqb-true, ne_eqb}
use Rattle.lists.specs.Walk.{collect, first}
use Rattle.corrections_table.specs.Table.{series_of, of_signal}
use Rattle.corrections_table.specs.declared.sample.Sample.{Sample}
use Rattle.corrections_table.proofs.SeriesLaws.{mine, other}
use Rattle.corrections_directory.specs.Directory.{Entry, Reading, Directory, signal_in, sample_of, block, flat, ascends}
use Rattle.corrections_directory.proofs.DirectoryLaws.{ascends-low, ascends-rest}

-- the block of the signal g, and nothing where the directory does not name it
unfoldable pub block_of : Directory → ℕ → List Sample
block_of d g = first (λ e. eqb (signal_in e) g) (block d.readings) [] d.entries

-- ---- the block of a signal is its series
series_append : (g : ℕ) (xs ys : List Sample) → series_of g (xs ++ ys) ≡ series_of g xs ++ series_of g ys
unfolding collect
series_append g [] ys = refl
series_append g (x ∷ xs) ys = ap (λ (m : List Sample). of_signal g x ++ m) (series_append g xs ys) ∙ sym (append_assoc (of_signal g x) (series_of g xs) (series_of g ys))

series_none : (g : ℕ) → series_of g [] ≡ []
unfolding collect
series_none g = refl

series_mine : (e : Entry) (rs : List Reading) → series_of (signal_in e) (map (sample_of e) rs) ≡ map (sample_of e) rs
series_mine e [] = series_none (signal_in e)
series_mine e (r ∷ rs) = mine (signal_in e) (sample_of e r) (map (sample_of e) rs) refl ∙ ap (λ (m : List Sample). sample_of e r ∷ m) (series_mine e rs)

series_other : (g : ℕ) (e : Entry) (rs : List Reading) → eqb (signal_in e) g ≡ false → series_of g (map (sample_of e) rs) ≡ []
series_other g e [] h = series_none g
series_other g e (r ∷ rs) h = other g (sample_of e r) (map (sample_of e) rs) h ∙ series_other g e rs h

module _ (rs : List Reading) where
  own_block : (g : ℕ) (e : Entry) → eqb (signal_in e) g ≡ true → series_of g (block rs e) ≡ block rs e
  unfolding block
  own_block g e h = let z : signal_in e ≡ g = eqb-true (signal_in e) g h in rw (← z) (series_mine e (take e.count (drop e.start rs)))

  other_block : (g : ℕ) (e : Entry) → eqb (signal_in e) g ≡ false → series_of g (block rs e) ≡ []
  unfolding block
  other_block g e h = series_other g e (take e.count (drop e.start rs)) h

  pub series_above : (g p : ℕ) (es : List Entry) → g < p → ascends p es ≡ true → series_of g (collect (block rs) es) ≡ []
  series_above g p [] l a = none g
    where
      none : (g : ℕ) → series_of g (collect (block rs) []) ≡ []
      none g = unfold collect in refl
  series_above g p (e ∷ es) l a =
      first g ∙ series_append g (block rs e) (collect (block rs) es)
      ∙ rw (other_block g e (ne_eqb (signal_in e) g (λ (z : signal_in e ≡ g). omega (arith, ascends-low e es p a)))) (series_above g (suc (signal_in e)) es (omega (arith, ascends-low e es p a)) (ascends-rest e es p a))
    where
      first : (g : ℕ) → series_of g (collect (block rs) (e ∷ es)) ≡ series_of g (block rs e ++ collect (block rs) es)
      first g = unfold collect in refl

  series_blocks : (g p : ℕ) (es : List Entry) → ascends p es ≡ true → series_of g (collect (block rs) es) ≡ first (λ e. eqb (signal_in e) g) (block rs) [] es
  unfolding first
  series_blocks g p [] a = none g
    where
      none : (g : ℕ) → series_of g (collect (block rs) []) ≡ []
      none g = unfold collect in refl
  series_blocks g p (e ∷ es) a = start g ∙ series_append g (block rs e) (collect (block rs) es) ∙ go (eqb (signal_in e) g) refl (series_blocks g (suc (signal_in e)) es (ascends-rest e es p a))
    where
      start : (g : ℕ) → series_of g (collect (block rs) (e ∷ es)) ≡ series_of g (block rs e ++ collect (block rs) es)
      start g = unfold collect in refl

      go : (x : Bool) → eqb (signal_in e) g ≡ x → series_of g (collect (block rs) es) ≡ first (λ e. eqb (signal_in e) g) (block rs) [] es
          → series_of g (block rs e) ++ series_of g (collect (block rs) es) ≡ cond x (block rs e) (first (λ e. eqb (signal_in e) g) (block rs) [] es)
      go true h ih =
          let z : signal_in e ≡ g = eqb-true (signal_in e) g h in
          rw (own_block g e h, series_above g (suc (signal_in e)) es (omega arith) (ascends-rest e es p a)) (append-nil (block rs e))
      go false h ih = rw (other_block g e h) ih

-- for every sorted directory that names no satellite twice
pub block_series : (d : Directory) (g : ℕ) → ascends 0 d.entries ≡ true → series_of g (flat d) ≡ block_of d g
unfolding flat block_of
block_series d g a = series_blocks d.readings g 0 d.entries a
