-- A directory answers as the table that it stands for, and a sorted table as its directory. Assumes nothing.
use mathlib.Core.Path.{◌≡◌, refl, sym, ◌∙◌}
use mathlib.Core.List.{List, [], ◌∷◌}
use mathlib.Core.Bool.{Bool, true, false, cond, ◌||◌}
use Prim.Native.Nat.{ℕ, suc, ◌≤◌}
use native.Mathlib.Nat.{le_trans}
use native.Mathlib.Omega.{arith}
use lib.Dec.{ltb}
use lib.ListN.{length}
use borrow.Author.Tests.{ltb-true, lt-ltb, le-ltb}
use lib.Ieee.{Float}
use Rattle.lists.specs.Walk.{every}
use Rattle.corrections_table.specs.Table.{sorted}
use Rattle.corrections_table.specs.declared.sample.Sample.{Sample}
use Rattle.corrections_table.proofs.Places.{sorted_rises}
use Rattle.corrections_directory.specs.Directory.{Entry, Directory, directory_of, entries_from, entry_of, flat, is_mine, joined, sound_directory}
use Rattle.corrections_directory.proofs.DirectoryLaws.{flat-directory, sound-flat}
use Rattle.corrections_directory.proofs.NarrowLaws.{narrow, sound-directory}
use Rattle.corrections_query.specs.Query.{query_in, query_of}

-- for every sound directory of so many entries as there is room for
pub query_flat : (m n room : ℕ) (d : Directory) → sound_directory d ≡ true → m ≤ room → (gap : Float) (c v b : ℕ) (t : Float) → query_in m n room d gap c v b t ≡ query_of n room (flat d) gap c v b t
unfolding query_in query_of
query_flat m n room d s h gap c v b t = rw (le-ltb room m h, s, sound-flat d s)

-- a directory has no more entries than samples
fewer-joined : (s : Sample) (place : ℕ) (es : List Entry) → length (joined s place es) ≤ suc (length es)
unfolding joined
fewer-joined s place [] = omega arith
fewer-joined s place (e ∷ es) = go (is_mine s e)
  where
    go : (x : Bool) → length (cond x (entry_of s place (suc e.count) ∷ es) (entry_of s place 1 ∷ e ∷ es)) ≤ suc (suc (length es))
    go true = omega arith
    go false = omega arith

entries-fewer : (place : ℕ) (t : List Sample) → length (entries_from place t) ≤ length t
unfolding entries_from
entries-fewer place [] = omega arith
entries-fewer place (s ∷ t) = omega (arith, fewer-joined s place (entries_from (suc place) t), entries-fewer (suc place) t)

either : (room m n : ℕ) → m ≤ n → (ltb room m || ltb room n) ≡ ltb room n
either room m n h = go (ltb room m) refl
  where
    go : (x : Bool) → ltb room m ≡ x → (x || ltb room n) ≡ ltb room n
    go true e = sym (lt-ltb room n (omega (arith, ltb-true room m e)))
    go false e = refl

-- for every sorted table of n samples, as columns hold them, and its rearranged form, where the capacities are equal: with a directory lent as long as the columns
pub query_same : (t : List Sample) → every narrow t ≡ true → sorted t ≡ true → (n room : ℕ) → length t ≤ n → (gap : Float) (c v b : ℕ) (q : Float)
    → query_in (length (entries_from 0 t)) n room (directory_of t) gap c v b q ≡ query_of n room t gap c v b q
unfolding query_in query_of
query_same t w r n room l gap c v b q =
    rw (either room (length (entries_from 0 t)) n (le_trans (entries-fewer 0 t) l), sound-directory t w (sym (sorted_rises t) ∙ r), flat-directory t)
