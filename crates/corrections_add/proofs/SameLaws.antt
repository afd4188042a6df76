-- The directory of a table has no more entries than the table has samples, so number 2 is met where it was. Assumes nothing.
use mathlib.Core.Path.{◌≡◌, refl, sym}
use mathlib.Core.List.{List}
use mathlib.Core.Bool.{Bool, true, false, ◌||◌}
use Prim.Native.Nat.{ℕ, ◌≤◌}
use native.Mathlib.Omega.{arith}
use lib.Dec.{ltb}
use lib.ListN.{length}
use borrow.Author.Tests.{ltb-true, lt-ltb}
use Rattle.corrections_table.specs.declared.sample.Sample.{Sample}
use Rattle.corrections_directory.specs.Directory.{directory_of}
use Rattle.corrections_add.proofs.PlaceLaws.{entries-fewer}

-- a directory that has no more entries than there are samples adds nothing to number 2
pub either : (room m n : ℕ) → m ≤ n → (ltb room m || ltb room n) ≡ ltb room n
either room m n h = go (ltb room m) refl
  where
    go : (x : Bool) → ltb room m ≡ x → (x || ltb room n) ≡ ltb room n
    go true e = sym (lt-ltb room n (omega (arith, ltb-true room m e)))
    go false e = refl

pub few-entries : {n : ℕ} (t : List Sample) → length t ≤ n → length (directory_of t).entries ≤ n
unfolding directory_of
few-entries t l = omega (arith, entries-fewer 0 t)
