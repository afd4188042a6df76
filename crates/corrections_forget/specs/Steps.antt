-- Forgetting in a directory, block by block: what the contracts of the steps say. Definitions only.
use Rattle.std.specs.Prelude.{Result, ⊤}
use Rattle.numeric.specs.declared.refusal.Refusal.{Refusal}
use Rattle.std.specs.Prelude.{ℕ, ◌+◌, ◌≤◌, ◌<◌, ◌≡◌, true, false, List, length, get_or, drop, Float}
use Rattle.std.proofs.Math.Seq.{paste}
use Rattle.std.specs.Float.{nan}
use Rattle.std.specs.Float.Ieee.{lt}
use Rattle.std.specs.Borrow.{Bor}
use Rattle.lists.specs.Memory.{before, after, LentNumbers}
use Rattle.corrections_directory.specs.Directory.{Blocks, block_capacity, blocks_with, directory_in, entries_in, floats, lent_blocks, readings_in, sound_directory}
use Rattle.corrections_directory.specs.Read.{ReadTable}
use Rattle.corrections_forget.specs.Forget.{test_in, trimmed}

-- the test of a drop from a table in lent columns
abbrev pub forget_test : ReadTable → Float → Result ⊤ Refusal
forget_test t time = test_in t.entries t.samples (block_capacity t.columns) (directory_in t.entries t.samples t.columns) time

-- the first r of the count times from the place first on are before the time, and the next one is not
pub record Outdated (ts : List Float) (first count : ℕ) (time : Float) (r : ℕ) : Type 0 where
  pub within : r ≤ count
  pub earlier : (j : ℕ) → j < r → lt (get_or ts (first + j) nan) time ≡ true
  pub next : r < count → lt (get_or ts (first + r) nan) time ≡ false

-- a column with the k values at the place from also at the place to
abbrev pub moved_down : {A : Type 0} → ℕ → ℕ → ℕ → List A → List A
moved_down to from k l = paste l to (drop from l) k

-- ---- what the contract of the pass says

-- m entries and n samples in columns that have them all, and number 4 finds nothing in them
pub record Fit (m n : ℕ) (l : Blocks) : Type 0 where
  pub few-entries : m ≤ length (entries_in l)
  pub few-samples : n ≤ length (readings_in l)
  pub sound : sound_directory (directory_in m n l) ≡ true

-- the first samples and the counts of m entries are those of such a directory, whatever its satellites are
pub record SomeDirectory (m : ℕ) (f n t x : Bor (List ℕ)) : Type 0 where
  pub constellations : List ℕ
  pub svids : List ℕ
  pub bands : List ℕ
  pub samples : ℕ
  pub fit : Fit m samples (lent_blocks constellations svids bands f.now n.now (floats t.now) (floats x.now))

-- the directory afterwards is what the drop leaves of it, whatever its satellites are, and of r samples; past these the bits that were there
abbrev pub Trims : ℕ → LentNumbers → LentNumbers → LentNumbers → LentNumbers → Float → ℕ → Type 0
Trims m f k t x time r =
    ((constellations svids bands : List ℕ) (n : ℕ)
    → (let l = lent_blocks constellations svids bands (before f) (before k) (floats (before t)) (floats (before x)) in
    let d = trimmed time (directory_in m n l) in
    Fit m n l → (r ≡ length d.readings) × (lent_blocks constellations svids bands (after f) (after k) (floats (after t)) (floats (after x)) ≡ blocks_with d l)))
    × ((drop r (after t) ≡ drop r (before t)) × (drop r (after x) ≡ drop r (before x)))
