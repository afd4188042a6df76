-- Number 4 of a directory, fault by fault as request (ix) lists them. Definitions only.
use Rattle.std.specs.Prelude.{ℕ, ◌+◌, ◌≤◌, ◌<◌, ◌≡◌, true, List, [], ◌∷◌, ◌⊎◌, length}
use Rattle.lists.specs.Walk.{every}
use Rattle.corrections_directory.specs.Directory.{Entry, Directory, signal_in, in_reach, in_order}

-- each entry is so
abbrev pub EachEntry : (Entry → Type 0) → List Entry → Type 0
EachEntry P [] = Unit {0}
EachEntry P (e ∷ es) = P e × EachEntry P es

-- some entry is so
abbrev pub Some : (Entry → Type 0) → List Entry → Type 0
Some P [] = ⊥
Some P (e ∷ es) = P e ⊎ Some P es

-- the relation holds between each entry and each one after it
abbrev pub Pairs : (Entry → Entry → Type 0) → List Entry → Type 0
Pairs R [] = Unit {0}
Pairs R (e ∷ es) = EachEntry (R e) es × Pairs R es

-- the place k lies in the entry's block
abbrev pub Covers : ℕ → Entry → Type 0
Covers k e = (e.start ≤ k) × (k < e.start + e.count)

-- none of the faults
pub record Faultless (d : Directory) : Type 0 where
  -- time and correction of each sample are finite and not above 1e9 in magnitude
  pub in_reach : every in_reach d.readings ≡ true
  -- not unsorted
  pub ascending : Pairs (λ e f. signal_in e ≤ signal_in f) d.entries
  -- no satellite named twice
  pub once : Pairs (λ e f. signal_in e ≡ signal_in f → ⊥) d.entries
  -- no empty block
  pub filled : EachEntry (λ e. 0 < e.count) d.entries
  -- blocks in the directory's own order
  pub same-order : Pairs (λ e f. e.start ≤ f.start) d.entries
  -- no overlap: no place lies in two blocks
  pub apart : Pairs (λ e f. (k : ℕ) → Covers k e → Covers k f → ⊥) d.entries
  -- no gap, at the ends neither: each place lies in a block
  pub gapless : (k : ℕ) → k < length d.readings → Some (Covers k) d.entries
  -- none points past the end
  pub inside : EachEntry (λ e. e.start + e.count ≤ length d.readings) d.entries
  -- times in order within each block
  pub ordered : in_order d.readings d.entries ≡ true
