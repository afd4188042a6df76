-- New samples added to a directory (request (ix)): the refusal, or the directory of the table with them. Definitions only.
use Rattle.numeric.specs.Refusal.{answer_number}
use Rattle.std.specs.Prelude.{Result, Ok, Err, ⊤}
use Rattle.corrections_add.specs.declared.add.Counts.{Counts}
use Rattle.std.specs.Prelude.{ℕ, ◌+◌, ◌≡◌, not, ◌&&◌, ◌||◌, List, [], ◌∷◌, ltb, length}
use Rattle.lists.specs.Walk.{every}
use Rattle.numeric.specs.Rules.{rule, ruled}
use Rattle.numeric.specs.declared.refusal.Refusal.{Refusal}
use Rattle.numeric.specs.declared.refusal.Refusal.TheVariants.{TooMany, RecordOutOfRange, TableFull}
use Rattle.corrections_table.specs.Table.{ranged}
use Rattle.corrections_table.specs.Add.{AddOutcome, refused, added, insert_all, counted_samples}
use Rattle.corrections_table.specs.declared.sample.Sample.{Sample}
use Rattle.corrections_table.specs.declared.add.Samples.{Samples}
use Rattle.corrections_directory.specs.Directory.{Directory, Blocks, PatternsWith, block_capacity, blocks_with, directory_in, directory_of, flat, sound_directory}
use Rattle.corrections_directory.specs.Lent.{LentTable}

-- the directory of the table that d stands for, with the samples ss
abbrev pub directory_with : Directory → List Sample → Directory
directory_with d ss = directory_of (insert_all (flat d) ss)

-- what is tested before new samples go to m entries and n samples in columns with that capacity: numbers 2, 4 and 11
unfoldable pub test_in : ℕ → ℕ → ℕ → Directory → Samples → Result ⊤ Refusal
test_in m n room d new =
    ruled Err
    (rule TooMany ((ltb room m || ltb room n) || ltb 64 new.count)
    ∷ rule RecordOutOfRange (not (sound_directory d && every ranged (counted_samples new)))
    ∷ rule TableFull (ltb room (n + new.count))
    ∷ [])
    (Ok tt)

-- a refusal, or the directory afterwards
pub data Placed : Type 0 where
  refused_in : Refusal → Placed
  added_in : Directory → Placed

-- what comes of a test, where the directory d is left if it is passed
abbrev pub placed_of : Result ⊤ Refusal → Directory → Placed
placed_of (Err r) d = refused_in r
placed_of (Ok tt) d = added_in d

-- new samples to a directory
unfoldable pub add_in : ℕ → ℕ → ℕ → Directory → Samples → Placed
add_in m n room d new = placed_of (test_in m n room d new) (directory_with d (counted_samples new))

-- ---- what a call leaves

-- the answer: the refusal, or how many entries and samples there are now
abbrev pub addition_of : Placed → Result Counts Refusal
addition_of (refused_in r) = Err r
addition_of (added_in d) = Ok record { entries = length d.entries; samples = length d.readings }

-- how many entries there are after an answer, m before it
abbrev pub entries_now : Result Counts Refusal → ℕ → ℕ
entries_now (Err r) m = m
entries_now (Ok c) m = c.entries

-- how many samples there are after an answer, n before it
abbrev pub samples_now : Result Counts Refusal → ℕ → ℕ
samples_now (Err r) n = n
samples_now (Ok c) n = c.samples

-- the columns afterwards: unchanged where adding is refused, else with the directory
abbrev pub blocks_after : Placed → Blocks → Blocks
blocks_after (refused_in r) l = l
blocks_after (added_in d) l = blocks_with d l

-- the number, the counts and the columns afterwards are those of the outcome
pub record Places (o : Placed) (number m m' n n' : ℕ) (l l' : Blocks) : Type 0 where
  pub number_is : number ≡ answer_number (addition_of o)
  pub entries-are : m' ≡ entries_now (addition_of o) m
  pub samples-are : n' ≡ samples_now (addition_of o) n
  pub columns : l' ≡ blocks_after o l

-- the patterns of times and corrections afterwards, to the last bit: unchanged where adding is refused, else with those of the directory's readings
abbrev pub PatternsAfter : Placed → List ℕ → List ℕ → List ℕ → List ℕ → Type 0
PatternsAfter (refused_in r) ts xs ts' xs' = (ts' ≡ ts) × (xs' ≡ xs)
PatternsAfter (added_in d) ts xs ts' xs' = PatternsWith d ts xs ts' xs'

-- the number, the counts, the columns and the patterns after a call on lent columns are those of the outcome
abbrev pub AddsIn : Placed → ℕ → ℕ → ℕ → ℕ → ℕ → LentTable → Type 0
AddsIn o number m m' n n' t = Places o number m m' n n' t.before t.after × PatternsAfter o t.times t.corrections t.times_after t.corrections_after

-- so are those of an answer by value, and the answer is the outcome's
abbrev pub AddedBy : Placed → Result Counts Refusal → ℕ → ℕ → LentTable → Type 0
AddedBy o r m n t = (r ≡ addition_of o) × AddsIn o (answer_number r) m (entries_now r m) n (samples_now r n) t

-- new samples are added to the m entries and n samples of lent columns, with this answer
abbrev pub AddsSamples : Samples → Result Counts Refusal → ℕ → ℕ → LentTable → Type 0
AddsSamples new r m n t = AddedBy (add_in m n (block_capacity t.before) (directory_in m n t.before) new) r m n t

-- ---- the outcome for the table that the directory stands for
abbrev pub flat_outcome : Placed → AddOutcome
flat_outcome (refused_in r) = refused r
flat_outcome (added_in d) = added (flat d)
