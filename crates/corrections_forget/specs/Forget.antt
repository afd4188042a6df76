-- Forgetting the samples before a time (request (x)). Definitions only.
use Rattle.numeric.specs.Refusal.{answer_number}
use Rattle.std.specs.Prelude.{Result, Ok, Err, ⊤}
use Rattle.std.specs.Prelude.{ℕ, ◌+◌, ◌-◌, ◌≡◌, Bool, false, cond, not, ◌&&◌, ◌||◌, List, [], ◌∷◌, eqb, ltb, length, take, drop, Float}
use Rattle.std.specs.Float.Ieee.Scale.{finite}
use Rattle.numeric.specs.Rules.{rule, ruled}
use Rattle.numeric.specs.declared.refusal.Refusal.{Refusal}
use Rattle.numeric.specs.declared.refusal.Refusal.TheVariants.{TooMany, RecordOutOfRange, BadDropTime}
use Rattle.corrections_table.specs.Table.{signal_of}
use Rattle.corrections_table.specs.declared.sample.Sample.{Sample}
use Rattle.corrections_directory.specs.Directory.{Directory, Blocks, PatternsWith, block_capacity, blocks_with, directory_in, directory_of, flat, sound_directory, Entry, Reading, block}
use Rattle.corrections_directory.specs.Lent.{LentTable}
use Rattle.corrections_query.specs.Query.{sample_before}
use Rattle.lists.specs.Walk.{collect}
use Rattle.corrections_directory.specs.Series.{front}

-- ---- the table

-- a sample of the signal g before the time t; earlier is `<`, as in a query
abbrev pub earlier : ℕ → Float → Sample → Bool
earlier g t s = eqb (signal_of s) g && sample_before t s

-- whether a sample passes the test
unfoldable pub some : (Sample → Bool) → List Sample → Bool
some test [] = false
some test (s ∷ ss) = test s || some test ss

-- of each signal's samples earlier than the time only the last in table order is retained
unfoldable pub forget : Float → List Sample → List Sample
forget time [] = []
forget time (s ∷ ss) = cond (sample_before time s && some (earlier (signal_of s) time) ss) (forget time ss) (s ∷ forget time ss)

-- ---- the call

-- what is tested before a drop from m entries and n samples in columns with that capacity: number 2, number 4, which does not depend on the time, and number 18
unfoldable pub test_in : ℕ → ℕ → ℕ → Directory → Float → Result ⊤ Refusal
test_in m n room d time =
    ruled Err
    (rule TooMany (ltb room m || ltb room n)
    ∷ rule RecordOutOfRange (not (sound_directory d))
    ∷ rule BadDropTime (not (finite time))
    ∷ [])
    (Ok tt)

-- a refusal, or the directory afterwards
pub data ForgetOutcome : Type 0 where
  refused : Refusal → ForgetOutcome
  leaves : Directory → ForgetOutcome

-- what comes of a test, where the directory d is left if it is passed
abbrev pub outcome_of : Result ⊤ Refusal → Directory → ForgetOutcome
outcome_of (Err r) d = refused r
outcome_of (Ok tt) d = leaves d

-- a drop: the refusal, or the directory of what is retained of the samples that d stands for
unfoldable pub forget_in : ℕ → ℕ → ℕ → Directory → Float → ForgetOutcome
forget_in m n room d time = outcome_of (test_in m n room d time) (directory_of (forget time (flat d)))

-- the answer: the refusal, or how many samples there are now
abbrev pub forgetting_of : ForgetOutcome → Result ℕ Refusal
forgetting_of (refused r) = Err r
forgetting_of (leaves d) = Ok (length d.readings)

-- how many samples there are after an answer, n before it
abbrev pub count_after : Result ℕ Refusal → ℕ → ℕ
count_after (Err r) n = n
count_after (Ok k) n = k

-- how many entries there are afterwards, m before
abbrev pub entries_after : ForgetOutcome → ℕ → ℕ
entries_after (refused r) m = m
entries_after (leaves d) m = length d.entries

-- the columns afterwards: unchanged where it is refused, else with the directory, and past it the bytes that were there
abbrev pub blocks_after : ForgetOutcome → Blocks → Blocks
blocks_after (refused r) l = l
blocks_after (leaves d) l = blocks_with d l

-- the patterns of times and corrections afterwards, to the last bit: unchanged where it is refused, else with those of the directory's readings
abbrev pub PatternsAfter : ForgetOutcome → List ℕ → List ℕ → List ℕ → List ℕ → Type 0
PatternsAfter (refused r) ts xs ts' xs' = (ts' ≡ ts) × (xs' ≡ xs)
PatternsAfter (leaves d) ts xs ts' xs' = PatternsWith d ts xs ts' xs'

-- the number, the count and the columns afterwards are those of the outcome, and the directory keeps its m entries
pub record Forgets (o : ForgetOutcome) (number m n n' : ℕ) (l l' : Blocks) : Type 0 where
  pub number_is : number ≡ answer_number (forgetting_of o)
  pub entries-stay : m ≡ entries_after o m
  pub count : n' ≡ count_after (forgetting_of o) n
  pub columns : l' ≡ blocks_after o l

-- ---- on lent memory

-- a drop from m entries and n samples in lent columns
abbrev pub lent_forget : ℕ → ℕ → LentTable → Float → ForgetOutcome
lent_forget m n t time = forget_in m n (block_capacity t.before) (directory_in m n t.before) time

-- the number, the count, the columns and the patterns after a call are those of the outcome
abbrev pub ForgetsIn : ℕ → ℕ → LentTable → Float → ℕ → ℕ → Type 0
ForgetsIn m n t time number n' =
    Forgets (lent_forget m n t time) number m n n' t.before t.after
    × PatternsAfter (lent_forget m n t time) t.times t.corrections t.times_after t.corrections_after

-- the answer is that of the outcome, and so are the columns
abbrev pub Forgot : ℕ → ℕ → LentTable → Float → Result ℕ Refusal → Type 0
Forgot m n t time a = (a ≡ forgetting_of (lent_forget m n t time)) × ForgetsIn m n t time (answer_number a) (count_after a n)

-- what a drop leaves of an entry's block: of the samples at its front that are before the time all but the last go
abbrev pub retained : Float → List Reading → Entry → List Reading
retained time rs e = drop (front time (block rs e) - 1) (take e.count (drop e.start rs))

-- entries with their blocks laid one after the other from the place on, the block of each being its part
unfoldable pub laid : (Entry → List Reading) → ℕ → List Entry → List Entry
laid part place [] = []
laid part place (e ∷ es) =
    record { constellation = e.constellation; svid = e.svid; band = e.band; start = place; count = length (part e) } ∷ laid part (place + length (part e)) es

-- a directory in which each block is what the drop leaves of it
unfoldable pub trimmed : Float → Directory → Directory
trimmed time d = record { entries = laid (retained time d.readings) 0 d.entries; readings = collect (retained time d.readings) d.entries }
