-- The old form of a table, five lent columns: its query and its added epoch, lists of both on either form, and its way into the second form. Definitions only.
use Rattle.numeric.specs.Refusal.{answer_number}
use Rattle.std.specs.Prelude.{Result, Float}
use Rattle.numeric.specs.declared.refusal.Refusal.{Refusal}
use Rattle.std.specs.Prelude.{ℕ, ◌^◌, ◌≤◌, ◌<◌, ◌≡◌, true, cond, List, [], ◌∷◌, length, get_or}
use Rattle.lists.specs.Walk.{fold}
use Rattle.numeric.specs.Order.{pattern_of}
use Rattle.numeric.specs.Refusal.{number_of}
use Rattle.numeric.specs.declared.refusal.Refusal.TheVariants.{TooMany}
use Rattle.corrections_table.specs.Table.{Columns, capacity, lent_samples, sorted, table_of}
use Rattle.corrections_table.specs.Add.{AddOutcome, added, refused}
use Rattle.corrections_table.specs.Widen.{bands_after, widen_of}
use Rattle.corrections_table.specs.declared.sample.Sample.{Sample}
use Rattle.corrections_directory.specs.Directory.{column_of, directory_of, entries_in, floats}
use Rattle.corrections_directory.specs.Rearrange.{filed_of}
use Rattle.corrections_query.specs.Query.{pattern_after, query_of}
use Rattle.corrections_epoch.specs.AddEpoch.{added_of}
use Rattle.corrections_convert.specs.Lent.{Files}
use Rattle.corrections_laws.specs.Calls.{AddsEpoch, as_blocks, Asks, Caller, Epoch, Query, base_epoch, directory, room, short_of, states_beside}
use Rattle.corrections_laws.specs.Typed.{TypedColumn, u16, u32}

-- ---- the old form

-- how many samples count, the columns of signals, and those of times and corrections as 64-bit patterns
pub record Table : Type 0 where
  pub samples : ℕ
  pub constellations : List ℕ
  pub svids : List ℕ
  pub bands : List ℕ
  pub times : List ℕ
  pub corrections : List ℕ

-- the columns as the calls read them
abbrev pub five_columns : Table → Columns
five_columns o = lent_samples o.constellations o.svids o.bands (floats o.times) (floats o.corrections)

abbrev pub room_in : Table → ℕ
room_in o = capacity (five_columns o)

-- the samples that count
abbrev pub samples_in : Table → List Sample
samples_in o = table_of o.samples (five_columns o)

-- a query: numbers 2 to 4 of the table, and then its answer
abbrev pub flat_answer : Table → Query → Result Float Refusal
flat_answer o q = query_of o.samples (room_in o) (samples_in o) q.gap q.constellation q.svid q.band q.time

-- an added epoch: the refusal, or the samples with the epoch's
unfoldable pub flat_addition : Table → Epoch → AddOutcome
flat_addition o e =
    cond (short_of e) (refused TooMany)
    (added_of o.samples (room_in o) (samples_in o) (base_epoch e) (states_beside e) e.base e.rover e.settings)

-- 0, or the number of the refusal
abbrev pub flat_number : AddOutcome → ℕ
flat_number (refused r) = number_of r
flat_number (added t) = 0

-- a table with samples at the front of its columns, and past them what was there
abbrev pub table_with : List Sample → Table → Table
table_with t o =
    record {
      samples = length t;
      constellations = column_of (λ (s : Sample). s.constellation) t o.constellations;
      svids = column_of (λ (s : Sample). s.svid) t o.svids;
      bands = column_of (λ (s : Sample). s.band) t o.bands;
      times = column_of (λ (s : Sample). pattern_of s.time) t o.times;
      corrections = column_of (λ (s : Sample). pattern_of s.correction) t o.corrections;
    }

-- count and columns afterwards: unchanged where adding is refused
abbrev pub table_after : AddOutcome → Table → Table
table_after (refused r) o = o
table_after (added t) o = table_with t o

-- ---- lists of queries and added epochs

-- a query with what the lent float holds before, or an epoch
pub data Step : Type 0 where
  ask : Query → ℕ → Step
  enter : Epoch → Step

-- the number, and what the lent float of a query holds afterwards
pub data Told : Type 0 where
  answered : ℕ → ℕ → Told
  numbered : ℕ → Told

-- what the old form tells at a step, and what it leaves
abbrev pub flat_told : Table → Step → Told
flat_told o (ask q metres) = answered (answer_number (flat_answer o q)) (pattern_after (flat_answer o q) metres)
flat_told o (enter e) = numbered (flat_number (flat_addition o e))

abbrev pub flat_left : Table → Step → Table
flat_left o (ask q metres) = o
flat_left o (enter e) = table_after (flat_addition o e) o

-- steps one after the other, each on what the last one left
unfoldable pub flat_tells : Table → List Step → List Told
flat_tells o [] = []
flat_tells o (s ∷ ss) = flat_told o s ∷ flat_tells (flat_left o s) ss

abbrev pub flat_end : Table → List Step → Table
flat_end o ss = fold flat_left o ss

-- steps on the second form, by the contracts of its calls
pub data BlockRun : Caller → List Step → List Told → Caller → Type 0 where
  done : {h : Caller} → BlockRun h [] [] h
  asked : {h h' : Caller} {q : Query} {metres number metres' : ℕ} {ss : List Step} {ts : List Told} → Asks h q number metres metres' → BlockRun h ss ts h'
      → BlockRun h (ask q metres ∷ ss) (answered number metres' ∷ ts) h'
  entered : {h h' h'' : Caller} {e : Epoch} {number : ℕ} {ss : List Step} {ts : List Told} → AddsEpoch h e number h' → BlockRun h' ss ts h''
      → BlockRun h (enter e ∷ ss) (numbered number ∷ ts) h''

-- ---- one table in both forms

-- a sorted table within its capacity, and columns that hold its directory; times and corrections are equal to the columns' ends, and so are the capacities
pub record BothForms (o : Table) (h : Caller) : Type 0 where
  pub in_order : sorted (samples_in o) ≡ true
  pub within : o.samples ≤ room_in o
  pub holds : directory h ≡ directory_of (samples_in o)
  pub entries-are : h.entries ≡ length (directory_of (samples_in o)).entries
  pub samples-are : h.samples ≡ o.samples
  pub same-times : h.times ≡ o.times
  pub same-corrections : h.corrections ≡ o.corrections
  pub same-capacity : room h ≡ room_in o

-- the columns of a table of the old form whose types the laws use, and those of the epochs of a list of steps
abbrev pub flat_columns : Table → List TypedColumn
flat_columns o = u16 o.svids ∷ u32 o.bands ∷ []

abbrev pub step_columns : List Step → List TypedColumn
step_columns [] = []
step_columns (ask q metres ∷ ss) = step_columns ss
step_columns (enter e ∷ ss) = u16 e.range-svids ∷ u32 e.range-bands ∷ step_columns ss

-- ---- an old table into the second form, by the contracts of the two calls

-- `zaqnuti_widen_bands` on the table's bands gave the number, and left wide' where wide was
pub record WidensBands (o : Table) (wide : List ℕ) (number : ℕ) (wide' : List ℕ) : Type 0 where
  pub number_is : number ≡ answer_number (widen_of o.samples o.bands wide)
  pub bands-are : wide' ≡ bands_after (widen_of o.samples o.bands wide) o.samples o.bands wide

-- the table with another column of bands
abbrev pub with_bands : List ℕ → Table → Table
with_bands bands o =
    record { samples = o.samples; constellations = o.constellations; svids = o.svids; bands = bands; times = o.times; corrections = o.corrections }

-- what is lent for a directory: the count of entries, and five columns
pub record EntryColumns : Type 0 where
  pub entries : ℕ
  pub constellations : List ℕ
  pub svids : List ℕ
  pub bands : List ℕ
  pub firsts : List ℕ
  pub counts : List ℕ

-- the second form whose count, times and corrections are those of the old table
abbrev pub sharing : Table → EntryColumns → Caller
sharing o d =
    record {
      entries = d.entries;
      samples = o.samples;
      constellations = d.constellations;
      svids = d.svids;
      bands = d.bands;
      firsts = d.firsts;
      counts = d.counts;
      times = o.times;
      corrections = o.corrections;
    }

-- `zaqnuti_directory_of` on the table gave the number, and left d' where d was; count, times and corrections are not lent to be written
abbrev pub FilesTable : Table → EntryColumns → ℕ → EntryColumns → Type 0
FilesTable o d number d' =
    Files (filed_of o.samples (length (entries_in (as_blocks (sharing o d)))) (five_columns o)) number
    d.entries d'.entries (as_blocks (sharing o d)) (as_blocks (sharing o d'))

-- ---- bands up to 255, as a table of before request (ii) holds them
abbrev pub InBytes : List ℕ → Type 0
InBytes column = (i : ℕ) → get_or column i 0 < 2 ^ 8

abbrev pub ByteSteps : List Step → Type 0
ByteSteps [] = Unit {0}
ByteSteps (ask q metres ∷ ss) = ByteSteps ss
ByteSteps (enter e ∷ ss) = InBytes e.range-bands × ByteSteps ss
