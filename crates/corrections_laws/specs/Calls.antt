-- The calls on one caller's table, by the contracts' own statements, and lists of them, each call on what the last one left. Definitions only.
use Rattle.std.specs.Prelude.{Option, Result}
use Rattle.numeric.specs.declared.refusal.Refusal.{Refusal}
use Rattle.std.specs.Prelude.{ℕ, ◌≤◌, ◌≡◌, Bool, true, false, cond, List, [], ◌∷◌, eqb, length, Float}
use Rattle.numeric.specs.declared.vec3.Vec3.{Vec3}
use Rattle.corrections_table.specs.declared.sample.Sample.{Sample}
use Rattle.corrections_directory.specs.Directory.{block_capacity, Blocks, blocks_with, Directory, directory_in, directory_of, flat, floats, lent_blocks, PatternsWith, sound_directory}
use Rattle.corrections_add.specs.Add.{PatternsAfter, Placed, Places}
use Rattle.corrections_query.specs.Query.{answer_at, Answers, query_in}
use Rattle.corrections_forget.specs.Forget.{ForgetOutcome, Forgets, forget_in}
use Rattle.corrections_forget.specs.History.{Event, add, drop}
use Rattle.corrections_epoch.specs.AddEpoch.{records_in_range, settings_in_range}
use Rattle.corrections_epoch.specs.Sample.{epoch_samples}
use Rattle.corrections_epoch.specs.Build.{EpochInput}
use Rattle.corrections_epoch.specs.declared.record.BaseEpoch.{BaseEpoch}
use Rattle.corrections_epoch.specs.declared.record.States.{States}
use Rattle.corrections_epoch.specs.declared.record.Settings.{Settings}
use Rattle.corrections_epoch_columns.specs.Epoch.{entry_in, base_epoch_of, records_short, states_in}
use Rattle.corrections_forget.specs.Forget as Forgetting
use Rattle.corrections_laws.specs.Typed.{TypedColumn, u16, u32, u64}

-- ---- what a caller hands over

-- beside the table of an added epoch: ranges and states in columns with their counts and the mark that there are states, base, rover and settings
pub record Epoch : Type 0 where
  pub time : Float
  pub ranges : ℕ
  pub range-constellations : List ℕ
  pub range-svids : List ℕ
  pub range-bands : List ℕ
  pub pseudoranges : List Float
  pub present : Bool
  pub states : ℕ
  pub state-constellations : List ℕ
  pub state-svids : List ℕ
  pub state-bands : List ℕ
  pub state-floats : List Float
  pub base : Vec3
  pub rover : Vec3
  pub settings : Settings

-- beside the table of a query
pub record Query : Type 0 where
  pub gap : Float
  pub constellation : ℕ
  pub svid : ℕ
  pub band : ℕ
  pub time : Float

-- ---- what a caller has

-- how many entries and samples count, the directory's columns, and those of times and corrections as 64-bit patterns
pub record Caller : Type 0 where
  pub entries : ℕ
  pub samples : ℕ
  pub constellations : List ℕ
  pub svids : List ℕ
  pub bands : List ℕ
  pub firsts : List ℕ
  pub counts : List ℕ
  pub times : List ℕ
  pub corrections : List ℕ

-- the columns as the calls read them
abbrev pub as_blocks : Caller → Blocks
as_blocks h = lent_blocks h.constellations h.svids h.bands h.firsts h.counts (floats h.times) (floats h.corrections)

abbrev pub room : Caller → ℕ
room h = block_capacity (as_blocks h)

abbrev pub directory : Caller → Directory
directory h = directory_in h.entries h.samples (as_blocks h)

-- the samples held
abbrev pub held_samples : Caller → List Sample
held_samples h = flat (directory h)

-- ---- the calls

-- the epoch and the states that the columns hold, and their samples
abbrev pub base_epoch : Epoch → BaseEpoch
base_epoch e = base_epoch_of e.time e.ranges e.range-constellations e.range-svids e.range-bands e.pseudoranges

abbrev pub states_beside : Epoch → Option States
states_beside e = states_in e.present e.states e.state-constellations e.state-svids e.state-bands e.state-floats

abbrev pub new_samples : Epoch → List Sample
new_samples e = epoch_samples e.base e.rover e.settings (base_epoch e) (states_beside e)

-- a column is shorter than the ranges or the states need; states are not looked at under the mark that there are none
abbrev pub short_of : Epoch → Bool
short_of e =
    records_short e.ranges e.range-constellations e.range-svids e.range-bands e.pseudoranges (cond e.present e.states 0)
    e.state-constellations e.state-svids e.state-bands e.state-floats

-- the outcome of adding the epoch
abbrev pub adding_of : Caller → Epoch → Placed
adding_of h e =
    entry_in h.entries h.samples (room h) (directory h) e.time
    e.ranges e.range-constellations e.range-svids e.range-bands e.pseudoranges
    e.present e.states e.state-constellations e.state-svids e.state-bands e.state-floats
    e.base e.rover e.settings

-- `zaqnuti_add_epoch` gave the number, and left h'
pub record AddsEpoch (h : Caller) (e : Epoch) (number : ℕ) (h' : Caller) : Type 0 where
  pub places : Places (adding_of h e) number h.entries h'.entries h.samples h'.samples (as_blocks h) (as_blocks h')
  pub patterns : PatternsAfter (adding_of h e) h.times h.corrections h'.times h'.corrections

-- the outcome of dropping the samples before the time
abbrev pub dropping_of : Caller → Float → ForgetOutcome
dropping_of h time = forget_in h.entries h.samples (room h) (directory h) time

-- `zaqnuti_forget` gave the number, and left h'; the count of entries is not lent to it, nor are the three columns of signals lent to be written
pub record Drops (h : Caller) (time : Float) (number : ℕ) (h' : Caller) : Type 0 where
  pub entries-stay : h'.entries ≡ h.entries
  pub forgets : Forgets (dropping_of h time) number h.entries h.samples h'.samples (as_blocks h) (as_blocks h')
  pub patterns : Forgetting.PatternsAfter (dropping_of h time) h.times h.corrections h'.times h'.corrections

-- the answer to a query
abbrev pub query_on : Caller → Query → Result Float Refusal
query_on h q = query_in h.entries h.samples (room h) (directory h) q.gap q.constellation q.svid q.band q.time

-- the answer by samples, once 2 to 4 pass
abbrev pub answer_by : List Sample → Query → Result Float Refusal
answer_by t q = answer_at t q.gap q.constellation q.svid q.band q.time

-- `zaqnuti_query` gave the number, and left metres' where metres was
abbrev pub Asks : Caller → Query → ℕ → ℕ → ℕ → Type 0
Asks h q number metres metres' = Answers (query_on h q) number metres metres'

-- ---- lists of calls
pub data Call : Type 0 where
  adding : Epoch → Call
  dropping : Float → Call

-- the call gave the number, and left h'
abbrev pub Does : Caller → Call → ℕ → Caller → Type 0
Does h (adding e) number h' = AddsEpoch h e number h'
Does h (dropping time) number h' = Drops h time number h'

-- calls one after the other, each on what the last one left, with their numbers, and what the caller has in the end
pub data CallRun : Caller → List Call → List ℕ → Caller → Type 0 where
  done : {h : Caller} → CallRun h [] [] h
  next : {h h' h'' : Caller} {c : Call} {cs : List Call} {k : ℕ} {ks : List ℕ} → Does h c k h' → CallRun h' cs ks h'' → CallRun h (c ∷ cs) (k ∷ ks) h''

-- what an accepted call does to the samples held
abbrev pub event_of : Call → Event
event_of (adding e) = add (new_samples e)
event_of (dropping time) = drop time

-- the calls that were accepted: those of number 0
unfoldable pub accepted_calls : List Call → List ℕ → List Event
accepted_calls [] ks = []
accepted_calls (c ∷ cs) [] = []
accepted_calls (c ∷ cs) (k ∷ ks) = cond (eqb k 0) (event_of c ∷ accepted_calls cs ks) (accepted_calls cs ks)

-- the epochs alone, and their numbers
unfoldable pub epochs_of : List Call → List Call
epochs_of [] = []
epochs_of (adding e ∷ cs) = adding e ∷ epochs_of cs
epochs_of (dropping time ∷ cs) = epochs_of cs

unfoldable pub epoch_numbers : List Call → List ℕ → List ℕ
epoch_numbers [] ks = []
epoch_numbers (c ∷ cs) [] = []
epoch_numbers (adding e ∷ cs) (k ∷ ks) = k ∷ epoch_numbers cs ks
epoch_numbers (dropping time ∷ cs) (k ∷ ks) = epoch_numbers cs ks

-- ---- what the laws assume

-- the columns of a table whose types they use, and those of the epochs of a list of calls
abbrev pub table_columns : Caller → List TypedColumn
table_columns h = u16 h.svids ∷ u32 h.bands ∷ u64 h.times ∷ u64 h.corrections ∷ []

abbrev pub call_columns : List Call → List TypedColumn
call_columns [] = []
call_columns (adding e ∷ cs) = u16 e.range-svids ∷ u32 e.range-bands ∷ call_columns cs
call_columns (dropping time ∷ cs) = call_columns cs

-- numbers 2 to 4 let an epoch pass
pub record EpochPasses (h : Caller) (e : Epoch) : Type 0 where
  pub few-entries : h.entries ≤ room h
  pub few-samples : h.samples ≤ room h
  pub few-ranges : e.ranges ≤ 64
  pub few-states : cond e.present e.states 0 ≤ 64
  pub long-columns : short_of e ≡ false
  pub settings-in-range : settings_in_range e.settings ≡ true
  pub records-in-range : records_in_range (base_epoch e) (states_beside e) e.base e.rover ≡ true
  pub sound : sound_directory (directory h) ≡ true

-- ---- `build`: epochs with the same base, rover and settings
abbrev pub AllBy : Vec3 → Vec3 → Settings → List Call → Type 0
AllBy base rover set [] = Unit {0}
AllBy base rover set (adding e ∷ cs) = ((e.base ≡ base) × (e.rover ≡ rover) × (e.settings ≡ set)) × AllBy base rover set cs
AllBy base rover set (dropping time ∷ cs) = ⊥

-- the epochs that were accepted, as `build` is handed them
unfoldable pub built_from : List Call → List ℕ → List EpochInput
built_from [] ks = []
built_from (c ∷ cs) [] = []
built_from (adding e ∷ cs) (k ∷ ks) = cond (eqb k 0) (record { epoch = base_epoch e; states = states_beside e } ∷ built_from cs ks) (built_from cs ks)
built_from (dropping time ∷ cs) (k ∷ ks) = built_from cs ks

-- h' holds the directory of t; past both counts its columns are those of h, to the last bit
pub record Comes (h : Caller) (t : List Sample) (h' : Caller) : Type 0 where
  pub entries-are : h'.entries ≡ length (directory_of t).entries
  pub samples-are : h'.samples ≡ length t
  pub columns-are : as_blocks h' ≡ blocks_with (directory_of t) (as_blocks h)
  pub patterns : PatternsWith (directory_of t) h.times h.corrections h'.times h'.corrections
