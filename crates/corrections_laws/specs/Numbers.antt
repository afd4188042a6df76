-- The number that each call answers, in checking order, and what a refusal leaves, in plain conditions on what the call is lent. Definitions only.
use Rattle.std.specs.Prelude.{Ok, Err}
use Rattle.std.specs.Prelude.{ℕ, min, ◌+◌, ◌*◌, ◌≤◌, ◌<◌, ◌≡◌, true, false, cond, List, length, get_or, Float}
use Rattle.std.specs.Float.Ieee.Scale.{finite}
use Rattle.numeric.specs.Order.{pattern_of}
use Rattle.numeric.specs.Real.{in_range}
use Rattle.numeric.specs.declared.refusal.Refusal.{Refusal}
use Rattle.corrections_table.specs.Table.{Columns, sound_table, table_of}
use Rattle.corrections_directory.specs.Directory.{Blocks, Directory, directory_in, flat, sound_directory}
use Rattle.corrections_query.specs.Query.{answer_at}
use Rattle.corrections_queries.specs.Queries.{Asked}
use Rattle.corrections_epoch.specs.AddEpoch.{records_in_range}
use Rattle.corrections_laws.specs.Calls.{Caller, Epoch, as_blocks, base_epoch, directory, new_samples, states_beside}

-- ---- how much lent columns hold

-- the shortest of a directory's five columns
abbrev pub entry_room : Blocks → ℕ
entry_room l = min (length l.constellations) (min (length l.svids) (min (length l.bands) (min (length l.firsts) (length l.counts))))

-- the shortest of these and of the columns of times and corrections, at most 2,048
abbrev pub room_of : Blocks → ℕ
room_of l = min 2048 (min (entry_room l) (min (length l.times) (length l.corrections)))

-- the shortest of the three columns of signals of a table
abbrev pub signal_room : Columns → ℕ
signal_room t = min (length t.constellations) (min (length t.svids) (length t.bands))

-- the shortest of a table's five columns, at most 2,048
abbrev pub table_room : Columns → ℕ
table_room t = min 2048 (min (length t.constellations) (min (length t.svids) (min (length t.bands) (min (length t.times) (length t.corrections)))))

-- the shortest of the four columns of many queries and of the two of their results
abbrev pub place_room : Asked → List ℕ → List ℕ → ℕ
place_room q numbers metres =
    min (min (min (min (min (length q.constellations) (length q.svids)) (length q.bands)) (length q.times)) (length numbers)) (length metres)

-- ---- `zaqnuti_add_epoch`

-- the shortest of the four columns of ranges, at most 64
abbrev pub range_room : Epoch → ℕ
range_room e = min 64 (min (length e.range-constellations) (min (length e.range-svids) (min (length e.range-bands) (length e.pseudoranges))))

-- the shortest of the three columns of states, at most 64
abbrev pub state_room : Epoch → ℕ
state_room e = min 64 (min (length e.state-constellations) (min (length e.state-svids) (length e.state-bands)))

-- how many states count: none under the mark that there are none
abbrev pub states_counted : Epoch → ℕ
states_counted e = cond e.present e.states 0

-- rule 2 does not apply; each state has eight floats
pub record EpochFits (h : Caller) (e : Epoch) : Type 0 where
  pub entries : h.entries ≤ room_of (as_blocks h)
  pub samples : h.samples ≤ room_of (as_blocks h)
  pub ranges : e.ranges ≤ range_room e
  pub states : states_counted e ≤ state_room e
  pub floats : states_counted e * 8 ≤ length e.state-floats

-- rule 3 does not apply
pub record SettingsPass (e : Epoch) : Type 0 where
  pub gap : in_range e.settings.max_gap ≡ true
  pub correction : in_range e.settings.max_correction ≡ true

-- rule 4 does not apply
pub record RecordsPass (h : Caller) (e : Epoch) : Type 0 where
  pub records : records_in_range (base_epoch e) (states_beside e) e.base e.rover ≡ true
  pub sound : sound_directory (directory h) ≡ true

pub record AddNumber (h : Caller) (e : Epoch) (number : ℕ) (h' : Caller) : Type 0 where
  pub many-entries : room_of (as_blocks h) < h.entries → number ≡ 2
  pub many-samples : room_of (as_blocks h) < h.samples → number ≡ 2
  pub many-ranges : range_room e < e.ranges → number ≡ 2
  pub many-states : state_room e < states_counted e → number ≡ 2
  pub short-floats : length e.state-floats < states_counted e * 8 → number ≡ 2
  pub bad-gap : EpochFits h e → in_range e.settings.max_gap ≡ false → number ≡ 3
  pub bad-correction : EpochFits h e → in_range e.settings.max_correction ≡ false → number ≡ 3
  pub bad_record : EpochFits h e → SettingsPass e → records_in_range (base_epoch e) (states_beside e) e.base e.rover ≡ false → number ≡ 4
  pub not_sound : EpochFits h e → SettingsPass e → sound_directory (directory h) ≡ false → number ≡ 4
  pub full : EpochFits h e → SettingsPass e → RecordsPass h e → room_of (as_blocks h) < h.samples + length (new_samples e) → number ≡ 11
  pub added : EpochFits h e → SettingsPass e → RecordsPass h e → h.samples + length (new_samples e) ≤ room_of (as_blocks h) → number ≡ 0
  pub refused : (number ≡ 0 → ⊥) → h' ≡ h

-- ---- `zaqnuti_query`: m entries and n samples, which make up d, in columns with room for that many
pub record QueryNumber (m n room : ℕ) (d : Directory) (gap : Float) (c v b : ℕ) (t : Float) (number metres metres' : ℕ) : Type 0 where
  pub many-entries : room < m → number ≡ 2
  pub many-samples : room < n → number ≡ 2
  pub bad-gap : m ≤ room → n ≤ room → in_range gap ≡ false → number ≡ 3
  pub not_sound : m ≤ room → n ≤ room → in_range gap ≡ true → sound_directory d ≡ false → number ≡ 4
  pub bad-time : m ≤ room → n ≤ room → in_range gap ≡ true → finite t ≡ true → in_range t ≡ false → number ≡ 4
  -- a time that is not finite passes 4; then the samples held refuse it, or give a correction
  pub none : m ≤ room → n ≤ room → in_range gap ≡ true → sound_directory d ≡ true → (finite t ≡ true → in_range t ≡ true)
      → (r : Refusal) → answer_at (flat d) gap c v b t ≡ Err r → number ≡ 12
  pub given : m ≤ room → n ≤ room → in_range gap ≡ true → sound_directory d ≡ true → (finite t ≡ true → in_range t ≡ true)
      → (x : Float) → answer_at (flat d) gap c v b t ≡ Ok x → (number ≡ 0) × (metres' ≡ pattern_of x)
  pub refused : (number ≡ 0 → ⊥) → metres' ≡ metres

-- ---- `zaqnuti_queries`: the number of the whole call; each place then has that of a query
pub record QueriesNumber (m n room : ℕ) (d : Directory) (gap : Float) (q : Asked) (number : ℕ) (numbers metres numbers' metres' : List ℕ) : Type 0 where
  pub many-entries : room < m → number ≡ 2
  pub many-samples : room < n → number ≡ 2
  pub many-places : place_room q numbers metres < q.count → number ≡ 2
  pub bad-gap : m ≤ room → n ≤ room → q.count ≤ place_room q numbers metres → in_range gap ≡ false → number ≡ 3
  pub not_sound : m ≤ room → n ≤ room → q.count ≤ place_room q numbers metres → in_range gap ≡ true → sound_directory d ≡ false → number ≡ 4
  pub answered : m ≤ room → n ≤ room → q.count ≤ place_room q numbers metres → in_range gap ≡ true → sound_directory d ≡ true → number ≡ 0
  pub refused : (number ≡ 0 → ⊥) → (numbers' ≡ numbers) × (metres' ≡ metres)
  -- the columns keep their lengths and the places past the count their bits
  pub same_lengths : (length numbers' ≡ length numbers) × (length metres' ≡ length metres)
  pub past : (i : ℕ) → q.count ≤ i → (get_or numbers' i 0 ≡ get_or numbers i 0) × (get_or metres' i 0 ≡ get_or metres i 0)

-- ---- `zaqnuti_forget`
pub record DropNumber (h : Caller) (time : Float) (number : ℕ) (h' : Caller) : Type 0 where
  pub many-entries : room_of (as_blocks h) < h.entries → number ≡ 2
  pub many-samples : room_of (as_blocks h) < h.samples → number ≡ 2
  pub not_sound : h.entries ≤ room_of (as_blocks h) → h.samples ≤ room_of (as_blocks h) → sound_directory (directory h) ≡ false → number ≡ 4
  pub bad-time : h.entries ≤ room_of (as_blocks h) → h.samples ≤ room_of (as_blocks h) → sound_directory (directory h) ≡ true
      → finite time ≡ false → number ≡ 18
  pub dropped : h.entries ≤ room_of (as_blocks h) → h.samples ≤ room_of (as_blocks h) → sound_directory (directory h) ≡ true
      → finite time ≡ true → number ≡ 0
  pub refused : (number ≡ 0 → ⊥) → h' ≡ h

-- ---- `zaqnuti_directory_of`: n samples of a table t, and a directory's columns l with a count m of entries
pub record FilesNumber (n : ℕ) (t : Columns) (l l' : Blocks) (m m' number : ℕ) : Type 0 where
  pub many-samples : table_room t < n → number ≡ 2
  pub short-directory : entry_room l < n → number ≡ 2
  pub not_sound : n ≤ table_room t → n ≤ entry_room l → sound_table (table_of n t) ≡ false → number ≡ 4
  pub filed : n ≤ table_room t → n ≤ entry_room l → sound_table (table_of n t) ≡ true → number ≡ 0
  pub refused : (number ≡ 0 → ⊥) → (m' ≡ m) × (l' ≡ l)

-- ---- `zaqnuti_signals_of`: m entries and n samples of a directory in columns l, and a table's columns t
pub record ListsNumber (m n : ℕ) (l : Blocks) (t t' : Columns) (number : ℕ) : Type 0 where
  pub many-entries : room_of l < m → number ≡ 2
  pub many-samples : room_of l < n → number ≡ 2
  pub short-signals : signal_room t < n → number ≡ 2
  pub not_sound : m ≤ room_of l → n ≤ room_of l → n ≤ signal_room t → sound_directory (directory_in m n l) ≡ false → number ≡ 4
  pub listed : m ≤ room_of l → n ≤ room_of l → n ≤ signal_room t → sound_directory (directory_in m n l) ≡ true → number ≡ 0
  pub refused : (number ≡ 0 → ⊥) → t' ≡ t

-- ---- `zaqnuti_widen_bands`
pub record WidenNumber (n : ℕ) (narrow wide wide' : List ℕ) (number : ℕ) : Type 0 where
  pub many-bands : 2048 < n → number ≡ 2
  pub short-narrow : length narrow < n → number ≡ 2
  pub short-wide : length wide < n → number ≡ 2
  pub widened : n ≤ 2048 → n ≤ length narrow → n ≤ length wide → number ≡ 0
  pub refused : (number ≡ 0 → ⊥) → wide' ≡ wide
  -- the first n places hold the old bands where it answers 0; the column keeps its length and the places past them their bits
  pub bands-are : number ≡ 0 → (i : ℕ) → i < n → get_or wide' i 0 ≡ get_or narrow i 0
  pub same_length : length wide' ≡ length wide
  pub past : (i : ℕ) → n ≤ i → get_or wide' i 0 ≡ get_or wide i 0
