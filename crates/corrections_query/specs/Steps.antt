-- What the contracts of inner functions say: no promise of a call for users reaches these. Definitions only.
use Rattle.std.specs.Prelude.{Result, Err}
use Rattle.numeric.specs.declared.refusal.Refusal.{Refusal}
use Rattle.std.specs.Prelude.{ℕ, ◌+◌, ◌-◌, ◌≤◌, ◌<◌, ◌≡◌, Bool, true, false, not, ◌||◌, List, [], ◌∷◌, length, get_or, take, leb, Float}
use Rattle.std.specs.Float.{nan}
use lib.Dec.{T}
use lib.Ieee.{binary64, fits}
use Rattle.std.specs.Float.Ieee.{lt}
use Rattle.std.specs.Float.Ieee.Scale.{finite}
use Rattle.numeric.specs.Real.{in_range}
use Rattle.numeric.specs.Rules.{rule, ruled}
use Rattle.numeric.specs.declared.refusal.Refusal.TheVariants.{RecordOutOfRange}
use Rattle.corrections_table.specs.Table.{series_of}
use Rattle.corrections_directory.specs.Directory.{Entry, Reading, Blocks, Directory, block, directory_in, entries_in, flat, readings_in, sound_directory}
use Rattle.corrections_directory.specs.Steps.{InSignals, signal_at}
use Rattle.corrections_query.specs.Query.{answer_in, GivesFinite}

-- ---- the search by halving

-- of the places from `from` up to `to` those below lo pass the test, and those from hi on do not
pub record Halving (test : ℕ → Bool) (from to lo hi : ℕ) : Type 0 where
  pub above : from ≤ lo
  pub ordered : lo ≤ hi
  pub within : hi ≤ to
  pub front : (j : ℕ) → from ≤ j → j < lo → test j ≡ true
  pub back : (j : ℕ) → hi ≤ j → j < to → test j ≡ false

-- those that pass are the ones below r
abbrev pub Split : (ℕ → Bool) → ℕ → ℕ → ℕ → Type 0
Split test from to r = Halving test from to r r

-- of these places each one before a place that passes the test passes it too
pub record Falling (test : ℕ → Bool) (from to : ℕ) : Type 0 where
  pub down : (i j : ℕ) → from ≤ i → i ≤ j → j < to → test j ≡ true → test i ≡ true

-- the entry at the place i of a directory's columns is of the signal g or of a lower one
abbrev pub is_up_to : List ℕ → List ℕ → List ℕ → ℕ → ℕ → Bool
is_up_to constellations svids bands g i = leb (signal_at constellations svids bands i) g

-- the time at the place i is before t
abbrev pub is_before : List Float → Float → ℕ → Bool
is_before times t i = lt (get_or times i nan) t

-- the places from `from` up to `to`, at least one, lie in the columns, and after the first of them the signals up to g come first
pub record SignalsSplit (constellations svids bands : List ℕ) (g from to : ℕ) : Type 0 where
  pub some : from < to
  pub inside : InSignals constellations svids bands (to - 1)
  pub falling : Falling (is_up_to constellations svids bands g) (from + 1) to

-- r is the last of these places whose signal is not above g, or the first of them where all are
pub record LastUpTo (constellations svids bands : List ℕ) (g from to r : ℕ) : Type 0 where
  pub below : r < to
  pub split : Split (is_up_to constellations svids bands g) (from + 1) to (r + 1)

-- the places from `from` up to `to`, at least one, lie in the column, and the times before t come first
pub record TimesSplit (times : List Float) (t : Float) (from to : ℕ) : Type 0 where
  pub some : from < to
  pub inside : to ≤ length times
  pub falling : Falling (is_before times t) from to

-- ---- one block

-- r is the answer of the count readings from the place first on, whichever satellite's they are
pub record BlockAnswer (readings : List Reading) (first count : ℕ) (gap t : Float) (r : Result Float Refusal) : Type 0 where
  pub is : (e : Entry) → e.start ≡ first → e.count ≡ count → r ≡ answer_in (block readings e) gap t

-- the times of a column, and one time, are of the code's format
pub record OfFormat (ts : List Float) (t : Float) : Type 0 where
  pub column : (j : ℕ) → T (fits binary64 (get_or ts j nan))
  pub time : T (fits binary64 t)

-- ---- a table that has passed its tests

-- how many samples the entries count
unfoldable pub samples_of : List Entry → ℕ
samples_of [] = 0
samples_of (e ∷ es) = e.count + samples_of es

-- the directory of m entries, with as many samples as they count
abbrev pub directory_for : ℕ → Blocks → Directory
directory_for m l = directory_in m (samples_of (take m (entries_in l))) l

-- it lies in the columns, and number 4 finds nothing in it
pub record Answerable (m : ℕ) (l : Blocks) : Type 0 where
  pub few-entries : m ≤ length (entries_in l)
  pub few-samples : samples_of (take m (entries_in l)) ≤ length (readings_in l)
  pub sound : sound_directory (directory_for m l) ≡ true

-- the answer of the signal g at the time t, which number 4 tests too
unfoldable pub answer_for : ℕ → Blocks → Float → ℕ → Float → Result Float Refusal
answer_for m l gap g t = ruled Err (rule RecordOutOfRange (not (in_range t || not (finite t))) ∷ []) (answer_in (series_of g (flat (directory_for m l))) gap t)

-- r is that answer, and finite where it is a correction
abbrev pub AnswersFor : ℕ → Blocks → Float → ℕ → Float → Result Float Refusal → Type 0
AnswersFor m l gap g t r = (r ≡ answer_for m l gap g t) × GivesFinite r
