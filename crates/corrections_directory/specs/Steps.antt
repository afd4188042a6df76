-- What the contracts of inner functions say: no promise of a call for users reaches these. Definitions only.
use Rattle.std.specs.Prelude.{ℕ, ◌+◌, ◌≤◌, ◌<◌, ◌≡◌, Bool, false, List, length, get_or, take, drop, Float}
use Rattle.lists.specs.Memory.{before, LentNumbers}
use Rattle.lists.specs.Walk.{every, places}
use Rattle.numeric.specs.Order.{is_nan_pattern}
use Rattle.signal.specs.Signal.{signal}
use Rattle.corrections_directory.specs.Directory.{Entry, Reading, entry_rows, floats, reading_rows, timely}
use Rattle.corrections_directory.specs.Lent.{Slice}

-- the place i lies in the three columns of signals
abbrev pub InSignals : List ℕ → List ℕ → List ℕ → ℕ → Type 0
InSignals constellations svids bands i = (i < length constellations) × ((i < length svids) × (i < length bands))

-- the signal at the place i of the three columns
abbrev pub signal_at : List ℕ → List ℕ → List ℕ → ℕ → ℕ
signal_at constellations svids bands i = signal (get_or constellations i 0) (get_or svids i 0) (get_or bands i 0)

-- a block of count samples from the place first on is not empty, and lies within so many places
pub record Filled (places first count : ℕ) : Type 0 where
  pub filled : 0 < count
  pub inside : first + count ≤ places

-- a block of count elements from the place first on, with no NaN's pattern among them
pub record Timed {A : Type 0} (is_nan : A → Bool) (ts : List A) (first count : ℕ) : Type 0 where
  pub filled : 0 < count
  pub inside : first + count ≤ length ts
  pub numbers : (j : ℕ) (d : A) → first ≤ j → j < first + count → is_nan (get_or ts j d) ≡ false

-- no NaN's pattern is among the first n elements
abbrev pub Numbers : {A : Type 0} → (A → Bool) → List A → ℕ → Type 0
Numbers {A} is_nan ts n = (j : ℕ) (d : A) → j < n → is_nan (get_or ts j d) ≡ false

-- each of the first m blocks, by its first place and its count, is so
pub record EachBlock (P : ℕ → ℕ → Type 0) (firsts counts : List ℕ) (m : ℕ) : Type 0 where
  pub in-firsts : m ≤ length firsts
  pub in-counts : m ≤ length counts
  pub each : (j : ℕ) → j < m → P (get_or firsts j 0) (get_or counts j 0)

-- the times of each of the first m blocks are in order
unfoldable pub timely_blocks : List ℕ → List ℕ → List Float → ℕ → Bool
timely_blocks firsts counts ts m = every timely (places (λ (j : ℕ). take (get_or counts j 0) (drop (get_or firsts j 0) ts)) m)

-- what a read past the end gives
abbrev pub no_entry : Entry
no_entry = record { constellation = 0; svid = 0; band = 0; start = 0; count = 0 }

-- ---- the columns of the contracts

-- the entries in five columns as a step finds them
abbrev pub rows_now : Slice → Slice → Slice → Slice → Slice → List Entry
rows_now c v b f n = entry_rows c.now v.now b.now f.now n.now

-- the same before a call
abbrev pub rows_before : LentNumbers → LentNumbers → LentNumbers → LentNumbers → LentNumbers → List Entry
rows_before c v b f n = entry_rows (before c) (before v) (before b) (before f) (before n)

-- times and corrections, lent as patterns, as a step finds them
abbrev pub readings_now : Slice → Slice → List Reading
readings_now t x = reading_rows (floats t.now) (floats x.now)

-- the same before a call
abbrev pub readings_before : LentNumbers → LentNumbers → List Reading
readings_before t x = reading_rows (floats (before t)) (floats (before x))

-- count times, lent as patterns, from the place first on, before a call
abbrev pub times_before : LentNumbers → ℕ → ℕ → List Float
times_before t first count = take count (drop first (floats (before t)))
