-- What the contracts of inner functions say: no promise of a call for users reaches these. Definitions only.
use Rattle.std.specs.Prelude.{ℕ, zero, suc, ◌+◌, ◌^◌, ◌≤◌, ◌<◌, ◌≡◌, true, List, [], length, get_or}
use Rattle.std.specs.Borrow.{Bor}
use Rattle.lists.specs.Memory.{before, after, LentNumbers}
use Rattle.corrections_table.specs.Table.{blank, sorted}
use Rattle.corrections_table.specs.declared.sample.Sample.{Sample}
use Rattle.corrections_directory.specs.Directory.{Blocks, Entry, entries_from, entry_rows, lent_blocks}
use Rattle.corrections_directory.specs.Rearrange.{entries_with}

-- ---- from a table to its directory

-- each of the three columns of signals has n places or more
abbrev pub SignalsHold : ℕ → Bor (List ℕ) → Bor (List ℕ) → Bor (List ℕ) → Type 0
SignalsHold n c v b = (n ≤ length c.now) × ((n ≤ length v.now) × (n ≤ length b.now))

-- the directory's five columns, with no times and corrections beside them
abbrev pub lent_entries : List ℕ → List ℕ → List ℕ → List ℕ → List ℕ → Blocks
lent_entries dc dv db df dn = lent_blocks dc dv db df dn [] []

-- the entries that lie in the directory's columns before a call
abbrev pub entries_before : LentNumbers → LentNumbers → LentNumbers → LentNumbers → LentNumbers → List Entry
entries_before c v b f n = entry_rows (before c) (before v) (before b) (before f) (before n)

-- the same entries in a condition on the caller
abbrev pub entries_now : Bor (List ℕ) → Bor (List ℕ) → Bor (List ℕ) → Bor (List ℕ) → Bor (List ℕ) → List Entry
entries_now c v b f n = entry_rows c.now v.now b.now f.now n.now

-- t is a sorted table of n samples whose signals are those of the columns
pub record Signals (cs vs bs : List ℕ) (n : ℕ) (t : List Sample) : Type 0 where
  pub count : length t ≡ n
  pub constellations : (x : ℕ) → x < n → get_or cs x 0 ≡ (get_or t x blank).constellation
  pub svids : (x : ℕ) → x < n → get_or vs x 0 ≡ (get_or t x blank).svid
  pub bands : (x : ℕ) → x < n → get_or bs x 0 ≡ (get_or t x blank).band
  pub in_order : sorted t ≡ true
  pub svids-fit : (x : ℕ) → get_or vs x 0 < 2 ^ 16
  pub bands-fit : (x : ℕ) → get_or bs x 0 < 2 ^ 32

-- the entries of each sorted table of n samples with these signals, r of them, are written to the front of the directory's columns
abbrev pub WritesEntries : LentNumbers → LentNumbers → LentNumbers → ℕ → LentNumbers → LentNumbers → LentNumbers → LentNumbers → LentNumbers → ℕ → Type 0
WritesEntries c v b n dc dv db df dn r =
    (t : List Sample) → Signals (before c) (before v) (before b) n t
    → (r ≡ length (entries_from 0 t))
    × (lent_entries (after dc) (after dv) (after db) (after df) (after dn)
    ≡ entries_with (entries_from 0 t) (lent_entries (before dc) (before dv) (before db) (before df) (before dn)))

-- the signal at the place x is that at i
abbrev pub SameAt : List ℕ → List ℕ → List ℕ → ℕ → ℕ → Type 0
SameAt cs vs bs x i = (get_or cs x 0 ≡ get_or cs i 0) × ((get_or vs x 0 ≡ get_or vs i 0) × (get_or bs x 0 ≡ get_or bs i 0))

-- the samples from i up to r are of one signal, and the next of the n is of another
pub record Run (cs vs bs : List ℕ) (i n r : ℕ) : Type 0 where
  pub some : i < r
  pub within : r ≤ n
  pub same : (x : ℕ) → i ≤ x → x < r → SameAt cs vs bs x i
  pub other : r < n → SameAt cs vs bs r i → ⊥

-- ---- from a directory to its table

-- where the block j begins, if blocks with these counts lie one after the other
unfoldable pub start_of : List ℕ → ℕ → ℕ
start_of counts zero = 0
start_of counts (suc j) = start_of counts j + get_or counts j 0

-- the places from `from` up to `to` of a column hold x, and the others what they held
pub record Spread (x from to : ℕ) (column column' : List ℕ) : Type 0 where
  pub same_length : length column' ≡ length column
  pub below : (k : ℕ) → k < from → get_or column' k 0 ≡ get_or column k 0
  pub here : (k : ℕ) → from ≤ k → k < to → get_or column' k 0 ≡ x
  pub beyond : (k : ℕ) → to ≤ k → get_or column' k 0 ≡ get_or column k 0

-- each place of the first m blocks holds the block's value, and the places past them what they held
pub record Laid (values counts : List ℕ) (m : ℕ) (column column' : List ℕ) : Type 0 where
  pub same_length : length column' ≡ length column
  pub here : (j k : ℕ) → j < m → start_of counts j ≤ k → k < start_of counts (suc j) → get_or column' k 0 ≡ get_or values j 0
  pub beyond : (k : ℕ) → start_of counts m ≤ k → get_or column' k 0 ≡ get_or column k 0

-- a lent column after its places are written
abbrev pub Spreads : ℕ → ℕ → ℕ → LentNumbers → Type 0
Spreads x from to column = Spread x from to (before column) (after column)

abbrev pub Lays : LentNumbers → LentNumbers → ℕ → LentNumbers → Type 0
Lays values counts m column = Laid (before values) (before counts) m (before column) (after column)
