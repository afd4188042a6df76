-- What each entry point promises of the memory that it is lent, in its contract's own words, is what the laws assume of the call. Assumes nothing.
use Prim.Native.Nat.{ℕ, min}
use mathlib.Core.Path.{◌≡◌, refl, subst}
use mathlib.Core.Bool.{Bool}
use lib.ListN.{length}
use lib.Ieee.{Float}
use Rattle.lists.specs.Memory.{before, after, Memory, LentNumbers, LentFloats}
use Rattle.corrections_table.specs.Table.{lent_samples}
use Rattle.corrections_table.specs.Lent.{columns_before}
use Rattle.corrections_directory.specs.Directory.{Blocks, block_capacity, directory_in, entry_rows, lent_blocks}
use Rattle.corrections_directory.specs.Lent.{lent_table}
use Rattle.corrections_directory.specs.Read.{blocks_before, read_table}
use Rattle.corrections_directory.specs.Rearrange.{filed_of, listed_of}
use Rattle.corrections_add.specs.Add.{AddsIn}
use Rattle.corrections_query.specs.Query.{Answers, lent_query, query_in}
use Rattle.corrections_queries.specs.Queries.{asked, queries_in, Replies, RepliesTo}
use Rattle.corrections_convert.specs.Lent.{Files, FilesIn, lent_directory, Lists, ListsIn, lent_signal_columns}
use Rattle.corrections_forget.specs.Forget.{ForgetsIn}
use Rattle.corrections_epoch_columns.specs.Epoch.{LentBools, lent_entry}
use Rattle.corrections_laws.specs.Calls.{AddsEpoch, as_blocks, Asks, Caller, Drops}
use Rattle.corrections_laws.specs.Lent.{caller_after, caller_before, epoch_lent}

-- ---- a table that is lent to be written: the directory's columns, times and corrections as patterns
module _ (c v b f k t x : LentNumbers) where
  -- `zaqnuti_add_epoch`
  pub adds-epoch : (blocks count : Memory ℕ) (time : Float) (ranges : ℕ) (rc rv rb : LentNumbers) (rp : LentFloats) (present : Bool) (states : ℕ) (sc sv sb : LentNumbers)
      (sf base rover : LentFloats) (gap max : Float) (on : LentBools) (number : ℕ)
      → AddsIn (lent_entry (before blocks) (before count) (lent_table c v b f k t x).before time ranges rc rv rb rp present states sc sv sb sf base rover gap max on)
      number (before blocks) (after blocks) (before count) (after count) (lent_table c v b f k t x)
      → AddsEpoch (caller_before c v b f k t x (before blocks) (before count)) (epoch_lent time ranges rc rv rb rp present states sc sv sb sf base rover gap max on) number
      (caller_after c v b f k t x (after blocks) (after count))
  adds-epoch blocks count time ranges rc rv rb rp present states sc sv sb sf base rover gap max on number p = record { places = p.0; patterns = p.1 }

  -- `zaqnuti_forget`, whose count of entries is lent to be read
  pub drops : (blocks : ℕ) (count : Memory ℕ) (time : Float) (number : ℕ) → ForgetsIn blocks (before count) (lent_table c v b f k t x) time number (after count)
      → Drops (caller_before c v b f k t x blocks (before count)) time number (caller_after c v b f k t x blocks (after count))
  drops blocks count time number p = record { entries-stay = refl; forgets = p.0; patterns = p.1 }

-- ---- a table that is lent to be read, times and corrections as floats
module _ (c v b f k : LentNumbers) (blocks : ℕ) (t x : LentFloats) (count : ℕ) where
  -- `zaqnuti_query`, of any columns, and of a caller's
  pub answers : (gap : Float) (constellation svid band : ℕ) (time : Float) (number : ℕ) (metres : Memory ℕ)
      → Answers (lent_query (read_table c v b f k blocks t x count) gap constellation svid band time) number (before metres) (after metres)
      → Answers (query_in blocks count (block_capacity (blocks_before c v b f k t x)) (directory_in blocks count (blocks_before c v b f k t x)) gap constellation svid band time)
      number (before metres) (after metres)
  answers gap constellation svid band time number metres p = p

  pub asks : (h : Caller) → blocks_before c v b f k t x ≡ as_blocks h → blocks ≡ h.entries → count ≡ h.samples
      → (gap : Float) (constellation svid band : ℕ) (time : Float) (number : ℕ) (metres : Memory ℕ)
      → Answers (lent_query (read_table c v b f k blocks t x count) gap constellation svid band time) number (before metres) (after metres)
      → Asks h (record { gap = gap; constellation = constellation; svid = svid; band = band; time = time }) number (before metres) (after metres)
  asks h columns entries samples gap constellation svid band time number metres p =
      subst
      (λ (l : Blocks). Answers (query_in h.entries h.samples (block_capacity l) (directory_in h.entries h.samples l) gap constellation svid band time)
      number (before metres) (after metres))
      columns (rw (← entries, ← samples) p)

  -- `zaqnuti_queries`
  pub replies : (gap : Float) (constellations svids bands : LentNumbers) (times : LentFloats) (n number : ℕ) (numbers metres : LentNumbers)
      → RepliesTo (read_table c v b f k blocks t x count) gap (asked constellations svids bands times n) number numbers metres
      → Replies
      (queries_in blocks count (block_capacity (blocks_before c v b f k t x)) (directory_in blocks count (blocks_before c v b f k t x)) gap
      (record { constellations = before constellations; svids = before svids; bands = before bands; times = before times; count = n }) (before numbers) (before metres))
      number (before numbers) (before metres) (after numbers) (after metres)
  replies gap constellations svids bands times n number numbers metres p = p

  -- `zaqnuti_signals_of`
  pub lists : (us ws ys : LentNumbers) (number : ℕ) → ListsIn (read_table c v b f k blocks t x count) (lent_signal_columns us ws ys (read_table c v b f k blocks t x count)) number
      → Lists (listed_of blocks count (min (length (before us)) (min (length (before ws)) (length (before ys)))) (blocks_before c v b f k t x)) number
      (lent_samples (before us) (before ws) (before ys) (before t) (before x)) (lent_samples (after us) (after ws) (after ys) (before t) (before x))
  lists us ws ys number p = p

-- ---- `zaqnuti_directory_of`
pub files : (us ws ys : LentNumbers) (t x : LentFloats) (count : ℕ) (c v b f k : LentNumbers) (blocks : Memory ℕ) (number : ℕ)
    → FilesIn count (columns_before us ws ys t x) (lent_directory c v b f k (columns_before us ws ys t x)) number blocks
    → Files
    (filed_of count (length (entry_rows (before c) (before v) (before b) (before f) (before k))) (lent_samples (before us) (before ws) (before ys) (before t) (before x)))
    number (before blocks) (after blocks)
    (lent_blocks (before c) (before v) (before b) (before f) (before k) (before t) (before x))
    (lent_blocks (after c) (after v) (after b) (after f) (after k) (before t) (before x))
files us ws ys t x count c v b f k blocks number p = p
