-- Request (ii): `zaqnuti_widen_bands` and `zaqnuti_directory_of` accept an old table within its capacity, and what they leave answers as it did. Assumes nothing.
use Rattle.numeric.specs.Refusal.{answer_number}
use Rattle.std.specs.Prelude.{Ok}
use mathlib.Core.Path.{◌≡◌, refl, sym, ap, subst, ◌∙◌}
use mathlib.Core.List.{List, ◌++◌}
use mathlib.Core.Bool.{true, false}
use Prim.Native.Nat.{ℕ, ◌≤◌, min}
use lib.Dec.{ltb}
use borrow.Author.Tests.{le-ltb, ltb-false}
use lib.ListN.{length, take, drop}
use native.Mathlib.Omega.{arith}
use Rattle.corrections_table.specs.Table.{rows, sound_table}
use Rattle.corrections_table.specs.Widen.{bands_short, widen_of}
use Rattle.corrections_table.specs.declared.sample.Sample.{Sample}
use Rattle.corrections_table.proofs.Places.{sorted_rises}
use Rattle.corrections_table.proofs.WidenLaws.{Roomy, fits-widened, table-widened}
use Rattle.corrections_directory.specs.Directory.{directory_of, entries_from, entries_in, floats}
use Rattle.corrections_directory.specs.Rearrange.{filed_number}
use Rattle.corrections_directory.proofs.ColumnLaws.{entries-length}
use Rattle.corrections_forget.proofs.HistoryLaws.{sorted_of}
use Rattle.corrections_laws.specs.Typed.{Typed}
use Rattle.corrections_laws.specs.Calls.{Caller, as_blocks, room}
use Rattle.corrections_laws.specs.Flat.{BothForms, EntryColumns, FilesTable, Step, Table, Told, WidensBands, five_columns, flat_end, flat_tells, room_in, samples_in, sharing, BlockRun, flat_columns, step_columns, with_bands}
use Rattle.corrections_laws.specs.Numbers.{entry_room, room_of, table_room}
use Rattle.corrections_laws.proofs.NumberLaws.{same-room, same-table}
use Rattle.corrections_laws.proofs.FormLaws.{filed, files-count, files-hold, files-room}
use Rattle.corrections_laws.proofs.SameLaws.{same_entries, same_left, same-told}

least_first : (n a b c : ℕ) → n ≤ min a (min b c) → n ≤ b
least_first n a b c h = omega arith

-- ---- the two calls

-- For every old table whose samples lie within its capacity, and a wide column with a place for each of them, as a column of the narrow one's length has:
module _ (o : Table) (wide wide' : List ℕ) (number : ℕ) (widens : WidensBands o wide number wide')
    (within : o.samples ≤ table_room (five_columns o)) (long : o.samples ≤ length wide) where
  in-room : o.samples ≤ room_in o
  in-room = subst (λ (k : ℕ). o.samples ≤ k) (sym (same-table (five_columns o))) within

  roomy : Roomy o.samples o.bands wide
  roomy = record { few = omega arith; in-narrow = omega arith; in-wide = long }

  accepted : widen_of o.samples o.bands wide ≡ (Ok tt)
  unfolding widen_of bands_short
  accepted =
      rw (le-ltb 2048 o.samples roomy.few, le-ltb (length o.bands) o.samples roomy.in-narrow, le-ltb (length wide) o.samples long)

  widening_accepted : number ≡ 0
  widening_accepted = widens.number_is ∙ ap answer_number accepted

  -- and leaves the old bands; later places stay
  pub widened-bands : wide' ≡ take o.samples o.bands ++ drop o.samples wide
  widened-bands = widens.bands-are ∙ rw accepted

  table_same : samples_in (with_bands wide' o) ≡ samples_in o
  table_same = rw widened-bands (table-widened o.samples o.constellations o.svids o.bands wide (floats o.times) (floats o.corrections) roomy)

  in_rows : o.samples ≤ length (rows (five_columns (with_bands wide' o)))
  in_rows =
      let e : ltb (room_in (with_bands wide' o)) o.samples ≡ false =
      rw widened-bands (fits-widened o.samples o.constellations o.svids o.bands wide (floats o.times) (floats o.corrections) roomy)
      ∙ le-ltb (room_in o) o.samples in-room in
      omega (arith, ltb-false (room_in (with_bands wide' o)) o.samples e)

  -- where the old table is sound
  module _ (sound : sound_table (samples_in o) ≡ true) (d d' : EntryColumns) (number₂ : ℕ) (files : FilesTable (with_bands wide' o) d number₂ d') where
    side_by_side : o.samples ≤ entry_room (as_blocks (sharing o d)) → o.samples ≤ length (entries_in (as_blocks (sharing o d)))
    side_by_side p = rw (entries-length d.constellations d.svids d.bands d.firsts d.counts) p

    filing-accepted : o.samples ≤ entry_room (as_blocks (sharing o d)) → number₂ ≡ 0
    filing-accepted p =
        files.number_is
        ∙ ap filed_number
        (filed o.samples (length (entries_in (as_blocks (sharing o d)))) (five_columns (with_bands wide' o)) roomy.few (side_by_side p) in_rows
        (ap sound_table table_same ∙ sound))

    -- and where the capacity stays the same
    module _ (as_many : room_of (as_blocks (sharing o d)) ≡ table_room (five_columns o)) where
      capacity-stays : room (sharing o d) ≡ room_in o
      capacity-stays = same-room (as_blocks (sharing o d)) ∙ as_many ∙ sym (same-table (five_columns o))

      -- each directory column has these places, so that it answers 0
      pub enough-places : o.samples ≤ entry_room (as_blocks (sharing o d))
      enough-places = least_first o.samples 2048 (entry_room (as_blocks (sharing o d))) _ (subst (λ (k : ℕ). o.samples ≤ k) (sym as_many) within)

      forms : BothForms o (sharing o d')
      forms =
          let l = five_columns (with_bands wide' o) in
          let b = as_blocks (sharing o d') in
          let k : FilesTable (with_bands wide' o) d 0 d' = subst (λ (i : ℕ). FilesTable (with_bands wide' o) d i d') (filing-accepted enough-places) files in
          let hold = files-hold o.samples d.entries d'.entries l d.constellations d.svids d.bands d.firsts d.counts b k in
          let count = files-count o.samples d.entries d'.entries l d.constellations d.svids d.bands d.firsts d.counts b k in
          record {
            in_order = sorted_rises (samples_in o) ∙ sorted_of (samples_in o) sound;
            within = in-room;
            holds = hold ∙ ap directory_of table_same;
            entries-are = count ∙ ap (λ (t : List Sample). length (entries_from 0 t)) table_same ∙ sym (same_entries (samples_in o));
            samples-are = refl;
            same-times = refl;
            same-corrections = refl;
            same-capacity = files-room o.samples d.entries d'.entries l d.constellations d.svids d.bands d.firsts d.counts b k ∙ capacity-stays;
          }

      -- queries and epochs get the numbers and metres that the old table gives, and the directory stays that of the old table
      module _ (h' : Caller) (ss : List Step) (ts : List Told) (run : BlockRun (sharing o d') ss ts h')
          (table : Typed (flat_columns o)) (typed : Typed (step_columns ss)) where
        pub widened-told : ts ≡ flat_tells o ss
        widened-told = same-told o (sharing o d') h' ss ts run forms table typed

        pub widened-left : BothForms (flat_end o ss) h'
        widened-left = same_left o (sharing o d') h' ss ts run forms table typed

-- an old table within its capacity is widened by `zaqnuti_widen_bands` into any column with a place for each sample
pub widened-accepted : (o : Table) (wide wide' : List ℕ) (number : ℕ) → WidensBands o wide number wide'
    → o.samples ≤ table_room (five_columns o) → o.samples ≤ length wide → number ≡ 0
widened-accepted o wide wide' number widens within long = widening_accepted o wide wide' number widens within long

-- and, where it is sound, filed by `zaqnuti_directory_of` into any directory columns with a place for each sample
pub filed-accepted : (o : Table) (wide wide' : List ℕ) (number : ℕ) → WidensBands o wide number wide'
    → o.samples ≤ table_room (five_columns o) → o.samples ≤ length wide → sound_table (samples_in o) ≡ true
    → (d d' : EntryColumns) (number₂ : ℕ) → FilesTable (with_bands wide' o) d number₂ d' → o.samples ≤ entry_room (as_blocks (sharing o d)) → number₂ ≡ 0
filed-accepted o wide wide' number widens within long sound d d' number₂ files places = filing-accepted o wide wide' number widens within long sound d d' number₂ files places
