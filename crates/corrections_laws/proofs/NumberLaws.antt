-- The number of an added epoch, of forgetting, of both rearrangements and of widening, by the calls' contracts, and what a refusal leaves. Assumes nothing.
use Rattle.numeric.specs.Refusal.{answer_number}
use Rattle.std.specs.Prelude.{Result, Ok, Err, ⊤}
use Rattle.numeric.specs.declared.refusal.Refusal.{Refusal}
use mathlib.Core.Path.{◌≡◌, refl, sym, ap, ◌∙◌}
use mathlib.Core.List.{List, [], ◌∷◌, ◌++◌}
use mathlib.Core.Bool.{Bool, true, false, cond, not, ◌&&◌, ◌||◌}
use Prim.Native.Nat.{ℕ, zero, suc, min, ◌+◌, ◌*◌, ◌≤◌, ◌<◌}
use native.Mathlib.Omega.{arith}
use lib.Dec.{ltb}
use lib.ListN.{length, get_or, take, drop}
use borrow.Author.Tests.{le-ltb, lt-ltb, ltb-false, ltb-true}
use lib.Ieee.{Float}
use lib.Ieee.Scale.{finite}
use Rattle.numeric.specs.Rules.{ruled}
use Rattle.numeric.specs.declared.refusal.Refusal.TheVariants.{TooMany, RecordOutOfRange, BadDropTime}
use Rattle.corrections_table.specs.Table.{Columns, capacity, sound_table, table_of}
use Rattle.corrections_table.specs.Widen.{bands_after, bands_short, widen_of}
use Rattle.corrections_table.proofs.WidenLaws.{not_short}
use Rattle.numeric.proofs.RefusalLaws.{not-zero}
use Rattle.corrections_table.proofs.ColumnLaws.{rows-length}
use Rattle.corrections_directory.specs.Directory.{Blocks, block_capacity, directory_in, directory_of, entries_in, flat, sound_directory}
use Rattle.corrections_directory.specs.Rearrange.{Filed, Listed, entries_are, filed_number, filed_of, listed_number, listed_of, samples_are, unfiled, unlisted}
use Rattle.corrections_directory.proofs.ColumnLaws.{entries-length, readings-length}
use Rattle.corrections_forget.specs.Forget.{forget, forget_in, forgetting_of, outcome_of, test_in}
use Rattle.numeric.specs.Real.{in_range}
use Rattle.corrections_epoch.specs.AddEpoch.{records_in_range, settings_in_range}
use Rattle.corrections_epoch_columns.specs.Epoch.{records_short}
use Rattle.corrections_epoch_columns.proofs.EpochLaws.{Readable, readable, unreadable}
use Rattle.corrections_convert.specs.Lent.{Files, Lists}
use Rattle.corrections_laws.specs.Calls.{AddsEpoch, Caller, Drops, Epoch, base_epoch, new_samples, short_of, states_beside, as_blocks, directory, dropping_of, held_samples, room}
use Rattle.corrections_laws.specs.Numbers.{AddNumber, EpochFits, SettingsPass, states_counted, DropNumber, FilesNumber, ListsNumber, WidenNumber, entry_room, room_of, signal_room, table_room}
use Rattle.corrections_laws.proofs.StepLaws.{add-refused, drop-refused, number_by_lem, number_by}

-- ---- the capacities of the definitions, by the lengths of the columns
pub same-room : (l : Blocks) → block_capacity l ≡ room_of l
same-room l = rw (entries-length l.constellations l.svids l.bands l.firsts l.counts, readings-length l.times l.corrections)

pub same-table : (t : Columns) → capacity t ≡ table_room t
same-table t = rw (rows-length t)

-- ---- tests joined
pub either : (x : Bool) → (x || true) ≡ true
either true = refl
either false = refl

pub neither : (x : Bool) → (x && false) ≡ false
neither true = refl
neither false = refl

pub ltb-min : (a b c : ℕ) → (ltb a c || ltb b c) ≡ ltb (min a b) c
ltb-min a b c = go (ltb a c) (ltb b c) refl refl
  where
    go : (x y : Bool) → ltb a c ≡ x → ltb b c ≡ y → (x || y) ≡ ltb (min a b) c
    go true y p q = let h = ltb-true a c p in sym (lt-ltb (min a b) c (omega arith))
    go false true p q = let h = ltb-true b c q in sym (lt-ltb (min a b) c (omega arith))
    go false false p q = let h = ltb-false a c p in let k = ltb-false b c q in sym (le-ltb (min a b) c (omega arith))

-- ---- an added epoch

-- 2, unless all five of its tests pass
two-by : (a b c d f g i j x : Bool) → (a ≡ false → b ≡ false → c ≡ false → d ≡ false → f ≡ false → ⊥) → number_by a b c d f g i j x ≡ 2
two-by true b c d f g i j x k = refl
two-by false true c d f g i j x k = refl
two-by false false true d f g i j x k = refl
two-by false false false true f g i j x k = refl
two-by false false false false true g i j x k = refl
two-by false false false false false g i j x k = absurd (k refl refl refl refl refl)

module _ (h : Caller) (e : Epoch) where
  abbrev Reads : Type 0
  Reads =
      Readable e.ranges e.range-constellations e.range-svids e.range-bands e.pseudoranges (states_counted e)
      e.state-constellations e.state-svids e.state-bands e.state-floats

  reads : short_of e ≡ false → ltb 64 e.ranges ≡ false → ltb 64 (states_counted e) ≡ false → Reads
  unfolding unreadable
  reads p q r =
      readable e.ranges e.range-constellations e.range-svids e.range-bands e.pseudoranges (states_counted e)
      e.state-constellations e.state-svids e.state-bands e.state-floats (rw (q, r, p))

  -- no column of ranges or states is too short
  long-enough : EpochFits h e → short_of e ≡ false
  unfolding records_short
  long-enough f =
      rw (
        le-ltb (length e.range-constellations) e.ranges (omega (arith, f.ranges)),
        le-ltb (length e.range-svids) e.ranges (omega (arith, f.ranges)),
        le-ltb (length e.range-bands) e.ranges (omega (arith, f.ranges)),
        le-ltb (length e.pseudoranges) e.ranges (omega (arith, f.ranges)),
        le-ltb (length e.state-constellations) (states_counted e) (omega (arith, f.states)),
        le-ltb (length e.state-svids) (states_counted e) (omega (arith, f.states)),
        le-ltb (length e.state-bands) (states_counted e) (omega (arith, f.states)),
        le-ltb (length e.state-floats) (states_counted e * 8) f.floats,
      )

  abbrev epoch_by : ℕ → ℕ
  epoch_by k =
      number_by (short_of e) (ltb k h.entries) (ltb k h.samples) (ltb 64 e.ranges) (ltb 64 (states_counted e)) (settings_in_range e.settings)
      (records_in_range (base_epoch e) (states_beside e) e.base e.rover) (sound_directory (directory h)) (ltb k (h.samples + length (new_samples e)))

  -- 3 to 11, once 2 passes
  fits_by : EpochFits h e
      → epoch_by (room_of (as_blocks h))
      ≡ cond (not (settings_in_range e.settings)) 3
      (cond (not (records_in_range (base_epoch e) (states_beside e) e.base e.rover && sound_directory (directory h))) 4
      (cond (ltb (room_of (as_blocks h)) (h.samples + length (new_samples e))) 11 0))
  fits_by f =
      rw (
        long-enough f,
        le-ltb (room_of (as_blocks h)) h.entries f.entries,
        le-ltb (room_of (as_blocks h)) h.samples f.samples,
        le-ltb 64 e.ranges (omega (arith, f.ranges)),
        le-ltb 64 (states_counted e) (omega (arith, f.states)),
      )

  -- 2, where the epoch or the table does not fit
  else-two : (EpochFits h e → ⊥) → epoch_by (room_of (as_blocks h)) ≡ 2
  else-two nay =
      two-by (short_of e) (ltb (room_of (as_blocks h)) h.entries) (ltb (room_of (as_blocks h)) h.samples) (ltb 64 e.ranges) (ltb 64 (states_counted e))
      (settings_in_range e.settings) (records_in_range (base_epoch e) (states_beside e) e.base e.rover) (sound_directory (directory h))
      (ltb (room_of (as_blocks h)) (h.samples + length (new_samples e)))
      (λ p q r s t.
      let z = reads p s t in
      nay
      (record {
        entries = ltb-false (room_of (as_blocks h)) h.entries q;
        samples = ltb-false (room_of (as_blocks h)) h.samples r;
        ranges = omega (arith, z.few-ranges, z.in_rc, z.in_rv, z.in-rb, z.in_rp);
        states = omega (arith, z.few-states, z.in-sc, z.in-sv, z.in-sb);
        floats = z.in_sf;
      }))

  settings-pass : SettingsPass e → settings_in_range e.settings ≡ true
  unfolding settings_in_range
  settings-pass s = rw (s.gap, s.correction)

  gap-fails : in_range e.settings.max_gap ≡ false → settings_in_range e.settings ≡ false
  unfolding settings_in_range
  gap-fails k = rw k

  correction-fails : in_range e.settings.max_correction ≡ false → settings_in_range e.settings ≡ false
  unfolding settings_in_range
  correction-fails k = rw k (neither (in_range e.settings.max_gap))

  pub add-number : (number : ℕ) (h' : Caller) → AddsEpoch h e number h' → AddNumber h e number h'
  add-number number h' a =
      let is : number ≡ epoch_by (room_of (as_blocks h)) = number_by_lem h e number h' a ∙ ap epoch_by (same-room (as_blocks h)) in
      record {
        many-entries = λ k. is ∙ else-two (λ f. omega (arith, k, f.entries));
        many-samples = λ k. is ∙ else-two (λ f. omega (arith, k, f.samples));
        many-ranges = λ k. is ∙ else-two (λ f. omega (arith, k, f.ranges));
        many-states = λ k. is ∙ else-two (λ f. omega (arith, k, f.states));
        short-floats = λ k. is ∙ else-two (λ f. omega (arith, k, f.floats));
        bad-gap = λ f k. is ∙ fits_by f ∙ rw (gap-fails k);
        bad-correction = λ f k. is ∙ fits_by f ∙ rw (correction-fails k);
        bad_record = λ f s k. is ∙ fits_by f ∙ rw (settings-pass s, k);
        not_sound = λ f s k. is ∙ fits_by f ∙ rw (settings-pass s, k, neither (records_in_range (base_epoch e) (states_beside e) e.base e.rover));
        full = λ f s r k. is ∙ fits_by f ∙ rw (settings-pass s, r.records, r.sound, lt-ltb (room_of (as_blocks h)) (h.samples + length (new_samples e)) k);
        added = λ f s r k. is ∙ fits_by f ∙ rw (settings-pass s, r.records, r.sound, le-ltb (room_of (as_blocks h)) (h.samples + length (new_samples e)) k);
        refused = λ z. add-refused h e number h' a z;
      }

-- ---- forgetting
module _ (h : Caller) (time : Float) where
  abbrev after : Bool → Bool → Bool → ℕ
  after x y z =
      answer_number
      (forgetting_of
      (outcome_of (cond x (Err TooMany) (cond (not y) (Err RecordOutOfRange) (cond (not z) (Err BadDropTime) (Ok tt))))
      (directory_of (forget time (held_samples h)))))

  drop-is : answer_number (forgetting_of (dropping_of h time))
      ≡ after (ltb (room h) h.entries || ltb (room h) h.samples) (sound_directory (directory h)) (finite time)
  unfolding forget_in test_in ruled
  drop-is = refl

  pub drop-number : (number : ℕ) (h' : Caller) → Drops h time number h' → DropNumber h time number h'
  drop-number number h' a =
      let is : number ≡ after (ltb (room_of (as_blocks h)) h.entries || ltb (room_of (as_blocks h)) h.samples) (sound_directory (directory h)) (finite time) =
      a.forgets.number_is ∙ drop-is
      ∙ ap (λ (k : ℕ). after (ltb k h.entries || ltb k h.samples) (sound_directory (directory h)) (finite time)) (same-room (as_blocks h)) in
      record {
        many-entries = λ k. is ∙ rw (lt-ltb (room_of (as_blocks h)) h.entries k);
        many-samples = λ k. is ∙ rw (lt-ltb (room_of (as_blocks h)) h.samples k, either (ltb (room_of (as_blocks h)) h.entries));
        not_sound = λ j k e. is ∙ rw (le-ltb (room_of (as_blocks h)) h.entries j, le-ltb (room_of (as_blocks h)) h.samples k, e);
        bad-time = λ j k e f. is ∙ rw (le-ltb (room_of (as_blocks h)) h.entries j, le-ltb (room_of (as_blocks h)) h.samples k, e, f);
        dropped = λ j k e f. is ∙ rw (le-ltb (room_of (as_blocks h)) h.entries j, le-ltb (room_of (as_blocks h)) h.samples k, e, f);
        refused = λ z. drop-refused h time number h' a z;
      }

-- ---- the rearrangements
files-left : (o : Filed) (number m m' : ℕ) (l l' : Blocks) → Files o number m m' l l' → (number ≡ 0 → ⊥) → (m' ≡ m) × (l' ≡ l)
files-left (unfiled r) number m m' l l' a z = (a.entries-are, a.columns)
files-left (entries_are es) number m m' l l' a z = absurd (z a.number_is)

module _ (n : ℕ) (t : Columns) (l l' : Blocks) (m m' number : ℕ) where
  abbrev filed_by : Bool → Bool → ℕ
  filed_by x y = filed_number (cond x (unfiled TooMany) (cond (not y) (unfiled RecordOutOfRange) (entries_are (directory_of (table_of n t)).entries)))

  files-is : filed_number (filed_of n (length (entries_in l)) t) ≡ filed_by (ltb (min (length (entries_in l)) (capacity t)) n) (sound_table (table_of n t))
  unfolding filed_of ruled
  files-is = refl

  pub filing-number : Files (filed_of n (length (entries_in l)) t) number m m' l l' → FilesNumber n t l l' m m' number
  filing-number a =
      let shortest : min (length (entries_in l)) (capacity t) ≡ min (entry_room l) (table_room t) =
      rw (entries-length l.constellations l.svids l.bands l.firsts l.counts, same-table t) in
      let is : number ≡ filed_by (ltb (entry_room l) n || ltb (table_room t) n) (sound_table (table_of n t)) =
      a.number_is ∙ files-is ∙ rw (shortest, ← ltb-min (entry_room l) (table_room t) n) in
      record {
        many-samples = λ k. is ∙ rw (lt-ltb (table_room t) n k, either (ltb (entry_room l) n));
        short-directory = λ k. is ∙ rw (lt-ltb (entry_room l) n k);
        not_sound = λ j k e. is ∙ rw (le-ltb (table_room t) n j, le-ltb (entry_room l) n k, e);
        filed = λ j k e. is ∙ rw (le-ltb (table_room t) n j, le-ltb (entry_room l) n k, e);
        refused = λ z. files-left (filed_of n (length (entries_in l)) t) number m m' l l' a z;
      }

lists-left : (o : Listed) (number : ℕ) (t t' : Columns) → Lists o number t t' → (number ≡ 0 → ⊥) → t' ≡ t
lists-left (unlisted r) number t t' a z = a.columns
lists-left (samples_are s) number t t' a z = absurd (z a.number_is)

module _ (m n : ℕ) (l : Blocks) (t t' : Columns) (number : ℕ) where
  abbrev listed_by : Bool → Bool → ℕ
  listed_by x y = listed_number (cond x (unlisted TooMany) (cond (not y) (unlisted RecordOutOfRange) (samples_are (flat (directory_in m n l)))))

  lists-is : (long : ℕ) → listed_number (listed_of m n long l)
      ≡ listed_by ((ltb (block_capacity l) m || ltb (block_capacity l) n) || ltb long n) (sound_directory (directory_in m n l))
  unfolding listed_of ruled
  lists-is long = refl

  pub listing-number : Lists (listed_of m n (min (length t.constellations) (min (length t.svids) (length t.bands))) l) number t t'
      → ListsNumber m n l t t' number
  listing-number a =
      let is : number ≡ listed_by ((ltb (room_of l) m || ltb (room_of l) n) || ltb (signal_room t) n) (sound_directory (directory_in m n l)) =
      a.number_is ∙ lists-is (signal_room t)
      ∙ ap (λ (k : ℕ). listed_by ((ltb k m || ltb k n) || ltb (signal_room t) n) (sound_directory (directory_in m n l))) (same-room l) in
      record {
        many-entries = λ k. is ∙ rw (lt-ltb (room_of l) m k);
        many-samples = λ k. is ∙ rw (lt-ltb (room_of l) n k, either (ltb (room_of l) m));
        short-signals = λ k. is ∙ rw (lt-ltb (signal_room t) n k, either (ltb (room_of l) m || ltb (room_of l) n));
        not_sound = λ i j k e. is ∙ rw (le-ltb (room_of l) m i, le-ltb (room_of l) n j, le-ltb (signal_room t) n k, e);
        listed = λ i j k e. is ∙ rw (le-ltb (room_of l) m i, le-ltb (room_of l) n j, le-ltb (signal_room t) n k, e);
        refused = λ z. lists-left (listed_of m n (signal_room t) l) number t t' a z;
      }

-- ---- bands of 8 bits
joined_at : (n : ℕ) (narrow rest : List ℕ) → n ≤ length narrow → (i : ℕ) → i < n → get_or (take n narrow ++ rest) i 0 ≡ get_or narrow i 0
joined_at zero narrow rest h i k = absurd (omega arith)
joined_at (suc n) [] rest h i k = absurd (omega arith)
joined_at (suc n) (x ∷ narrow) rest h zero k = refl
joined_at (suc n) (x ∷ narrow) rest h (suc i) k = joined_at n narrow rest (omega arith) i (omega arith)

joined-past : (n : ℕ) (narrow wide : List ℕ) → n ≤ length narrow → n ≤ length wide → (i : ℕ) → n ≤ i → get_or (take n narrow ++ drop n wide) i 0 ≡ get_or wide i 0
joined-past zero narrow wide h j i k = refl
joined-past (suc n) [] wide h j i k = absurd (omega arith)
joined-past (suc n) (x ∷ narrow) [] h j i k = absurd (omega arith)
joined-past (suc n) (x ∷ narrow) (y ∷ wide) h j zero k = absurd (omega arith)
joined-past (suc n) (x ∷ narrow) (y ∷ wide) h j (suc i) k = joined-past n narrow wide (omega arith) (omega arith) i (omega arith)

joined_length : (n : ℕ) (narrow wide : List ℕ) → n ≤ length narrow → n ≤ length wide → length (take n narrow ++ drop n wide) ≡ length wide
joined_length zero narrow wide h j = refl
joined_length (suc n) [] wide h j = absurd (omega arith)
joined_length (suc n) (x ∷ narrow) [] h j = absurd (omega arith)
joined_length (suc n) (x ∷ narrow) (y ∷ wide) h j = ap suc (joined_length n narrow wide (omega arith) (omega arith))

module _ (n : ℕ) (narrow wide wide' : List ℕ) (number : ℕ) where
  -- the number, and what is left
  abbrev Widens : Result ⊤ Refusal → Type 0
  Widens o = (number ≡ answer_number o) × (wide' ≡ bands_after o n narrow wide)

  widen-is : answer_number (widen_of n narrow wide) ≡ cond (bands_short n narrow wide) 2 0
  unfolding widen_of
  widen-is = go (bands_short n narrow wide)
    where
      go : (x : Bool) → answer_number {A = ⊤} (cond x (Err TooMany) (Ok tt)) ≡ cond x 2 0
      go true = refl
      go false = refl

  record Left : Type 0 where
    refused : (number ≡ 0 → ⊥) → wide' ≡ wide
    bands-are : number ≡ 0 → (i : ℕ) → i < n → get_or wide' i 0 ≡ get_or narrow i 0
    same_length : length wide' ≡ length wide
    past : (i : ℕ) → n ≤ i → get_or wide' i 0 ≡ get_or wide i 0

  left : Widens (widen_of n narrow wide) → Left
  unfolding widen_of bands_short
  left a = go (bands_short n narrow wide) refl a
    where
      go : (x : Bool) → bands_short n narrow wide ≡ x → Widens (cond x (Err TooMany) (Ok tt)) → Left
      go true e a =
          record {
            refused = λ z. a.1;
            bands-are = λ z. absurd (not-zero TooMany (sym a.0 ∙ z));
            same_length = ap length a.1;
            past = λ i k. ap (λ (l : List ℕ). get_or l i 0) a.1;
          }
      go false e a =
          let fits = not_short n narrow wide e in
          record {
            refused = λ z. absurd (z a.0);
            bands-are = λ z i k. ap (λ (l : List ℕ). get_or l i 0) a.1 ∙ joined_at n narrow (drop n wide) fits.in-narrow i k;
            same_length = ap length a.1 ∙ joined_length n narrow wide fits.in-narrow fits.in-wide;
            past = λ i k. ap (λ (l : List ℕ). get_or l i 0) a.1 ∙ joined-past n narrow wide fits.in-narrow fits.in-wide i k;
          }

  pub widen-number : (number ≡ answer_number (widen_of n narrow wide)) × (wide' ≡ bands_after (widen_of n narrow wide) n narrow wide)
      → WidenNumber n narrow wide wide' number
  unfolding bands_short
  widen-number a =
      let is : number ≡ cond ((ltb 2048 n || ltb (length narrow) n) || ltb (length wide) n) 2 0 = a.0 ∙ widen-is in
      let w = left a in
      record {
        many-bands = λ k. is ∙ rw (lt-ltb 2048 n k);
        short-narrow = λ k. is ∙ rw (lt-ltb (length narrow) n k, either (ltb 2048 n));
        short-wide = λ k. is ∙ rw (lt-ltb (length wide) n k, either (ltb 2048 n || ltb (length narrow) n));
        widened = λ i j k. is ∙ rw (le-ltb 2048 n i, le-ltb (length narrow) n j, le-ltb (length wide) n k);
        refused = w.refused;
        bands-are = w.bands-are;
        same_length = w.same_length;
        past = w.past;
      }
