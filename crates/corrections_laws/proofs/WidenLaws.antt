-- Request (ii): an old table whose bands are widened and which is then rearranged answers as it did. Assumes nothing.
use Rattle.numeric.specs.Refusal.{answer_number}
use Rattle.std.specs.Prelude.{Ok, Err, ⊤}
use mathlib.Core.Path.{◌≡◌, refl, sym, ap, subst, ◌∙◌}
use mathlib.Core.List.{List, [], ◌∷◌, ◌++◌, map}
use mathlib.Core.Bool.{Bool, true, false, cond, not, ◌&&◌, ◌||◌}
use Prim.Native.Nat.{ℕ, zero, suc, ◌+◌, ◌^◌, ◌≤◌, ◌<◌}
use lib.Dec.{ltb}
use borrow.Author.Tests.{lt-ltb, ltb-true}
use lib.ListN.{length, get_or, take, drop}
use lib.Ieee.{Float}
use Rattle.lists.specs.Walk.{every, fold}
use Rattle.numeric.specs.Rules.{ruled}
use Rattle.numeric.specs.declared.refusal.Refusal.{Refusal}
use Rattle.numeric.specs.declared.refusal.Refusal.TheVariants.{TooMany, SettingOutOfRange, RecordOutOfRange, TableFull}
use Rattle.numeric.proofs.RefusalLaws.{not-zero}
use Rattle.corrections_table.specs.Table.{beside, capacity, lent_samples, rows, sound_table, table_of}
use Rattle.corrections_table.specs.Add.{AddOutcome, added, insert_all, refused}
use Rattle.corrections_table.specs.Widen.{bands_after, bands_short, widen_of, widened}
use Rattle.corrections_table.specs.declared.sample.Sample.{Sample}
use Rattle.corrections_table.proofs.TableLaws.{and_left, and_right}
use Rattle.corrections_table.proofs.Places.{sorted_rises}
use Rattle.corrections_table.proofs.WidenLaws.{Roomy, capacity-widened, not_short, table-widened}
use Rattle.corrections_directory.specs.Directory.{column_of, directory_in, directory_of, entries_from, entry_rows, floats, lent_blocks}
use Rattle.corrections_directory.specs.Rearrange.{filed_of}
use Rattle.corrections_forget.proofs.HistoryLaws.{sorted_of}
use Rattle.corrections_epoch.specs.AddEpoch.{added_of, records_in_range, settings_in_range, too_many}
use Rattle.corrections_convert.specs.Lent.{Files}
use Rattle.corrections_laws.specs.Typed.{Typed}
use Rattle.corrections_laws.specs.Calls.{Caller, Epoch, base_epoch, as_blocks, new_samples, room, short_of, states_beside}
use Rattle.corrections_laws.specs.Flat.{BothForms, ByteSteps, InBytes, Step, Table, Told, ask, flat_addition, flat_end, flat_tells, room_in, samples_in, table_after, enter, BlockRun, flat_columns, step_columns}
use Rattle.corrections_laws.proofs.FormLaws.{files-count, files-fit, files-hold, files-sound}
use Rattle.corrections_laws.proofs.NarrowLaws.{insert_all-pass, new-pass}
use Rattle.corrections_laws.proofs.SameLaws.{same_entries, same_left, same-told}

-- what an answer of 0 says
record Widens (n : ℕ) (narrow wide : List ℕ) : Type 0 where
  is : widen_of n narrow wide ≡ (Ok tt)
  fits : Roomy n narrow wide

widens : (n : ℕ) (narrow wide : List ℕ) → 0 ≡ answer_number (widen_of n narrow wide) → Widens n narrow wide
unfolding widen_of bands_short
widens n narrow wide e = go (ltb 2048 n || ltb (length narrow) n || ltb (length wide) n) refl e
  where
    go : (x : Bool) → (ltb 2048 n || ltb (length narrow) n || ltb (length wide) n) ≡ x → 0 ≡ answer_number {A = ⊤} (cond x (Err TooMany) (Ok tt)) → Widens n narrow wide
    go true p z = absurd (not-zero TooMany (sym z))
    go false p z = record { is = rw p; fits = not_short n narrow wide p }

-- `zaqnuti_widen_bands` and `zaqnuti_directory_of` answer 0, the wide column is as long as the narrow one, and the capacity is the old one
module _ (o : Table) (wide wide' : List ℕ) (widening : (0 ≡ answer_number (widen_of o.samples o.bands wide)) × (wide' ≡ bands_after (widen_of o.samples o.bands wide) o.samples o.bands wide))
    (as_long : length wide ≡ length o.bands) (m : ℕ) (dc dv db df dn : List ℕ) (h : Caller) (samples-are : h.samples ≡ o.samples) (same-times : h.times ≡ o.times) (same-corrections : h.corrections ≡ o.corrections)
    (files : Files (filed_of o.samples (length (entry_rows dc dv db df dn)) (lent_samples o.constellations o.svids wide' (floats o.times) (floats o.corrections))) 0 m h.entries
    (lent_blocks dc dv db df dn (floats o.times) (floats o.corrections)) (as_blocks h))
    (same-room : room h ≡ room_in o) where
  w : Widens o.samples o.bands wide
  w = widens o.samples o.bands wide widening.0

  wide_is : wide' ≡ widened o.samples o.bands wide
  wide_is = widening.1 ∙ rw w.is

  table_same : table_of o.samples (lent_samples o.constellations o.svids wide' (floats o.times) (floats o.corrections)) ≡ samples_in o
  table_same = rw wide_is (table-widened o.samples o.constellations o.svids o.bands wide (floats o.times) (floats o.corrections) w.fits)

  forms : BothForms o h
  forms =
      let l = lent_samples o.constellations o.svids wide' (floats o.times) (floats o.corrections) in
      let hold = files-hold o.samples m h.entries l dc dv db df dn (as_blocks h) files in
      let sound : sound_table (samples_in o) ≡ true = ap sound_table (sym table_same) ∙ files-sound o.samples m h.entries l dc dv db df dn (as_blocks h) files in
      let cap : capacity l ≡ room_in o = ap (λ (b : List ℕ). capacity (lent_samples o.constellations o.svids b (floats o.times) (floats o.corrections))) wide_is ∙ capacity-widened o.samples o.constellations o.svids o.bands wide (floats o.times) (floats o.corrections) w.fits as_long in
      record {
        in_order = sorted_rises (samples_in o) ∙ sorted_of (samples_in o) sound;
        within = subst (λ (k : ℕ). o.samples ≤ k) cap (files-fit o.samples m h.entries l dc dv db df dn (as_blocks h) files);
        holds = ap (λ (n : ℕ). directory_in h.entries n (as_blocks h)) samples-are ∙ hold ∙ ap directory_of table_same;
        entries-are = files-count o.samples m h.entries l dc dv db df dn (as_blocks h) files ∙ ap (λ (t : List Sample). length (entries_from 0 t)) table_same ∙ sym (same_entries (samples_in o));
        samples-are = samples-are;
        same-times = same-times;
        same-corrections = same-corrections;
        same-capacity = same-room;
      }

  -- then queries and epochs get the numbers and metres that the old table gives, and the directory stays that of the old table
  module _ (h' : Caller) (ss : List Step) (ts : List Told) (run : BlockRun h ss ts h') (table : Typed (flat_columns o)) (typed : Typed (step_columns ss)) where
    pub widened-told : ts ≡ flat_tells o ss
    widened-told = same-told o h h' ss ts run forms table typed

    pub widened-left : BothForms (flat_end o ss) h'
    widened-left = same_left o h h' ss ts run forms table typed

-- ---- the old table's bands stay of 8 bits, where the epochs' are
abbrev byte : Sample → Bool
byte s = ltb s.band (2 ^ 8)

beside-bytes : (n : ℕ) (cs vs bs : List ℕ) (ts xs : List Float) → InBytes bs → every byte (take n (beside cs vs bs ts xs)) ≡ true
unfolding beside every
beside-bytes zero cs vs bs ts xs k = refl
beside-bytes (suc n) [] vs bs ts xs k = refl
beside-bytes (suc n) (c ∷ cs) [] bs ts xs k = refl
beside-bytes (suc n) (c ∷ cs) (v ∷ vs) [] ts xs k = refl
beside-bytes (suc n) (c ∷ cs) (v ∷ vs) (b ∷ bs) [] xs k = refl
beside-bytes (suc n) (c ∷ cs) (v ∷ vs) (b ∷ bs) (t ∷ ts) [] k = refl
beside-bytes (suc n) (c ∷ cs) (v ∷ vs) (b ∷ bs) (t ∷ ts) (x ∷ xs) k = rw (lt-ltb b (2 ^ 8) (k 0)) (beside-bytes n cs vs bs ts xs (λ i. k (suc i)))

table-bytes : (o : Table) → InBytes o.bands → every byte (samples_in o) ≡ true
unfolding rows
table-bytes o k = beside-bytes o.samples o.constellations o.svids o.bands (floats o.times) (floats o.corrections) k

rest_of : (column : List ℕ) → InBytes column → InBytes (drop 1 column)
rest_of [] k i = k (suc i)
rest_of (c ∷ cs) k i = k (suc i)

drop-one : (n : ℕ) (column : List ℕ) → drop (suc n) column ≡ drop n (drop 1 column)
drop-one zero [] = refl
drop-one (suc n) [] = refl
drop-one n (c ∷ cs) = refl

column-bytes : (t : List Sample) (column : List ℕ) → every byte t ≡ true → InBytes column → InBytes (column_of (λ (s : Sample). s.band) t column)
unfolding every
column-bytes [] column e k i = k i
column-bytes (s ∷ t) column e k zero = ltb-true s.band (2 ^ 8) (and_left (byte s) _ e)
column-bytes (s ∷ t) column e k (suc i) =
    subst (λ (l : List ℕ). get_or (map (λ (x : Sample). x.band) t ++ l) i 0 < 2 ^ 8) (sym (drop-one (length t) column)) (column-bytes t (drop 1 column) (and_right (byte s) _ e) (rest_of column k) i)

-- an epoch is refused, or the table has its samples
flat-cases : (o : Table) (e : Epoch) {A : Type 0} → (flat_addition o e ≡ added (insert_all (samples_in o) (new_samples e)) → A) → ((r : Refusal) → flat_addition o e ≡ refused r → A) → A
unfolding flat_addition added_of ruled
flat-cases o e {A} good bad = go (short_of e) (too_many o.samples (room_in o) (base_epoch e) (states_beside e)) (settings_in_range e.settings) (records_in_range (base_epoch e) (states_beside e) e.base e.rover && sound_table (samples_in o)) (ltb (room_in o) (o.samples + length (new_samples e))) good bad
  where
    go : (a b c d f : Bool)
        → (cond a (refused TooMany) (cond b (refused TooMany) (cond (not c) (refused SettingOutOfRange) (cond (not d) (refused RecordOutOfRange) (cond f (refused TableFull) (added (insert_all (samples_in o) (new_samples e))))))) ≡ added (insert_all (samples_in o) (new_samples e)) → A)
        → ((r : Refusal) → cond a (refused TooMany) (cond b (refused TooMany) (cond (not c) (refused SettingOutOfRange) (cond (not d) (refused RecordOutOfRange) (cond f (refused TableFull) (added (insert_all (samples_in o) (new_samples e))))))) ≡ refused r → A)
        → A
    go true b c d f g k = k TooMany refl
    go false true c d f g k = k TooMany refl
    go false false false d f g k = k SettingOutOfRange refl
    go false false true false f g k = k RecordOutOfRange refl
    go false false true true true g k = k TableFull refl
    go false false true true false g k = g refl

left-bytes : (o : Table) (e : Epoch) → InBytes o.bands → InBytes e.range-bands → InBytes (table_after (flat_addition o e) o).bands
left-bytes o e k b =
    flat-cases o e
    (λ (q : flat_addition o e ≡ added (insert_all (samples_in o) (new_samples e))).
    subst (λ (x : AddOutcome). InBytes (table_after x o).bands) (sym q)
    (column-bytes (insert_all (samples_in o) (new_samples e)) o.bands
    (insert_all-pass byte (samples_in o) (new_samples e) (new-pass (λ v c. ltb c (2 ^ 8)) e (λ i. lt-ltb (get_or e.range-bands i 0) (2 ^ 8) (b i))) (table-bytes o k)) k))
    (λ (r : Refusal) (q : flat_addition o e ≡ refused r). subst (λ (x : AddOutcome). InBytes (table_after x o).bands) (sym q) k)

-- for every list of queries and epochs
pub bytes-stay : (o : Table) (ss : List Step) → InBytes o.bands → ByteSteps ss → InBytes (flat_end o ss).bands
unfolding fold
bytes-stay o [] k w = k
bytes-stay o (ask q metres ∷ ss) k w = bytes-stay o ss k w
bytes-stay o (enter e ∷ ss) k w = bytes-stay (table_after (flat_addition o e) o) ss (left-bytes o e k w.0) w.1
