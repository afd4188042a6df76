-- Request (ix): for every list of queries and added epochs both forms of a table tell the same and stay the same. Assumes nothing.
use Rattle.numeric.specs.Refusal.{answer_number}
use Rattle.std.specs.Prelude.{Option, Result}
use Rattle.numeric.specs.declared.refusal.Refusal.{Refusal}
use mathlib.Core.Path.{◌≡◌, refl, sym, ap, subst, ◌∙◌}
use mathlib.Core.List.{List, [], ◌∷◌, ◌++◌, map}
use mathlib.Core.Bool.{Bool, true, false, cond}
use Prim.Native.Nat.{ℕ, min, ◌+◌, ◌≤◌}
use native.Mathlib.Nat.{le_of_eq}
use native.Mathlib.Omega.{arith}
use borrow.Author.Tests.{le-ltb}
use lib.ListN.{length, take, drop, length-map}
use lib.Seq.{length-take-le}
use lib.Ieee.{Float}
use Rattle.lists.specs.Walk.{every, fold}
use Rattle.numeric.specs.Order.{pattern_of}
use Rattle.numeric.specs.declared.vec3.Vec3.{Vec3}
use Rattle.numeric.specs.declared.refusal.Refusal.TheVariants.{TooMany}
use Rattle.corrections_table.specs.Table.{beside, rows, sorted}
use Rattle.corrections_table.specs.Add.{AddOutcome, added, insert_all, refused}
use Rattle.corrections_table.specs.declared.sample.Sample.{Sample}
use Rattle.corrections_table.proofs.ColumnLaws.{rows-length}
use Rattle.corrections_table.proofs.InsertLaws.{insert_all-length}
use Rattle.corrections_table.proofs.Places.{sorted_rises}
use Rattle.corrections_table.proofs.SeriesLaws.{insert_all-rises}
use Rattle.corrections_directory.specs.Directory.{Blocks, column_of, Directory, directory_of, entries_from, flat, floats, Reading, reading_of}
use Rattle.corrections_directory.proofs.DirectoryLaws.{flat-directory}
use Rattle.corrections_directory.proofs.NarrowLaws.{narrow}
use Rattle.corrections_add.specs.Add as Add
use Rattle.corrections_add.specs.Add.{Placed, added_in, directory_with, flat_outcome, refused_in}
use Rattle.corrections_query.specs.Query.{pattern_after, query_in, query_of}
use Rattle.corrections_query.proofs.FormLaws.{query_same}
use Rattle.corrections_epoch.specs.AddEpoch.{added_of, epoch_placed}
use Rattle.corrections_epoch.specs.declared.record.BaseEpoch.{BaseEpoch}
use Rattle.corrections_epoch.specs.declared.record.Settings.{Settings}
use Rattle.corrections_epoch.specs.declared.record.States.{States}
use Rattle.corrections_epoch.proofs.SameLaws.{epoch-same}
use Rattle.corrections_epoch_columns.specs.Epoch.{entry_in}
use Rattle.corrections_laws.specs.Typed.{Typed}
use Rattle.corrections_laws.specs.Calls.{AddsEpoch, Caller, Epoch, Query, adding_of, query_on, base_epoch, directory, held_samples, new_samples, room, short_of, states_beside}
use Rattle.corrections_laws.specs.Flat.{BothForms, Step, Table, Told, answered, five_columns, flat_addition, flat_answer, flat_end, flat_number, flat_tells, numbered, room_in, samples_in, table_after, table_with, BlockRun, asked, done, entered, flat_columns, step_columns}
use Rattle.corrections_directory.proofs.PatternLaws.{floats-length, map_of}
use Rattle.corrections_laws.proofs.ColumnLaws.{column-length, table-narrow}
use Rattle.corrections_laws.proofs.NarrowLaws.{insert_all-pass, new-narrow}
use Rattle.corrections_laws.proofs.StepLaws.{Added, add-accepted, add-refused, passed, zero_or}

-- ---- one query
pub same_entries : (t : List Sample) → length (directory_of t).entries ≡ length (entries_from 0 t)
unfolding directory_of
same_entries t = refl

answers-same : (t : List Sample) (n m k k' : ℕ) (d : Directory) (q : Query) → every narrow t ≡ true → sorted t ≡ true → length t ≤ n → d ≡ directory_of t → m ≡ length (directory_of t).entries → k ≡ k'
    → query_in m n k d q.gap q.constellation q.svid q.band q.time ≡ query_of n k' t q.gap q.constellation q.svid q.band q.time
answers-same t n m k k' d q w s l e f g = rw (e, f, g, same_entries t) (query_same t w s n k' l q.gap q.constellation q.svid q.band q.time)

-- ---- one epoch
outcomes_same : (t : List Sample) (n m k k' : ℕ) (d : Directory) (e : BaseEpoch) (s : Option States) (base rover : Vec3) (set : Settings) → every narrow t ≡ true → sorted t ≡ true → length t ≤ n → d ≡ directory_of t → m ≡ length (directory_of t).entries → k ≡ k'
    → flat_outcome (epoch_placed m n k d e s base rover set) ≡ added_of n k' t e s base rover set
outcomes_same t n m k k' d e s base rover set w r l f g i = rw (f, g, i) (epoch-same t n k' e s base rover set w r l)

-- a table in both forms, of typed columns
record Both (o : Table) (h : Caller) : Type 0 where
  forms : BothForms o h
  narrowed : every narrow (samples_in o) ≡ true

module _ (o : Table) (h : Caller) (b : Both o h) where
  count : length (samples_in o) ≤ o.samples
  count = le_of_eq (length-take-le o.samples (rows (five_columns o)) (omega (arith, b.forms.within)))

  many : length (samples_in o) ≡ o.samples
  many = length-take-le o.samples (rows (five_columns o)) (omega (arith, b.forms.within))

  query_both : (q : Query) → query_on h q ≡ flat_answer o q
  query_both q =
      ap (λ (n : ℕ). query_in h.entries n (room h) (directory h) q.gap q.constellation q.svid q.band q.time) b.forms.samples-are
      ∙ answers-same (samples_in o) o.samples h.entries (room h) (room_in o) (directory h) q b.narrowed b.forms.in_order count b.forms.holds b.forms.entries-are b.forms.same-capacity

  epoch-both : (e : Epoch) → flat_outcome (adding_of h e) ≡ flat_addition o e
  unfolding entry_in flat_addition
  epoch-both e = go (short_of e)
    where
      inside : flat_outcome (epoch_placed h.entries h.samples (room h) (directory h) (base_epoch e) (states_beside e) e.base e.rover e.settings) ≡ added_of o.samples (room_in o) (samples_in o) (base_epoch e) (states_beside e) e.base e.rover e.settings
      inside =
          ap (λ (n : ℕ). flat_outcome (epoch_placed h.entries n (room h) (directory h) (base_epoch e) (states_beside e) e.base e.rover e.settings)) b.forms.samples-are
          ∙ outcomes_same (samples_in o) o.samples h.entries (room h) (room_in o) (directory h) (base_epoch e) (states_beside e) e.base e.rover e.settings b.narrowed b.forms.in_order count b.forms.holds b.forms.entries-are b.forms.same-capacity

      go : (x : Bool) → flat_outcome (cond x (refused_in TooMany) (epoch_placed h.entries h.samples (room h) (directory h) (base_epoch e) (states_beside e) e.base e.rover e.settings))
          ≡ cond x (refused TooMany) (added_of o.samples (room_in o) (samples_in o) (base_epoch e) (states_beside e) e.base e.rover e.settings)
      go true = refl
      go false = inside

  held_both : held_samples h ≡ samples_in o
  held_both = ap flat b.forms.holds ∙ flat-directory (samples_in o)

flat-number : (p : Placed) → answer_number (Add.addition_of p) ≡ flat_number (flat_outcome p)
flat-number (refused_in r) = refl
flat-number (added_in d) = refl

flat-kept : (p : Placed) (o : Table) → (answer_number (Add.addition_of p) ≡ 0 → ⊥) → table_after (flat_outcome p) o ≡ o
flat-kept (refused_in r) o n = refl
flat-kept (added_in d) o n = absurd (n refl)

-- ---- columns with samples at their front
table-written : (t : List Sample) (cs vs bs : List ℕ) (us ys : List Float)
    → take (length t) (beside (map (λ (s : Sample). s.constellation) t ++ cs) (map (λ (s : Sample). s.svid) t ++ vs) (map (λ (s : Sample). s.band) t ++ bs) (map (λ (s : Sample). s.time) t ++ us) (map (λ (s : Sample). s.correction) t ++ ys)) ≡ t
unfolding beside
table-written [] cs vs bs us ys = refl
table-written (s ∷ t) cs vs bs us ys = ap (λ (l : List Sample). s ∷ l) (table-written t cs vs bs us ys)

-- the two columns of floats are read back
record Read (t : List Sample) (o : Table) : Type 0 where
  times : floats (table_with t o).times ≡ column_of (λ (s : Sample). s.time) t (floats o.times)
  corrections : floats (table_with t o).corrections ≡ column_of (λ (s : Sample). s.correction) t (floats o.corrections)

samples-written : (t : List Sample) (o : Table) → Read t o → samples_in (table_with t o) ≡ t
unfolding rows
samples-written t o r =
    rw (r.times, r.corrections)
    (table-written t (drop (length t) o.constellations) (drop (length t) o.svids) (drop (length t) o.bands) (drop (length t) (floats o.times)) (drop (length t) (floats o.corrections)))

record Within (k a b c d e : ℕ) : Type 0 where
  in-a : k ≤ a
  in_b : k ≤ b
  in_c : k ≤ c
  in-d : k ≤ d
  in_e : k ≤ e

within-five : (k a b c d e : ℕ) → k ≤ min a (min b (min c (min d e))) → Within k a b c d e
within-five k a b c d e h = record { in-a = omega arith; in_b = omega arith; in_c = omega arith; in-d = omega arith; in_e = omega arith }

within-rows : (k r : ℕ) → k ≤ min 2048 r → k ≤ r
within-rows k r h = omega arith

capacity-written : (t : List Sample) (o : Table) → length t ≤ room_in o → room_in (table_with t o) ≡ room_in o
capacity-written t o h = ap (min 2048) (rows-length (five_columns (table_with t o)) ∙ columns-are ∙ sym (rows-length (five_columns o)))
  where
    w : Within (length t) (length o.constellations) (length o.svids) (length o.bands) (length (floats o.times)) (length (floats o.corrections))
    w =
        within-five (length t) (length o.constellations) (length o.svids) (length o.bands) (length (floats o.times)) (length (floats o.corrections))
        (subst (λ (k : ℕ). length t ≤ k) (rows-length (five_columns o)) (within-rows (length t) (length (rows (five_columns o))) h))

    long : (f : Sample → ℕ) (column : List ℕ) → length t ≤ length (floats column) → length (floats (column_of f t column)) ≡ length (floats column)
    long f column k = floats-length (column_of f t column) ∙ column-length f t column (subst (λ (i : ℕ). length t ≤ i) (floats-length column) k) ∙ sym (floats-length column)

    columns-are : min (length (table_with t o).constellations) (min (length (table_with t o).svids) (min (length (table_with t o).bands) (min (length (floats (table_with t o).times)) (length (floats (table_with t o).corrections)))))
        ≡ min (length o.constellations) (min (length o.svids) (min (length o.bands) (min (length (floats o.times)) (length (floats o.corrections)))))
    columns-are =
        rw (
          column-length (λ (s : Sample). s.constellation) t o.constellations w.in-a,
          column-length (λ (s : Sample). s.svid) t o.svids w.in_b,
          column-length (λ (s : Sample). s.band) t o.bands w.in_c,
          long (λ (s : Sample). pattern_of s.time) o.times w.in-d,
          long (λ (s : Sample). pattern_of s.correction) o.corrections w.in_e,
        )

-- a column written with the readings of samples is written with the samples
column-readings : {A : Type 0} (f : Reading → A) (t : List Sample) (column : List A) → column_of f (directory_of t).readings column ≡ column_of (λ (s : Sample). f (reading_of s)) t column
unfolding directory_of
column-readings f t column = rw (← map_of f reading_of t, length-map t reading_of)

-- ---- an accepted epoch
module _ (o : Table) (h : Caller) (b : Both o h) (e : Epoch) (h' : Caller) (a : Added h e h') (new : every narrow (new_samples e) ≡ true) where
  abbrev t' : List Sample
  t' = insert_all (samples_in o) (new_samples e)

  left_is : insert_all (held_samples h) (new_samples e) ≡ t'
  left_is = ap (λ (t : List Sample). insert_all t (new_samples e)) (held_both o h b)

  flat-added : flat_addition o e ≡ added t'
  flat-added =
      sym (epoch-both o h b e)
      ∙ ap flat_outcome {y = added_in (directory_with (directory h) (new_samples e))} (passed h e a.passes ∙ rw (le-ltb (room h) (h.samples + length (new_samples e)) a.fit))
      ∙ ap added (flat-directory (insert_all (held_samples h) (new_samples e)) ∙ left_is)

  times-are : h'.times ≡ (table_with t' o).times
  times-are =
      a.patterns.times
      ∙ ap (λ (t : List Sample). column_of (λ (r : Reading). pattern_of r.time) (directory_of t).readings h.times) left_is
      ∙ column-readings (λ (r : Reading). pattern_of r.time) t' h.times
      ∙ ap (column_of (λ (s : Sample). pattern_of s.time) t') b.forms.same-times

  corrections-are : h'.corrections ≡ (table_with t' o).corrections
  corrections-are =
      a.patterns.corrections
      ∙ ap (λ (t : List Sample). column_of (λ (r : Reading). pattern_of r.correction) (directory_of t).readings h.corrections) left_is
      ∙ column-readings (λ (r : Reading). pattern_of r.correction) t' h.corrections
      ∙ ap (column_of (λ (s : Sample). pattern_of s.correction) t') b.forms.same-corrections

  read : Read t' o
  read =
      record {
        times =
            ap floats (sym times-are)
            ∙ ap (λ (l : Blocks). l.times) a.columns-are
            ∙ ap (λ (t : List Sample). column_of (λ (r : Reading). r.time) (directory_of t).readings (floats h.times)) left_is
            ∙ column-readings (λ (r : Reading). r.time) t' (floats h.times)
            ∙ ap (λ (l : List ℕ). column_of (λ (s : Sample). s.time) t' (floats l)) b.forms.same-times;
        corrections =
            ap floats (sym corrections-are)
            ∙ ap (λ (l : Blocks). l.corrections) a.columns-are
            ∙ ap (λ (t : List Sample). column_of (λ (r : Reading). r.correction) (directory_of t).readings (floats h.corrections)) left_is
            ∙ column-readings (λ (r : Reading). r.correction) t' (floats h.corrections)
            ∙ ap (λ (l : List ℕ). column_of (λ (s : Sample). s.correction) t' (floats l)) b.forms.same-corrections;
      }

  long : length t' ≡ h.samples + length (new_samples e)
  long = insert_all-length (samples_in o) (new_samples e) ∙ ap (λ (k : ℕ). k + length (new_samples e)) (many o h b ∙ sym b.forms.samples-are)

  both-added : Both (table_with t' o) h'
  both-added =
      let w = samples-written t' o read in
      let fits : length t' ≤ room_in o = omega (arith, a.fit, long, b.forms.same-capacity) in
      let cap = capacity-written t' o fits in
      record {
        forms = record {
          in_order = ap sorted w ∙ sorted_rises t' ∙ insert_all-rises (samples_in o) (new_samples e) (sym (sorted_rises (samples_in o)) ∙ b.forms.in_order);
          within = omega (arith, fits, cap);
          holds = a.now-is ∙ ap directory_of (left_is ∙ sym w);
          entries-are = a.entries ∙ ap (λ (t : List Sample). length (directory_of t).entries) (left_is ∙ sym w);
          samples-are = a.count ∙ sym long;
          same-times = times-are;
          same-corrections = corrections-are;
          same-capacity = a.same-room ∙ b.forms.same-capacity ∙ sym cap;
        };
        narrowed = ap (every narrow) w ∙ insert_all-pass narrow (samples_in o) (new_samples e) new b.narrowed;
      }

-- ---- the whole list
steps : (o : Table) {h h' : Caller} {ss : List Step} {ts : List Told} → BlockRun h ss ts h' → Both o h → Typed (step_columns ss) → (ts ≡ flat_tells o ss) × Both (flat_end o ss) h'
unfolding flat_tells fold
steps o done b w = (refl, b)
steps o (asked {h = h} {h' = h'} {q = q} {metres = metres} {number = number} {metres' = metres'} {ss = ss} {ts = ts} a r) b w =
    let e = query_both o h b q in
    let goes = steps o r b w in
    (told (a.number_is ∙ ap answer_number e) (a.metres_are ∙ ap (λ (c : Result Float Refusal). pattern_after c metres) e) goes.0, goes.1)
  where
    told : {i j x y : ℕ} {l m : List Told} → i ≡ j → x ≡ y → l ≡ m → answered i x ∷ l ≡ answered j y ∷ m
    told p q r = rw (p, q, r)
steps o (entered {h = h} {h' = h'} {h'' = h''} {e = e} {number = number} {ss = ss} {ts = ts} a r) b w =
    let k : number ≡ flat_number (flat_addition o e) = a.places.number_is ∙ flat-number (adding_of h e) ∙ ap flat_number (epoch-both o h b e) in
    let next : Both (table_after (flat_addition o e) o) h' =
    zero_or number
    (λ (z : number ≡ 0).
    let s = add-accepted h e h' (subst (λ (i : ℕ). AddsEpoch h e i h') z a) in
    subst (λ (x : AddOutcome). Both (table_after x o) h') (sym (flat-added o h b e h' s (new-narrow e (w.0, (w.1.0, tt))))) (both-added o h b e h' s (new-narrow e (w.0, (w.1.0, tt)))))
    (λ (n : number ≡ 0 → ⊥).
    subst (λ (x : Table). Both x h') (sym (ap (λ (x : AddOutcome). table_after x o) (sym (epoch-both o h b e)) ∙ flat-kept (adding_of h e) o (λ z. n (a.places.number_is ∙ z))))
    (subst (λ (x : Caller). Both o x) (sym (add-refused h e number h' a n)) b)) in
    let goes = steps (table_after (flat_addition o e) o) r next w.1.1 in
    (told k goes.0, goes.1)
  where
    told : {i j : ℕ} {l m : List Told} → i ≡ j → l ≡ m → numbered i ∷ l ≡ numbered j ∷ m
    told p r = rw (p, r)

-- For every sorted table of typed columns in both forms and every list of queries and added epochs:
module _ (o : Table) (h h' : Caller) (ss : List Step) (ts : List Told) where
  start : BothForms o h → Typed (flat_columns o) → Both o h
  start forms table = record { forms = forms; narrowed = table-narrow o.samples (five_columns o) table.0 table.1.0 }

  -- both forms give the same numbers and metres at every step
  pub same-told : BlockRun h ss ts h' → BothForms o h → Typed (flat_columns o) → Typed (step_columns ss) → ts ≡ flat_tells o ss
  same-told run forms table typed = (steps o run (start forms table) typed).0

  -- and afterwards the second still holds the directory of the first, with times and corrections equal to the columns' ends
  pub same_left : BlockRun h ss ts h' → BothForms o h → Typed (flat_columns o) → Typed (step_columns ss) → BothForms (flat_end o ss) h'
  same_left run forms table typed = (steps o run (start forms table) typed).1.forms
