-- Request (x): the same calls without the drops, where the capacity holds all that was added. Assumes nothing.
use Rattle.numeric.specs.Refusal.{answer_number}
use Rattle.std.specs.Prelude.{Result}
use Rattle.numeric.specs.declared.refusal.Refusal.{Refusal}
use mathlib.Core.Path.{◌≡◌, refl, sym, ap, subst, ◌∙◌}
use mathlib.Core.List.{List, [], ◌∷◌}
use mathlib.Core.Bool.{Bool, true, false, cond, ◌||◌}
use Prim.Native.Nat.{ℕ, ◌+◌, ◌≤◌}
use native.Mathlib.Nat.{le_trans}
use native.Mathlib.Omega.{arith}
use lib.Dec.{eqb, ltb}
use borrow.Author.Tests.{eq-eqb, ne_eqb, ltb-true, ltb-false, lt-ltb, le-ltb}
use lib.ListN.{length}
use lib.Seq.{length-take-le}
use lib.Ieee.{Float}
use Rattle.lists.specs.Walk.{every, fold}
use Rattle.corrections_table.specs.Table.{sound_table}
use Rattle.corrections_table.specs.Add.{insert_all}
use Rattle.corrections_table.specs.declared.sample.Sample.{Sample}
use Rattle.corrections_table.proofs.InsertLaws.{insert_all-length}
use Rattle.corrections_table.proofs.Places.{sorted_rises}
use Rattle.corrections_directory.specs.Directory.{directory_of, readings_in, sound_directory}
use Rattle.corrections_directory.proofs.DirectoryLaws.{sound-flat}
use Rattle.corrections_directory.proofs.NarrowLaws.{narrow, sound-directory}
use Rattle.corrections_directory.proofs.ColumnLaws.{flat-length}
use Rattle.corrections_query.specs.Query.{guarded, pattern_after, query_in}
use Rattle.corrections_forget.specs.History.{Event, add, allowed, drop, happen, history, undropped}
use Rattle.corrections_forget.proofs.HistoryLaws.{history-law, sorted_of}
use Rattle.corrections_forget.proofs.ForgetLaws.{forget-every}
use Rattle.corrections_epoch.specs.AddEpoch.{records_in_range, settings_in_range}
use Rattle.corrections_laws.specs.Typed.{Typed}
use Rattle.corrections_laws.specs.Calls.{AddsEpoch, Asks, Call, Caller, Does, Drops, Epoch, Query, CallRun, accepted_calls, adding, answer_by, query_on, base_epoch, as_blocks, call_columns, directory, done, dropping, epoch_numbers, epochs_of, held_samples, new_samples, next, room, short_of, states_beside, table_columns}
use Rattle.corrections_laws.proofs.StepLaws.{Added, Dropped, add-accepted, add-refused, drop-accepted, drop-refused, number_by_lem, same_number, zero_or}
use Rattle.corrections_laws.proofs.NarrowLaws.{flat-narrow, insert_all-pass, new-narrow}
use Rattle.corrections_laws.proofs.RunLaws.{none-accepted, run-held}

-- ---- two tables of one caller: h with drops, g without
record Beside (h g : Caller) : Type 0 where
  same-room : room g ≡ room h
  fewer : h.samples ≤ g.samples
  entries-same : ltb (room g) g.entries ≡ ltb (room h) h.entries
  samples-same : ltb (room g) g.samples ≡ ltb (room h) h.samples
  sound-same : sound_directory (directory g) ≡ sound_directory (directory h)
  narrow-h : every narrow (held_samples h) ≡ true
  narrow-g : every narrow (held_samples g) ≡ true

-- ---- one table after an accepted call

-- the directory of samples in order, in range and of typed columns is sound
sound-of : (h : Caller) (t : List Sample) → directory h ≡ directory_of t → every narrow t ≡ true → sound_table t ≡ true → sound_directory (directory h) ≡ true
sound-of h t e w s = ap sound_directory e ∙ sound-directory t w (sorted_of t s) ∙ s

added-sound : (h : Caller) (e : Epoch) (h' : Caller) → Added h e h' → every narrow (held_samples h') ≡ true → sound_directory (directory h') ≡ true
added-sound h e h' a w = sound-of h' (held_samples h') (a.now-is ∙ ap directory_of (sym a.now-held)) w a.sound

dropped-sound : (h : Caller) (time : Float) (h' : Caller) → Dropped h time h' → every narrow (held_samples h') ≡ true → sound_directory (directory h') ≡ true
dropped-sound h time h' a w = sound-of h' (held_samples h') (a.now-is ∙ ap directory_of (sym a.now-held)) w a.still-sound

both : {x y : Bool} → x ≡ true → y ≡ true → x ≡ y
both p q = p ∙ sym q

neither : {x y : Bool} → x ≡ false → y ≡ false → x ≡ y
neither p q = p ∙ sym q

added-beside : (h g : Caller) (e : Epoch) (h' g' : Caller) → every narrow (new_samples e) ≡ true → Beside h g → Added h e h' → Added g e g' → Beside h' g'
added-beside h g e h' g' w b a c =
    let wh : every narrow (held_samples h') ≡ true = rw a.now-held (insert_all-pass narrow (held_samples h) (new_samples e) w b.narrow-h) in
    let wg : every narrow (held_samples g') ≡ true = rw c.now-held (insert_all-pass narrow (held_samples g) (new_samples e) w b.narrow-g) in
    record {
      same-room = c.same-room ∙ b.same-room ∙ sym a.same-room;
      fewer = omega (arith, a.count, c.count, b.fewer);
      entries-same = neither (le-ltb (room g') g'.entries (omega (arith, c.few, c.count, c.fit, c.same-room))) (le-ltb (room h') h'.entries (omega (arith, a.few, a.count, a.fit, a.same-room)));
      samples-same = neither (le-ltb (room g') g'.samples (omega (arith, c.count, c.fit, c.same-room))) (le-ltb (room h') h'.samples (omega (arith, a.count, a.fit, a.same-room)));
      sound-same = both (added-sound g e g' c wg) (added-sound h e h' a wh);
      narrow-h = wh;
      narrow-g = wg;
    }

dropped-beside : (h g : Caller) (time : Float) (h' : Caller) → Beside h g → Dropped h time h' → Beside h' g
dropped-beside h g time h' b a =
    let wh : every narrow (held_samples h') ≡ true = rw a.now-held (forget-every narrow time (held_samples h) b.narrow-h) in
    record {
      same-room = b.same-room ∙ sym a.same-room;
      fewer = omega (arith, a.count, b.fewer);
      entries-same = b.entries-same ∙ le-ltb (room h) h.entries a.few-entries ∙ sym (le-ltb (room h') h'.entries (omega (arith, a.entries, a.few-entries, a.same-room)));
      samples-same = b.samples-same ∙ le-ltb (room h) h.samples a.few-samples ∙ sym (le-ltb (room h') h'.samples (omega (arith, a.count, a.few-samples, a.same-room)));
      sound-same = b.sound-same ∙ a.sound ∙ sym (dropped-sound h time h' a wh);
      narrow-h = wh;
      narrow-g = b.narrow-g;
    }

-- ---- runs, taken apart
pub record Split (h : Caller) (c : Call) (cs : List Call) (ks : List ℕ) (h' : Caller) : Type 0 where
  pub number : ℕ
  pub others : List ℕ
  pub mid : Caller
  pub does : Does h c number mid
  pub rest : CallRun mid cs others h'
  pub numbers : ks ≡ number ∷ others

pub run-split : {h h' : Caller} {c : Call} {cs : List Call} {ks : List ℕ} → CallRun h (c ∷ cs) ks h' → Split h c cs ks h'
run-split (next {h} {h'} {h''} {c} {cs} {k} {ks} d r) = record { number = k; others = ks; mid = h'; does = d; rest = r; numbers = refl }

pub run_none : {h h' : Caller} {ks : List ℕ} → CallRun h [] ks h' → (ks ≡ []) × (h' ≡ h)
run_none done = (refl, refl)

-- ---- additions only make a table longer
longer : (t : List Sample) (es : List Event) → length t ≤ length (history t (undropped es))
unfolding fold undropped happen
longer t [] = omega arith
longer t (add ss ∷ es) = omega (arith, longer (insert_all t ss) es, insert_all-length t ss)
longer t (drop time ∷ es) = longer t es

epoch-more : (e : Epoch) (cs : List Call) (k : ℕ) (ks : List ℕ) (t : List Sample) → k ≡ 0 → history t (undropped (accepted_calls (adding e ∷ cs) (k ∷ ks))) ≡ history (insert_all t (new_samples e)) (undropped (accepted_calls cs ks))
unfolding accepted_calls undropped fold happen
epoch-more e cs k ks t z = rw (eq-eqb k 0 z)

epoch-less : (c : Call) (cs : List Call) (k : ℕ) (ks : List ℕ) (t : List Sample) → (k ≡ 0 → ⊥) → history t (undropped (accepted_calls (c ∷ cs) (k ∷ ks))) ≡ history t (undropped (accepted_calls cs ks))
unfolding accepted_calls
epoch-less c cs k ks t n = rw (ne_eqb k 0 n)

drop-less : (time : Float) (cs : List Call) (k : ℕ) (ks : List ℕ) (t : List Sample) → history t (undropped (accepted_calls (dropping time ∷ cs) (k ∷ ks))) ≡ history t (undropped (accepted_calls cs ks))
unfolding accepted_calls undropped
drop-less time cs k ks t = go (eqb k 0)
  where
    go : (x : Bool) → history t (undropped (cond x (drop time ∷ accepted_calls cs ks) (accepted_calls cs ks))) ≡ history t (undropped (accepted_calls cs ks))
    go true = refl
    go false = refl

-- ---- one epoch on both tables
module _ (h g : Caller) (b : Beside h g) (e : Epoch) (k : ℕ) (h' : Caller) (a : AddsEpoch h e k h') where
  -- what the first takes does not overfill the second, where that has room for it
  roomy : k ≡ 0 → length (insert_all (held_samples g) (new_samples e)) ≤ room g → ltb (room g) (g.samples + length (new_samples e)) ≡ false
  roomy z l =
      let s = add-accepted h e h' (subst (λ (i : ℕ). AddsEpoch h e i h') z a) in
      let few : g.samples ≤ room g = ltb-false (room g) g.samples (b.samples-same ∙ le-ltb (room h) h.samples s.passes.few-samples) in
      let many : length (held_samples g) ≡ g.samples = flat-length (directory g) (b.sound-same ∙ s.passes.sound) ∙ length-take-le g.samples (readings_in (as_blocks g)) (omega arith) in
      le-ltb (room g) (g.samples + length (new_samples e)) (omega (arith, insert_all-length (held_samples g) (new_samples e)))

  overfilled : ltb (room h) (h.samples + length (new_samples e)) ≡ true → ltb (room g) (g.samples + length (new_samples e)) ≡ true
  overfilled x = lt-ltb (room g) (g.samples + length (new_samples e)) (omega (arith, ltb-true (room h) (h.samples + length (new_samples e)) x, b.same-room, b.fewer))

  one_number : (j : ℕ) (g' : Caller) → AddsEpoch g e j g' → (k ≡ 0 → length (insert_all (held_samples g) (new_samples e)) ≤ room g) → j ≡ k
  one_number j g' c fit =
      number_by_lem g e j g' c
      ∙ rw (b.entries-same, b.samples-same, b.sound-same)
      (same_number (short_of e) (ltb (room h) h.entries) (ltb (room h) h.samples) (ltb 64 e.ranges) (ltb 64 (cond e.present e.states 0)) (settings_in_range e.settings)
      (records_in_range (base_epoch e) (states_beside e) e.base e.rover) (sound_directory (directory h)) (ltb (room h) (h.samples + length (new_samples e))) (ltb (room g) (g.samples + length (new_samples e)))
      overfilled (λ z. let y : k ≡ 0 = number_by_lem h e k h' a ∙ z in roomy y (fit y)))
      ∙ sym (number_by_lem h e k h' a)

-- ---- the whole list
record SameNumbers (cs : List Call) (ks js : List ℕ) (h g : Caller) : Type 0 where
  numbers : js ≡ epoch_numbers cs ks
  beside : Beside h g

numbers-epoch : (e : Epoch) (cs : List Call) (k : ℕ) (ks : List ℕ) → epoch_numbers (adding e ∷ cs) (k ∷ ks) ≡ k ∷ epoch_numbers cs ks
unfolding epoch_numbers
numbers-epoch e cs k ks = refl

numbers-drop : (time : Float) (cs : List Call) (k : ℕ) (ks : List ℕ) → epoch_numbers (dropping time ∷ cs) (k ∷ ks) ≡ epoch_numbers cs ks
unfolding epoch_numbers
numbers-drop time cs k ks = refl

without : {h h' : Caller} {cs : List Call} {ks : List ℕ} → CallRun h cs ks h' → (g g' : Caller) (js : List ℕ) → CallRun g (epochs_of cs) js g' → Typed (call_columns cs) → Beside h g
    → length (history (held_samples g) (undropped (accepted_calls cs ks))) ≤ room g → SameNumbers cs ks js h' g'
unfolding epochs_of
without {h} done g g' js r w b l =
    let q = run_none r in
    record { numbers = unfold epoch_numbers in q.0; beside = subst (λ (x : Caller). Beside h x) (sym q.1) b }
without (next {h = h} {h' = h'} {h'' = h''} {c = adding e} {cs = cs} {k = k} {ks = ks} d r) g g' js s w b l =
    let p = run-split s in
    let fit : k ≡ 0 → length (insert_all (held_samples g) (new_samples e)) ≤ room g = λ (z : k ≡ 0). le_trans (longer (insert_all (held_samples g) (new_samples e)) (accepted_calls cs ks)) (subst (λ (t : List Sample). length t ≤ room g) (epoch-more e cs k ks (held_samples g) z) l) in
    let same : p.number ≡ k = one_number h g b e k h' d p.number p.mid p.does fit in
    let goes : SameNumbers cs ks p.others h'' g' =
    zero_or k
    (λ (z : k ≡ 0).
    let a = add-accepted h e h' (subst (λ (i : ℕ). AddsEpoch h e i h') z d) in
    let c = add-accepted g e p.mid (subst (λ (i : ℕ). AddsEpoch g e i p.mid) (same ∙ z) p.does) in
    let m : length (history (held_samples p.mid) (undropped (accepted_calls cs ks))) ≤ room p.mid =
    rw (c.same-room, c.now-held) (subst (λ (t : List Sample). length t ≤ room g) (epoch-more e cs k ks (held_samples g) z) l) in
    without r p.mid g' p.others p.rest w.1.1 (added-beside h g e h' p.mid (new-narrow e (w.0, (w.1.0, tt))) b a c) m)
    (λ (n : k ≡ 0 → ⊥).
    let eh : h' ≡ h = add-refused h e k h' d n in
    let eg : p.mid ≡ g = add-refused g e p.number p.mid p.does (λ z. n (sym same ∙ z)) in
    without r p.mid g' p.others p.rest w.1.1 (rw (eh, eg) b) (rw eg (subst (λ (t : List Sample). length t ≤ room g) (epoch-less (adding e) cs k ks (held_samples g) n) l))) in
    record { numbers = p.numbers ∙ ap (λ (i : ℕ). i ∷ p.others) same ∙ ap (λ (i : List ℕ). k ∷ i) goes.numbers ∙ sym (numbers-epoch e cs k ks); beside = goes.beside }
without (next {h = h} {h' = h'} {h'' = h''} {c = dropping time} {cs = cs} {k = k} {ks = ks} d r) g g' js s w b l =
    let m : length (history (held_samples g) (undropped (accepted_calls cs ks))) ≤ room g = subst (λ (t : List Sample). length t ≤ room g) (drop-less time cs k ks (held_samples g)) l in
    let goes : SameNumbers cs ks js h'' g' =
    zero_or k
    (λ (z : k ≡ 0). without r g g' js s w (dropped-beside h g time h' b (drop-accepted h time h' (subst (λ (i : ℕ). Drops h time i h') z d))) m)
    (λ (n : k ≡ 0 → ⊥). without r g g' js s w (rw (drop-refused h time k h' d n) b) m) in
    record { numbers = goes.numbers ∙ sym (numbers-drop time cs k ks); beside = goes.beside }

accepted-epochs : (cs : List Call) (ks : List ℕ) → accepted_calls (epochs_of cs) (epoch_numbers cs ks) ≡ undropped (accepted_calls cs ks)
unfolding accepted_calls epochs_of epoch_numbers undropped
accepted-epochs [] ks = refl
accepted-epochs (adding e ∷ cs) [] = refl
accepted-epochs (dropping time ∷ cs) [] = none (epochs_of cs)
  where
    none : (ds : List Call) → accepted_calls ds [] ≡ []
    none [] = refl
    none (d ∷ ds) = refl
accepted-epochs (adding e ∷ cs) (k ∷ ks) = go (eqb k 0) (accepted-epochs cs ks)
  where
    go : (x : Bool) → accepted_calls (epochs_of cs) (epoch_numbers cs ks) ≡ undropped (accepted_calls cs ks)
        → cond x (add (new_samples e) ∷ accepted_calls (epochs_of cs) (epoch_numbers cs ks)) (accepted_calls (epochs_of cs) (epoch_numbers cs ks)) ≡ undropped (cond x (add (new_samples e) ∷ accepted_calls cs ks) (accepted_calls cs ks))
    go true i = ap (λ (es : List Event). add (new_samples e) ∷ es) i
    go false i = i
accepted-epochs (dropping time ∷ cs) (k ∷ ks) = go (eqb k 0) (accepted-epochs cs ks)
  where
    go : (x : Bool) → accepted_calls (epochs_of cs) (epoch_numbers cs ks) ≡ undropped (accepted_calls cs ks) → accepted_calls (epochs_of cs) (epoch_numbers cs ks) ≡ undropped (cond x (drop time ∷ accepted_calls cs ks) (accepted_calls cs ks))
    go true i = i
    go false i = i

-- For every list of calls from any columns and counts, where the capacity holds the samples held at the start and all that accepted calls added:
module _ (h h' g' : Caller) (cs : List Call) (ks js : List ℕ) (run : CallRun h cs ks h') (bare : CallRun h (epochs_of cs) js g') where
  start : Typed (table_columns h) → Beside h h
  start table =
      let w = flat-narrow h.entries h.samples (as_blocks h) (table.0, (table.1.0, tt)) in
      record { same-room = refl; fewer = omega arith; entries-same = refl; samples-same = refl; sound-same = refl; narrow-h = w; narrow-g = w }

  every_call : Typed (table_columns h) → Typed (call_columns cs) → length (history (held_samples h) (undropped (accepted_calls cs ks))) ≤ room h → SameNumbers cs ks js h' g'
  every_call table calls fits = without run h g' js bare calls (start table) fits

  -- the calls without the drops give each epoch the number that it had among them
  pub same_numbers : Typed (table_columns h) → Typed (call_columns cs) → length (history (held_samples h) (undropped (accepted_calls cs ks))) ≤ room h → js ≡ epoch_numbers cs ks
  same_numbers table calls fits = (every_call table calls fits).numbers

  module _ (table : Typed (table_columns h)) (calls : Typed (call_columns cs)) (fits : length (history (held_samples h) (undropped (accepted_calls cs ks))) ≤ room h) where
    -- so they accept the same epochs
    pub same-accepted : accepted_calls (epochs_of cs) js ≡ undropped (accepted_calls cs ks)
    same-accepted = ap (accepted_calls (epochs_of cs)) (same_numbers table calls fits) ∙ accepted-epochs cs ks

    -- and a query not before any accepted drop, where no accepted epoch is earlier than a drop before it, answers the same, refusals too
    pub same_query : (q : Query) → allowed q.time (accepted_calls cs ks) ≡ true → query_on h' q ≡ query_on g' q
    unfolding query_in
    same_query q al =
        let b = (every_call table calls fits).beside in
        rw (b.entries-same, b.samples-same, b.sound-same) (ap (guarded (ltb (room h') h'.entries || ltb (room h') h'.samples) (sound_directory (directory h')) q.gap q.time) answers)
      where
        same : (x : Bool) → sound_directory (directory h) ≡ x → answer_by (history (held_samples h) (accepted_calls cs ks)) q ≡ answer_by (history (held_samples h) (undropped (accepted_calls cs ks))) q
        same true s = history-law (held_samples h) (accepted_calls cs ks) q.gap q.constellation q.svid q.band q.time (sorted_rises (held_samples h) ∙ sorted_of (held_samples h) (sound-flat (directory h) s)) al
        same false s = nothing (accepted_calls cs ks) (none-accepted run s)
          where
            nothing : (es : List Event) → es ≡ [] → answer_by (history (held_samples h) es) q ≡ answer_by (history (held_samples h) (undropped es)) q
            nothing es e = unfold undropped in rw e

        answers : answer_by (held_samples h') q ≡ answer_by (held_samples g') q
        answers = ap (λ (t : List Sample). answer_by t q) (run-held run) ∙ same (sound_directory (directory h)) refl ∙ ap (λ (es : List Event). answer_by (history (held_samples h) es) q) (sym same-accepted) ∙ ap (λ (t : List Sample). answer_by t q) (sym (run-held bare))

    pub same_answer : (q : Query) → allowed q.time (accepted_calls cs ks) ≡ true → (number other metres metres' metres'' : ℕ) → Asks h' q number metres metres' → Asks g' q other metres metres''
        → (number ≡ other) × (metres' ≡ metres'')
    same_answer q al number other metres metres' metres'' a b =
        let e = same_query q al in
        (a.number_is ∙ ap answer_number e ∙ sym b.number_is, a.metres_are ∙ ap (λ (c : Result Float Refusal). pattern_after c metres) e ∙ sym b.metres_are)
