-- One call on a caller's table: what a refusal and what an accepted call leave, and when an epoch meets 11. Assumes nothing.
use Rattle.numeric.specs.Refusal.{answer_number}
use Rattle.std.specs.Prelude.{Ok, Err}
use mathlib.Core.Path.{◌≡◌, refl, sym, ap, ◌∙◌}
use mathlib.Core.List.{List}
use mathlib.Core.Bool.{Bool, true, false, cond, not, ◌&&◌, ◌||◌}
use Prim.Native.Nat.{ℕ, ◌+◌, ◌≤◌, ◌<◌}
use native.Mathlib.Omega.{arith}
use lib.Dec.{eqb, ltb}
use lib.ListN.{length, length-map}
use lib.Seq.{length-take-le}
use borrow.Author.Tests.{eqb-true, eqb-false, ltb-false, lt-ltb, le-ltb}
use lib.Ieee.{Float}
use lib.Ieee.Scale.{finite}
use Rattle.lists.specs.Walk.{every}
use Rattle.numeric.specs.Rules.{ruled}
use Rattle.numeric.specs.Refusal.{number_of}
use Rattle.numeric.specs.Real.{in_range}
use Rattle.numeric.specs.declared.refusal.Refusal.{Refusal}
use Rattle.numeric.specs.declared.refusal.Refusal.TheVariants.{TooMany, SettingOutOfRange, RecordOutOfRange, TableFull, BadDropTime}
use Rattle.numeric.proofs.RefusalLaws.{not-zero}
use Rattle.corrections_table.specs.Table.{ranged, sound_table}
use Rattle.corrections_table.specs.Add.{insert_all}
use Rattle.corrections_table.specs.declared.sample.Sample.{Sample}
use Rattle.corrections_table.proofs.TableLaws.{and_right}
use Rattle.corrections_table.proofs.InsertLaws.{insert_all-sound, insert_all-length}
use Rattle.corrections_directory.specs.Directory.{block_capacity, Blocks, blocks_with, Directory, directory_in, directory_of, flat, PatternsWith, reading_of, readings_in, sound_directory}
use Rattle.corrections_directory.proofs.DirectoryLaws.{flat-directory, sound-flat}
use Rattle.corrections_directory.proofs.ColumnLaws.{flat-length}
use Rattle.corrections_add.specs.Add as Add
use Rattle.corrections_add.specs.Add.{added_in, directory_with, PatternsAfter, Placed, Places, refused_in}
use Rattle.corrections_add.proofs.SameLaws.{few-entries}
use Rattle.corrections_forget.specs.Forget.{Forgets, ForgetOutcome, forget, forget_in, forgetting_of, leaves, outcome_of, refused, test_in}
use Rattle.corrections_forget.proofs.HistoryLaws.{forget-length}
use Rattle.corrections_forget.proofs.FormLaws.{columns-hold}
use Rattle.corrections_forget.proofs.ForgetLaws.{forget-sound}
use Rattle.corrections_epoch.specs.AddEpoch.{epoch_placed, records_in_range, settings_in_range, too_many}
use Rattle.corrections_epoch.specs.Sample.{epoch_samples}
use Rattle.corrections_epoch.proofs.EpochLaws.{samples-ranged, time-in-range}
use Rattle.corrections_epoch.specs.Record.{states_count}
use Rattle.corrections_epoch_columns.specs.Epoch.{entry_in, states_in}
use Rattle.corrections_laws.specs.Calls.{Caller, Epoch, AddsEpoch, Drops, adding_of, base_epoch, as_blocks, directory, dropping_of, held_samples, new_samples, room, short_of, states_beside, EpochPasses}
use Rattle.corrections_forget.specs.Forget as Forgetting
use Rattle.corrections_laws.proofs.ColumnLaws.{same-capacity, with-holds}

never : {A : Type 0} {r : Refusal} {d : Directory} → refused_in r ≡ added_in d → A
never e = absurd (let z : ◌≡◌ {A = ℕ} 0 1 = cc in omega arith)

-- ---- an epoch

-- turned away by 2 to 4
pub record Turned (o : Placed) : Type 0 where
  pub why : Refusal
  pub is : o ≡ refused_in why
  pub early : number_of why ≤ 4

-- how many states count
states-counted : (e : Epoch) → states_count (states_beside e) ≡ cond e.present e.states 0
states-counted e = go e.present
  where
    go : (p : Bool) → states_count (states_in p e.states e.state-constellations e.state-svids e.state-bands e.state-floats) ≡ cond p e.states 0
    go true = refl
    go false = refl

module _ (h : Caller) (e : Epoch) where
  pub passed : EpochPasses h e → adding_of h e ≡ cond (ltb (room h) (h.samples + length (new_samples e))) (refused_in TableFull) (added_in (directory_with (directory h) (new_samples e)))
  unfolding entry_in epoch_placed too_many ruled
  passed p =
      rw (
        p.long-columns,
        le-ltb (room h) h.entries p.few-entries,
        le-ltb (room h) h.samples p.few-samples,
        le-ltb 64 e.ranges p.few-ranges,
        le-ltb 64 (states_count (states_beside e)) (rw (states-counted e) p.few-states),
        p.settings-in-range,
        p.records-in-range,
        p.sound,
      )

  -- either 2 to 4 let it pass, or one of them turns it away
  pub decide : {A : Type 0} → (EpochPasses h e → A) → (Turned (adding_of h e) → A) → A
  unfolding entry_in epoch_placed too_many ruled
  decide {A} good bad =
      go (short_of e) (ltb (room h) h.entries) (ltb (room h) h.samples) (ltb 64 e.ranges) (ltb 64 (states_count (states_beside e))) (settings_in_range e.settings)
      (records_in_range (base_epoch e) (states_beside e) e.base e.rover) (sound_directory (directory h)) refl refl refl refl refl refl refl refl bad
    where
      go : (a b c d f g i j : Bool) → short_of e ≡ a → ltb (room h) h.entries ≡ b → ltb (room h) h.samples ≡ c → ltb 64 e.ranges ≡ d → ltb 64 (states_count (states_beside e)) ≡ f
          → settings_in_range e.settings ≡ g → records_in_range (base_epoch e) (states_beside e) e.base e.rover ≡ i → sound_directory (directory h) ≡ j
          → (Turned (cond a (refused_in TooMany) (cond (b || (c || d || f)) (refused_in TooMany) (cond (not g) (refused_in SettingOutOfRange) (cond (not (i && j)) (refused_in RecordOutOfRange) (cond (ltb (room h) (h.samples + length (new_samples e))) (refused_in TableFull) (added_in (directory_with (directory h) (new_samples e)))))))) → A)
          → A
      go true b c d f g i j p q r s t u v w z = z (record { why = TooMany; is = refl; early = omega arith })
      go false true c d f g i j p q r s t u v w z = z (record { why = TooMany; is = refl; early = omega arith })
      go false false true d f g i j p q r s t u v w z = z (record { why = TooMany; is = refl; early = omega arith })
      go false false false true f g i j p q r s t u v w z = z (record { why = TooMany; is = refl; early = omega arith })
      go false false false false true g i j p q r s t u v w z = z (record { why = TooMany; is = refl; early = omega arith })
      go false false false false false false i j p q r s t u v w z = z (record { why = SettingOutOfRange; is = refl; early = omega arith })
      go false false false false false true false j p q r s t u v w z = z (record { why = RecordOutOfRange; is = refl; early = omega arith })
      go false false false false false true true false p q r s t u v w z = z (record { why = RecordOutOfRange; is = refl; early = omega arith })
      go false false false false false true true true p q r s t u v w z =
          good
          (record {
            few-entries = ltb-false (room h) h.entries q;
            few-samples = ltb-false (room h) h.samples r;
            few-ranges = ltb-false 64 e.ranges s;
            few-states = rw (states-counted e) at (ltb-false 64 (states_count (states_beside e)) t);
            long-columns = p;
            settings-in-range = u;
            records-in-range = v;
            sound = w;
          })

-- ---- 11 is met exactly when the samples held and the new ones together exceed the capacity
abbrev Cond : Bool → Directory → Placed
Cond x d = cond x (refused_in TableFull) (added_in d)

module _ (h : Caller) (e : Epoch) (number : ℕ) (h' : Caller) (a : AddsEpoch h e number h') where
  holds-all : EpochPasses h e → length (held_samples h) ≡ h.samples
  holds-all p =
      let k : h.samples ≤ length (readings_in (as_blocks h)) = omega (arith, p.few-samples) in
      flat-length (directory h) p.sound ∙ length-take-le h.samples (readings_in (as_blocks h)) k

  number_is : EpochPasses h e → number ≡ cond (ltb (room h) (length (held_samples h) + length (new_samples e))) 11 0
  number_is p = a.places.number_is ∙ rw (passed h e p, holds-all p) (go (ltb (room h) (h.samples + length (new_samples e))))
    where
      go : (x : Bool) → answer_number (Add.addition_of (Cond x (directory_with (directory h) (new_samples e)))) ≡ cond x 11 0
      go true = refl
      go false = refl

  pub full : EpochPasses h e → room h < length (held_samples h) + length (new_samples e) → number ≡ 11
  full p k = number_is p ∙ rw (lt-ltb (room h) (length (held_samples h) + length (new_samples e)) k)

  pub not_full : EpochPasses h e → length (held_samples h) + length (new_samples e) ≤ room h → number ≡ 0
  not_full p k = number_is p ∙ rw (le-ltb (room h) (length (held_samples h) + length (new_samples e)) k)

-- ---- what is left
pub same-caller : (h h' : Caller) → h'.entries ≡ h.entries → h'.samples ≡ h.samples → as_blocks h' ≡ as_blocks h → h'.times ≡ h.times → h'.corrections ≡ h.corrections → h' ≡ h
same-caller h h' a b c d f =
    rw (
      a,
      b,
      ap (λ (l : Blocks). l.constellations) c,
      ap (λ (l : Blocks). l.svids) c,
      ap (λ (l : Blocks). l.bands) c,
      ap (λ (l : Blocks). l.firsts) c,
      ap (λ (l : Blocks). l.counts) c,
      d,
      f,
    )

-- a refused epoch leaves every bit of every column, and both counts
pub add-refused : (h : Caller) (e : Epoch) (number : ℕ) (h' : Caller) → AddsEpoch h e number h' → (number ≡ 0 → ⊥) → h' ≡ h
add-refused h e number h' a n = go (adding_of h e) a.places a.patterns
  where
    go : (o : Placed) → Places o number h.entries h'.entries h.samples h'.samples (as_blocks h) (as_blocks h') → PatternsAfter o h.times h.corrections h'.times h'.corrections → h' ≡ h
    go (refused_in r) b p = same-caller h h' b.entries-are b.samples-are b.columns p.0 p.1
    go (added_in d) b p = absurd (n b.number_is)

-- an accepted one leaves the directory of the samples held and the new ones, in columns of the same capacity
pub record Added (h : Caller) (e : Epoch) (h' : Caller) : Type 0 where
  pub passes : EpochPasses h e
  pub fit : h.samples + length (new_samples e) ≤ room h
  pub now-is : directory h' ≡ directory_of (insert_all (held_samples h) (new_samples e))
  pub now-held : held_samples h' ≡ insert_all (held_samples h) (new_samples e)
  pub count : h'.samples ≡ h.samples + length (new_samples e)
  pub entries : h'.entries ≡ length (directory_of (insert_all (held_samples h) (new_samples e))).entries
  pub few : h'.entries ≤ h'.samples
  pub columns-are : as_blocks h' ≡ blocks_with (directory_of (insert_all (held_samples h) (new_samples e))) (as_blocks h)
  pub patterns : PatternsWith (directory_of (insert_all (held_samples h) (new_samples e))) h.times h.corrections h'.times h'.corrections
  pub same-room : room h' ≡ room h
  pub sound : sound_table (held_samples h') ≡ true

-- the samples of an epoch that 2 to 4 let pass are in range
pub new-ranged : (h : Caller) (e : Epoch) → EpochPasses h e → every ranged (new_samples e) ≡ true
unfolding epoch_samples settings_in_range
new-ranged h e p =
    samples-ranged e.time e.settings.max_correction (time-in-range (base_epoch e) (states_beside e) e.base e.rover p.records-in-range)
    (and_right (in_range e.settings.max_gap) _ p.settings-in-range) _

readings-many : (t : List Sample) → length (directory_of t).readings ≡ length t
unfolding directory_of
readings-many t = length-map t reading_of

pub add-accepted : (h : Caller) (e : Epoch) (h' : Caller) → AddsEpoch h e 0 h' → Added h e h'
add-accepted h e h' a = decide h e accepts (λ (t : Turned (adding_of h e)). absurd (not-zero t.why (sym (rw t.is at a.places.number_is))))
  where
    new : List Sample
    new = new_samples e

    accepts : EpochPasses h e → Added h e h'
    accepts p = go (ltb (room h) (h.samples + length (new_samples e))) refl (rw (passed h e p) at a.places) (rw (passed h e p) at a.patterns)
      where
        go : (x : Bool) → ltb (room h) (h.samples + length (new_samples e)) ≡ x → Places (Cond x (directory_with (directory h) (new_samples e))) 0 h.entries h'.entries h.samples h'.samples (as_blocks h) (as_blocks h')
            → PatternsAfter (Cond x (directory_with (directory h) (new_samples e))) h.times h.corrections h'.times h'.corrections → Added h e h'
        go true k b q = absurd (not-zero TableFull (sym b.number_is))
        go false k b q =
            let t = insert_all (held_samples h) (new_samples e) in
            let d = directory_of t in
            let f : h.samples + length (new_samples e) ≤ room h = ltb-false (room h) (h.samples + length (new_samples e)) k in
            let many : length (held_samples h) ≡ h.samples = holds-all h e 0 h' a p in
            let long : length t ≡ h.samples + length (new_samples e) = insert_all-length (held_samples h) (new_samples e) ∙ ap (λ (i : ℕ). i + length (new_samples e)) many in
            let rd : length d.readings ≡ length t = readings-many t in
            let es : length d.entries ≤ length t = few-entries t (omega arith) in
            let is : directory h' ≡ d = with-holds d (as_blocks h) (as_blocks h') h'.entries h'.samples b.entries-are b.samples-are b.columns in
            let hd : held_samples h' ≡ t = ap flat is ∙ flat-directory t in
            record {
              passes = p;
              fit = f;
              now-is = is;
              now-held = hd;
              count = b.samples-are ∙ rd ∙ long;
              entries = b.entries-are;
              few = omega (arith, b.entries-are, b.samples-are);
              columns-are = b.columns;
              patterns = q;
              same-room = ap block_capacity b.columns ∙ same-capacity d (as_blocks h) (omega arith) (omega arith);
              sound = ap sound_table hd ∙ insert_all-sound (held_samples h) (new_samples e) (new-ranged h e p) (sound-flat (directory h) p.sound);
            }

-- ---- a drop
pub drop-refused : (h : Caller) (time : Float) (number : ℕ) (h' : Caller) → Drops h time number h' → (number ≡ 0 → ⊥) → h' ≡ h
drop-refused h time number h' a n = go (dropping_of h time) a.forgets a.patterns
  where
    go : (o : ForgetOutcome) → Forgets o number h.entries h.samples h'.samples (as_blocks h) (as_blocks h') → Forgetting.PatternsAfter o h.times h.corrections h'.times h'.corrections → h' ≡ h
    go (refused r) b p = same-caller h h' a.entries-stay b.count b.columns p.0 p.1
    go (leaves d) b p = absurd (n b.number_is)

pub record Dropped (h : Caller) (time : Float) (h' : Caller) : Type 0 where
  pub few-entries : h.entries ≤ room h
  pub few-samples : h.samples ≤ room h
  pub sound : sound_directory (directory h) ≡ true
  pub is_finite : finite time ≡ true
  pub now-is : directory h' ≡ directory_of (forget time (held_samples h))
  pub now-held : held_samples h' ≡ forget time (held_samples h)
  pub count : h'.samples ≤ h.samples
  pub entries : h'.entries ≡ h.entries
  pub columns-are : as_blocks h' ≡ blocks_with (directory_of (forget time (held_samples h))) (as_blocks h)
  pub patterns : PatternsWith (directory_of (forget time (held_samples h))) h.times h.corrections h'.times h'.corrections
  pub same-room : room h' ≡ room h
  pub still-sound : sound_table (held_samples h') ≡ true

record DropPasses (h : Caller) (time : Float) : Type 0 where
  few-entries : h.entries ≤ room h
  few-samples : h.samples ≤ room h
  sound : sound_directory (directory h) ≡ true
  is_finite : finite time ≡ true
  is : dropping_of h time ≡ leaves (directory_of (forget time (held_samples h)))

drop-passes : (h : Caller) (time : Float) → 0 ≡ answer_number (forgetting_of (dropping_of h time)) → DropPasses h time
unfolding forget_in test_in ruled
drop-passes h time e = go (ltb (room h) h.entries) (ltb (room h) h.samples) (sound_directory (directory h)) (finite time) refl refl refl refl e
  where
    go : (a b c d : Bool) → ltb (room h) h.entries ≡ a → ltb (room h) h.samples ≡ b → sound_directory (directory h) ≡ c → finite time ≡ d
        → 0 ≡ answer_number (forgetting_of (outcome_of (cond (a || b) (Err TooMany) (cond (not c) (Err RecordOutOfRange) (cond (not d) (Err BadDropTime) (Ok tt)))) (directory_of (forget time (held_samples h))))) → DropPasses h time
    go true b c d p q r s z = absurd (not-zero TooMany (sym z))
    go false true c d p q r s z = absurd (not-zero TooMany (sym z))
    go false false false d p q r s z = absurd (not-zero RecordOutOfRange (sym z))
    go false false true false p q r s z = absurd (not-zero BadDropTime (sym z))
    go false false true true p q r s z =
        record { few-entries = ltb-false (room h) h.entries p; few-samples = ltb-false (room h) h.samples q; sound = r; is_finite = s; is = rw (p, q, r, s) }

pub drop-accepted : (h : Caller) (time : Float) (h' : Caller) → Drops h time 0 h' → Dropped h time h'
drop-accepted h time h' a =
    let p = drop-passes h time a.forgets.number_is in
    let t = forget time (held_samples h) in
    let d = directory_of t in
    let b : Forgets (leaves d) 0 h.entries h.samples h'.samples (as_blocks h) (as_blocks h') = rw p.is at a.forgets in
    let many : length (held_samples h) ≡ h.samples = flat-length (directory h) p.sound ∙ length-take-le h.samples (readings_in (as_blocks h)) (omega (arith, p.few-samples)) in
    let fewer : length t ≤ length (held_samples h) = forget-length time (held_samples h) in
    let rd : length d.readings ≡ length t = readings-many t in
    let es : h.entries ≡ length d.entries = b.entries-stay in
    let is : directory h' ≡ d = ap (λ (i : ℕ). directory_in i h'.samples (as_blocks h')) a.entries-stay ∙ columns-hold a.forgets d p.is in
    let hd : held_samples h' ≡ t = ap flat is ∙ flat-directory t in
    record {
      few-entries = p.few-entries;
      few-samples = p.few-samples;
      sound = p.sound;
      is_finite = p.is_finite;
      now-is = is;
      now-held = hd;
      count = omega (arith, b.count);
      entries = a.entries-stay;
      columns-are = b.columns;
      patterns = rw p.is at a.patterns;
      same-room = ap block_capacity b.columns ∙ same-capacity d (as_blocks h) (omega (arith, p.few-entries)) (omega (arith, p.few-samples));
      still-sound = ap sound_table hd ∙ forget-sound time (held_samples h) (sound-flat (directory h) p.sound);
    }

-- a number is 0, or it is not
pub zero_or : (n : ℕ) {A : Type 0} → (n ≡ 0 → A) → ((n ≡ 0 → ⊥) → A) → A
zero_or n {A} z s = go (eqb n 0) refl
  where
    go : (x : Bool) → eqb n 0 ≡ x → A
    go true e = z (eqb-true n 0 e)
    go false e = s (λ q. eqb-false n 0 e q)

-- ---- the number of an epoch, by its tests: x whether it would overfill the table
abbrev pub number_by : Bool → Bool → Bool → Bool → Bool → Bool → Bool → Bool → Bool → ℕ
number_by a b c d f g i j x = cond a 2 (cond (b || (c || d || f)) 2 (cond (not g) 3 (cond (not (i && j)) 4 (cond x 11 0))))

pub number_by_lem : (h : Caller) (e : Epoch) (number : ℕ) (h' : Caller) → AddsEpoch h e number h'
    → number ≡ number_by (short_of e) (ltb (room h) h.entries) (ltb (room h) h.samples) (ltb 64 e.ranges) (ltb 64 (cond e.present e.states 0)) (settings_in_range e.settings)
    (records_in_range (base_epoch e) (states_beside e) e.base e.rover) (sound_directory (directory h)) (ltb (room h) (h.samples + length (new_samples e)))
unfolding entry_in epoch_placed too_many ruled
number_by_lem h e number h' s =
    s.places.number_is
    ∙ go (short_of e) (ltb (room h) h.entries) (ltb (room h) h.samples) (ltb 64 e.ranges) (ltb 64 (states_count (states_beside e))) (settings_in_range e.settings)
    (records_in_range (base_epoch e) (states_beside e) e.base e.rover) (sound_directory (directory h)) (ltb (room h) (h.samples + length (new_samples e)))
    ∙ ap (λ (k : ℕ). number_by (short_of e) (ltb (room h) h.entries) (ltb (room h) h.samples) (ltb 64 e.ranges) (ltb 64 k) (settings_in_range e.settings) (records_in_range (base_epoch e) (states_beside e) e.base e.rover) (sound_directory (directory h)) (ltb (room h) (h.samples + length (new_samples e)))) (states-counted e)
  where
    go : (a b c d f g i j x : Bool)
        → answer_number (Add.addition_of (cond a (refused_in TooMany) (cond (b || (c || d || f)) (refused_in TooMany) (cond (not g) (refused_in SettingOutOfRange) (cond (not (i && j)) (refused_in RecordOutOfRange) (cond x (refused_in TableFull) (added_in (directory_with (directory h) (new_samples e)))))))))
        ≡ number_by a b c d f g i j x
    go true b c d f g i j x = refl
    go false true c d f g i j x = refl
    go false false true d f g i j x = refl
    go false false false true f g i j x = refl
    go false false false false true g i j x = refl
    go false false false false false false i j x = refl
    go false false false false false true false j x = refl
    go false false false false false true true false x = refl
    go false false false false false true true true true = refl
    go false false false false false true true true false = refl

-- two tables on which the other tests agree give the same number where the second is overfilled by what overfills the first, and not by what the first takes
pub same_number : (a b c d f g i j x y : Bool) → (x ≡ true → y ≡ true) → (number_by a b c d f g i j x ≡ 0 → y ≡ false) → number_by a b c d f g i j y ≡ number_by a b c d f g i j x
same_number true b c d f g i j x y p q = refl
same_number false true c d f g i j x y p q = refl
same_number false false true d f g i j x y p q = refl
same_number false false false true f g i j x y p q = refl
same_number false false false false true g i j x y p q = refl
same_number false false false false false false i j x y p q = refl
same_number false false false false false true false j x y p q = refl
same_number false false false false false true true false x y p q = refl
same_number false false false false false true true true true y p q = rw (p refl)
same_number false false false false false true true true false y p q = rw (q refl)
