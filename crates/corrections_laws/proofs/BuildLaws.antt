-- `zaqnuti_add_epoch` called again and again from an empty table leaves what `build` gives on the accepted epochs. Assumes nothing.
use mathlib.Core.Path.{◌≡◌, refl, sym, ap, subst, ◌∙◌}
use mathlib.Core.List.{List, [], ◌∷◌, ◌++◌, map}
use mathlib.Core.Bool.{Bool, true, false, cond, ◌&&◌}
use Prim.Native.Nat.{ℕ, zero, suc, ◌≤◌}
use native.Mathlib.Nat.{le_trans, le_of_suc-le-suc, not-suc-le-zero}
use native.Mathlib.Omega.{arith}
use lib.Dec.{eqb}
use borrow.Author.Tests.{eq-eqb, eqb-true, ne_eqb}
use lib.ListN.{length, drop, length-map}
use Rattle.lists.specs.Walk.{collect}
use Rattle.numeric.specs.declared.vec3.Vec3.{Vec3}
use Rattle.numeric.specs.Order.{pattern_of}
use Rattle.corrections_table.specs.Table.{stands_before}
use Rattle.corrections_table.specs.Add.{insert, insert_all}
use Rattle.corrections_table.specs.Build.{built_of}
use Rattle.corrections_table.specs.declared.sample.Sample.{Sample}
use Rattle.corrections_table.proofs.TableLaws.{and_left, and_right}
use Rattle.corrections_table.proofs.InsertLaws.{insert_all-length}
use Rattle.corrections_table.proofs.SeriesLaws.{insert_all-append}
use Rattle.corrections_table.proofs.BuiltLaws.{build-law}
use Rattle.corrections_table.proofs.UnitLaws.{never}
use Rattle.corrections_directory.specs.Directory.{Blocks, Directory, Entry, Reading, blocks_with, column_of, directory_of, entries_from, entry_of, flat, is_mine, joined, reading_of}
use Rattle.corrections_directory.proofs.DirectoryLaws.{flat-directory}
use Rattle.corrections_epoch.specs.Sample.{epoch_samples}
use Rattle.corrections_epoch.specs.Build.{EpochInput, build_of}
use Rattle.corrections_epoch.specs.declared.record.Settings.{Settings}
use Rattle.corrections_laws.specs.Calls.{AddsEpoch, AllBy, Call, Caller, Comes, Epoch, CallRun, adding, built_from, base_epoch, as_blocks, directory, done, dropping, held_samples, new_samples, next, states_beside}
use Rattle.corrections_laws.proofs.ColumnLaws.{with-holds}
use Rattle.corrections_laws.proofs.StepLaws.{add-accepted, add-refused, zero_or}

-- ---- how many entries samples make: one for each run of a signal
abbrev alike : Sample → Sample → Bool
alike a b = eqb a.constellation b.constellation && (eqb a.svid b.svid && eqb a.band b.band)

runs : Sample → List Sample → ℕ
runs p [] = 1
runs p (a ∷ t) = cond (alike p a) (runs a t) (suc (runs a t))

joined-twice : (s a : Sample) (p q : ℕ) (es : List Entry) → length (joined s p (joined a q es)) ≡ cond (alike s a) (length (joined a q es)) (suc (length (joined a q es)))
unfolding joined
joined-twice s a p q [] = go (alike s a)
  where
    go : (x : Bool) → length (cond x (entry_of s p 2 ∷ []) (entry_of s p 1 ∷ entry_of a q 1 ∷ [])) ≡ cond x 1 2
    go true = refl
    go false = refl
joined-twice s a p q (e ∷ es) = by (is_mine a e)
  where
    go : (x : Bool) (n : ℕ) (l : List Entry) → length (cond x (entry_of s p (suc n) ∷ l) (entry_of s p 1 ∷ entry_of a q n ∷ l)) ≡ cond x (suc (length l)) (suc (suc (length l)))
    go true n l = refl
    go false n l = refl

    by : (y : Bool) → length (joined s p (cond y (entry_of a q (suc e.count) ∷ es) (entry_of a q 1 ∷ e ∷ es)))
        ≡ cond (alike s a) (length (cond y (entry_of a q (suc e.count) ∷ es) (entry_of a q 1 ∷ e ∷ es))) (suc (length (cond y (entry_of a q (suc e.count) ∷ es) (entry_of a q 1 ∷ e ∷ es))))
    by true = go (alike s a) (suc e.count) es
    by false = go (alike s a) 1 (e ∷ es)

entries-runs : (place : ℕ) (s : Sample) (t : List Sample) → length (entries_from place (s ∷ t)) ≡ runs s t
unfolding entries_from runs
entries-runs place s [] = unfold joined in refl
entries-runs place s (a ∷ t) = joined-twice s a place (suc place) (entries_from (suc (suc place)) t) ∙ rw (entries-runs (suc place) a t)

-- one sample more leaves as many runs, or makes more
alike-through : (p s a : Sample) → alike p s ≡ true → alike s a ≡ true → alike p a ≡ true
alike-through p s a h k =
    let c : p.constellation ≡ a.constellation = eqb-true p.constellation s.constellation (and_left _ _ h) ∙ eqb-true s.constellation a.constellation (and_left _ _ k) in
    let hv = and_right (eqb p.constellation s.constellation) _ h in
    let kv = and_right (eqb s.constellation a.constellation) _ k in
    let v : p.svid ≡ a.svid = eqb-true p.svid s.svid (and_left _ _ hv) ∙ eqb-true s.svid a.svid (and_left _ _ kv) in
    let b : p.band ≡ a.band = eqb-true p.band s.band (and_right (eqb p.svid s.svid) _ hv) ∙ eqb-true s.band a.band (and_right (eqb s.svid a.svid) _ kv) in
    rw (eq-eqb p.constellation a.constellation c, eq-eqb p.svid a.svid v, eq-eqb p.band a.band b)

between : (p s a : Sample) (t : List Sample) → runs p (a ∷ t) ≤ runs p (s ∷ a ∷ t)
unfolding runs
between p s a t = go (alike p a) (alike p s) (alike s a) refl refl refl
  where
    go : (x y z : Bool) → alike p a ≡ x → alike p s ≡ y → alike s a ≡ z
        → cond x (runs a t) (suc (runs a t)) ≤ cond y (cond z (runs a t) (suc (runs a t))) (suc (cond z (runs a t) (suc (runs a t))))
    go true true true f g i = omega arith
    go true true false f g i = omega arith
    go true false true f g i = omega arith
    go true false false f g i = omega arith
    go false true true f g i = never (sym f ∙ alike-through p s a g i)
    go false true false f g i = omega arith
    go false false true f g i = omega arith
    go false false false f g i = omega arith

inserted-after : (p s : Sample) (t : List Sample) → runs p t ≤ runs p (insert s t)
unfolding insert
inserted-after p s [] = unfold runs in go (alike p s)
  where
    go : (x : Bool) → 1 ≤ cond x 1 2
    go true = omega arith
    go false = omega arith
inserted-after p s (a ∷ t) = go (stands_before s a) (inserted-after a s t)
  where
    same : runs a t ≤ runs a (insert s t) → runs p (a ∷ t) ≤ runs p (a ∷ insert s t)
    same i = unfold runs in by (alike p a)
      where
        by : (x : Bool) → cond x (runs a t) (suc (runs a t)) ≤ cond x (runs a (insert s t)) (suc (runs a (insert s t)))
        by true = i
        by false = omega arith

    go : (x : Bool) → runs a t ≤ runs a (insert s t) → runs p (a ∷ t) ≤ runs p (cond x (s ∷ a ∷ t) (a ∷ insert s t))
    go true i = between p s a t
    go false i = same i

entries-insert : (s : Sample) (t : List Sample) → length (entries_from 0 t) ≤ length (entries_from 0 (insert s t))
unfolding insert
entries-insert s [] = unfold entries_from in omega arith
entries-insert s (a ∷ t) = go (stands_before s a)
  where
    first : runs a t ≤ runs s (a ∷ t)
    first = unfold runs in by (alike s a)
      where
        by : (x : Bool) → runs a t ≤ cond x (runs a t) (suc (runs a t))
        by true = omega arith
        by false = omega arith

    go : (x : Bool) → length (entries_from 0 (a ∷ t)) ≤ length (entries_from 0 (cond x (s ∷ a ∷ t) (a ∷ insert s t)))
    go true = omega (arith, entries-runs 0 a t, entries-runs 0 s (a ∷ t), first)
    go false = omega (arith, entries-runs 0 a t, entries-runs 0 a (insert s t), inserted-after a s t)

entries-grow : (t ss : List Sample) → length (entries_from 0 t) ≤ length (entries_from 0 (insert_all t ss))
unfolding insert_all
entries-grow t [] = omega arith
entries-grow t (s ∷ ss) = le_trans (entries-insert s t) (entries-grow (insert s t) ss)

-- ---- a column written twice, the second time at least as far
drop-none : {A : Type 0} (k : ℕ) → ◌≡◌ {A = List A} (drop k []) []
drop-none zero = refl
drop-none (suc k) = refl

past-written : {R A : Type 0} (f : R → A) (l : List R) (k : ℕ) (column : List A) → length l ≤ k → drop k (column_of f l column) ≡ drop k column
past-written f [] k column h = refl
past-written f (x ∷ l) zero column h = absurd (not-suc-le-zero h)
past-written {A = A} f (x ∷ l) (suc k) [] h = ap (λ (c : List A). drop k (map f l ++ c)) (sym (drop-none (length l))) ∙ past-written f l k [] (le_of_suc-le-suc h) ∙ drop-none k
past-written f (x ∷ l) (suc k) (c ∷ cs) h = past-written f l k cs (le_of_suc-le-suc h)

written_twice : {R A : Type 0} (f : R → A) (l m : List R) (column : List A) → length l ≤ length m → column_of f m (column_of f l column) ≡ column_of f m column
written_twice {A = A} f l m column h = ap (λ (c : List A). map f m ++ c) (past-written f l (length m) column h)

pub blocks-twice : (d e : Directory) (l : Blocks) → length d.entries ≤ length e.entries → length d.readings ≤ length e.readings → blocks_with e (blocks_with d l) ≡ blocks_with e l
blocks-twice d e l h k =
    rw (
      written_twice (λ (x : Entry). x.constellation) d.entries e.entries l.constellations h,
      written_twice (λ (x : Entry). x.svid) d.entries e.entries l.svids h,
      written_twice (λ (x : Entry). x.band) d.entries e.entries l.bands h,
      written_twice (λ (x : Entry). x.start) d.entries e.entries l.firsts h,
      written_twice (λ (x : Entry). x.count) d.entries e.entries l.counts h,
      written_twice (λ (x : Reading). x.time) d.readings e.readings l.times k,
      written_twice (λ (x : Reading). x.correction) d.readings e.readings l.corrections k,
    )

-- ---- calls one after the other
readings-many : (t : List Sample) → length (directory_of t).readings ≡ length t
unfolding directory_of
readings-many t = length-map t reading_of

directory-grows : (t ss : List Sample) → length (directory_of t).entries ≤ length (directory_of (insert_all t ss)).entries
unfolding directory_of
directory-grows t ss = entries-grow t ss

pub comes-held : (h : Caller) (t : List Sample) (h' : Caller) → Comes h t h' → directory h' ≡ directory_of t
comes-held h t h' c = with-holds (directory_of t) (as_blocks h) (as_blocks h') h'.entries h'.samples c.entries-are (c.samples-are ∙ sym (readings-many t)) c.columns-are

comes-added : (h : Caller) (t : List Sample) (g : Caller) (e : Epoch) (g' : Caller) → Comes h t g → AddsEpoch g e 0 g' → Comes h (insert_all t (new_samples e)) g'
comes-added h t g e g' c d =
    let a = add-accepted g e g' d in
    let is : held_samples g ≡ t = ap flat (comes-held h t g c) ∙ flat-directory t in
    let longer : length (directory_of t).readings ≤ length (directory_of (insert_all t (new_samples e))).readings = omega (arith, readings-many t, readings-many (insert_all t (new_samples e)), insert_all-length t (new_samples e)) in
    record {
      entries-are = a.entries ∙ rw is;
      samples-are = a.count ∙ rw c.samples-are (sym (insert_all-length t (new_samples e)));
      columns-are =
          a.columns-are
          ∙ ap (λ (s : List Sample). blocks_with (directory_of (insert_all s (new_samples e))) (as_blocks g)) is
          ∙ ap (blocks_with (directory_of (insert_all t (new_samples e)))) c.columns-are
          ∙ blocks-twice (directory_of t) (directory_of (insert_all t (new_samples e))) (as_blocks h) (directory-grows t (new_samples e)) longer;
      patterns = record {
        times = a.patterns.times ∙ rw (is, c.patterns.times) (written_twice (λ (r : Reading). pattern_of r.time) (directory_of t).readings (directory_of (insert_all t (new_samples e))).readings h.times longer);
        corrections = a.patterns.corrections ∙ rw (is, c.patterns.corrections) (written_twice (λ (r : Reading). pattern_of r.correction) (directory_of t).readings (directory_of (insert_all t (new_samples e))).readings h.corrections longer);
      };
    }

module _ (base rover : Vec3) (set : Settings) where
  abbrev samples : EpochInput → List Sample
  samples i = epoch_samples base rover set i.epoch i.states

  built-more : (e : Epoch) (cs : List Call) (k : ℕ) (ks : List ℕ) → k ≡ 0 → built_from (adding e ∷ cs) (k ∷ ks) ≡ record { epoch = base_epoch e; states = states_beside e } ∷ built_from cs ks
  unfolding built_from
  built-more e cs k ks z = rw (eq-eqb k 0 z)

  built-less : (e : Epoch) (cs : List Call) (k : ℕ) (ks : List ℕ) → (k ≡ 0 → ⊥) → built_from (adding e ∷ cs) (k ∷ ks) ≡ built_from cs ks
  unfolding built_from
  built-less e cs k ks n = rw (ne_eqb k 0 n)

  new_is : (e : Epoch) → (e.base ≡ base) × (e.rover ≡ rover) × (e.settings ≡ set) → new_samples e ≡ samples (record { epoch = base_epoch e; states = states_beside e })
  new_is e (p, q, r) = rw (p, q, r)

  run-comes : (h : Caller) (t : List Sample) {g g' : Caller} {cs : List Call} {ks : List ℕ} → CallRun g cs ks g' → AllBy base rover set cs → Comes h t g → Comes h (insert_all t (collect samples (built_from cs ks))) g'
  run-comes h t done w c = unfold built_from collect insert_all in c
  run-comes h t (next {c = dropping time} d r) w c = absurd w
  run-comes h t (next {h = g} {h' = g'} {h'' = g''} {c = adding e} {cs = cs} {k = k} {ks = ks} d r) w c =
      zero_or k
      (λ (z : k ≡ 0).
      subst (λ (s : List Sample). Comes h s g'')
      (sym (insert_all-append t (samples (record { epoch = base_epoch e; states = states_beside e })) (collect samples (built_from cs ks))) ∙ ap (insert_all t) (sym (collect-more e cs k ks z)))
      (run-comes h (insert_all t (samples (record { epoch = base_epoch e; states = states_beside e }))) r w.1
      (subst (λ (s : List Sample). Comes h (insert_all t s) g') (new_is e w.0) (comes-added h t g e g' c (subst (λ (i : ℕ). AddsEpoch g e i g') z d)))))
      (λ (n : k ≡ 0 → ⊥).
      subst (λ (i : List EpochInput). Comes h (insert_all t (collect samples i)) g'') (sym (built-less e cs k ks n)) (run-comes h t r w.1 (subst (λ (x : Caller). Comes h t x) (sym (add-refused g e k g' d n)) c)))
    where
      collect-more : (e : Epoch) (cs : List Call) (k : ℕ) (ks : List ℕ) → k ≡ 0 → collect samples (built_from (adding e ∷ cs) (k ∷ ks)) ≡ samples (record { epoch = base_epoch e; states = states_beside e }) ++ collect samples (built_from cs ks)
      collect-more e cs k ks z = ap (collect samples) (built-more e cs k ks z) ∙ (unfold collect in refl)

  -- from an empty table in any columns: the directory of what `build` gives on the accepted epochs, and past it what was in the columns before the first call
  pub calls-build : (h h' : Caller) (cs : List Call) (ks : List ℕ) → h.entries ≡ 0 → h.samples ≡ 0 → CallRun h cs ks h' → AllBy base rover set cs → Comes h (build_of base rover set (built_from cs ks)) h'
  calls-build h h' cs ks m n run w =
      subst (λ (t : List Sample). Comes h t h') (build-law (collect samples (built_from cs ks)) ∙ built) (run-comes h [] run w start)
    where
      built : built_of (collect samples (built_from cs ks)) ≡ build_of base rover set (built_from cs ks)
      built = unfold build_of in refl

      start : Comes h [] h
      start = unfold directory_of entries_from in record { entries-are = m; samples-are = n; columns-are = refl; patterns = record { times = refl; corrections = refl } }
