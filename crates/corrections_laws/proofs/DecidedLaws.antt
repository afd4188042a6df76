-- The conditions of specs/Numbers.antt cover every input: two numbers that both meet them are equal. Assumes nothing.
use Rattle.std.specs.Prelude.{Result, Ok, Err}
use mathlib.Core.Path.{◌≡◌, refl, sym, ◌∙◌}
use mathlib.Core.List.{List}
use mathlib.Core.Bool.{Bool, true, false}
use Prim.Native.Nat.{ℕ, ◌+◌, ◌*◌, ◌≤◌, ◌<◌}
use native.Mathlib.Omega.{arith}
use lib.Dec.{ltb}
use lib.ListN.{length}
use borrow.Author.Tests.{ltb-false, ltb-true}
use lib.Ieee.{Float}
use lib.Ieee.Scale.{finite}
use Rattle.numeric.specs.Real.{in_range}
use Rattle.numeric.specs.declared.refusal.Refusal.{Refusal}
use Rattle.corrections_table.specs.Table.{Columns, sound_table, table_of}
use Rattle.corrections_directory.specs.Directory.{Blocks, Directory, directory_in, flat, sound_directory}
use Rattle.corrections_query.specs.Query.{answer_at}
use Rattle.corrections_queries.specs.Queries.{Asked}
use Rattle.corrections_epoch.specs.AddEpoch.{records_in_range}
use Rattle.corrections_laws.specs.Calls.{Caller, Epoch, as_blocks, base_epoch, directory, new_samples, states_beside}
use Rattle.corrections_laws.specs.Numbers.{AddNumber, DropNumber, EpochFits, FilesNumber, ListsNumber, QueriesNumber, QueryNumber, RecordsPass, SettingsPass, WidenNumber, entry_room, place_room, range_room, room_of, signal_room, state_room, states_counted, table_room}

-- ---- either a test applies, or it does not
test : (x : Bool) {A : Type 0} → (x ≡ true → A) → (x ≡ false → A) → A
test true f g = f refl
test false f g = g refl

below : (a b : ℕ) {A : Type 0} → (a < b → A) → (b ≤ a → A) → A
below a b f g = test (ltb a b) (λ e. f (ltb-true a b e)) (λ e. g (ltb-false a b e))

answer : (q : Result Float Refusal) {A : Type 0} → ((r : Refusal) → q ≡ Err r → A) → ((x : Float) → q ≡ Ok x → A) → A
answer (Err r) f g = f r refl
answer (Ok x) f g = g x refl

same : {A : Type 0} {x y z : A} → x ≡ z → y ≡ z → x ≡ y
same p q = p ∙ sym q

-- ---- queries
module _ {m n room : ℕ} {d : Directory} {gap : Float} {c v b : ℕ} {t : Float} {k l metres y z : ℕ}
    (p : QueryNumber m n room d gap c v b t k metres y) (q : QueryNumber m n room d gap c v b t l metres z) where
  refuses : {j : ℕ} → (j ≡ 0 → ⊥) → k ≡ j → l ≡ j → (k ≡ l) × (y ≡ z)
  refuses nay e f = (same e f, same (p.refused (λ u. nay (sym e ∙ u))) (q.refused (λ u. nay (sym f ∙ u))))

  passes : m ≤ room → n ≤ room → in_range gap ≡ true → sound_directory d ≡ true → (finite t ≡ true → in_range t ≡ true) → (k ≡ l) × (y ≡ z)
  passes h i e f g =
      answer (answer_at (flat d) gap c v b t) (λ r w. refuses (λ u. omega arith) (p.none h i e f g r w) (q.none h i e f g r w))
      (λ x w. (same (p.given h i e f g x w).0 (q.given h i e f g x w).0, same (p.given h i e f g x w).1 (q.given h i e f g x w).1))

  pub query_decided : (k ≡ l) × (y ≡ z)
  query_decided =
      below room m (λ h. refuses (λ u. omega arith) (p.many-entries h) (q.many-entries h))
      (λ h.
      below room n (λ i. refuses (λ u. omega arith) (p.many-samples i) (q.many-samples i))
      (λ i.
      test (in_range gap)
      (λ e.
      test (sound_directory d)
      (λ f.
      test (finite t) (λ g. test (in_range t) (λ w. passes h i e f (λ u. w)) (λ w. refuses (λ u. omega arith) (p.bad-time h i e g w) (q.bad-time h i e g w)))
      (λ g. passes h i e f (λ u. absurd (let w : ◌≡◌ {A = ℕ} 0 1 = cc in omega arith))))
      (λ f. refuses (λ u. omega arith) (p.not_sound h i e f) (q.not_sound h i e f)))
      (λ e. refuses (λ u. omega arith) (p.bad-gap h i e) (q.bad-gap h i e))))

module _ {m n room : ℕ} {d : Directory} {gap : Float} {a : Asked} {k l : ℕ} {ns ms us vs ws xs : List ℕ}
    (p : QueriesNumber m n room d gap a k ns ms us vs) (q : QueriesNumber m n room d gap a l ns ms ws xs) where
  pub queries_decided : k ≡ l
  queries_decided =
      below room m (λ h. same (p.many-entries h) (q.many-entries h))
      (λ h.
      below room n (λ i. same (p.many-samples i) (q.many-samples i))
      (λ i.
      below (place_room a ns ms) a.count (λ j. same (p.many-places j) (q.many-places j))
      (λ j.
      test (in_range gap)
      (λ e. test (sound_directory d) (λ f. same (p.answered h i j e f) (q.answered h i j e f)) (λ f. same (p.not_sound h i j e f) (q.not_sound h i j e f)))
      (λ e. same (p.bad-gap h i j e) (q.bad-gap h i j e)))))

-- ---- forgetting
module _ {h : Caller} {time : Float} {k l : ℕ} {x y : Caller} (p : DropNumber h time k x) (q : DropNumber h time l y) where
  pub drop-decided : k ≡ l
  drop-decided =
      below (room_of (as_blocks h)) h.entries (λ i. same (p.many-entries i) (q.many-entries i))
      (λ i.
      below (room_of (as_blocks h)) h.samples (λ j. same (p.many-samples j) (q.many-samples j))
      (λ j.
      test (sound_directory (directory h))
      (λ e. test (finite time) (λ f. same (p.dropped i j e f) (q.dropped i j e f)) (λ f. same (p.bad-time i j e f) (q.bad-time i j e f)))
      (λ e. same (p.not_sound i j e) (q.not_sound i j e))))

-- ---- the rearrangements
module _ {n : ℕ} {t : Columns} {b x y : Blocks} {m i j k l : ℕ} (p : FilesNumber n t b x m i k) (q : FilesNumber n t b y m j l) where
  pub files-decided : k ≡ l
  files-decided =
      below (table_room t) n (λ g. same (p.many-samples g) (q.many-samples g))
      (λ g.
      below (entry_room b) n (λ h. same (p.short-directory h) (q.short-directory h))
      (λ h. test (sound_table (table_of n t)) (λ e. same (p.filed g h e) (q.filed g h e)) (λ e. same (p.not_sound g h e) (q.not_sound g h e))))

module _ {m n : ℕ} {b : Blocks} {t x y : Columns} {k l : ℕ} (p : ListsNumber m n b t x k) (q : ListsNumber m n b t y l) where
  pub lists-decided : k ≡ l
  lists-decided =
      below (room_of b) m (λ h. same (p.many-entries h) (q.many-entries h))
      (λ h.
      below (room_of b) n (λ i. same (p.many-samples i) (q.many-samples i))
      (λ i.
      below (signal_room t) n (λ j. same (p.short-signals j) (q.short-signals j))
      (λ j.
      test (sound_directory (directory_in m n b)) (λ e. same (p.listed h i j e) (q.listed h i j e)) (λ e. same (p.not_sound h i j e) (q.not_sound h i j e)))))

-- ---- bands of 8 bits
module _ {n : ℕ} {narrow wide x y : List ℕ} {k l : ℕ} (p : WidenNumber n narrow wide x k) (q : WidenNumber n narrow wide y l) where
  pub widen-decided : k ≡ l
  widen-decided =
      below 2048 n (λ h. same (p.many-bands h) (q.many-bands h))
      (λ h.
      below (length narrow) n (λ i. same (p.short-narrow i) (q.short-narrow i))
      (λ i. below (length wide) n (λ j. same (p.short-wide j) (q.short-wide j)) (λ j. same (p.widened h i j) (q.widened h i j))))

-- ---- an added epoch
module _ {h : Caller} {e : Epoch} {k l : ℕ} {x y : Caller} (p : AddNumber h e k x) (q : AddNumber h e l y) where
  abbrev space : ℕ
  space = room_of (as_blocks h)

  fits : (EpochFits h e → k ≡ l) → k ≡ l
  fits go =
      below space h.entries (λ a. same (p.many-entries a) (q.many-entries a))
      (λ a.
      below space h.samples (λ b. same (p.many-samples b) (q.many-samples b))
      (λ b.
      below (range_room e) e.ranges (λ c. same (p.many-ranges c) (q.many-ranges c))
      (λ c.
      below (state_room e) (states_counted e) (λ d. same (p.many-states d) (q.many-states d))
      (λ d.
      below (length e.state-floats) (states_counted e * 8) (λ f. same (p.short-floats f) (q.short-floats f))
      (λ f. go (record { entries = a; samples = b; ranges = c; states = d; floats = f }))))))

  settings : EpochFits h e → (SettingsPass e → k ≡ l) → k ≡ l
  settings f go =
      test (in_range e.settings.max_gap)
      (λ a. test (in_range e.settings.max_correction) (λ b. go (record { gap = a; correction = b })) (λ b. same (p.bad-correction f b) (q.bad-correction f b)))
      (λ a. same (p.bad-gap f a) (q.bad-gap f a))

  records : EpochFits h e → SettingsPass e → (RecordsPass h e → k ≡ l) → k ≡ l
  records f s go =
      test (records_in_range (base_epoch e) (states_beside e) e.base e.rover)
      (λ a. test (sound_directory (directory h)) (λ b. go (record { records = a; sound = b })) (λ b. same (p.not_sound f s b) (q.not_sound f s b)))
      (λ a. same (p.bad_record f s a) (q.bad_record f s a))

  pub add-decided : k ≡ l
  add-decided =
      fits
      (λ f.
      settings f
      (λ s.
      records f s
      (λ r.
      below space (h.samples + length (new_samples e)) (λ a. same (p.full f s r a) (q.full f s r a)) (λ a. same (p.added f s r a) (q.added f s r a)))))
