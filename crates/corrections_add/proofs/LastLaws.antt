-- The last entry of the first blocks with the first of sorted new samples: an old block as it is, an old block with new samples, or a block of new ones. Assumes nothing.
use mathlib.Core.Path.{◌≡◌, refl, sym, ap, ◌∙◌}
use mathlib.Core.List.{List, [], ◌∷◌, ◌++◌, map, append_assoc, append-nil}
use mathlib.Core.Bool.{Bool, true, false, cond, not}
use Prim.Native.Nat.{ℕ, zero, suc, ◌+◌, ◌*◌, ◌^◌, ◌-◌, ◌≤◌, ◌<◌}
use native.Mathlib.Omega.{arith}
use lib.Dec.{ltb}
use lib.ListN.{length, get_or, take, drop, length-append, length-drop, length-map, take-append-drop}
use lib.Seq.{get_or-drop, get_or-take, length-take-le, take-suc, take-take}
use borrow.Author.Tests.{ltb-true, lt-ltb, eq-eqb}
use Rattle.lists.specs.Walk.{collect, every}
use Rattle.corrections_table.specs.Table.{blank, signal_of, stands_before}
use Rattle.corrections_table.specs.Add.{insert_all}
use Rattle.corrections_table.specs.declared.sample.Sample.{Sample}
use Rattle.corrections_table.proofs.TableLaws.{and_left, and_right, rises-at}
use Rattle.corrections_table.proofs.Places.{time_key, rises, key-lt}
use Rattle.corrections_table.proofs.SeriesLaws.{insert_all-append}
use Rattle.corrections_table.proofs.InsertLaws.{insert_all-length}
use Rattle.corrections_directory.specs.Directory.{Entry, Reading, ascends, block, entries_from, entry_of, is_mine, joined, reading_of, sample_of, signal_in, tiles}
use Rattle.corrections_directory.specs.Steps.{no_entry}
use Rattle.corrections_directory.proofs.DirectoryLaws.{Same, same_of, run}
use Rattle.corrections_directory.proofs.NarrowLaws.{Narrow, same-signal, signal-same}
use Rattle.corrections_directory.proofs.SoundLaws.{tiles-at}
use Rattle.corrections_directory.proofs.EntryLaws.{ascends-at, block-length, tiles-first, tiles-next}
use Rattle.corrections_add.specs.Steps.{Lies, blocks_up_to, entries_up_to}
use Rattle.corrections_add.proofs.SortLaws.{signal-before, signal-after, every-all, every_append, every-insert_all, insert_all-left, insert_all-right}

-- the entry with another first sample and count
abbrev pub entry_at : Entry → ℕ → ℕ → Entry
entry_at e place n = record { constellation = e.constellation; svid = e.svid; band = e.band; start = place; count = n }

-- ---- a run of one satellite at the end
only-map : (e : Entry) (x : List Sample) → every (λ s. is_mine s e) x ≡ true → map (sample_of e) (map reading_of x) ≡ x
unfolding every
only-map e [] h = refl
only-map e (s ∷ x) h = rw (one (same_of s e (and_left (is_mine s e) _ h)), only-map e x (and_right (is_mine s e) _ h))
  where
    one : Same s e → sample_of e (reading_of s) ≡ s
    one q = rw (← q.constellations, ← q.svids, ← q.bands)

run_alone : (e : Entry) (place : ℕ) (x : List Sample) → every (λ s. is_mine s e) x ≡ true → 0 < length x → entries_from place x ≡ entry_at e place (length x) ∷ []
run_alone e place [] h l = absurd (omega arith)
run_alone e place (s ∷ x) h l =
    ap (entries_from place) (sym (only-map e (s ∷ x) h) ∙ sym (append-nil (map (sample_of e) (map reading_of (s ∷ x)))))
    ∙ run e place (reading_of s) (map reading_of x) [] [] (unfold entries_from in refl) (unfold ascends in refl)
    ∙ ap (λ (n : ℕ). entry_at e place (suc n) ∷ []) (length-map x reading_of)

joined_end : (s : Sample) (place : ℕ) (es : List Entry) (f : Entry) → is_mine s f ≡ false → joined s place (es ++ (f ∷ [])) ≡ joined s place es ++ (f ∷ [])
unfolding joined
joined_end s place [] f h = rw h
joined_end s place (e ∷ es) f h = go (is_mine s e)
  where
    go : (x : Bool) → cond x (entry_of s place (suc e.count) ∷ es ++ (f ∷ [])) (entry_of s place 1 ∷ e ∷ es ++ (f ∷ [])) ≡ cond x (entry_of s place (suc e.count) ∷ es) (entry_of s place 1 ∷ e ∷ es) ++ (f ∷ [])
    go true = refl
    go false = refl

entries-end : (e : Entry) (place : ℕ) (m x : List Sample) → every (λ s. not (is_mine s e)) m ≡ true → every (λ s. is_mine s e) x ≡ true → 0 < length x
    → entries_from place (m ++ x) ≡ entries_from place m ++ (entry_at e (place + length m) (length x) ∷ [])
unfolding entries_from
entries-end e place [] x n h l =
    let z : place + 0 ≡ place = omega arith in
    rw z (run_alone e place x h l)
entries-end e place (s ∷ m) x n h l =
    let z : suc place + length m ≡ place + suc (length m) = omega arith in
    let no : is_mine s e ≡ false = borrow.Author.Tests.not-true (is_mine s e) (and_left (not (is_mine s e)) (every (λ s. not (is_mine s e)) m) (unfold every in n)) in
    let rest : every (λ s. not (is_mine s e)) m ≡ true = and_right (not (is_mine s e)) (every (λ s. not (is_mine s e)) m) (unfold every in n) in
    ap (joined s place) (entries-end e (suc place) m x rest h l ∙ ap (λ (k : ℕ). entries_from (suc place) m ++ (entry_at e k (length x) ∷ [])) z)
    ∙ joined_end s place (entries_from (suc place) m) (entry_at e (place + suc (length m)) (length x)) no

-- ---- the last block of an addition
every-pairs : (p q : Sample → Bool) (r : Sample → Sample → Bool) (l b : List Sample) → ((s a : Sample) → p s ≡ true → q a ≡ true → r s a ≡ true) → every p l ≡ true → every q b ≡ true → every (λ s. every (r s) b) l ≡ true
unfolding every
every-pairs p q r [] b f h k = refl
every-pairs p q r (s ∷ l) b f h k = rw (row b k) (every-pairs p q r l b f (and_right (p s) _ h) k)
  where
    row : (b : List Sample) → every q b ≡ true → every (r s) b ≡ true
    row [] k = refl
    row (a ∷ b) k = rw (f s a (and_left (p s) _ h) (and_left (q a) _ k)) (row b (and_right (q a) _ k))

every-weak : (p q : Sample → Bool) (l : List Sample) → ((s : Sample) → p s ≡ true → q s ≡ true) → every p l ≡ true → every q l ≡ true
unfolding every
every-weak p q [] f h = refl
every-weak p q (s ∷ l) f h = rw (f s (and_left (p s) _ h)) (every-weak p q l f (and_right (p s) _ h))

module _ (e : Entry) (t b low own : List Sample) where
  below : Sample → Bool
  below s = ltb (signal_of s) (signal_in e)

  pub last_block : every (λ s. ltb (signal_of s) (signal_in e)) t ≡ true → every (λ s. ltb (signal_of s) (signal_in e)) low ≡ true → every (λ s. is_mine s e) b ≡ true → every (λ s. is_mine s e) own ≡ true → 0 < length b + length own
      → entries_from 0 (insert_all (t ++ b) (low ++ own)) ≡ entries_from 0 (insert_all t low) ++ (entry_at e (length t + length low) (length b + length own) ∷ [])
  unfolding below
  last_block ht hl hb ho h =
      let m = insert_all t low in
      let x = insert_all b own in
      let hm : every below m ≡ true = every-insert_all below t low ht hl in
      let hx : every (λ s. is_mine s e) x ≡ true = every-insert_all (λ s. is_mine s e) b own hb ho in
      let n : length x ≡ length b + length own = insert_all-length b own in
      ap (entries_from 0)
      (insert_all-append (t ++ b) low own
      ∙ ap (λ (k : List Sample). insert_all k own) (insert_all-left t b low (every-pairs below (λ s. is_mine s e) stands_before low b (λ s a p q. under s a p q) hl hb))
      ∙ insert_all-right m b own (every-pairs (λ s. is_mine s e) below (λ s a. not (stands_before s a)) own m (λ s a p q. over s a p q) ho hm))
      ∙ entries-end e 0 m x (every-weak below (λ s. not (is_mine s e)) m (λ s p. others s p) hm) hx (omega (arith, n, h))
      ∙ ap (λ (k : ℕ). entries_from 0 m ++ (entry_at e k (length x) ∷ [])) (zero-sum (length m) ∙ insert_all-length t low)
      ∙ ap (λ (k : ℕ). entries_from 0 m ++ (entry_at e (length t + length low) k ∷ [])) n
    where
      zero-sum : (k : ℕ) → 0 + k ≡ k
      zero-sum k = omega arith

      under : (s a : Sample) → ltb (signal_of s) (signal_in e) ≡ true → is_mine a e ≡ true → stands_before s a ≡ true
      under s a p q = signal-before s a (rw (signal-same a e q) (ltb-true (signal_of s) (signal_in e) p))

      over : (s a : Sample) → is_mine s e ≡ true → ltb (signal_of a) (signal_in e) ≡ true → not (stands_before s a) ≡ true
      over s a p q = rw (signal-after s a (rw (signal-same s e p) (ltb-true (signal_of a) (signal_in e) q)))

      others : (s : Sample) → ltb (signal_of s) (signal_in e) ≡ true → not (is_mine s e) ≡ true
      others s p = go (is_mine s e) refl
        where
          go : (x : Bool) → is_mine s e ≡ x → not x ≡ true
          go true q = let z : signal_of s ≡ signal_in e = signal-same s e q in let l : signal_of s < signal_in e = ltb-true (signal_of s) (signal_in e) p in absurd (omega arith)
          go false q = refl

-- ---- the first blocks of a directory
collect-end : {A : Type 0} (f : A → List Sample) (l : List A) (a : A) → collect f (l ++ (a ∷ [])) ≡ collect f l ++ f a
unfolding collect
collect-end f [] a = append-nil (f a)
collect-end f (x ∷ l) a = ap (λ (m : List Sample). f x ++ m) (collect-end f l a) ∙ sym (append_assoc (f x) (collect f l) (f a))

pub upto-suc : (rs : List Reading) (es : List Entry) (i : ℕ) → i < length es → blocks_up_to rs es (suc i) ≡ blocks_up_to rs es i ++ block rs (get_or es i no_entry)
upto-suc rs es i h = ap (collect (block rs)) (take-suc es i no_entry h) ∙ collect-end (block rs) (take i es) (get_or es i no_entry)

pub lies_fewer : {rs : List Reading} {es : List Entry} {i : ℕ} (k : ℕ) → k ≤ i → Lies rs es i → Lies rs es k
lies_fewer k h l = record { few = omega (arith, l.few); starts = λ x m. l.starts x (omega arith); ends = λ x m. l.ends x (omega arith); filled = λ x m. l.filled x (omega arith) }

module _ (rs : List Reading) (es : List Entry) where
  pub upto-length : (i : ℕ) → Lies rs es (suc i) → length (blocks_up_to rs es (suc i)) ≡ (get_or es i no_entry).start + (get_or es i no_entry).count
  upto-length i l =
      ap length (upto-suc rs es i l.few) ∙ length-append (blocks_up_to rs es i) (block rs (get_or es i no_entry)) ∙ rw (l.starts i (omega arith), block-length rs (get_or es i no_entry) (l.ends i (omega arith)))

  pub lies-of : tiles 0 (length rs) es ≡ true → Lies rs es (length es)
  lies-of t =
      record {
        few = omega arith;
        starts = starts;
        ends = λ x h. (tiles-at 0 (length rs) es x t h).within;
        filled = λ x h. (tiles-at 0 (length rs) es x t h).filled;
      }
    where
      none : length (blocks_up_to rs es 0) ≡ 0
      none = unfold collect in refl

      starts : (x : ℕ) → x < length es → length (blocks_up_to rs es x) ≡ (get_or es x no_entry).start
      starts zero h = none ∙ sym (tiles-first 0 (length rs) es t h)
      starts (suc x) h =
          ap length (upto-suc rs es x (omega arith)) ∙ length-append (blocks_up_to rs es x) (block rs (get_or es x no_entry))
          ∙ rw (starts x (omega arith), block-length rs (get_or es x no_entry) (tiles-at 0 (length rs) es x t (omega arith)).within) (sym (tiles-next 0 (length rs) es x t h))

  block-mine : (e : Entry) → every (λ s. is_mine s e) (block rs e) ≡ true
  unfolding block
  block-mine e = go (take e.count (drop e.start rs))
    where
      go : (l : List Reading) → every (λ s. is_mine s e) (map (sample_of e) l) ≡ true
      go [] = unfold every in refl
      go (r ∷ l) = step (go l)
        where
          step : every (λ s. is_mine s e) (map (sample_of e) l) ≡ true → every (λ s. is_mine s e) (map (sample_of e) (r ∷ l)) ≡ true
          step i = unfold every in rw (eq-eqb e.constellation e.constellation refl, eq-eqb e.svid e.svid refl, eq-eqb e.band e.band refl) i

  block-below : (g : ℕ) (e : Entry) → signal_in e < g → every (λ s. ltb (signal_of s) g) (block rs e) ≡ true
  block-below g e h = every-weak (λ s. is_mine s e) (λ s. ltb (signal_of s) g) (block rs e) (λ s q. lt-ltb (signal_of s) g (rw (signal-same s e q) h)) (block-mine e)

  -- the samples of the first blocks have signals below g where the last block has
  pub upto-below : (g i : ℕ) → ascends 0 es ≡ true → i ≤ length es → (0 < i → signal_in (get_or es (i - 1) no_entry) < g) → every (λ s. ltb (signal_of s) g) (blocks_up_to rs es i) ≡ true
  upto-below g zero a h k = unfold collect every in refl
  upto-below g (suc i) a h k =
      let l : signal_in (get_or es i no_entry) < g = let z : suc i - 1 ≡ i = omega arith in rw z at (k (omega arith)) in
      rw (upto-suc rs es i h)
      (every_append (λ s. ltb (signal_of s) g) (blocks_up_to rs es i) (block rs (get_or es i no_entry))
      (upto-below g i a (omega arith) (λ p. native.Mathlib.Nat.lt_trans (ascends-at 0 es (i - 1) i a (omega arith) h) l)) (block-below g (get_or es i no_entry) l))

-- ---- the first of sorted new samples
digit : (g h j k : ℕ) → k < 2 ^ 64 → g * 2 ^ 64 + j ≤ h * 2 ^ 64 + k → g ≤ h
digit g h j k l m = omega arith

pub signals-rise : (u : List Sample) (x y : ℕ) → rises 0 u ≡ true → x ≤ y → y < length u → signal_of (get_or u x blank) ≤ signal_of (get_or u y blank)
signals-rise u x y r h l =
    digit (signal_of (get_or u x blank)) (signal_of (get_or u y blank)) (time_key (get_or u x blank).time) (time_key (get_or u y blank).time) (key-lt (get_or u y blank).time) (rises-at 0 u x y r h l)

pub new-below : (g : ℕ) (u : List Sample) (j : ℕ) → rises 0 u ≡ true → j ≤ length u → (0 < j → signal_of (get_or u (j - 1) blank) < g) → every (λ s. ltb (signal_of s) g) (take j u) ≡ true
new-below g u j r h k =
    every-all (λ s. ltb (signal_of s) g) (take j u)
    (λ x m.
    let e : x < j = omega (arith, length-take-le j u h) in
    rw (get_or-take j u x blank e) (lt-ltb (signal_of (get_or u x blank)) g (native.Mathlib.Nat.lt_of_le_of_lt (signals-rise u x (j - 1) r (omega arith) (omega arith)) (k (omega arith)))))

-- the new samples from the place a up to the place j are of one satellite
pub group-mine : (e : Entry) (u : List Sample) (a j : ℕ) → j ≤ length u → ((x : ℕ) → a ≤ x → x < j → is_mine (get_or u x blank) e ≡ true) → every (λ s. is_mine s e) (drop a (take j u)) ≡ true
group-mine e u a j h f =
    every-all (λ s. is_mine s e) (drop a (take j u))
    (λ x m.
    let l : a + x < j = omega (arith, length-drop a (take j u), length-take-le j u h) in
    rw (get_or-drop a (take j u) x blank, get_or-take j u (a + x) blank l) (f (a + x) (omega arith) l))

-- a satellite is known by its signal
pub mine-by-signal : (s : Sample) (e : Entry) → Narrow s.svid s.band → Narrow e.svid e.band → signal_of s ≡ signal_in e → is_mine s e ≡ true
mine-by-signal s e h k z = go (is_mine s e) refl
  where
    go : (x : Bool) → is_mine s e ≡ x → x ≡ true
    go true q = refl
    go false q = absurd (same-signal s e h k q z)

-- ---- the last entry
module _ (rs : List Reading) (es : List Entry) (u : List Sample) (ae : ascends 0 es ≡ true) (ru : rises 0 u ≡ true) where
  parts : (a j : ℕ) → a ≤ j → take j u ≡ take a u ++ drop a (take j u)
  parts a j h = sym (ap (λ (m : List Sample). m ++ drop a (take j u)) (sym (take-take a j u h)) ∙ take-append-drop a (take j u))

  group-length : (a j : ℕ) → j ≤ length u → length (drop a (take j u)) ≡ j - a
  group-length a j h = length-drop a (take j u) ∙ ap (λ (k : ℕ). k - a) (length-take-le j u h)

  -- an old block, with the new samples from a to j, which are of its satellite, or with none
  pub last-old : (i a j : ℕ) → Lies rs es (suc i) → a ≤ j → j ≤ length u → (0 < a → signal_of (get_or u (a - 1) blank) < signal_in (get_or es i no_entry)) → ((x : ℕ) → a ≤ x → x < j → is_mine (get_or u x blank) (get_or es i no_entry) ≡ true)
      → entries_up_to rs es u (suc i) j ≡ entries_up_to rs es u i a ++ (entry_at (get_or es i no_entry) ((get_or es i no_entry).start + a) ((get_or es i no_entry).count + (j - a)) ∷ [])
  last-old i a j l h k low mine =
      let e = get_or es i no_entry in
      let n = block-length rs e (l.ends i (omega arith)) in
      let o = group-length a j k in
      ap (λ (m : List Sample). entries_from 0 (insert_all m (take j u))) (upto-suc rs es i l.few)
      ∙ ap (λ (m : List Sample). entries_from 0 (insert_all (blocks_up_to rs es i ++ block rs e) m)) (parts a j h)
      ∙ last_block e (blocks_up_to rs es i) (block rs e) (take a u) (drop a (take j u))
      (upto-below rs es (signal_in e) i ae (omega (arith, l.few)) (λ p. ascends-at 0 es (i - 1) i ae (omega arith) l.few))
      (new-below (signal_in e) u a ru (omega arith) low) (block-mine rs es e) (group-mine e u a j k mine) (omega (arith, n, l.filled i (omega arith)))
      ∙ rw (l.starts i (omega arith), length-take-le a u (omega arith), n, o)

  -- a block of new samples alone
  pub last-new : (e : Entry) (i a j : ℕ) → i ≤ length es → a < j → j ≤ length u → (0 < i → signal_in (get_or es (i - 1) no_entry) < signal_in e) → (0 < a → signal_of (get_or u (a - 1) blank) < signal_in e) → ((x : ℕ) → a ≤ x → x < j → is_mine (get_or u x blank) e ≡ true)
      → entries_up_to rs es u i j ≡ entries_up_to rs es u i a ++ (entry_at e (length (blocks_up_to rs es i) + a) (j - a) ∷ [])
  last-new e i a j l h k high low mine =
      let o = group-length a j k in
      ap (λ (m : List Sample). entries_from 0 (insert_all m (take j u))) (sym (append-nil (blocks_up_to rs es i)))
      ∙ ap (λ (m : List Sample). entries_from 0 (insert_all (blocks_up_to rs es i ++ []) m)) (parts a j (omega arith))
      ∙ last_block e (blocks_up_to rs es i) [] (take a u) (drop a (take j u)) (upto-below rs es (signal_in e) i ae l high) (new-below (signal_in e) u a ru (omega arith) low) (unfold every in refl) (group-mine e u a j k mine) (omega (arith, o))
      ∙ ap (λ (n : ℕ). entries_up_to rs es u i a ++ (entry_at e (length (blocks_up_to rs es i) + n) (0 + length (drop a (take j u))) ∷ [])) (length-take-le a u (omega arith))
      ∙ ap (λ (n : ℕ). entries_up_to rs es u i a ++ (entry_at e (length (blocks_up_to rs es i) + a) n ∷ [])) (let z : 0 + length (drop a (take j u)) ≡ j - a = omega (arith, o) in z)
