-- The entries of a sound directory and their blocks, place by place in the columns. Assumes nothing.
use mathlib.Core.Path.{◌≡◌, refl, sym, ap, ◌∙◌, subst}
use mathlib.Core.List.{List, [], ◌∷◌, map}
use mathlib.Core.Bool.{Bool, true, false}
use Prim.Native.Nat.{ℕ, zero, suc, ◌+◌, ◌-◌, ◌≤◌, ◌<◌}
use native.Mathlib.Nat.{not-suc-le-zero, le_of_suc-le-suc, le_trans, le_refl}
use native.Mathlib.Omega.{arith}
use lib.Dec.{T, eqb, ltb, leb}
use lib.ListN.{length, get_or, take, drop, length-map, get_or-map}
use lib.Seq.{get_or-take, length-take-le, take-take}
use borrow.Author.Tests.{ltb-true, ltb-false, leb-true, leb-false, le-leb, eq-eqb, ne_eqb}
use lib.Ieee.{Float, nan, fits, binary64}
use Rattle.lists.specs.Walk.{every, first}
use Rattle.numeric.specs.Real.{in_range}
use Rattle.signal.specs.Signal.{signal}
use Rattle.corrections_table.specs.Table.{blank}
use Rattle.corrections_table.specs.declared.sample.Sample.{Sample}
use Rattle.corrections_table.proofs.Places.{time_key}
use Rattle.corrections_table.proofs.TableLaws.{and_left, and_right}
use Rattle.corrections_table.proofs.UnitLaws.{earlier-of}
use Rattle.corrections_directory.specs.Directory.{Entry, Reading, Blocks, block, block_times, directory_in, entries_in, flat, in_reach, reading_of, reading_rows, readings_in, sample_of, signal_in, sound_directory, timely}
use Rattle.corrections_directory.specs.Steps.{no_entry}
use Rattle.corrections_directory.proofs.DirectoryLaws.{sound-parts, flat-readings, keyed, block-keyed}
use Rattle.corrections_directory.proofs.SeriesLaws.{block_of}
use Rattle.corrections_directory.proofs.SoundLaws.{part-is, tiles-at}
use Rattle.corrections_directory.proofs.EntryLaws.{ascends-at, block-length, block_at}
use Rattle.corrections_directory.proofs.ColumnLaws.{entry-at, no_reading, reading-at}
use Rattle.corrections_query.specs.Steps.{Split, Falling, is_up_to, is_before}
use Rattle.corrections_query.proofs.QueryLaws.{TimesHeld}

-- ---- lists by their places
every-at : {A : Type 0} (q : A → Bool) (d : A) (l : List A) (i : ℕ) → every q l ≡ true → i < length l → q (get_or l i d) ≡ true
unfolding every
every-at q d [] i e h = absurd (not-suc-le-zero h)
every-at q d (x ∷ l) zero e h = and_left _ _ e
every-at q d (x ∷ l) (suc i) e h = every-at q d l i (and_right (q x) _ e) (le_of_suc-le-suc h)

-- ---- the entries

-- the first entry that passes a test
first-at : {B : Type 0} (q : Entry → Bool) (f : Entry → B) (b : B) (es : List Entry) (i : ℕ) → i < length es → ((j : ℕ) → j < i → q (get_or es j no_entry) ≡ false) → q (get_or es i no_entry) ≡ true → first q f b es ≡ f (get_or es i no_entry)
unfolding first
first-at q f b [] i h nay yea = absurd (not-suc-le-zero h)
first-at q f b (e ∷ es) zero h nay yea = rw yea
first-at q f b (e ∷ es) (suc i) h nay yea = rw (nay 0 (omega arith)) (first-at q f b es i (le_of_suc-le-suc h) (λ j k. nay (suc j) (omega arith)) yea)

first-none : {B : Type 0} (q : Entry → Bool) (f : Entry → B) (b : B) (es : List Entry) → ((j : ℕ) → j < length es → q (get_or es j no_entry) ≡ false) → first q f b es ≡ b
unfolding first
first-none q f b [] nay = refl
first-none q f b (e ∷ es) nay = rw (nay 0 (omega arith)) (first-none q f b es (λ j k. nay (suc j) (omega arith)))

-- ---- a block's samples lie in the columns of times and corrections from the start on
pub record Lies (l : List Sample) (ts xs : List Float) (start count : ℕ) : Type 0 where
  pub long : length l ≡ count
  pub time : (j : ℕ) → j < count → (get_or l j blank).time ≡ get_or ts (start + j) nan
  pub value : (j : ℕ) → j < count → (get_or l j blank).correction ≡ get_or xs (start + j) nan

-- the block of an entry in the two columns
pub lies_at : (ts xs : List Float) (e : Entry) (first count : ℕ) → e.start ≡ first → e.count ≡ count → first + count ≤ length (reading_rows ts xs)
    → Lies (block (reading_rows ts xs) e) ts xs first count
lies_at ts xs e first count f k h =
    rw (← f, ← k)
    (record {
      long = block-length (reading_rows ts xs) e (omega arith);
      time = λ j l. ap (λ (x : Sample). x.time) (at j l);
      value = λ j l. ap (λ (x : Sample). x.correction) (at j l);
    })
  where
    at : (j : ℕ) → j < e.count → get_or (block (reading_rows ts xs) e) j blank ≡ sample_of e (record { time = get_or ts (e.start + j) nan; correction = get_or xs (e.start + j) nan })
    at j l = block_at (reading_rows ts xs) e j (omega arith) l ∙ ap (sample_of e) (sym (reading-at ts xs (e.start + j) (omega arith)))

-- a block within the first n readings does not depend on those after them
pub block-whole : (rs : List Reading) (n : ℕ) (e : Entry) → n ≤ length rs → e.start + e.count ≤ n → block rs e ≡ block (take n rs) e
unfolding block
block-whole rs n e h k =
    ap (map (sample_of e))
    (part-is e.start e.count rs (omega arith)
    ∙ ap (drop e.start) (sym (take-take (e.start + e.count) n rs k))
    ∙ sym (part-is e.start e.count (take n rs) (omega (arith, length-take-le n rs h))))

-- times in order, by their places
keyed-from : (k : ℕ) (l : List Sample) (j : ℕ) → keyed k l ≡ true → j < length l → k ≤ time_key (get_or l j blank).time
unfolding keyed
keyed-from k [] j e h = absurd (not-suc-le-zero h)
keyed-from k (s ∷ l) zero e h = leb-true k (time_key s.time) (and_left _ _ e)
keyed-from k (s ∷ l) (suc j) e h =
    le_trans (leb-true k (time_key s.time) (and_left _ _ e)) (keyed-from (time_key s.time) l j (and_right (leb k (time_key s.time)) _ e) (le_of_suc-le-suc h))

keyed-at : (k : ℕ) (l : List Sample) (i j : ℕ) → keyed k l ≡ true → i ≤ j → j < length l → time_key (get_or l i blank).time ≤ time_key (get_or l j blank).time
unfolding keyed
keyed-at k [] i j e g h = absurd (not-suc-le-zero h)
keyed-at k (s ∷ l) zero zero e g h = le_refl (time_key s.time)
keyed-at k (s ∷ l) zero (suc j) e g h = keyed-from (time_key s.time) l j (and_right (leb k (time_key s.time)) _ e) (le_of_suc-le-suc h)
keyed-at k (s ∷ l) (suc i) zero e g h = absurd (not-suc-le-zero g)
keyed-at k (s ∷ l) (suc i) (suc j) e g h = keyed-at (time_key s.time) l i j (and_right (leb k (time_key s.time)) _ e) (le_of_suc-le-suc g) (le_of_suc-le-suc h)

reach-time : (r : Reading) → in_reach r ≡ true → in_range r.time ≡ true
unfolding in_reach
reach-time r e = and_left _ _ e

-- ---- a sound directory of m entries and n samples in lent columns
module _ (m n : ℕ) (l : Blocks) (fm : m ≤ length (entries_in l)) (fn : n ≤ length (readings_in l)) (s : sound_directory (directory_in m n l) ≡ true) where
  entries : length (take m (entries_in l)) ≡ m
  entries = length-take-le m (entries_in l) fm

  readings : length (take n (readings_in l)) ≡ n
  readings = length-take-le n (readings_in l) fn

  taken : (i : ℕ) → i < m → get_or (take m (entries_in l)) i no_entry ≡ get_or (entries_in l) i no_entry
  taken i h = get_or-take m (entries_in l) i no_entry h

  read : (i : ℕ) → i < n → get_or (take n (readings_in l)) i no_reading ≡ record { time = get_or l.times i nan; correction = get_or l.corrections i nan }
  read i h = get_or-take n (readings_in l) i no_reading h ∙ sym (reading-at l.times l.corrections i (omega arith))

  in-range : (i : ℕ) → i < n → in_range (get_or l.times i nan) ≡ true
  in-range i h =
      ap (λ (r : Reading). in_range r.time) (sym (read i h))
      ∙ reach-time (get_or (take n (readings_in l)) i no_reading) (every-at in_reach no_reading (take n (readings_in l)) i (sound-parts (directory_in m n l) s).in_reach (omega (arith, readings)))

  -- the entry's satellite, first sample and count
  pub is : (i : ℕ) → i < m → ◌≡◌ {A = Entry} (record { constellation = get_or l.constellations i 0; svid = get_or l.svids i 0; band = get_or l.bands i 0; start = get_or l.firsts i 0; count = get_or l.counts i 0 }) (get_or (entries_in l) i no_entry)
  is i h = entry-at l.constellations l.svids l.bands l.firsts l.counts i (omega arith)

  signal-is : (i : ℕ) → i < m → signal (get_or l.constellations i 0) (get_or l.svids i 0) (get_or l.bands i 0) ≡ signal_in (get_or (take m (entries_in l)) i no_entry)
  signal-is i h = ap signal_in (is i h) ∙ ap signal_in (sym (taken i h))

  rising : (i j : ℕ) → i < j → j < m → signal_in (get_or (take m (entries_in l)) i no_entry) < signal_in (get_or (take m (entries_in l)) j no_entry)
  rising i j h k = ascends-at 0 (take m (entries_in l)) i j (sound-parts (directory_in m n l) s).ascending h (omega (arith, entries))

  -- the signals rise, so those up to one are the first
  pub falling-signals : (g : ℕ) → Falling (is_up_to l.constellations l.svids l.bands g) 1 m
  falling-signals g = record { down = λ i j f h k e. go i j h k e (ltb i j) refl }
    where
      go : (i j : ℕ) → i ≤ j → j < m → is_up_to l.constellations l.svids l.bands g j ≡ true → (x : Bool) → ltb i j ≡ x → is_up_to l.constellations l.svids l.bands g i ≡ true
      go i j h k e true q =
          let low = rising i j (ltb-true i j q) k in
          let top = leb-true (signal (get_or l.constellations j 0) (get_or l.svids j 0) (get_or l.bands j 0)) g e in
          le-leb (signal (get_or l.constellations i 0) (get_or l.svids i 0) (get_or l.bands i 0)) g (between (signal-is i (omega arith)) (signal-is j k) low top)
        where
          between : {a b a' b' : ℕ} → a ≡ a' → b ≡ b' → a' < b' → b ≤ g → a ≤ g
          between p q r t = omega arith
      go i j h k e false q = let z : j ≡ i = omega (arith, ltb-false i j q) in subst (λ x. is_up_to l.constellations l.svids l.bands g x ≡ true) z e

  module _ (i : ℕ) (im : i < m) where
    tiled : (get_or l.firsts i 0 + get_or l.counts i 0 ≤ n) × (0 < get_or l.counts i 0)
    tiled =
        let h = tiles-at 0 (length (take n (readings_in l))) (take m (entries_in l)) i (sound-parts (directory_in m n l) s).tiled (omega (arith, entries)) in
        let e = is i im ∙ sym (taken i im) in
        let f = ap (λ (x : Entry). x.start) e in
        let k = ap (λ (x : Entry). x.count) e in
        (omega (arith, h.within, f, k, readings), omega (arith, h.filled, k))

    pub inside : get_or l.firsts i 0 + get_or l.counts i 0 ≤ n
    inside = tiled.0

    pub filled : 0 < get_or l.counts i 0
    filled = tiled.1

    pub lies : Lies (block (take n (readings_in l)) (get_or (entries_in l) i no_entry)) l.times l.corrections (get_or l.firsts i 0) (get_or l.counts i 0)
    lies = rw (← (is i im)) (here (record { constellation = get_or l.constellations i 0; svid = get_or l.svids i 0; band = get_or l.bands i 0; start = get_or l.firsts i 0; count = get_or l.counts i 0 }) inside)
      where
        here : (e : Entry) → e.start + e.count ≤ n → Lies (block (take n (readings_in l)) e) l.times l.corrections e.start e.count
        here e h = record { long = block-length (take n (readings_in l)) e (omega (arith, readings)); time = λ j k. ap (λ (x : Sample). x.time) (at j k); value = λ j k. ap (λ (x : Sample). x.correction) (at j k) }
          where
            at : (j : ℕ) → j < e.count → get_or (block (take n (readings_in l)) e) j blank ≡ sample_of e (record { time = get_or l.times (e.start + j) nan; correction = get_or l.corrections (e.start + j) nan })
            at j k = block_at (take n (readings_in l)) e j (omega (arith, readings)) k ∙ ap (sample_of e) (read (e.start + j) (omega arith))

    ordered : keyed 0 (block (take n (readings_in l)) (get_or (entries_in l) i no_entry)) ≡ true
    ordered =
        sym (block-keyed (take n (readings_in l)) (get_or (entries_in l) i no_entry))
        ∙ ap (λ (e : Entry). timely (block_times (take n (readings_in l)) e)) (sym (taken i im))
        ∙ every-at (λ e. timely (block_times (take n (readings_in l)) e)) no_entry (take m (entries_in l)) i (sound-parts (directory_in m n l) s).ordered (omega (arith, entries))

    -- the times of a block rise, so those before a time are the first
    pub falling-times : ((j : ℕ) → T (fits binary64 (get_or l.times j nan))) → (t : Float) → T (fits binary64 t) → Falling (is_before l.times t) (get_or l.firsts i 0) (get_or l.firsts i 0 + get_or l.counts i 0)
    falling-times held t ft = record { down = go }
      where
        key : (j : ℕ) → get_or l.firsts i 0 ≤ j → j < get_or l.firsts i 0 + get_or l.counts i 0
            → time_key (get_or (block (take n (readings_in l)) (get_or (entries_in l) i no_entry)) (j - get_or l.firsts i 0) blank).time ≡ time_key (get_or l.times j nan)
        key j f k =
            let e : get_or l.firsts i 0 + (j - get_or l.firsts i 0) ≡ j = omega arith in
            ap time_key (lies.time (j - get_or l.firsts i 0) (omega arith) ∙ ap (λ (x : ℕ). get_or l.times x nan) e)

        go : (j k : ℕ) → get_or l.firsts i 0 ≤ j → j ≤ k → k < get_or l.firsts i 0 + get_or l.counts i 0 → is_before l.times t k ≡ true → is_before l.times t j ≡ true
        go j k f h b e =
            let keys = keyed-at 0 (block (take n (readings_in l)) (get_or (entries_in l) i no_entry)) (j - get_or l.firsts i 0) (k - get_or l.firsts i 0) ordered (omega arith) (omega (arith, lies.long)) in
            let p = key j f (omega arith) in
            let q = key k (omega arith) b in
            earlier-of (get_or l.times j nan) (get_or l.times k nan) t (held j) (held k) ft (in-range j (omega (arith, inside))) (in-range k (omega (arith, inside))) (omega (arith, keys, p, q)) e

  -- ---- the block of a signal, found or not
  module _ (g : ℕ) where
    abbrev mine : ℕ → Type 0
    mine j = signal (get_or l.constellations j 0) (get_or l.svids j 0) (get_or l.bands j 0) ≡ g

    pub no_block : ((j : ℕ) → j < m → signal (get_or l.constellations j 0) (get_or l.svids j 0) (get_or l.bands j 0) ≡ g → ⊥) → block_of (directory_in m n l) g ≡ []
    unfolding block_of
    no_block nay =
        first-none (λ e. eqb (signal_in e) g) (block (take n (readings_in l))) [] (take m (entries_in l))
        (λ j h. let k : j < m = omega (arith, entries) in ne_eqb (signal_in (get_or (take m (entries_in l)) j no_entry)) g (λ q. nay j k (signal-is j k ∙ q)))

    module _ (e : ℕ) (em : e < m) (split : Split (is_up_to l.constellations l.svids l.bands g) 1 m (e + 1)) where
      -- the last entry up to the signal is of another one
      pub block-other : (signal (get_or l.constellations e 0) (get_or l.svids e 0) (get_or l.bands e 0) ≡ g → ⊥) → block_of (directory_in m n l) g ≡ []
      block-other ne = no_block (λ j k q. go j k q (ltb j e) (ltb e j) refl refl)
        where
          go : (j : ℕ) → j < m → signal (get_or l.constellations j 0) (get_or l.svids j 0) (get_or l.bands j 0) ≡ g → (x y : Bool) → ltb j e ≡ x → ltb e j ≡ y → ⊥
          go j k q true y u v =
              let b : j < e = ltb-true j e u in
              let upto = leb-true (signal (get_or l.constellations e 0) (get_or l.svids e 0) (get_or l.bands e 0)) g (split.front e (omega arith) (omega arith)) in
              let more = rising j e b em in
              omega (arith, upto, more, signal-is e em, signal-is j k, q)
          go j k q false true u v =
              let b : e < j = ltb-true e j v in
              let above = leb-false (signal (get_or l.constellations j 0) (get_or l.svids j 0) (get_or l.bands j 0)) g (split.back j (omega arith) k) in
              omega (arith, above, q)
          go j k q false false u v = let z : j ≡ e = omega (arith, ltb-false j e u, ltb-false e j v) in ne (subst mine z q)

      -- or it is the signal's
      pub block-found : signal (get_or l.constellations e 0) (get_or l.svids e 0) (get_or l.bands e 0) ≡ g → block_of (directory_in m n l) g ≡ block (take n (readings_in l)) (get_or (entries_in l) e no_entry)
      unfolding block_of
      block-found q =
          first-at (λ e. eqb (signal_in e) g) (block (take n (readings_in l))) [] (take m (entries_in l)) e (omega (arith, entries))
          (λ j h. let more = rising j e h em in ne_eqb (signal_in (get_or (take m (entries_in l)) j no_entry)) g (λ u. let z : ⊥ = omega (arith, more, signal-is e em, q, u) in z))
          (eq-eqb (signal_in (get_or (take m (entries_in l)) e no_entry)) g (sym (signal-is e em) ∙ q))
          ∙ ap (block (take n (readings_in l))) (taken e em)

  -- every time of the table that the directory stands for is a value of the format
  pub held-flat : ((j : ℕ) → T (fits binary64 (get_or l.times j nan))) → TimesHeld (flat (directory_in m n l))
  unfolding TimesHeld
  held-flat held j h =
      let e = flat-readings (directory_in m n l) s in
      let k : j < n = omega (arith, length-map (flat (directory_in m n l)) reading_of, ap length e, readings) in
      let p : reading_of (get_or (flat (directory_in m n l)) j blank) ≡ get_or (take n (readings_in l)) j no_reading = sym (get_or-map reading_of (flat (directory_in m n l)) j blank) ∙ ap (λ (x : List Reading). get_or x j no_reading) e in
      let q = ap (λ (r : Reading). r.time) (p ∙ read j k) in
      subst (λ (x : Float). T (fits binary64 x)) (sym q) (held j)
