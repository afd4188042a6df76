-- The pass that trims the blocks of a directory, turn by turn. Assumes nothing.
use mathlib.Core.Path.{◌≡◌, refl, sym, ap, ◌∙◌}
use mathlib.Core.List.{List, [], ◌∷◌, ◌++◌, map, map-append}
use mathlib.Core.Bool.{true, false}
use Prim.Native.Nat.{ℕ, zero, suc, ◌+◌, ◌-◌, ◌≤◌, ◌<◌}
use native.Mathlib.Nat.{not-suc-le-zero, le_of_suc-le-suc}
use native.Mathlib.Omega.{arith}
use lib.ListN.{length, get_or, take, drop, set, length-drop, length-map, take-append-drop}
use lib.Seq.{drop-drop, length-take-le, take-take}
use lib.Ieee.{Float, nan, lt}
use Rattle.lists.specs.Walk.{collect}
use Rattle.lists.proofs.Walk.{left_at, left_end}
use Rattle.corrections_table.specs.Table.{blank}
use Rattle.corrections_table.specs.declared.sample.Sample.{Sample}
use Rattle.corrections_directory.specs.Directory.{Entry, Reading, Blocks, block, blocks_with, column_of, directory_in, entries_in, entry_rows, lent_blocks, reading_rows, readings_in, sound_directory, tiles}
use Rattle.corrections_directory.specs.Steps.{no_entry}
use Rattle.corrections_directory.specs.Series.{front}
use Rattle.corrections_directory.proofs.DirectoryLaws.{sound-parts, tiles-count, tiles-le, tiles-rest, tiles-start}
use Rattle.corrections_directory.proofs.ColumnLaws.{entries-length, entry-at, readings-length}
use Rattle.corrections_directory.proofs.SoundLaws.{part-is}
use Rattle.corrections_query.proofs.PlaceLaws.{Lies, lies}
use Rattle.corrections_forget.specs.Steps.{Outdated, moved_down}
use Rattle.corrections_forget.specs.Forget.{laid, retained, trimmed}
use Rattle.corrections_forget.proofs.MoveLaws.{Going, going-at, going-count, going_end, going-many, going-one, going_start}

-- ---- fields of rows are the columns
map-take : {A B : Type 0} (f : A → B) (i : ℕ) (l : List A) → map f (take i l) ≡ take i (map f l)
map-take f zero l = refl
map-take f (suc i) [] = refl
map-take f (suc i) (x ∷ l) = ap (λ (m : List _). f x ∷ m) (map-take f i l)

map-drop : {A B : Type 0} (f : A → B) (i : ℕ) (l : List A) → map f (drop i l) ≡ drop i (map f l)
map-drop f zero l = refl
map-drop f (suc i) [] = refl
map-drop f (suc i) (x ∷ l) = map-drop f i l

pub record Readings (n : ℕ) (ts xs : List Float) : Type 0 where
  pub times : map (λ (r : Reading). r.time) (take n (reading_rows ts xs)) ≡ take n ts
  pub corrections : map (λ (r : Reading). r.correction) (take n (reading_rows ts xs)) ≡ take n xs

readings-of : (n : ℕ) (ts xs : List Float) → n ≤ length (reading_rows ts xs) → Readings n ts xs
unfolding reading_rows
readings-of zero ts xs h = record { times = refl; corrections = refl }
readings-of (suc n) [] xs h = absurd (not-suc-le-zero h)
readings-of (suc n) (t ∷ ts) [] h = absurd (not-suc-le-zero h)
readings-of (suc n) (t ∷ ts) (x ∷ xs) h =
    let r = readings-of n ts xs (le_of_suc-le-suc h) in
    record { times = ap (λ (l : List Float). t ∷ l) r.times; corrections = ap (λ (l : List Float). x ∷ l) r.corrections }

record Signals (m : ℕ) (dc dv db df dn : List ℕ) : Type 0 where
  pub constellations : map (λ (e : Entry). e.constellation) (take m (entry_rows dc dv db df dn)) ≡ take m dc
  pub svids : map (λ (e : Entry). e.svid) (take m (entry_rows dc dv db df dn)) ≡ take m dv
  pub bands : map (λ (e : Entry). e.band) (take m (entry_rows dc dv db df dn)) ≡ take m db

signals-of : (m : ℕ) (dc dv db df dn : List ℕ) → m ≤ length (entry_rows dc dv db df dn) → Signals m dc dv db df dn
unfolding entry_rows
signals-of zero dc dv db df dn h = record { constellations = refl; svids = refl; bands = refl }
signals-of (suc m) [] dv db df dn h = absurd (not-suc-le-zero h)
signals-of (suc m) (c ∷ dc) [] db df dn h = absurd (not-suc-le-zero h)
signals-of (suc m) (c ∷ dc) (v ∷ dv) [] df dn h = absurd (not-suc-le-zero h)
signals-of (suc m) (c ∷ dc) (v ∷ dv) (b ∷ db) [] dn h = absurd (not-suc-le-zero h)
signals-of (suc m) (c ∷ dc) (v ∷ dv) (b ∷ db) (f ∷ df) [] h = absurd (not-suc-le-zero h)
signals-of (suc m) (c ∷ dc) (v ∷ dv) (b ∷ db) (f ∷ df) (n ∷ dn) h =
    let r = signals-of m dc dv db df dn (le_of_suc-le-suc h) in
    record {
      constellations = ap (λ (l : List ℕ). c ∷ l) r.constellations;
      svids = ap (λ (l : List ℕ). v ∷ l) r.svids;
      bands = ap (λ (l : List ℕ). b ∷ l) r.bands;
    }

-- a field of a part of the readings, in its column
part-column : {A : Type 0} (f : Reading → A) (c : List A) (rs : List Reading) (n s k g : ℕ) → map f rs ≡ take n c → s + k ≤ n → n ≤ length c → g ≤ k → map f (drop g (take k (drop s rs))) ≡ take (k - g) (drop (s + g) c)
part-column f c rs n s k g e h l w =
    let q : s + k ≤ length (take n c) = omega (arith, length-take-le n c l) in
    let z : s + g + (k - g) ≡ s + k = omega arith in
    let u : s + g + (k - g) ≤ length c = omega arith in
    map-drop f g (take k (drop s rs))
    ∙ ap (drop g) (map-take f k (drop s rs) ∙ ap (take k) (map-drop f s rs ∙ ap (drop s) e))
    ∙ ap (drop g) (part-is s k (take n c) q ∙ ap (drop s) (take-take (s + k) n c h))
    ∙ drop-drop g s (take (s + k) c)
    ∙ ap (λ (j : ℕ). drop (s + g) (take j c)) (sym z)
    ∙ sym (part-is (s + g) (k - g) c u)

-- ---- how many samples at the front of a block are before the time, by where the first stands that is not
front-next : (time : Float) (l : List Sample) (r : ℕ) → r ≤ length l → ((j : ℕ) → j < r → lt (get_or l j blank).time time ≡ true) → (r < length l → lt (get_or l r blank).time time ≡ false) → r ≡ front time l
unfolding front
front-next time [] zero h yea nay = refl
front-next time [] (suc r) h yea nay = absurd (not-suc-le-zero h)
front-next time (s ∷ l) zero h yea nay = rw (nay (omega arith))
front-next time (s ∷ l) (suc r) h yea nay = rw (yea 0 (omega arith)) (ap suc (front-next time l r (le_of_suc-le-suc h) (λ j k. yea (suc j) (omega arith)) (λ k. nay (omega arith))))

-- ---- the entries laid anew keep their satellites
module _ (part : Entry → List Reading) where
  laid_same : (f : Entry → ℕ) → ((e : Entry) (p k : ℕ) → f (record { constellation = e.constellation; svid = e.svid; band = e.band; start = p; count = k }) ≡ f e) → (place : ℕ) (es : List Entry) → map f (laid part place es) ≡ map f es
  unfolding laid
  laid_same f q place [] = refl
  laid_same f q place (e ∷ es) = rw (q e place (length (part e)), laid_same f q (place + length (part e)) es)

  pub laid-length : (place : ℕ) (es : List Entry) → length (laid part place es) ≡ length es
  unfolding laid
  laid-length place [] = refl
  laid-length place (e ∷ es) = ap suc (laid-length (place + length (part e)) es)

  laid_none : (place : ℕ) → laid part place [] ≡ []
  unfolding laid
  laid_none place = refl

  collect-none : collect part [] ≡ []
  unfolding collect
  collect-none = refl

  module _ (e : Entry) (es : List Entry) (place k : ℕ) (z : length (part e) ≡ k) where
    laid-starts : map (λ (e : Entry). e.start) (laid part place (e ∷ es)) ≡ place ∷ map (λ (e : Entry). e.start) (laid part (place + k) es)
    unfolding laid
    laid-starts = rw z

    laid-counts : map (λ (e : Entry). e.count) (laid part place (e ∷ es)) ≡ k ∷ map (λ (e : Entry). e.count) (laid part (place + k) es)
    unfolding laid
    laid-counts = rw z

  collect-field : {A : Type 0} (f : Reading → A) (e : Entry) (es : List Entry) → map f (collect part (e ∷ es)) ≡ map f (part e) ++ map f (collect part es)
  unfolding collect
  collect-field f e es = map-append f (part e) (collect part es)

-- ---- the loop: i blocks are trimmed and end at `place`, and the others lie from `end` on
pub record Trimming (time : Float) (m n : ℕ) (l₀ : Blocks) (df dn : List ℕ) (ts xs : List Float) (i place : ℕ) : Type 0 where
  pub within : i ≤ m
  pub end : ℕ
  pub low : place ≤ end
  pub tiling : tiles end n (drop i (take m (entries_in l₀))) ≡ true
  pub firsts : Going l₀.firsts df (map (λ (e : Entry). e.start) (laid (retained time (take n (readings_in l₀))) place (drop i (take m (entries_in l₀))))) (map (λ (e : Entry). e.start) (laid (retained time (take n (readings_in l₀))) 0 (take m (entries_in l₀)))) i
  pub counts : Going l₀.counts dn (map (λ (e : Entry). e.count) (laid (retained time (take n (readings_in l₀))) place (drop i (take m (entries_in l₀))))) (map (λ (e : Entry). e.count) (laid (retained time (take n (readings_in l₀))) 0 (take m (entries_in l₀)))) i
  pub times : Going l₀.times ts (map (λ (r : Reading). r.time) (collect (retained time (take n (readings_in l₀))) (drop i (take m (entries_in l₀))))) (map (λ (r : Reading). r.time) (collect (retained time (take n (readings_in l₀))) (take m (entries_in l₀)))) place
  pub corrections : Going l₀.corrections xs (map (λ (r : Reading). r.correction) (collect (retained time (take n (readings_in l₀))) (drop i (take m (entries_in l₀))))) (map (λ (r : Reading). r.correction) (collect (retained time (take n (readings_in l₀))) (take m (entries_in l₀)))) place

-- the block at i, by what the code reads of it
pub record Here (l₀ : Blocks) (n : ℕ) (df dn : List ℕ) (ts xs : List Float) (i place : ℕ) : Type 0 where
  pub low : place ≤ get_or df i 0
  pub some : 0 < get_or dn i 0
  pub inside : get_or df i 0 + get_or dn i 0 ≤ n
  pub in-times : n ≤ length ts
  pub in-corrections : n ≤ length xs
  pub in-firsts : i < length df
  pub in-counts : i < length dn

module _ (time : Float) (m n : ℕ) (l₀ : Blocks) (fm : m ≤ length (entries_in l₀)) (fn : n ≤ length (readings_in l₀)) (s : sound_directory (directory_in m n l₀) ≡ true) where
  abbrev part : Entry → List Reading
  part = retained time (take n (readings_in l₀))

  readings : length (take n (readings_in l₀)) ≡ n
  readings = length-take-le n (readings_in l₀) fn

  pub trimming_start : Trimming time m n l₀ l₀.firsts l₀.counts l₀.times l₀.corrections 0 0
  trimming_start =
      let es = take m (entries_in l₀) in
      record {
        within = omega arith;
        end = 0;
        low = omega arith;
        tiling = rw (← readings) (sound-parts (directory_in m n l₀) s).tiled;
        firsts = going_start l₀.firsts (map (λ (e : Entry). e.start) (laid part 0 es));
        counts = going_start l₀.counts (map (λ (e : Entry). e.count) (laid part 0 es));
        times = going_start l₀.times (map (λ (r : Reading). r.time) (collect part es));
        corrections = going_start l₀.corrections (map (λ (r : Reading). r.correction) (collect part es));
      }

  module _ {df dn : List ℕ} {ts xs : List Float} {i place : ℕ} (inv : Trimming time m n l₀ df dn ts xs i place) where
    module _ (h : i < m) where
      abbrev e : Entry
      e = get_or (entries_in l₀) i no_entry

      abbrev rest : List Entry
      rest = drop (i + 1) (take m (entries_in l₀))

      left : drop i (take m (entries_in l₀)) ≡ e ∷ rest
      left = left_at (entries_in l₀) m fm i no_entry h

      at : ◌≡◌ {A = Entry} (record { constellation = get_or l₀.constellations i 0; svid = get_or l₀.svids i 0; band = get_or l₀.bands i 0; start = get_or l₀.firsts i 0; count = get_or l₀.counts i 0 }) e
      at = entry-at l₀.constellations l₀.svids l₀.bands l₀.firsts l₀.counts i (omega arith)

      first-is : get_or df i 0 ≡ e.start
      first-is = going-at inv.firsts 0 i (omega arith) ∙ ap (λ (x : Entry). x.start) at

      count-is : get_or dn i 0 ≡ e.count
      count-is = going-at inv.counts 0 i (omega arith) ∙ ap (λ (x : Entry). x.count) at

      tiled : tiles inv.end n (e ∷ rest) ≡ true
      tiled = rw left at inv.tiling

      pub here : Here l₀ n df dn ts xs i place
      here =
          let a = tiles-start e rest inv.end n tiled in
          let b = tiles-count e rest inv.end n tiled in
          let c = tiles-le (inv.end + e.count) n rest (tiles-rest e rest inv.end n tiled) in
          let r = readings-length l₀.times l₀.corrections in
          let q = entries-length l₀.constellations l₀.svids l₀.bands l₀.firsts l₀.counts in
          record {
            low = omega (arith, a, first-is, inv.low);
            some = omega (arith, b, count-is);
            inside = omega (arith, a, c, first-is, count-is);
            in-times = omega (arith, r, fn, inv.times.long);
            in-corrections = omega (arith, r, fn, inv.corrections.long);
            in-firsts = omega (arith, q, fm, h, inv.firsts.long);
            in-counts = omega (arith, q, fm, h, inv.counts.long);
          }

      module _ {k : ℕ} (f : Outdated ts (get_or df i 0) (get_or dn i 0) time k) where
        lying : Lies (block (take n (readings_in l₀)) e) l₀.times l₀.corrections (get_or l₀.firsts i 0) (get_or l₀.counts i 0)
        lying = lies m n l₀ fm fn s i h

        time-at : (j : ℕ) → j < get_or dn i 0 → (get_or (block (take n (readings_in l₀)) e) j blank).time ≡ get_or ts (get_or df i 0 + j) nan
        time-at j w =
            let p = going-at inv.firsts 0 i (omega arith) in
            let q = going-at inv.counts 0 i (omega arith) in
            lying.time j (omega arith) ∙ ap (λ (x : ℕ). get_or l₀.times (x + j) nan) (sym p) ∙ sym (going-at inv.times nan (get_or df i 0 + j) (omega (arith, here.low)))

        front-is : k ≡ front time (block (take n (readings_in l₀)) e)
        front-is =
            let q = going-at inv.counts 0 i (omega arith) in
            let w = lying.long in front-next time (block (take n (readings_in l₀)) e) k (omega (arith, f.within, w, q))
            (λ j z. ap (λ (x : Float). lt x time) (time-at j (omega (arith, f.within))) ∙ f.earlier j z)
            (λ z. ap (λ (x : Float). lt x time) (time-at k (omega (arith, w, q))) ∙ f.next (omega (arith, w, q)))

        part-is-now : {g : ℕ} → g ≡ k - 1 → part e ≡ drop g (take (get_or dn i 0) (drop (get_or df i 0) (take n (readings_in l₀))))
        part-is-now z = rw (z, front-is, first-is, count-is)

        part-long : {g : ℕ} → g ≡ k - 1 → length (part e) ≡ get_or dn i 0 - g
        part-long {g} z =
            let x = drop (get_or df i 0) (take n (readings_in l₀)) in
            ap length (part-is-now z) ∙ length-drop g (take (get_or dn i 0) x)
            ∙ ap (λ (y : ℕ). y - g) (length-take-le (get_or dn i 0) x (omega (arith, length-drop (get_or df i 0) (take n (readings_in l₀)), readings, here.inside)))

        turned : {g : ℕ} → g ≡ k - 1
            → Trimming time m n l₀ (set df i place) (set dn i (get_or dn i 0 - g)) (moved_down place (get_or df i 0 + g) (get_or dn i 0 - g) ts) (moved_down place (get_or df i 0 + g) (get_or dn i 0 - g) xs) (i + 1) (place + (get_or dn i 0 - g))
        turned {g} z =
            let w = here in
            let len = part-long z in
            let r = readings-of n l₀.times l₀.corrections fn in
            let rl = readings-length l₀.times l₀.corrections in
            let gk : g ≤ get_or dn i 0 = omega (arith, f.within) in
            let pt : map (λ (r : Reading). r.time) (part e) ≡ take (get_or dn i 0 - g) (drop (get_or df i 0 + g) l₀.times) =
            ap (map (λ (r : Reading). r.time)) (part-is-now z) ∙ part-column (λ (r : Reading). r.time) l₀.times (take n (readings_in l₀)) n (get_or df i 0) (get_or dn i 0) g r.times w.inside (omega (arith, rl, fn)) gk in
            let px : map (λ (r : Reading). r.correction) (part e) ≡ take (get_or dn i 0 - g) (drop (get_or df i 0 + g) l₀.corrections) =
            ap (map (λ (r : Reading). r.correction)) (part-is-now z) ∙ part-column (λ (r : Reading). r.correction) l₀.corrections (take n (readings_in l₀)) n (get_or df i 0) (get_or dn i 0) g r.corrections w.inside (omega (arith, rl, fn)) gk in
            record {
              within = omega arith;
              end = inv.end + e.count;
              low = omega (arith, inv.low, count-is);
              tiling = tiles-rest e rest inv.end n tiled;
              firsts = going-one inv.firsts place (map (λ (e : Entry). e.start) (laid part (place + (get_or dn i 0 - g)) rest)) (omega (arith, w.in-firsts, inv.firsts.long))
                  (ap (λ (x : List Entry). map (λ (e : Entry). e.start) (laid part place x)) left ∙ laid-starts part e rest place (get_or dn i 0 - g) len);
              counts = going-one inv.counts (get_or dn i 0 - g) (map (λ (e : Entry). e.count) (laid part (place + (get_or dn i 0 - g)) rest)) (omega (arith, w.in-counts, inv.counts.long))
                  (ap (λ (x : List Entry). map (λ (e : Entry). e.count) (laid part place x)) left ∙ laid-counts part e rest place (get_or dn i 0 - g) len);
              times = going-many inv.times (get_or df i 0 + g) (get_or dn i 0 - g) (map (λ (r : Reading). r.time) (collect part rest)) (omega (arith, w.low)) (omega (arith, w.inside, w.in-times, inv.times.long))
                  (ap (λ (x : List Entry). map (λ (r : Reading). r.time) (collect part x)) left ∙ collect-field part (λ (r : Reading). r.time) e rest ∙ ap (λ (x : List Float). x ++ map (λ (r : Reading). r.time) (collect part rest)) pt);
              corrections = going-many inv.corrections (get_or df i 0 + g) (get_or dn i 0 - g) (map (λ (r : Reading). r.correction) (collect part rest)) (omega (arith, w.low)) (omega (arith, w.inside, w.in-corrections, inv.corrections.long))
                  (ap (λ (x : List Entry). map (λ (r : Reading). r.correction) (collect part x)) left ∙ collect-field part (λ (r : Reading). r.correction) e rest ∙ ap (λ (x : List Float). x ++ map (λ (r : Reading). r.correction) (collect part rest)) px);
            }

        pub trimming_turn : {g : ℕ} → g ≡ k - 1 → {ts' xs' : List Float} → ts' ≡ moved_down place (get_or df i 0 + g) (get_or dn i 0 - g) ts → xs' ≡ moved_down place (get_or df i 0 + g) (get_or dn i 0 - g) xs
            → Trimming time m n l₀ (set df i place) (set dn i (get_or dn i 0 - g)) ts' xs' (i + 1) (place + (get_or dn i 0 - g))
        trimming_turn z p q = rw (p, q) (turned z)

    module _ (h : m ≤ i) where
      none : drop i (take m (entries_in l₀)) ≡ []
      none = left_end (entries_in l₀) m fm i h

      all : i ≡ m
      all = omega (arith, inv.within)

      entries : length (laid part 0 (take m (entries_in l₀))) ≡ m
      entries = laid-length part 0 (take m (entries_in l₀)) ∙ length-take-le m (entries_in l₀) fm

      high : place ≤ n
      high = omega (arith, inv.low, tiles-le inv.end n (drop i (take m (entries_in l₀))) inv.tiling)

      kept : (f : Entry → ℕ) → ((e : Entry) (p k : ℕ) → f (record { constellation = e.constellation; svid = e.svid; band = e.band; start = p; count = k }) ≡ f e) → (c : List ℕ) → map f (take m (entries_in l₀)) ≡ take m c → c ≡ column_of f (laid part 0 (take m (entries_in l₀))) c
      kept f q c w = sym (rw (laid_same part f q 0 (take m (entries_in l₀)), entries, w) (take-append-drop m c))

      field_end : {A R : Type 0} (f : R → A) (rows : List R) (c₀ : List A) {c : List A} → c ≡ map f rows ++ drop (length (map f rows)) c₀ → c ≡ column_of f rows c₀
      field_end f rows c₀ q = q ∙ ap (λ (j : ℕ). map f rows ++ drop j c₀) (length-map rows f)

      pub trimming_count : place ≡ length (trimmed time (directory_in m n l₀)).readings
      unfolding trimmed
      trimming_count =
          let es = take m (entries_in l₀) in
          going-count inv.times (ap (λ (x : List Entry). map (λ (r : Reading). r.time) (collect part x)) none ∙ ap (map (λ (r : Reading). r.time)) (collect-none part)) (omega (arith, high, readings-length l₀.times l₀.corrections, fn))
          ∙ length-map (collect part es) (λ (r : Reading). r.time)

      pub trimming_end : lent_blocks l₀.constellations l₀.svids l₀.bands df dn ts xs ≡ blocks_with (trimmed time (directory_in m n l₀)) l₀
      unfolding trimmed
      trimming_end =
          let es = take m (entries_in l₀) in
          let g = signals-of m l₀.constellations l₀.svids l₀.bands l₀.firsts l₀.counts fm in
          let el = entries-length l₀.constellations l₀.svids l₀.bands l₀.firsts l₀.counts in
          let rl = readings-length l₀.times l₀.corrections in
          let nl : (f : Entry → ℕ) → map f (laid part place (drop i es)) ≡ [] = λ f. ap (λ (x : List Entry). map f (laid part place x)) none ∙ ap (map f) (laid_none part place) in
          let nr : (f : Reading → Float) → map f (collect part (drop i es)) ≡ [] = λ f. ap (λ (x : List Entry). map f (collect part x)) none ∙ ap (map f) (collect-none part) in
          same
          (kept (λ (e : Entry). e.constellation) (λ e p k. refl) l₀.constellations g.constellations)
          (kept (λ (e : Entry). e.svid) (λ e p k. refl) l₀.svids g.svids)
          (kept (λ (e : Entry). e.band) (λ e p k. refl) l₀.bands g.bands)
          (field_end (λ (e : Entry). e.start) (laid part 0 es) l₀.firsts (going_end inv.firsts (nl (λ (e : Entry). e.start)) (omega (arith, all, el, fm))))
          (field_end (λ (e : Entry). e.count) (laid part 0 es) l₀.counts (going_end inv.counts (nl (λ (e : Entry). e.count)) (omega (arith, all, el, fm))))
          (field_end (λ (r : Reading). r.time) (collect part es) l₀.times (going_end inv.times (nr (λ (r : Reading). r.time)) (omega (arith, high, rl, fn))))
          (field_end (λ (r : Reading). r.correction) (collect part es) l₀.corrections (going_end inv.corrections (nr (λ (r : Reading). r.correction)) (omega (arith, high, rl, fn))))
        where
          same : {a a' b b' c c' d d' e e' : List ℕ} {t t' x x' : List Float} → a ≡ a' → b ≡ b' → c ≡ c' → d ≡ d' → e ≡ e' → t ≡ t' → x ≡ x' → lent_blocks a b c d e t x ≡ lent_blocks a' b' c' d' e' t' x'
          same p q r u v y z = rw (p, q, r, u, v, y, z)
