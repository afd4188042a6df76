-- Times and corrections with those of new samples, turn by turn. Assumes nothing.
use mathlib.Core.Path.{◌≡◌, refl, sym, ap, ◌∙◌}
use mathlib.Core.List.{List, [], ◌∷◌, ◌++◌, map, map-append}
use mathlib.Core.Bool.{Bool, true, false, ◌&&◌, ◌||◌}
use Prim.Native.Nat.{ℕ, zero, suc, ◌+◌, ◌-◌, ◌^◌, ◌≤◌, ◌<◌}
use native.Mathlib.Nat.{not-suc-le-zero, le_of_suc-le-suc}
use native.Mathlib.Omega.{arith}
use lib.Dec.{T, eqb, ltb}
use lib.ListN.{length, get_or, take, drop, set, length-map}
use lib.Seq.{get_or-take, length-take-le, take_all, take-take}
use lib.Ieee.{Float, nan, binary64, fits}
use Rattle.exact.specs.Float.{bits}
use Rattle.numeric.specs.Order.{pattern_of}
use borrow.Author.Tests.{eqb-true, eqb-false}
use Rattle.lists.specs.Walk.{collect, every}
use Rattle.corrections_table.specs.Table.{blank, lent_samples, rows, ranged, signal_of, sorted, sound_table, stands_before, table_of, time_before}
use Rattle.corrections_table.specs.Add.{insert_all}
use Rattle.corrections_table.specs.declared.sample.Sample.{Sample}
use Rattle.corrections_table.proofs.TableLaws.{and_right}
use Rattle.corrections_table.proofs.Places.{place_of, rises, sorted_rises}
use Rattle.corrections_table.proofs.ColumnLaws.{rows_at, rows-length}
use Rattle.corrections_directory.specs.Directory.{Entry, Reading, block, column_of, directory_in, entry_rows, flat, floats, lent_blocks, reading_of, reading_rows, sample_of, signal_in, sound_directory, tiles}
use Rattle.corrections_directory.specs.Steps.{no_entry}
use Rattle.corrections_directory.proofs.DirectoryLaws.{sound-parts, sound-flat, flat-readings}
use Rattle.corrections_directory.proofs.ColumnLaws.{entries-length, entry-at, flat-length, no_reading, readings-length}
use Rattle.corrections_directory.proofs.PatternLaws.{T_true, every_of, floats_at, floats-column, floats-fit-all, floats-length, map_of, numbers-in, numbers_of, patterns-back}
use Rattle.corrections_directory.proofs.EntryLaws.{flat-at, get_d_map-in}
use Rattle.corrections_add.specs.Steps.{ReadingsMerged, Stays, shifted}
use Rattle.corrections_add.proofs.SortLaws.{before-le, every-all, every-insert_all}
use Rattle.corrections_add.proofs.FillLaws.{Filling, filling_start, filling_turn, filling_end}
use Rattle.corrections_add.proofs.MixLaws.{mixed, mixed-old, mixed-new, mixed-length, mixed-none}
use Rattle.corrections_add.proofs.CursorLaws.{Cursor, cursor-some, cursor-start, cursor-stay, cursor-leave}

-- the patterns of the two fields that are moved
abbrev time_of : Sample → ℕ
time_of s = pattern_of s.time

abbrev correction_of : Sample → ℕ
correction_of s = pattern_of s.correction

-- es and rs are a sound directory's entries and readings, t its samples, u the new ones; the columns ts₀ and xs₀ hold the readings
pub record Given (es : List Entry) (rs : List Reading) (t u : List Sample) (ts₀ xs₀ : List ℕ) (n k : ℕ) : Type 0 where
  pub tiled : tiles 0 (length rs) es ≡ true
  pub blocks : t ≡ collect (block rs) es
  pub sizes : length rs ≡ n
  pub old-rise : rises 0 t ≡ true
  pub old-count : length t ≡ n
  pub new-rise : rises 0 u ≡ true
  pub new-count : length u ≡ k
  pub times-are : map time_of t ≡ take n ts₀
  pub corrections-are : map correction_of t ≡ take n xs₀
  pub read : (y : ℕ) → y < n → bits (get_or ts₀ y 0) ≡ (get_or t y blank).time
  pub times-fit : every (λ (s : Sample). fits binary64 s.time) (insert_all t u) ≡ true
  pub corrections-fit : every (λ (s : Sample). fits binary64 s.correction) (insert_all t u) ≡ true
  pub room-t : n + k ≤ length ts₀
  pub room-x : n + k ≤ length xs₀

-- i old and j new samples are left, the last old one in the block of the entry e - 1
pub record Merging (es : List Entry) (t u : List Sample) (ts₀ xs₀ : List ℕ) (n k : ℕ) (ts xs : List ℕ) (e i j : ℕ) : Type 0 where
  pub old : i ≤ n
  pub new : j ≤ k
  pub cursor : Cursor es e i
  pub times : Filling ts₀ ts (map time_of (mixed t u n k) ++ drop (n + k) ts₀) (map time_of (mixed t u i j)) i (i + j)
  pub corrections : Filling xs₀ xs (map correction_of (mixed t u n k) ++ drop (n + k) xs₀) (map correction_of (mixed t u i j)) i (i + j)

map-end : {A : Type 0} (f : Sample → A) (m l : List Sample) (a : Sample) → m ≡ l ++ (a ∷ []) → map f m ≡ map f l ++ (f a ∷ [])
map-end f m l a e = ap (map f) e ∙ map-append f l (a ∷ [])

times-in : (n : ℕ) (ts xs : List Float) → n ≤ length (reading_rows ts xs) → map (λ (r : Reading). r.time) (take n (reading_rows ts xs)) ≡ take n ts
unfolding reading_rows
times-in zero ts xs h = refl
times-in (suc n) [] xs h = absurd (not-suc-le-zero h)
times-in (suc n) (t ∷ ts) [] h = absurd (not-suc-le-zero h)
times-in (suc n) (t ∷ ts) (x ∷ xs) h = ap (λ (l : List Float). t ∷ l) (times-in n ts xs (le_of_suc-le-suc h))

corrections-in : (n : ℕ) (ts xs : List Float) → n ≤ length (reading_rows ts xs) → map (λ (r : Reading). r.correction) (take n (reading_rows ts xs)) ≡ take n xs
unfolding reading_rows
corrections-in zero ts xs h = refl
corrections-in (suc n) [] xs h = absurd (not-suc-le-zero h)
corrections-in (suc n) (t ∷ ts) [] h = absurd (not-suc-le-zero h)
corrections-in (suc n) (t ∷ ts) (x ∷ xs) h = ap (λ (l : List Float). x ∷ l) (corrections-in n ts xs (le_of_suc-le-suc h))

map-take : {A : Type 0} (f : Sample → A) (i : ℕ) (l : List Sample) → map f (take i l) ≡ take i (map f l)
map-take f zero l = refl
map-take f (suc i) [] = refl
map-take f (suc i) (s ∷ l) = rw (map-take f i l)

module _ {es : List Entry} {rs : List Reading} {t u : List Sample} {ts₀ xs₀ : List ℕ} {n k : ℕ} (g : Given es rs t u ts₀ xs₀ n k) where
  pub merging_start : (e : ℕ) → length es ≡ e → Merging es t u ts₀ xs₀ n k ts₀ xs₀ e n k
  merging_start e q =
      let l = mixed-length t u n k (omega (arith, g.old-count)) (omega (arith, g.new-count)) in
      record {
        old = omega arith;
        new = omega arith;
        cursor = rw (← q) (cursor-start n es (rw g.sizes at g.tiled));
        times = filling_start ts₀ (map time_of (mixed t u n k)) n (n + k) (length-map (mixed t u n k) time_of ∙ l);
        corrections = filling_start xs₀ (map correction_of (mixed t u n k)) n (n + k) (length-map (mixed t u n k) correction_of ∙ l);
      }

  -- the columns hold the fields of the old samples
  held : (f : Sample → ℕ) (d : List ℕ) → map f t ≡ take n d → (i : ℕ) → i < n → get_or d i 0 ≡ f (get_or t i blank)
  held f d e i h = sym (get_or-take n d i 0 h) ∙ ap (λ (l : List ℕ). get_or l i 0) (sym e) ∙ get_d_map-in f t i blank 0 (omega (arith, g.old-count))

  -- old samples that all come after the last new one go up together
  fills-old : (f : Sample → ℕ) {d₀ w : List ℕ} (j r : ℕ) → 0 < j → j ≤ k → map f t ≡ take n d₀ → (m : ℕ) {d : List ℕ} (y : ℕ) → y ≡ r + m → y ≤ n
      → ((x : ℕ) → r ≤ x → x < y → stands_before (get_or u (j - 1) blank) (get_or t x blank) ≡ true) → y + j ≤ length d₀
      → Filling d₀ d w (map f (mixed t u y j)) y (y + j) → Filling d₀ (shifted r j m 0 d) w (map f (mixed t u r j)) r (r + j)
  unfolding shifted
  fills-old f {d₀} {w} j r hj kj q zero {d} y z o b l v = let s : r ≡ y = omega arith in rw s v
  fills-old f {d₀} {w} j r hj kj q (suc m) {d} y z o b l v =
      let s : suc (y - 1) ≡ y = omega arith in
      let at : r + m ≡ y - 1 = omega arith in
      let to : y - 1 + j ≡ y + j - 1 = omega arith in
      let e : mixed t u y j ≡ mixed t u (y - 1) j ++ (get_or t (y - 1) blank ∷ []) =
      ap (λ (x : ℕ). mixed t u x j) (sym s) ∙ mixed-old t u g.old-rise g.new-rise (y - 1) j (omega (arith, g.old-count)) (omega (arith, g.new-count)) hj (b (y - 1) (omega arith) (omega arith)) in
      let x : get_or d (y - 1) 0 ≡ f (get_or t (y - 1) blank) =
      sym (get_or-take y d (y - 1) 0 (omega arith)) ∙ ap (λ (l : List ℕ). get_or l (y - 1) 0) v.front ∙ get_or-take y d₀ (y - 1) 0 (omega arith) ∙ held f d₀ q (y - 1) (omega arith) in
      let turn : Filling d₀ (set d (y - 1 + j) (f (get_or t (y - 1) blank))) w (map f (mixed t u (y - 1) j)) (y - 1) (y - 1 + j) =
      rw to (filling_turn 0 v (f (get_or t (y - 1) blank)) (map f (mixed t u (y - 1) j)) (y - 1) (map-end f (mixed t u y j) (mixed t u (y - 1) j) (get_or t (y - 1) blank) e) (omega arith) (omega arith) l) in
      rw (at, x) (fills-old f j r hj kj q m (y - 1) (omega arith) (omega arith) (λ x h k. b x h (omega arith)) (omega arith) turn)

  whole : (f : Sample → ℕ) (d : List ℕ) → map f (mixed t u n k) ++ drop (n + k) d ≡ column_of f (insert_all t u) d
  whole f d =
      let a : take n t ≡ t = take_all n t (omega (arith, g.old-count)) in
      let b : take k u ≡ u = take_all k u (omega (arith, g.new-count)) in
      let l : length (mixed t u n k) ≡ n + k = mixed-length t u n k (omega (arith, g.old-count)) (omega (arith, g.new-count)) in
      let q : mixed t u n k ≡ insert_all t u = rw (a, b) in
      ap (λ (m : ℕ). map f (mixed t u n k) ++ drop m d) (sym l) ∙ ap (λ (m : List Sample). column_of f m d) q

  module _ {ts xs : List ℕ} {e i j : ℕ} (inv : Merging es t u ts₀ xs₀ n k ts xs e i j) where
    pub merging-end : j ≤ 0 → ReadingsMerged (insert_all t u) ts₀ xs₀ ts xs
    merging-end h =
        let z : j ≡ 0 = omega arith in
        let et = filling_end 0 inv.times (left time_of ts₀ z g.times-are) (omega arith) ∙ whole time_of ts₀ in
        let ec = filling_end 0 inv.corrections (left correction_of xs₀ z g.corrections-are) (omega arith) ∙ whole correction_of xs₀ in
        record {
          times = et;
          corrections = ec;
          times-read = ap floats et ∙ floats-column (λ (s : Sample). s.time) (insert_all t u) ts₀ g.times-fit;
          corrections-read = ap floats ec ∙ floats-column (λ (s : Sample). s.correction) (insert_all t u) xs₀ g.corrections-fit;
        }
      where
        left : (f : Sample → ℕ) (d : List ℕ) → j ≡ 0 → map f t ≡ take n d → map f (mixed t u i j) ≡ take i d
        left f d z r = ap (λ (m : ℕ). map f (mixed t u i m)) z ∙ ap (map f) (mixed-none t u i) ∙ map-take f i t ∙ ap (take i) r ∙ take-take i n d inv.old

    -- a column's place that is not yet reached is as it was
    same_at : (d₀ d w left : List ℕ) (m : ℕ) → Filling d₀ d w left i m → (y : ℕ) → y < i → get_or d y 0 ≡ get_or d₀ y 0
    same_at d₀ d w left m f y h = sym (get_or-take i d y 0 h) ∙ ap (λ (l : List ℕ). get_or l y 0) f.front ∙ get_or-take i d₀ y 0 h

    module _ (hj : 0 < j) {a b start : ℕ} {x : Float} (ea : a ≡ signal_of (get_or u (j - 1) blank)) (eb : 0 < e → b ≡ signal_in (get_or es (e - 1) no_entry)) (es-start : 0 < e → start ≡ (get_or es (e - 1) no_entry).start) (ex : x ≡ (get_or u (j - 1) blank).time) where
      -- what the code compares is the order of the two samples, within the last block
      stands : (y : ℕ) → y < i → start ≤ y → (ltb a b || (eqb a b && time_before x (bits (get_or ts y 0)))) ≡ stands_before (get_or u (j - 1) blank) (get_or t y blank)
      unfolding stands_before
      stands y h l =
          let p = cursor-some es e i inv.cursor (omega arith) in
          let o : get_or t y blank ≡ sample_of (get_or es (e - 1) no_entry) (get_or rs y no_reading) =
          rw g.blocks (flat-at rs es (e - 1) y g.tiled (omega (arith, p, inv.cursor.few)) (omega (arith, es-start p)) (omega (arith, inv.cursor.to p))) in
          let s : signal_of (get_or t y blank) ≡ signal_in (get_or es (e - 1) no_entry) = ap signal_of o in
          let v : bits (get_or ts y 0) ≡ (get_or t y blank).time = ap bits (same_at ts₀ ts _ _ _ inv.times y h) ∙ g.read y (omega (arith, inv.old)) in
          rw (ea, eb p, ex, s, v)

      module _ {r : ℕ} (c : Stays ts start i a x b r) where
        -- the old samples of the last block that come after the new one go up together
        pub merging-old : r < i → {ts' xs' : List ℕ} → ts' ≡ shifted r j (i - r) 0 ts → xs' ≡ shifted r j (i - r) 0 xs → {e' : ℕ} → (start ≡ r → e' ≡ e - 1) → ((start ≡ r → ⊥) → e' ≡ e)
            → Merging es t u ts₀ xs₀ n k ts' xs' e' r j
        merging-old h {ts'} {xs'} et ex' {e'} leave stay =
            let p = cursor-some es e i inv.cursor (omega arith) in
            let z : i ≡ r + (i - r) = omega arith in
            let l : start ≤ r = c.from (omega arith) in
            let before : (y : ℕ) → r ≤ y → y < i → stands_before (get_or u (j - 1) blank) (get_or t y blank) ≡ true = λ y m q. sym (stands y q (omega arith)) ∙ c.later y m q in
            record {
              old = omega (arith, inv.old);
              new = inv.new;
              cursor = next (eqb start r) refl p l;
              times = rw et (fills-old time_of j r hj inv.new g.times-are (i - r) i z inv.old before (omega (arith, inv.old, inv.new, g.room-t)) inv.times);
              corrections = rw ex' (fills-old correction_of j r hj inv.new g.corrections-are (i - r) i z inv.old before (omega (arith, inv.old, inv.new, g.room-x)) inv.corrections);
            }
          where
            next : (y : Bool) → eqb start r ≡ y → 0 < e → start ≤ r → Cursor es e' r
            next true w p l = let v = eqb-true _ _ w in rw (leave v) (cursor-leave n es (rw g.sizes at g.tiled) e i inv.cursor (omega arith) r (sym (es-start p) ∙ v))
            next false w p l = let v = eqb-false _ _ w in rw (stay v) (cursor-stay n es (rw g.sizes at g.tiled) e i inv.cursor (omega arith) r c.few (omega (arith, v, es-start p)))

        -- the new sample comes after every old one that is left
        pub merging-new : i ≤ r → {y : Float} → y ≡ (get_or u (j - 1) blank).correction → {pt px : ℕ} → pt ≡ pattern_of x → px ≡ pattern_of y → Merging es t u ts₀ xs₀ n k (set ts (i + (j - 1)) pt) (set xs (i + (j - 1)) px) e i (j - 1)
        merging-new q {y} ey ep eq =
            let z : suc (j - 1) ≡ j = omega arith in
            let w' : i + (j - 1) ≡ i + j - 1 = omega arith in
            let m : mixed t u i j ≡ mixed t u i (j - 1) ++ (get_or u (j - 1) blank ∷ []) =
            ap (mixed t u i) (sym z) ∙ mixed-new t u g.old-rise g.new-rise i (j - 1) (omega (arith, inv.old, g.old-count)) (omega (arith, inv.new, g.new-count)) last in
            record {
              old = inv.old;
              new = omega (arith, inv.new);
              cursor = inv.cursor;
              times = rw (ep, ex, w') (filling_turn 0 inv.times (time_of (get_or u (j - 1) blank)) (map time_of (mixed t u i (j - 1))) i (map-end time_of (mixed t u i j) (mixed t u i (j - 1)) (get_or u (j - 1) blank) m) (omega arith) (omega arith) (omega (arith, inv.old, inv.new, g.room-t)));
              corrections = rw (eq, ey, w') (filling_turn 0 inv.corrections (correction_of (get_or u (j - 1) blank)) (map correction_of (mixed t u i (j - 1))) i (map-end correction_of (mixed t u i j) (mixed t u i (j - 1)) (get_or u (j - 1) blank) m) (omega arith) (omega arith) (omega (arith, inv.old, inv.new, g.room-x)));
            }
          where
            last : 0 < i → place_of (get_or t (i - 1) blank) ≤ place_of (get_or u (j - 1) blank)
            last h =
                let p = cursor-some es e i inv.cursor h in
                let v : r ≡ i = omega (arith, c.few) in
                let l : start < i = omega (arith, inv.cursor.from p, es-start p) in
                let f : (ltb a b || (eqb a b && time_before x (bits (get_or ts (i - 1) 0)))) ≡ false = ap (λ (m : ℕ). ltb a b || (eqb a b && time_before x (bits (get_or ts (m - 1) 0)))) (sym v) ∙ c.earlier (omega arith) in
                before-le (get_or u (j - 1) blank) (get_or t (i - 1) blank) (sym (stands (i - 1) (omega arith) (omega arith)) ∙ f)

-- ---- from the columns
module _ (dc dv db df dn : List ℕ) (m : ℕ) (ts xs : List ℕ) (n : ℕ) (cs vs bs : List ℕ) (us ys : List Float) (k : ℕ) where
  pub given_by : n + k ≤ length (reading_rows (floats ts) (floats xs)) → sound_directory (directory_in m n (lent_blocks dc dv db df dn (floats ts) (floats xs))) ≡ true
      → k ≤ length (rows (lent_samples cs vs bs us ys)) → sorted (table_of k (lent_samples cs vs bs us ys)) ≡ true
      → ((x : ℕ) → get_or ts x 0 < 2 ^ 64) → ((x : ℕ) → get_or xs x 0 < 2 ^ 64) → ((x : ℕ) → T (fits binary64 (get_or us x nan))) → ((x : ℕ) → T (fits binary64 (get_or ys x nan)))
      → Given (take m (entry_rows dc dv db df dn)) (take n (reading_rows (floats ts) (floats xs))) (flat (directory_in m n (lent_blocks dc dv db df dn (floats ts) (floats xs)))) (table_of k (lent_samples cs vs bs us ys)) ts xs n k
  given_by h s f o bt bx fu fy =
      let d = directory_in m n (lent_blocks dc dv db df dn (floats ts) (floats xs)) in
      let p = sound-parts d s in
      let z : length (take n (reading_rows (floats ts) (floats xs))) ≡ n = length-take-le n (reading_rows (floats ts) (floats xs)) (omega arith) in
      let r = flat-readings d s in
      let lt = floats-length ts in
      let lx = floats-length xs in
      let lr = readings-length (floats ts) (floats xs) in
      let nr : n ≤ length (reading_rows (floats ts) (floats xs)) = omega arith in
      let nt : n ≤ length ts = omega arith in
      let nx : n ≤ length xs = omega arith in
      let et : map (λ (s : Sample). s.time) (flat d) ≡ take n (floats ts) = field-times (flat d) ∙ ap (map (λ (r : Reading). r.time)) r ∙ times-in n (floats ts) (floats xs) nr in
      let ec : map (λ (s : Sample). s.correction) (flat d) ≡ take n (floats xs) = field-corrections (flat d) ∙ ap (map (λ (r : Reading). r.correction)) r ∙ corrections-in n (floats ts) (floats xs) nr in
      let c = flat-length d s ∙ z in
      let ku = length-take-le k (rows (lent_samples cs vs bs us ys)) f in
      record {
        tiled = p.tiled;
        blocks = unfold flat in refl;
        sizes = z;
        old-rise = sym (sorted_rises (flat d)) ∙ sorted_of (flat d) (sound-flat d s);
        old-count = c;
        new-rise = sym (sorted_rises (table_of k (lent_samples cs vs bs us ys))) ∙ o;
        new-count = ku;
        times-are = map_of pattern_of (λ (s : Sample). s.time) (flat d) ∙ ap (map pattern_of) et ∙ patterns-back ts n nt bt (numbers-in ts xs n nr p.in_reach);
        corrections-are = map_of pattern_of (λ (s : Sample). s.correction) (flat d) ∙ ap (map pattern_of) ec ∙ patterns-back xs n nx bx (numbers_of ts xs n nr p.in_reach);
        read = λ y q.
            sym (floats_at ts y (omega arith)) ∙ sym (get_or-take n (floats ts) y nan q) ∙ ap (λ (l : List Float). get_or l y nan) (sym et) ∙ get_d_map-in (λ (s : Sample). s.time) (flat d) y blank nan (omega (arith, c));
        times-fit = every-insert_all _ (flat d) _ (sym (every_of (fits binary64) (λ (s : Sample). s.time) (flat d)) ∙ ap (every (fits binary64)) et ∙ floats-fit-all ts n) (new-fit (λ (s : Sample). s.time) (λ x q. rw (← new-at x q) (fu x)));
        corrections-fit = every-insert_all _ (flat d) _ (sym (every_of (fits binary64) (λ (s : Sample). s.correction) (flat d)) ∙ ap (every (fits binary64)) ec ∙ floats-fit-all xs n) (new-fit (λ (s : Sample). s.correction) (λ x q. rw (← new-at x q) (fy x)));
        room-t = omega arith;
        room-x = omega arith;
      }
    where
      sorted_of : (l : List Sample) → sound_table l ≡ true → sorted l ≡ true
      sorted_of l e = and_right (every ranged l) (sorted l) (unfold sound_table in e)

      new-at : (x : ℕ) → x < k → ◌≡◌ {A = Sample} (record { constellation = get_or cs x 0; svid = get_or vs x 0; band = get_or bs x 0; time = get_or us x nan; correction = get_or ys x nan }) (get_or (table_of k (lent_samples cs vs bs us ys)) x blank)
      new-at x q = rows_at (lent_samples cs vs bs us ys) x (omega arith) ∙ sym (get_or-take k (rows (lent_samples cs vs bs us ys)) x blank q)

      new-fit : (g : Sample → Float) → ((x : ℕ) → x < k → T (fits binary64 (g (get_or (table_of k (lent_samples cs vs bs us ys)) x blank)))) → every (λ (s : Sample). fits binary64 (g s)) (table_of k (lent_samples cs vs bs us ys)) ≡ true
      new-fit g e = every-all _ _ (λ x q. T_true _ (e x (omega (arith, length-take-le k (rows (lent_samples cs vs bs us ys)) f))))

      field-times : (l : List Sample) → map (λ (s : Sample). s.time) l ≡ map (λ (r : Reading). r.time) (map reading_of l)
      field-times [] = refl
      field-times (a ∷ l) = ap (λ (m : List Float). a.time ∷ m) (field-times l)

      field-corrections : (l : List Sample) → map (λ (s : Sample). s.correction) l ≡ map (λ (r : Reading). r.correction) (map reading_of l)
      field-corrections [] = refl
      field-corrections (a ∷ l) = ap (λ (m : List Float). a.correction ∷ m) (field-corrections l)

-- every column is long enough
pub record Sizes (dc dv db df cs vs bs : List ℕ) (us ys : List Float) (m k : ℕ) : Type 0 where
  pub in-dc : m ≤ length dc
  pub in-dv : m ≤ length dv
  pub in-db : m ≤ length db
  pub in_df : m ≤ length df
  pub in-cs : k ≤ length cs
  pub in-vs : k ≤ length vs
  pub in-bs : k ≤ length bs
  pub in-us : k ≤ length us
  pub in_ys : k ≤ length ys

module _ (dc dv db df dn : List ℕ) (m : ℕ) (cs vs bs : List ℕ) (us ys : List Float) (k : ℕ) (hm : m ≤ length (entry_rows dc dv db df dn)) (hk : k ≤ length (rows (lent_samples cs vs bs us ys))) where
  pub sizes-by : Sizes dc dv db df cs vs bs us ys m k
  sizes-by =
      let a = entries-length dc dv db df dn in
      let b = rows-length (lent_samples cs vs bs us ys) in
      record {
        in-dc = omega (arith, a);
        in-dv = omega (arith, a);
        in-db = omega (arith, a);
        in_df = omega (arith, a);
        in-cs = omega (arith, b);
        in-vs = omega (arith, b);
        in-bs = omega (arith, b);
        in-us = omega (arith, b);
        in_ys = omega (arith, b);
      }

  pub old_row : (x : ℕ) → x < m → ◌≡◌ {A = Entry} (record { constellation = get_or dc x 0; svid = get_or dv x 0; band = get_or db x 0; start = get_or df x 0; count = get_or dn x 0 }) (get_or (take m (entry_rows dc dv db df dn)) x no_entry)
  old_row x h = entry-at dc dv db df dn x (omega arith) ∙ sym (get_or-take m (entry_rows dc dv db df dn) x no_entry h)

  pub new_row : (x : ℕ) → x < k → ◌≡◌ {A = Sample} (record { constellation = get_or cs x 0; svid = get_or vs x 0; band = get_or bs x 0; time = get_or us x nan; correction = get_or ys x nan }) (get_or (table_of k (lent_samples cs vs bs us ys)) x blank)
  new_row x h = rows_at (lent_samples cs vs bs us ys) x (omega arith) ∙ sym (get_or-take k (rows (lent_samples cs vs bs us ys)) x blank h)
