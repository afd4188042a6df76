-- The signals of a directory's samples, block by block, as they are written. Assumes nothing.
use mathlib.Core.Path.{◌≡◌, refl, sym, ap, ◌∙◌}
use mathlib.Core.List.{List, [], ◌∷◌, map}
use mathlib.Core.Bool.{Bool, true, false}
use Prim.Native.Nat.{ℕ, zero, suc, ◌+◌, ◌-◌, ◌≤◌, ◌<◌}
use native.Mathlib.Numerals.{add-one}
use native.Mathlib.Omega.{arith}
use lib.Dec.{eqb, ltb}
use lib.ListN.{length, get_or, take, drop, set, length-map, length-set, get_or-append}
use lib.Seq.{ext_get_or, get_or-append-add, get_or-drop, get_or-set_other, get_or-set_same, length-take-le}
use lib.Ieee.{Float}
use borrow.Author.Tests.{eqb-true, eqb-false, ltb-true, ltb-false}
use Rattle.corrections_table.specs.Table.{blank, lent_samples}
use Rattle.corrections_table.specs.declared.sample.Sample.{Sample}
use Rattle.corrections_directory.specs.Directory.{Entry, column_of, directory_in, entry_rows, flat, lent_blocks, reading_rows, sample_of, sound_directory, tiles}
use Rattle.corrections_directory.specs.Steps.{no_entry}
use Rattle.corrections_directory.specs.Rearrange.{signals_with}
use Rattle.corrections_directory.proofs.DirectoryLaws.{sound-parts}
use Rattle.corrections_directory.proofs.ColumnLaws.{flat-length, no_reading}
use Rattle.corrections_directory.proofs.EntryLaws.{flat-at, get_d_map-in, tiles-first, tiles-next, tiles-last}
use Rattle.corrections_add.proofs.OwnLaws.{row_at}
use Rattle.corrections_convert.specs.Steps.{Laid, Spread, start_of}
use Rattle.corrections_convert.proofs.FileLaws.{column-length}

-- ---- one value, place by place
pub spread_none : (x from : ℕ) (l : List ℕ) → Spread x from from l l
spread_none x from l = record { same_length = refl; below = λ k h. refl; here = λ k h g. absurd (omega arith); beyond = λ k h. refl }

pub spread-more : {x from i : ℕ} {l l' : List ℕ} → Spread x from i l l' → from ≤ i → i < length l → Spread x from (i + 1) l (set l' i x)
spread-more {x} {from} {i} {l} {l'} s a b =
    record {
      same_length = length-set l' i x ∙ s.same_length;
      below = λ k h. get_or-set_other l' i k x 0 (λ e. omega arith) ∙ s.below k h;
      here = λ k h g. go k h g (eqb k i) refl;
      beyond = λ k h. get_or-set_other l' i k x 0 (λ e. omega arith) ∙ s.beyond k (omega arith);
    }
  where
    go : (k : ℕ) → from ≤ k → k < i + 1 → (y : Bool) → eqb k i ≡ y → get_or (set l' i x) k 0 ≡ x
    go k h g true e = let z : k ≡ i = eqb-true k i e in rw z (get_or-set_same l' i x 0 (omega (arith, s.same_length)))
    go k h g false e = let z = eqb-false k i e in get_or-set_other l' i k x 0 z ∙ s.here k h (omega arith)

-- ---- block after block
pub start_none : (counts : List ℕ) → 0 ≡ start_of counts 0
unfolding start_of
start_none counts = refl

pub start-next : (counts : List ℕ) (j : ℕ) → start_of counts (j + 1) ≡ start_of counts j + get_or counts j 0
unfolding start_of
start-next counts j = ap (start_of counts) (add-one j)

start_up : (counts : List ℕ) (i d : ℕ) → start_of counts i ≤ start_of counts (i + d)
unfolding start_of
start_up counts i zero = let z : i + 0 ≡ i = omega arith in rw z (omega arith)
start_up counts i (suc d) =
    let z : i + suc d ≡ suc (i + d) = omega arith in
    let h = start_up counts i d in
    rw z (omega (arith, h))

pub start-mono : (counts : List ℕ) (i j : ℕ) → i ≤ j → start_of counts i ≤ start_of counts j
start-mono counts i j h = let z : i + (j - i) ≡ j = omega arith in rw z at (start_up counts i (j - i))

-- a block that begins at the place ends where the next begins, which is not past the end of the m blocks
pub block-end : (counts : List ℕ) (place i m : ℕ) → place ≡ start_of counts i → i < m → (place + get_or counts i 0 ≡ start_of counts (i + 1)) × (start_of counts (i + 1) ≤ start_of counts m)
block-end counts place i m e h = (omega (arith, start-next counts i), start-mono counts (i + 1) m (omega arith))

pub laid_none : (values counts l : List ℕ) → Laid values counts 0 l l
laid_none values counts l = record { same_length = refl; here = λ j k h a b. absurd (omega arith); beyond = λ k h. refl }

pub laid_more : {values counts l l₁ l₂ : List ℕ} (i : ℕ) {place end : ℕ} → place ≡ start_of counts i → end ≡ start_of counts (i + 1) → Laid values counts i l l₁ → Spread (get_or values i 0) place end l₁ l₂
    → Laid values counts (i + 1) l l₂
laid_more {values} {counts} {l} {l₁} {l₂} i {place} {end} ep ee h s =
    record {
      same_length = s.same_length ∙ h.same_length;
      here = λ j k a b c. go j k a b c (eqb j i) refl;
      beyond = λ k a. s.beyond k (omega arith) ∙ h.beyond k (let m = start-mono counts i (i + 1) (omega arith) in omega (arith, m));
    }
  where
    go : (j k : ℕ) → j < i + 1 → start_of counts j ≤ k → k < start_of counts (suc j) → (y : Bool) → eqb j i ≡ y → get_or l₂ k 0 ≡ get_or values j 0
    go j k a b c true e =
        let z : j ≡ i = eqb-true j i e in
        let w : start_of counts (suc j) ≡ start_of counts (i + 1) = ap (start_of counts) (ap suc z ∙ sym (add-one i)) in
        let v : start_of counts j ≡ start_of counts i = ap (start_of counts) z in
        s.here k (omega (arith, v)) (omega (arith, w)) ∙ ap (λ (x : ℕ). get_or values x 0) (sym z)
    go j k a b c false e =
        let z = eqb-false j i e in
        let q : j < i = omega (arith, z) in
        let m = start-mono counts (suc j) i (omega arith) in
        s.below k (omega (arith, m)) ∙ h.here j k q b c

-- each place before the end lies in a block
record Lying (counts : List ℕ) (m k : ℕ) : Type 0 where
  at : ℕ
  inside : at < m
  from : start_of counts at ≤ k
  to : k < start_of counts (suc at)

lying : (counts : List ℕ) (m k : ℕ) → k < start_of counts m → Lying counts m k
unfolding start_of
lying counts zero k h = absurd (omega arith)
lying counts (suc m) k h = go (λ p. lying counts m k p) (ltb k (start_of counts m)) refl
  where
    go : (k < start_of counts m → Lying counts m k) → (x : Bool) → ltb k (start_of counts m) ≡ x → Lying counts (suc m) k
    go less true e = let w = less (ltb-true k (start_of counts m) e) in record { at = w.at; inside = omega (arith, w.inside); from = w.from; to = w.to }
    go less false e = record { at = m; inside = omega arith; from = ltb-false k (start_of counts m) e; to = h }

-- such a column is that of samples whose field is each block's value
laid-column : {values counts l l' : List ℕ} {m : ℕ} (t : List Sample) (f : Sample → ℕ) → Laid values counts m l l' → length t ≡ start_of counts m → length t ≤ length l
    → ((j k : ℕ) → j < m → start_of counts j ≤ k → k < start_of counts (suc j) → f (get_or t k blank) ≡ get_or values j 0) → l' ≡ column_of f t l
laid-column {values} {counts} {l} {l'} {m} t f h e fits is =
    ext_get_or 0 l' (column_of f t l) (h.same_length ∙ sym (column-length f t l fits)) (λ k p. go k (ltb k (length t)) refl)
  where
    go : (k : ℕ) (x : Bool) → ltb k (length t) ≡ x → get_or l' k 0 ≡ get_or (column_of f t l) k 0
    go k true q =
        let p : k < length t = ltb-true k (length t) q in
        let w = lying counts m k (omega (arith, p, e)) in
        h.here w.at k w.inside w.from w.to
        ∙ sym (is w.at k w.inside w.from w.to)
        ∙ sym (get_or-append (map f t) (drop (length t) l) 0 k (omega (arith, length-map t f)) ∙ get_d_map-in f t k blank 0 p)
    go k false q =
        let p : length t ≤ k = ltb-false k (length t) q in
        let z : length (map f t) + (k - length t) ≡ k = omega (arith, length-map t f) in
        let y : length t + (k - length t) ≡ k = omega arith in
        h.beyond k (omega (arith, p, e))
        ∙ sym (ap (λ (x : ℕ). get_or (column_of f t l) x 0) (sym z) ∙ get_or-append-add (map f t) (drop (length t) l) (k - length t) 0 ∙ get_or-drop (length t) l (k - length t) 0 ∙ ap (λ (x : ℕ). get_or l x 0) y)

-- ---- the blocks of a sound directory
none-start : (counts : List ℕ) (n : ℕ) (es : List Entry) → length es ≡ 0 → tiles 0 n es ≡ true → start_of counts 0 ≡ n
unfolding start_of tiles
none-start counts n [] h t = eqb-true 0 n t
none-start counts n (e ∷ es) h t = absurd (omega arith)

module _ (dc dv db df dn : List ℕ) (m : ℕ) (ts xs : List Float) (n : ℕ) (hm : m ≤ length (entry_rows dc dv db df dn)) (hn : n ≤ length (reading_rows ts xs)) (ok : sound_directory (directory_in m n (lent_blocks dc dv db df dn ts xs)) ≡ true) where
  sizes : length (take n (reading_rows ts xs)) ≡ n
  sizes = length-take-le n (reading_rows ts xs) hn

  long : length (take m (entry_rows dc dv db df dn)) ≡ m
  long = length-take-le m (entry_rows dc dv db df dn) hm

  tiled : tiles 0 (length (take n (reading_rows ts xs))) (take m (entry_rows dc dv db df dn)) ≡ true
  tiled = (sound-parts (directory_in m n (lent_blocks dc dv db df dn ts xs)) ok).tiled

  -- each block begins where those before it end
  starts : (j : ℕ) → j < m → (get_or (take m (entry_rows dc dv db df dn)) j no_entry).start ≡ start_of dn j
  unfolding start_of
  starts zero h = tiles-first 0 (length (take n (reading_rows ts xs))) (take m (entry_rows dc dv db df dn)) tiled (omega (arith, long))
  starts (suc j) h =
      let a = tiles-next 0 (length (take n (reading_rows ts xs))) (take m (entry_rows dc dv db df dn)) j tiled (omega (arith, long)) in
      let b = starts j (omega arith) in
      let c : get_or dn j 0 ≡ (get_or (take m (entry_rows dc dv db df dn)) j no_entry).count = ap (λ (x : Entry). x.count) (row_at dc dv db df dn m hm j (omega arith)) in
      omega (arith, a, b, c)

  ends : (j : ℕ) → j < m → start_of dn (suc j) ≡ (get_or (take m (entry_rows dc dv db df dn)) j no_entry).start + (get_or (take m (entry_rows dc dv db df dn)) j no_entry).count
  unfolding start_of
  ends j h =
      let b = starts j h in
      let c : get_or dn j 0 ≡ (get_or (take m (entry_rows dc dv db df dn)) j no_entry).count = ap (λ (x : Entry). x.count) (row_at dc dv db df dn m hm j h) in
      omega (arith, b, c)

  -- and the last ends at n
  pub start-end : start_of dn m ≡ n
  start-end = go m refl
    where
      go : (k : ℕ) → m ≡ k → start_of dn m ≡ n
      go zero e = ap (start_of dn) e ∙ none-start dn n (take m (entry_rows dc dv db df dn)) (omega (arith, long, e)) (rw sizes at tiled)
      go (suc k) e =
          let a = ends k (omega arith) in
          let b = tiles-last 0 (length (take n (reading_rows ts xs))) (take m (entry_rows dc dv db df dn)) k tiled (omega (arith, long)) in
          ap (start_of dn) e ∙ a ∙ b ∙ sizes

  count : length (flat (directory_in m n (lent_blocks dc dv db df dn ts xs))) ≡ n
  count = flat-length (directory_in m n (lent_blocks dc dv db df dn ts xs)) ok ∙ sizes

  -- the sample at a place of the block j
  sample-at : (j k : ℕ) → j < m → start_of dn j ≤ k → k < start_of dn (suc j)
      → get_or (flat (directory_in m n (lent_blocks dc dv db df dn ts xs))) k blank ≡ sample_of (get_or (take m (entry_rows dc dv db df dn)) j no_entry) (get_or (take n (reading_rows ts xs)) k no_reading)
  unfolding flat
  sample-at j k h a b =
      let s = starts j h in
      let e = ends j h in
      flat-at (take n (reading_rows ts xs)) (take m (entry_rows dc dv db df dn)) j k tiled (omega (arith, long)) (omega (arith, s)) (omega (arith, e))

  pub listed : {cs vs bs cs' vs' bs' : List ℕ} → n ≤ length cs → n ≤ length vs → n ≤ length bs → Laid dc dn m cs cs' → Laid dv dn m vs vs' → Laid db dn m bs bs'
      → lent_samples cs' vs' bs' ts xs ≡ signals_with (flat (directory_in m n (lent_blocks dc dv db df dn ts xs))) (lent_samples cs vs bs ts xs)
  listed {cs} {vs} {bs} rc rv rb c v b =
      let t = flat (directory_in m n (lent_blocks dc dv db df dn ts xs)) in
      let e : length t ≡ start_of dn m = count ∙ sym start-end in
      rw (
        laid-column t (λ (s : Sample). s.constellation) c e (omega (arith, count)) (λ j k h a z. ap (λ (s : Sample). s.constellation) (sample-at j k h a z) ∙ sym (ap (λ (x : Entry). x.constellation) (row_at dc dv db df dn m hm j h))),
        laid-column t (λ (s : Sample). s.svid) v e (omega (arith, count)) (λ j k h a z. ap (λ (s : Sample). s.svid) (sample-at j k h a z) ∙ sym (ap (λ (x : Entry). x.svid) (row_at dc dv db df dn m hm j h))),
        laid-column t (λ (s : Sample). s.band) b e (omega (arith, count)) (λ j k h a z. ap (λ (s : Sample). s.band) (sample-at j k h a z) ∙ sym (ap (λ (x : Entry). x.band) (row_at dc dv db df dn m hm j h))),
      )
