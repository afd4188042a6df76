-- A table and its directory: each is recovered from the other, and the table is sound where the directory is. Assumes nothing.
use mathlib.Core.Path.{◌≡◌, refl, sym, ap, ◌∙◌}
use mathlib.Core.List.{List, [], ◌∷◌, ◌++◌, map, map-append}
use mathlib.Core.Bool.{Bool, true, false, cond, ◌&&◌}
use Prim.Native.Nat.{ℕ, suc, ◌+◌, ◌*◌, ◌^◌, ◌≤◌, ◌<◌}
use native.Mathlib.Numerals.{add-one}
use native.Mathlib.Omega.{arith}
use lib.Dec.{eqb, ltb, leb}
use lib.Ieee.{Float}
use lib.ListN.{length, take, drop, length-drop, take-append-drop}
use lib.Seq.{drop-drop, drop-length, length-take-le}
use borrow.Author.Tests.{ltb-true, leb-true, eqb-true, le-leb, eq-eqb}
use Rattle.lists.specs.Walk.{collect, every}
use Rattle.corrections_table.specs.Table.{ranged, sound_table}
use Rattle.corrections_table.specs.declared.sample.Sample.{Sample}
use Rattle.corrections_table.proofs.TableLaws.{and_left, and_right}
use Rattle.corrections_table.proofs.Places.{time_key, place_of, rises, key-lt, earlier-key, not_ltb, sorted_rises}
use Rattle.corrections_directory.specs.Directory.{Entry, Reading, Directory, signal_in, sample_of, block, block_times, flat, ascends, tiles, timely, timely_from, in_order, in_reach, sound_directory, entry_of, is_mine, joined, entries_from, reading_of, directory_of}

-- ---- a table from its directory

-- what is left after one place more
one_more : {A : Type 0} (k : ℕ) (l : List A) (x : A) (xs : List A) → drop k l ≡ x ∷ xs → drop (suc k) l ≡ xs
one_more k l x xs e = rw (← (add-one k)) (sym (drop-drop 1 k l) ∙ ap (drop 1) e)

-- the first block starts at the place
abbrev Starts : ℕ → List Entry → Type 0
Starts place [] = Unit {0}
Starts place (e ∷ es) = e.start ≡ place

starts-joined : (s : Sample) (place : ℕ) (es : List Entry) → Starts place (joined s place es)
unfolding joined
starts-joined s place [] = refl
starts-joined s place (e ∷ es) = go (is_mine s e)
  where
    go : (x : Bool) → Starts place (cond x (entry_of s place (suc e.count) ∷ es) (entry_of s place 1 ∷ e ∷ es))
    go true = refl
    go false = refl

starts : (place : ℕ) (t : List Sample) → Starts place (entries_from place t)
unfolding entries_from
starts place [] = tt
starts place (s ∷ t) = starts-joined s place (entries_from (suc place) t)

-- a satellite's three numbers
pub record Same (s : Sample) (e : Entry) : Type 0 where
  pub constellations : s.constellation ≡ e.constellation
  pub svids : s.svid ≡ e.svid
  pub bands : s.band ≡ e.band

pub same_of : (s : Sample) (e : Entry) → is_mine s e ≡ true → Same s e
same_of s e h =
    let k = and_right (eqb s.constellation e.constellation) _ h in
    record {
      constellations = eqb-true s.constellation e.constellation (and_left _ _ h);
      svids = eqb-true s.svid e.svid (and_left _ _ k);
      bands = eqb-true s.band e.band (and_right (eqb s.svid e.svid) _ k);
    }

samples-same : (s : Sample) (e : Entry) (place n : ℕ) (r : Reading) → Same s e → sample_of (entry_of s place n) r ≡ sample_of e r
samples-same s e place n r h = rw (h.constellations, h.svids, h.bands)

pub map_same : (s : Sample) (e : Entry) (place n : ℕ) (rs : List Reading) → Same s e → map (sample_of (entry_of s place n)) rs ≡ map (sample_of e) rs
map_same s e place n [] h = refl
map_same s e place n (r ∷ rs) h = rw (samples-same s e place n r h, map_same s e place n rs h)

module _ (rs : List Reading) where
  -- the blocks of a sample joined to entries, where the readings from its place on are its own and what is left
  flat-joined : (s : Sample) (place : ℕ) (es : List Entry) (xs : List Reading) → drop place rs ≡ reading_of s ∷ xs → Starts (suc place) es → collect (block rs) (joined s place es) ≡ s ∷ collect (block rs) es
  unfolding joined collect block
  flat-joined s place [] xs d h = rw d
  flat-joined s place (e ∷ es) xs d h = go (is_mine s e) refl
    where
      go : (x : Bool) → is_mine s e ≡ x → collect (block rs) (cond x (entry_of s place (suc e.count) ∷ es) (entry_of s place 1 ∷ e ∷ es)) ≡ s ∷ block rs e ++ collect (block rs) es
      go true q = rw (d, h, one_more place rs (reading_of s) xs d, map_same s e place (suc e.count) (take e.count xs) (same_of s e q))
      go false q = rw d

  pub flat-from : (place : ℕ) (t : List Sample) → drop place rs ≡ map reading_of t → collect (block rs) (entries_from place t) ≡ t
  unfolding entries_from
  flat-from place [] d = unfold collect in refl
  flat-from place (s ∷ t) d =
      flat-joined s place (entries_from (suc place) t) (map reading_of t) d (starts (suc place) t)
      ∙ ap (λ (m : List Sample). s ∷ m) (flat-from (suc place) t (one_more place rs (reading_of s) (map reading_of t) d))

-- for every list of samples
pub flat-directory : (t : List Sample) → flat (directory_of t) ≡ t
unfolding flat directory_of
flat-directory t = flat-from (map reading_of t) 0 t refl

-- ---- a directory from its table
pub tiles-le : (place n : ℕ) (es : List Entry) → tiles place n es ≡ true → place ≤ n
unfolding tiles
tiles-le place n [] h = omega (arith, eqb-true place n h)
tiles-le place n (e ∷ es) h =
    omega (arith, tiles-le (place + e.count) n es (and_right (ltb 0 e.count) _ (and_right (eqb e.start place) _ h)))

pub readings-map : (e : Entry) (rs : List Reading) → map reading_of (map (sample_of e) rs) ≡ rs
readings-map e [] = refl
readings-map e (r ∷ rs) = ap (λ (m : List Reading). r ∷ m) (readings-map e rs)

-- where an entry's sample comes before other entries, it is joined to none of another satellite
run-start : (e : Entry) (r : Reading) (place : ℕ) (es : List Entry) → ascends (suc (signal_in e)) es ≡ true → joined (sample_of e r) place es ≡ entry_of (sample_of e r) place 1 ∷ es
unfolding joined ascends
run-start e r place [] h = refl
run-start e r place (f ∷ es) h = go (is_mine (sample_of e r) f) refl
  where
    go : (x : Bool) → is_mine (sample_of e r) f ≡ x → cond x (entry_of (sample_of e r) place (suc f.count) ∷ es) (entry_of (sample_of e r) place 1 ∷ f ∷ es) ≡ entry_of (sample_of e r) place 1 ∷ f ∷ es
    go true q =
        let k : suc (signal_in e) ≤ signal_in f = leb-true (suc (signal_in e)) (signal_in f) (and_left _ _ h) in
        let w = same_of (sample_of e r) f q in
        let z : signal_in e ≡ signal_in f = rw (w.constellations, w.svids, w.bands) in
        absurd (omega arith)
    go false q = refl

self : (e : Entry) (r : Reading) (place n : ℕ) → is_mine (sample_of e r) (record { constellation = e.constellation; svid = e.svid; band = e.band; start = place; count = n }) ≡ true
self e r place n = rw (eq-eqb e.constellation e.constellation refl, eq-eqb e.svid e.svid refl, eq-eqb e.band e.band refl)

-- a run of one satellite is one entry
pub run : (e : Entry) (place : ℕ) (r : Reading) (rs : List Reading) (rest : List Sample) (es : List Entry) → entries_from (place + suc (length rs)) rest ≡ es → ascends (suc (signal_in e)) es ≡ true
    → entries_from place (map (sample_of e) (r ∷ rs) ++ rest) ≡ record { constellation = e.constellation; svid = e.svid; band = e.band; start = place; count = suc (length rs) } ∷ es
unfolding entries_from
run e place r [] rest es i a =
    let z : place + 1 ≡ suc place = add-one place in
    ap (joined (sample_of e r) place) ((rw (← z) refl) ∙ i) ∙ run-start e r place es a
run e place r (x ∷ rs) rest es i a =
    let z : suc place + suc (length rs) ≡ place + suc (suc (length rs)) = omega arith in
    ap (joined (sample_of e r) place) (run e (suc place) x rs rest es (rw z i) a) ∙ longer
  where
    longer : joined (sample_of e r) place (record { constellation = e.constellation; svid = e.svid; band = e.band; start = suc place; count = suc (length rs) } ∷ es)
        ≡ record { constellation = e.constellation; svid = e.svid; band = e.band; start = place; count = suc (suc (length rs)) } ∷ es
    longer = unfold joined in rw (self e r (suc place) (suc (length rs)))

-- ---- what tiles and ascends say of the first entry and of the others
module _ (e : Entry) (es : List Entry) where
  module _ (place n : ℕ) (h : tiles place n (e ∷ es) ≡ true) where
    pub tiles-start : e.start ≡ place
    unfolding tiles
    tiles-start = eqb-true e.start place (and_left _ _ h)

    pub tiles-count : 0 < e.count
    unfolding tiles
    tiles-count = ltb-true 0 e.count (and_left _ _ (and_right (eqb e.start place) _ h))

    pub tiles-rest : tiles (place + e.count) n es ≡ true
    unfolding tiles
    tiles-rest = and_right (ltb 0 e.count) _ (and_right (eqb e.start place) _ h)

  module _ (p : ℕ) (h : ascends p (e ∷ es) ≡ true) where
    pub ascends-low : p ≤ signal_in e
    unfolding ascends
    ascends-low = leb-true p (signal_in e) (and_left _ _ h)

    pub ascends-rest : ascends (suc (signal_in e)) es ≡ true
    unfolding ascends
    ascends-rest = and_right (leb p (signal_in e)) _ h

module _ (rs : List Reading) where
  pub readings-from : (place : ℕ) (es : List Entry) → tiles place (length rs) es ≡ true → map reading_of (collect (block rs) es) ≡ drop place rs
  unfolding collect block
  readings-from place [] h = let z : place ≡ length rs = eqb-true place (length rs) (unfold tiles in h) in rw z (sym (drop-length rs))
  readings-from place (e ∷ es) h =
      map-append reading_of (map (sample_of e) (take e.count (drop e.start rs))) (collect (block rs) es)
      ∙ rw (readings-map e (take e.count (drop e.start rs)), readings-from (place + e.count) es (tiles-rest e es place (length rs) h), tiles-start e es place (length rs) h, ← (drop-drop e.count place rs))
      (take-append-drop e.count (drop place rs))

  pub entries-from : (place p : ℕ) (es : List Entry) → tiles place (length rs) es ≡ true → ascends p es ≡ true → entries_from place (collect (block rs) es) ≡ es
  unfolding collect block
  entries-from place p [] h a = unfold entries_from in refl
  entries-from place p (e ∷ es) h a =
      let i = entries-from (place + e.count) (suc (signal_in e)) es (tiles-rest e es place (length rs) h) (ascends-rest e es p a) in
      ap (λ (k : ℕ). entries_from place (map (sample_of e) (take e.count (drop k rs)) ++ collect (block rs) es)) (tiles-start e es place (length rs) h)
      ∙ go (take e.count (drop place rs)) counted i
    where
      counted : length (take e.count (drop place rs)) ≡ e.count
      counted = length-take-le e.count (drop place rs) (omega (arith, length-drop place rs, tiles-le (place + e.count) (length rs) es (tiles-rest e es place (length rs) h)))

      go : (l : List Reading) → length l ≡ e.count → entries_from (place + e.count) (collect (block rs) es) ≡ es → entries_from place (map (sample_of e) l ++ collect (block rs) es) ≡ e ∷ es
      go [] k i = absurd (omega (arith, tiles-count e es place (length rs) h))
      go (r ∷ l) k i =
          run e place r l (collect (block rs) es) es (rw k i) (ascends-rest e es p a)
          ∙ whole (tiles-start e es place (length rs) h)
        where
          whole : e.start ≡ place → record { constellation = e.constellation; svid = e.svid; band = e.band; start = place; count = suc (length l) } ∷ es ≡ e ∷ es
          whole z = rw (k, ← z)

-- ---- the parts of a sound directory
pub record SoundDirectory (d : Directory) : Type 0 where
  pub in_reach : every in_reach d.readings ≡ true
  pub ascending : ascends 0 d.entries ≡ true
  pub tiled : tiles 0 (length d.readings) d.entries ≡ true
  pub ordered : in_order d.readings d.entries ≡ true

pub sound-parts : (d : Directory) → sound_directory d ≡ true → SoundDirectory d
unfolding sound_directory
sound-parts d h =
    let k = and_right (every in_reach d.readings) _ h in
    let l = and_right (ascends 0 d.entries) _ k in
    record {
      in_reach = and_left _ _ h;
      ascending = and_left _ _ k;
      tiled = and_left _ _ l;
      ordered = and_right (tiles 0 (length d.readings) d.entries) _ l;
    }

-- the samples' times and corrections are the readings
pub flat-readings : (d : Directory) → sound_directory d ≡ true → map reading_of (flat d) ≡ d.readings
unfolding flat
flat-readings d h = readings-from d.readings 0 d.entries (sound-parts d h).tiled

-- for every sound directory
pub directory-flat : (d : Directory) → sound_directory d ≡ true → directory_of (flat d) ≡ d
unfolding flat directory_of
directory-flat d h =
    let p = sound-parts d h in
    rw (entries-from d.readings 0 0 d.entries p.tiled p.ascending, readings-from d.readings 0 d.entries p.tiled)

-- ---- a sound directory is a sound table
-- a lower bound in the place of a higher one
pub rises-weak : (p q : ℕ) (l : List Sample) → p ≤ q → rises q l ≡ true → rises p l ≡ true
unfolding rises
rises-weak p q [] h r = refl
rises-weak p q (s ∷ l) h r = rw (le-leb p (place_of s) (native.Mathlib.Nat.le_trans h (leb-true q (place_of s) (and_left _ _ r)))) (and_right (leb q (place_of s)) _ r)

pub in-reach-ranged : (l : List Sample) → every in_reach (map reading_of l) ≡ every ranged l
unfolding every in_reach ranged
in-reach-ranged [] = refl
in-reach-ranged (s ∷ l) = rw (in-reach-ranged l)

-- times in order, by their numbers; the first is not below k
unfoldable pub keyed : ℕ → List Sample → Bool
keyed k [] = true
keyed k (s ∷ l) = leb k (time_key s.time) && keyed (time_key s.time) l

from-keyed : (e : Entry) (p : Float) (rs : List Reading) → timely_from p (map (λ (r : Reading). r.time) rs) ≡ keyed (time_key p) (map (sample_of e) rs)
unfolding timely_from keyed
from-keyed e p [] = refl
from-keyed e p (r ∷ rs) = rw (earlier-key r.time p, not_ltb (time_key r.time) (time_key p), from-keyed e r.time rs)

pub timely-keyed : (e : Entry) (rs : List Reading) → timely (map (λ (r : Reading). r.time) rs) ≡ keyed 0 (map (sample_of e) rs)
unfolding timely keyed
timely-keyed e [] = refl
timely-keyed e (r ∷ rs) = from-keyed e r.time rs ∙ rw (le-leb 0 (time_key r.time) (omega arith))

-- the times of a block are in order where its samples are
pub block-keyed : (rs : List Reading) (e : Entry) → timely (block_times rs e) ≡ keyed 0 (block rs e)
unfolding block block_times
block-keyed rs e = timely-keyed e (take e.count (drop e.start rs))

above : (g k : ℕ) → k < 2 ^ 64 → g * 2 ^ 64 + k ≤ suc g * 2 ^ 64
above g k h = omega arith

later : (g j k : ℕ) → j ≤ k → g * 2 ^ 64 + j ≤ g * 2 ^ 64 + k
later g j k h = omega arith

-- a block in order, and what follows from the next signal on
rises-block : (e : Entry) (k : ℕ) (rs : List Reading) (rest : List Sample) → k < 2 ^ 64 → keyed k (map (sample_of e) rs) ≡ true → rises (suc (signal_in e) * 2 ^ 64) rest ≡ true
    → rises (signal_in e * 2 ^ 64 + k) (map (sample_of e) rs ++ rest) ≡ true
unfolding keyed rises
rises-block e k [] rest l t r = rises-weak (signal_in e * 2 ^ 64 + k) (suc (signal_in e) * 2 ^ 64) rest (above (signal_in e) k l) r
rises-block e k (x ∷ rs) rest l t r =
    rw (le-leb (signal_in e * 2 ^ 64 + k) (signal_in e * 2 ^ 64 + time_key x.time) (later (signal_in e) k (time_key x.time) (leb-true k (time_key x.time) (and_left _ _ t))))
    (rises-block e (time_key x.time) rs rest (key-lt x.time) (and_right (leb k (time_key x.time)) _ t) r)

pub rises-flat : (rs : List Reading) (p : ℕ) (es : List Entry) → ascends p es ≡ true → in_order rs es ≡ true → rises (p * 2 ^ 64) (collect (block rs) es) ≡ true
unfolding collect block every
rises-flat rs p [] a o = unfold rises in refl
rises-flat rs p (e ∷ es) a o =
    rises-weak (p * 2 ^ 64) (signal_in e * 2 ^ 64 + 0) (map (sample_of e) (take e.count (drop e.start rs)) ++ collect (block rs) es) (low p (signal_in e) (ascends-low e es p a))
    (rises-block e 0 (take e.count (drop e.start rs)) (collect (block rs) es) (omega arith) (sym (block-keyed rs e) ∙ and_left _ _ o) (rises-flat rs (suc (signal_in e)) es (ascends-rest e es p a) (and_right (timely (block_times rs e)) _ o)))
  where
    low : (p g : ℕ) → p ≤ g → p * 2 ^ 64 ≤ g * 2 ^ 64 + 0
    low p g h = omega arith

pub sound-flat : (d : Directory) → sound_directory d ≡ true → sound_table (flat d) ≡ true
unfolding sound_table flat
sound-flat d h =
    let p = sound-parts d h in
    let r : every ranged (collect (block d.readings) d.entries) ≡ true =
    sym (in-reach-ranged (collect (block d.readings) d.entries)) ∙ ap (every in_reach) (readings-from d.readings 0 d.entries p.tiled) ∙ p.in_reach in
    rw r (sorted_rises (collect (block d.readings) d.entries) ∙ rises-flat d.readings 0 d.entries p.ascending p.ordered)
