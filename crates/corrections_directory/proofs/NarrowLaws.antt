-- A sound table has a sound directory, where svid and band have no more bits than the signal keeps for them. Assumes nothing.
use mathlib.Core.Path.{◌≡◌, refl, sym, ap, ◌∙◌}
use mathlib.Core.List.{List, [], ◌∷◌, ◌++◌, map}
use mathlib.Core.Bool.{Bool, true, false, cond, ◌&&◌}
use Prim.Native.Nat.{ℕ, suc, ◌+◌, ◌*◌, ◌^◌, ◌≤◌, ◌<◌}
use native.Mathlib.Numerals.{add-one}
use native.Mathlib.Omega.{arith}
use lib.Dec.{eqb, ltb, leb}
use lib.ListN.{length, take, drop, length-map}
use borrow.Author.Tests.{ltb-true, leb-true, le-leb, lt-ltb, eq-eqb}
use Rattle.lists.specs.Walk.{collect, every}
use Rattle.corrections_table.specs.Table.{signal_of, sound_table}
use Rattle.corrections_table.specs.declared.sample.Sample.{Sample}
use Rattle.corrections_table.proofs.TableLaws.{and_left, and_right}
use Rattle.corrections_table.proofs.UnitLaws.{never}
use Rattle.corrections_table.proofs.Places.{time_key, place_of, rises, key-lt, sorted_rises}
use Rattle.corrections_directory.specs.Directory.{Entry, Reading, signal_in, sample_of, block, block_times, ascends, tiles, timely, in_order, sound_directory, entry_of, is_mine, joined, entries_from, reading_of, directory_of}
use Rattle.corrections_directory.proofs.DirectoryLaws.{block-keyed, flat-from, in-reach-ranged, keyed, rises-weak, same_of}

-- svid and band have no more bits than the signal keeps for them
unfoldable pub narrow : Sample → Bool
narrow s = ltb s.svid (2 ^ 16) && ltb s.band (2 ^ 32)

abbrev pub Narrow : ℕ → ℕ → Type 0
Narrow v b = (v < 2 ^ 16) × (b < 2 ^ 32)

pub narrow-of : (s : Sample) → narrow s ≡ true → Narrow s.svid s.band
unfolding narrow
narrow-of s h = (ltb-true s.svid (2 ^ 16) (and_left _ _ h), ltb-true s.band (2 ^ 32) (and_right (ltb s.svid (2 ^ 16)) _ h))

abbrev pub AllNarrow : List Entry → Type 0
AllNarrow [] = Unit {0}
AllNarrow (e ∷ es) = Narrow e.svid e.band × AllNarrow es

narrow-joined : (s : Sample) (place : ℕ) (es : List Entry) → Narrow s.svid s.band → AllNarrow es → AllNarrow (joined s place es)
unfolding joined
narrow-joined s place [] h a = (h, tt)
narrow-joined s place (e ∷ es) h a = go (is_mine s e)
  where
    go : (x : Bool) → AllNarrow (cond x (entry_of s place (suc e.count) ∷ es) (entry_of s place 1 ∷ e ∷ es))
    go true = (h, a.1)
    go false = (h, a)

narrow-entries : (place : ℕ) (t : List Sample) → every narrow t ≡ true → AllNarrow (entries_from place t)
unfolding entries_from every
narrow-entries place [] h = tt
narrow-entries place (s ∷ t) h = narrow-joined s place (entries_from (suc place) t) (narrow-of s (and_left _ _ h)) (narrow-entries (suc place) t (and_right (narrow s) _ h))

pub digits : (c v b d w x : ℕ) → v < 2 ^ 16 → b < 2 ^ 32 → w < 2 ^ 16 → x < 2 ^ 32 → (c * 2 ^ 16 + v) * 2 ^ 32 + b ≡ (d * 2 ^ 16 + w) * 2 ^ 32 + x → (c ≡ d) × ((v ≡ w) × (b ≡ x))
digits c v b d w x p q r s e = (omega arith, (omega arith, omega arith))

-- signals that are equal are of one satellite
pub same-signal : (s : Sample) (e : Entry) → Narrow s.svid s.band → Narrow e.svid e.band → is_mine s e ≡ false → signal_of s ≡ signal_in e → ⊥
same-signal s e h k q z =
    let d = digits s.constellation s.svid s.band e.constellation e.svid e.band h.0 h.1 k.0 k.1 z in
    let w : is_mine s e ≡ true = rw (eq-eqb s.constellation e.constellation d.0, eq-eqb s.svid e.svid d.1.0, eq-eqb s.band e.band d.1.1) in
    never (sym q ∙ w)

pub signal-same : (s : Sample) (e : Entry) → is_mine s e ≡ true → signal_of s ≡ signal_in e
signal-same s e q = let w = same_of s e q in rw (w.constellations, w.svids, w.bands)

ascends-joined : (g : ℕ) (s : Sample) (place : ℕ) (es : List Entry) → g ≤ signal_of s → Narrow s.svid s.band → AllNarrow es → ascends (signal_of s) es ≡ true → ascends g (joined s place es) ≡ true
unfolding joined ascends
ascends-joined g s place [] l h a r = rw (le-leb g (signal_of s) l)
ascends-joined g s place (e ∷ es) l h a r = go (is_mine s e) refl
  where
    low : signal_of s ≤ signal_in e
    low = leb-true (signal_of s) (signal_in e) (and_left (leb (signal_of s) (signal_in e)) (ascends (suc (signal_in e)) es) r)

    rest : ascends (suc (signal_in e)) es ≡ true
    rest = and_right (leb (signal_of s) (signal_in e)) (ascends (suc (signal_in e)) es) r

    go : (x : Bool) → is_mine s e ≡ x → ascends g (cond x (entry_of s place (suc e.count) ∷ es) (entry_of s place 1 ∷ e ∷ es)) ≡ true
    go true q = rw (le-leb g (signal_of s) l) (ap (λ (k : ℕ). ascends (suc k) es) (signal-same s e q) ∙ rest)
    go false q =
        let ne : signal_of s ≡ signal_in e → ⊥ = same-signal s e h a.0 q in
        let up : suc (signal_of s) ≤ signal_in e = omega (arith, low) in
        rw (le-leb g (signal_of s) l, le-leb (suc (signal_of s)) (signal_in e) up) rest

digit : (g h j k : ℕ) → k < 2 ^ 64 → g * 2 ^ 64 + j ≤ h * 2 ^ 64 + k → g ≤ h
digit g h j k l m = omega arith

pub ascends-entries : (g j place : ℕ) (t : List Sample) → rises (g * 2 ^ 64 + j) t ≡ true → every narrow t ≡ true → ascends g (entries_from place t) ≡ true
unfolding rises every entries_from
ascends-entries g j place [] r h = unfold ascends in refl
ascends-entries g j place (s ∷ t) r h = ascends-joined g s place (entries_from (suc place) t)
    (digit g (signal_of s) j (time_key s.time) (key-lt s.time) (leb-true (g * 2 ^ 64 + j) (place_of s) (and_left _ _ r)))
    (narrow-of s (and_left _ _ h)) (narrow-entries (suc place) t (and_right (narrow s) _ h))
    (ascends-entries (signal_of s) (time_key s.time) (suc place) t (and_right (leb (g * 2 ^ 64 + j) (place_of s)) _ r) (and_right (narrow s) _ h))

tiles-joined : (s : Sample) (place n : ℕ) (es : List Entry) → tiles (suc place) n es ≡ true → tiles place n (joined s place es) ≡ true
unfolding joined tiles
tiles-joined s place n [] h = rw (eq-eqb place place refl, add-one place) h
tiles-joined s place n (e ∷ es) h = go (is_mine s e)
  where
    rest : tiles (suc place + e.count) n es ≡ true
    rest = and_right (ltb 0 e.count) (tiles (suc place + e.count) n es) (and_right (eqb e.start (suc place)) (ltb 0 e.count && tiles (suc place + e.count) n es) h)

    go : (x : Bool) → tiles place n (cond x (entry_of s place (suc e.count) ∷ es) (entry_of s place 1 ∷ e ∷ es)) ≡ true
    go true = let z : place + suc e.count ≡ suc place + e.count = omega arith in rw (eq-eqb place place refl, lt-ltb 0 (suc e.count) (omega arith), z) rest
    go false = rw (eq-eqb place place refl, add-one place) h

tiles-entries : (place : ℕ) (t : List Sample) → tiles place (place + length t) (entries_from place t) ≡ true
unfolding entries_from
tiles-entries place [] = unfold tiles in eq-eqb place (place + 0) (omega arith)
tiles-entries place (s ∷ t) =
    let z : place + suc (length t) ≡ suc place + length t = omega arith in tiles-joined s place (place + suc (length t)) (entries_from (suc place) t) (rw z (tiles-entries (suc place) t))

-- the parts of a list that rises
rises-left : (p : ℕ) (a b : List Sample) → rises p (a ++ b) ≡ true → rises p a ≡ true
unfolding rises
rises-left p [] b r = refl
rises-left p (s ∷ a) b r = rw (and_left (leb p (place_of s)) _ r) (rises-left (place_of s) a b (and_right (leb p (place_of s)) _ r))

rises-right : (p : ℕ) (a b : List Sample) → rises p (a ++ b) ≡ true → rises 0 b ≡ true
unfolding rises
rises-right p [] b r = rises-weak 0 p b (omega arith) r
rises-right p (s ∷ a) b r = rises-right (place_of s) a b (and_right (leb p (place_of s)) _ r)

least : (g j k : ℕ) → g * 2 ^ 64 + j ≤ g * 2 ^ 64 + k → j ≤ k
least g j k h = omega arith

keyed-rises : (e : Entry) (k : ℕ) (rs : List Reading) → rises (signal_in e * 2 ^ 64 + k) (map (sample_of e) rs) ≡ true → keyed k (map (sample_of e) rs) ≡ true
unfolding rises keyed
keyed-rises e k [] r = refl
keyed-rises e k (x ∷ rs) r =
    rw (le-leb k (time_key x.time) (least (signal_in e) k (time_key x.time) (leb-true (signal_in e * 2 ^ 64 + k) (signal_in e * 2 ^ 64 + time_key x.time) (and_left _ _ r))))
    (keyed-rises e (time_key x.time) rs (and_right (leb (signal_in e * 2 ^ 64 + k) (signal_in e * 2 ^ 64 + time_key x.time)) _ r))

keyed-run : (e : Entry) (rs : List Reading) → rises 0 (map (sample_of e) rs) ≡ true → keyed 0 (map (sample_of e) rs) ≡ true
unfolding rises keyed
keyed-run e [] r = refl
keyed-run e (x ∷ rs) r =
    rw (le-leb 0 (time_key x.time) (omega arith)) (keyed-rises e (time_key x.time) rs (and_right (leb 0 (signal_in e * 2 ^ 64 + time_key x.time)) _ r))

timely-block : (rs : List Reading) (e : Entry) → rises 0 (block rs e) ≡ true → timely (block_times rs e) ≡ true
unfolding block
timely-block rs e r = block-keyed rs e ∙ keyed-run e (take e.count (drop e.start rs)) r

in-order-of : (rs : List Reading) (es : List Entry) → rises 0 (collect (block rs) es) ≡ true → in_order rs es ≡ true
unfolding collect every
in-order-of rs [] r = refl
in-order-of rs (e ∷ es) r =
    rw (timely-block rs e (rises-left 0 (block rs e) (collect (block rs) es) r)) (in-order-of rs es (rises-right 0 (block rs e) (collect (block rs) es) r))

-- for every sorted table the tests of number 4 agree
pub sound-directory : (t : List Sample) → every narrow t ≡ true → rises 0 t ≡ true → sound_directory (directory_of t) ≡ sound_table t
unfolding sound_directory directory_of sound_table
sound-directory t n r =
    let o : in_order (map reading_of t) (entries_from 0 t) ≡ true = in-order-of (map reading_of t) (entries_from 0 t) (rw (flat-from (map reading_of t) 0 t refl) r) in
    let z : length t ≡ 0 + length t = omega arith in
    let i : tiles 0 (length (map reading_of t)) (entries_from 0 t) ≡ true = ap (λ (k : ℕ). tiles 0 k (entries_from 0 t)) (length-map t reading_of ∙ z) ∙ tiles-entries 0 t in
    rw (ascends-entries 0 0 0 t r n, i, o, sorted_rises t, r, in-reach-ranged t)
