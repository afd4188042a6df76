-- The passes that test a directory, turn by turn. Assumes nothing.
use mathlib.Core.Path.{◌≡◌, refl, sym, ap, ◌∙◌}
use mathlib.Core.List.{List, [], ◌∷◌, map}
use mathlib.Core.Bool.{Bool, true, false, not, ◌&&◌, ◌||◌}
use Prim.Native.Nat.{ℕ, zero, suc, ◌+◌, ◌-◌, ◌≤◌, ◌<◌}
use native.Mathlib.Nat.{not-suc-le-zero, le_of_suc-le-suc}
use native.Mathlib.Numerals.{add-one}
use native.Mathlib.Omega.{arith}
use lib.Dec.{T, eqb, ltb}
use lib.ListN.{length, get_or, take, drop}
use lib.Seq.{drop_at, get_or-take, length-take-le, take-add}
use borrow.Author.Tests.{ltb-true, ltb-false, eqb-true, eqb-false, le-leb, lt-leb, lt-ltb, not-true, not-false}
use lib.Ieee as Ieee
use lib.Ieee.{Float, nan, lt, binary64}
use Rattle.lists.specs.Walk.{every}
use Rattle.lists.proofs.Walk.{left_at, left_end}
use Rattle.numeric.specs.Real.{in_range}
use Rattle.signal.specs.Signal.{signal}
use Rattle.corrections_table.specs.Table.{time_before}
use Rattle.corrections_table.proofs.TableLaws.{and_left, and_right}
use Rattle.corrections_table.proofs.UnitLaws.{never}
use Rattle.corrections_table.proofs.Places.{numbers_after}
use Rattle.corrections_directory.specs.Directory.{Entry, Reading, Blocks, ascends, block_times, directory_in, entries_in, in_order, in_reach, reading_rows, readings_in, signal_in, sound_directory, tiles, timely, timely_from}
use Rattle.corrections_directory.specs.Steps.{no_entry}
use Rattle.corrections_directory.proofs.DirectoryLaws.{tiles-le, tiles-start, tiles-count, tiles-rest}
use Rattle.corrections_directory.proofs.ColumnLaws.{no_reading, reading-at}

and_yes : (a : Bool) → (a && true) ≡ a
and_yes true = refl
and_yes false = refl

and_parts : (a b c d : Bool) → (((a && b) && c) && d) ≡ (a && ((b && c) && d))
and_parts true b c d = refl
and_parts false b c d = refl

-- ---- times and corrections in range
pub reach-at : (ts xs : List Float) (i : ℕ) → i < length (reading_rows ts xs) → (in_range (get_or ts i nan) && in_range (get_or xs i nan)) ≡ in_reach (get_or (reading_rows ts xs) i no_reading)
unfolding in_reach
reach-at ts xs i h = ap (λ (r : Reading). in_range r.time && in_range r.correction) (reading-at ts xs i h)

-- whether those so far are, and whether those to come are
module _ (ts xs : List Float) (n : ℕ) (fits : n ≤ length (reading_rows ts xs)) (i : ℕ) (all : Bool) {w : Bool} (inv : (all && every in_reach (drop i (take n (reading_rows ts xs)))) ≡ w) where
  pub reach-end : n ≤ i → all ≡ w
  unfolding every
  reach-end h = sym (and_yes all) ∙ (rw (left_end (reading_rows ts xs) n fits i h) at inv)

  pub reach-on : i < n → (a b : Bool) → a ≡ in_range (get_or ts i nan) → b ≡ in_range (get_or xs i nan) → (((all && a) && b) && every in_reach (drop (i + 1) (take n (reading_rows ts xs)))) ≡ w
  unfolding every
  reach-on h a b ea eb =
      let at : (a && b) ≡ in_reach (get_or (reading_rows ts xs) i no_reading) = rw (ea, eb) (reach-at ts xs i (omega arith)) in
      and_parts all a b _ ∙ ap (λ (y : Bool). all && (y && every in_reach (drop (i + 1) (take n (reading_rows ts xs))))) at
      ∙ (rw (left_at (reading_rows ts xs) n fits i no_reading h) at inv)

-- ---- times in order
pub part-is : {A : Type 0} (first count : ℕ) (l : List A) → first + count ≤ length l → take count (drop first l) ≡ drop first (take (first + count) l)
part-is first count l h = sym (ap (drop first) (take-add first count l) ∙ drop_at (take first l) (take count (drop first l)) first (length-take-le first l (omega arith)))

module _ (ts : List Float) (first count : ℕ) (fits : first + count ≤ length ts) where
  pub timely-start : 0 < count → timely_from (get_or ts first nan) (drop (first + 1) (take (first + count) ts)) ≡ timely (take count (drop first ts))
  unfolding timely
  timely-start h = rw (part-is first count ts fits, left_at ts (first + count) fits first nan (omega arith))

  module _ (i : ℕ) {w : Bool} (p : Float) (inv : timely_from p (drop i (take (first + count) ts)) ≡ w) where
    pub timely-end : first + count ≤ i → true ≡ w
    unfolding timely_from
    timely-end h = rw (left_end ts (first + count) fits i h) at inv

    module _ (h : i < first + count) where
      pub timely-no : time_before (get_or ts i nan) p ≡ true → false ≡ w
      unfolding timely_from
      timely-no t = rw (left_at ts (first + count) fits i nan h, t) at inv

      pub timely-on : time_before (get_or ts i nan) p ≡ false → timely_from (get_or ts i nan) (drop (i + 1) (take (first + count) ts)) ≡ w
      unfolding timely_from
      timely-on t = rw (left_at ts (first + count) fits i nan h, t) at inv

-- times that are each below the next so far are in order where the rest is
module _ (ts : List Float) (first count : ℕ) (fits : first + count ≤ length ts) (i : ℕ) (all : Bool) {w : Bool} (inv : all ≡ true → timely_from (get_or ts (i - 1) nan) (drop i (take (first + count) ts)) ≡ w) where
  pub rising-on : i < first + count → T (Ieee.fits binary64 (get_or ts i nan)) → T (Ieee.fits binary64 (get_or ts (i - 1) nan)) → (all && lt (get_or ts (i - 1) nan) (get_or ts i nan)) ≡ true
      → timely_from (get_or ts i nan) (drop (i + 1) (take (first + count) ts)) ≡ w
  rising-on h ft fu e =
      timely-on ts first count fits i (get_or ts (i - 1) nan) (inv (and_left all _ e)) h (sym (numbers_after (get_or ts i nan) (get_or ts (i - 1) nan) ft fu (and_right all (lt (get_or ts (i - 1) nan) (get_or ts i nan)) e)))

part-times : (a c n : ℕ) (ts xs : List Float) → n ≤ length (reading_rows ts xs) → a + c ≤ n → take c (drop a ts) ≡ map (λ (r : Reading). r.time) (take c (drop a (take n (reading_rows ts xs))))
unfolding reading_rows
part-times a zero n ts xs h k = refl
part-times a (suc c) zero ts xs h k = absurd (omega arith)
part-times a (suc c) (suc n) [] xs h k = absurd (not-suc-le-zero h)
part-times a (suc c) (suc n) (t ∷ ts) [] h k = absurd (not-suc-le-zero h)
part-times zero (suc c) (suc n) (t ∷ ts) (x ∷ xs) h k = ap (λ (l : List Float). t ∷ l) (part-times zero c n ts xs (le_of_suc-le-suc h) (omega arith))
part-times (suc a) (suc c) (suc n) (t ∷ ts) (x ∷ xs) h k = part-times a (suc c) n ts xs (le_of_suc-le-suc h) (omega arith)

-- the times of a block within the first n readings of the columns
pub times-at : (ts xs : List Float) (n : ℕ) (e : Entry) → n ≤ length (reading_rows ts xs) → e.start + e.count ≤ n → take e.count (drop e.start ts) ≡ block_times (take n (reading_rows ts xs)) e
unfolding block_times
times-at ts xs n e h k = part-times e.start e.count n ts xs h k

-- ---- entries that ascend and tile
pub record Tile (e : Entry) (place n : ℕ) : Type 0 where
  pub from : place ≤ e.start
  pub filled : 0 < e.count
  pub within : e.start + e.count ≤ n

pub tiles-at : (place n : ℕ) (es : List Entry) (i : ℕ) → tiles place n es ≡ true → i < length es → Tile (get_or es i no_entry) place n
tiles-at place n [] i t h = absurd (not-suc-le-zero h)
tiles-at place n (e ∷ es) zero t h =
    record { from = omega (arith, tiles-start e es place n t); filled = tiles-count e es place n t; within = omega (arith, tiles-start e es place n t, tiles-le (place + e.count) n es (tiles-rest e es place n t)) }
tiles-at place n (e ∷ es) (suc i) t h =
    let r = tiles-at (place + e.count) n es i (tiles-rest e es place n t) (le_of_suc-le-suc h) in
    record { from = omega (arith, r.from); filled = r.filled; within = r.within }

-- the same of the first m entries, by what the code reads of the entry at i
pub tile_at : (es : List Entry) (m : ℕ) → m ≤ length es → (n i : ℕ) → i < m → tiles 0 n (take m es) ≡ true → {c v b f k : ℕ} → ◌≡◌ {A = Entry} (record { constellation = c; svid = v; band = b; start = f; count = k }) (get_or es i no_entry)
    → Tile (record { constellation = c; svid = v; band = b; start = f; count = k }) 0 n
tile_at es m h n i l t at =
    rw at (rw (get_or-take m es i no_entry l) at (tiles-at 0 n (take m es) i t (omega (arith, length-take-le m es h))))

abbrev pub laid_from : ℕ → ℕ → ℕ → List Entry → Bool
laid_from p place n es = ascends p es && tiles place n es

-- what the code tests of an entry, in its order
abbrev pub faulty : ℕ → ℕ → ℕ → Entry → Bool
faulty p place n e = ((ltb (signal_in e) p || not (eqb e.start place)) || eqb e.count 0) || ltb (n - place) e.count

faulty-at : (p place n : ℕ) {c v b f k g : ℕ} {e : Entry} → ◌≡◌ {A = Entry} (record { constellation = c; svid = v; band = b; start = f; count = k }) e → g ≡ signal c v b
    → (((ltb g p || not (eqb f place)) || eqb k 0) || ltb (n - place) k) ≡ faulty p place n e
faulty-at p place n at q = rw (q, ← at)

and_no : (a : Bool) → (a && false) ≡ false
and_no true = refl
and_no false = refl

module _ (p place n : ℕ) (e : Entry) (es : List Entry) where
  -- each fault by itself
  low-no : ltb (signal_in e) p ≡ true → laid_from p place n (e ∷ es) ≡ false
  unfolding ascends
  low-no q = rw (lt-leb p (signal_in e) (ltb-true _ _ q))

  start-no : eqb e.start place ≡ false → tiles place n (e ∷ es) ≡ false
  unfolding tiles
  start-no q = rw q

  empty-no : eqb e.start place ≡ true → eqb e.count 0 ≡ true → tiles place n (e ∷ es) ≡ false
  unfolding tiles
  empty-no q z = let k : e.count ≡ 0 = eqb-true _ _ z in rw (q, k)

  past-no : place ≤ n → ltb (n - place) e.count ≡ true → tiles place n (e ∷ es) ≡ false
  past-no l q = go (tiles place n (e ∷ es)) refl
    where
      go : (x : Bool) → tiles place n (e ∷ es) ≡ x → x ≡ false
      go false t = refl
      go true t = absurd (omega (arith, l, ltb-true (n - place) e.count q, tiles-le (place + e.count) n es (tiles-rest e es place n t)))

  faulty-no : place ≤ n → faulty p place n e ≡ true → laid_from p place n (e ∷ es) ≡ false
  faulty-no l f = go (ltb (signal_in e) p) (eqb e.start place) (eqb e.count 0) (ltb (n - place) e.count) refl refl refl refl f
    where
      go : (a b c d : Bool) → ltb (signal_in e) p ≡ a → eqb e.start place ≡ b → eqb e.count 0 ≡ c → ltb (n - place) e.count ≡ d → (((a || not b) || c) || d) ≡ true → laid_from p place n (e ∷ es) ≡ false
      go true b c d qa qb qc qd f = low-no qa
      go false false c d qa qb qc qd f = rw (start-no qb) (and_no (ascends p (e ∷ es)))
      go false true true d qa qb qc qd f = rw (empty-no qb qc) (and_no (ascends p (e ∷ es)))
      go false true false true qa qb qc qd f = rw (past-no l qd) (and_no (ascends p (e ∷ es)))
      go false true false false qa qb qc qd f = never f

  faulty-on : faulty p place n e ≡ false → laid_from (suc (signal_in e)) (place + e.count) n es ≡ laid_from p place n (e ∷ es)
  unfolding ascends tiles
  faulty-on f = go (ltb (signal_in e) p) (eqb e.start place) (eqb e.count 0) refl refl refl f
    where
      go : (a b c : Bool) → ltb (signal_in e) p ≡ a → eqb e.start place ≡ b → eqb e.count 0 ≡ c → (((a || not b) || c) || ltb (n - place) e.count) ≡ false
          → laid_from (suc (signal_in e)) (place + e.count) n es ≡ laid_from p place n (e ∷ es)
      go true b c qa qb qc f = never (sym f)
      go false false c qa qb qc f = never (sym f)
      go false true true qa qb qc f = never (sym f)
      go false true false qa qb qc f =
          let ne = eqb-false e.count 0 qc in
          rw (le-leb p (signal_in e) (ltb-false _ _ qa), qb, lt-ltb 0 e.count (omega arith))

  faulty-room : faulty p place n e ≡ false → e.count ≤ n - place
  faulty-room f = go ((ltb (signal_in e) p || not (eqb e.start place)) || eqb e.count 0) (ltb (n - place) e.count) refl f
    where
      go : (a d : Bool) → ltb (n - place) e.count ≡ d → (a || d) ≡ false → e.count ≤ n - place
      go true d q f = never (sym f)
      go false true q f = never (sym f)
      go false false q f = ltb-false _ _ q

module _ (es : List Entry) (m : ℕ) (fits : m ≤ length es) (n i : ℕ) {w : Bool} (p place : ℕ) (inv : laid_from p place n (drop i (take m es)) ≡ w) where
  pub laid_end : m ≤ i → eqb place n ≡ w
  unfolding ascends tiles
  laid_end h = rw (left_end es m fits i h) at inv

  module _ (h : i < m) where
    whole : laid_from p place n (get_or es i no_entry ∷ drop (i + 1) (take m es)) ≡ w
    whole = rw (left_at es m fits i no_entry h) at inv

    -- the entry at i, by what the code reads of it
    module _ {c v b f k g : ℕ} (at : ◌≡◌ {A = Entry} (record { constellation = c; svid = v; band = b; start = f; count = k }) (get_or es i no_entry)) (is : g ≡ signal c v b) where
      -- a fault found makes the whole false
      pub laid-no : place ≤ n → (((ltb g p || not (eqb f place)) || eqb k 0) || ltb (n - place) k) ≡ true → false ≡ w
      laid-no l t = sym (faulty-no p place n (get_or es i no_entry) (drop (i + 1) (take m es)) l (sym (faulty-at p place n at is) ∙ t)) ∙ whole

      module _ (t : (((ltb g p || not (eqb f place)) || eqb k 0) || ltb (n - place) k) ≡ false) where
        none : faulty p place n (get_or es i no_entry) ≡ false
        none = sym (faulty-at p place n at is) ∙ t

        -- none found leaves it to the others
        pub laid_on : laid_from (g + 1) (place + k) n (drop (i + 1) (take m es)) ≡ w
        laid_on =
            let z : g + 1 ≡ suc (signal_in (get_or es i no_entry)) = rw (add-one g, is, ← at) in
            let y : place + k ≡ place + (get_or es i no_entry).count = rw (← at) in
            rw (z, y) (faulty-on p place n (get_or es i no_entry) (drop (i + 1) (take m es)) none ∙ whole)

        -- the block ends within the n places
        pub laid-room : k ≤ n - place
        laid-room =
            let y : k ≡ (get_or es i no_entry).count = rw (← at) in
            rw y (faulty-room p place n (get_or es i no_entry) (drop (i + 1) (take m es)) none)

-- ---- the tests one after the other
module _ (m n : ℕ) (l : Blocks) (fits : n ≤ length (readings_in l)) where
  long : length (take n (readings_in l)) ≡ n
  long = length-take-le n (readings_in l) fits

  module _ {x : Bool} (ex : x ≡ every in_reach (take n (readings_in l))) where
    pub sound-reach : not x ≡ true → false ≡ sound_directory (directory_in m n l)
    unfolding sound_directory
    sound-reach h = rw (← ex, not-true x h)

    module _ (h : not x ≡ false) {y : Bool} (ey : y ≡ (ascends 0 (take m (entries_in l)) && tiles 0 n (take m (entries_in l)))) where
      pub sound-tiled : not y ≡ true → false ≡ sound_directory (directory_in m n l)
      unfolding sound_directory
      sound-tiled k = rw (← ex, not-false x h, long) (go (ascends 0 (take m (entries_in l))) (tiles 0 n (take m (entries_in l))) (sym ey ∙ not-true y k))
        where
          go : (a b : Bool) → (a && b) ≡ false → false ≡ (a && (b && in_order (take n (readings_in l)) (take m (entries_in l))))
          go true b q = rw q
          go false b q = refl

      pub tiled-is : not y ≡ false → tiles 0 n (take m (entries_in l)) ≡ true
      tiled-is k = and_right (ascends 0 (take m (entries_in l))) _ (sym ey ∙ not-false y k)

      pub sound-ordered : not y ≡ false → {z : Bool} → z ≡ in_order (take n (readings_in l)) (take m (entries_in l)) → z ≡ sound_directory (directory_in m n l)
      unfolding sound_directory
      sound-ordered k ez = rw (← ex, not-false x h, long, and_left (ascends 0 (take m (entries_in l))) _ (sym ey ∙ not-false y k), tiled-is k) ez
