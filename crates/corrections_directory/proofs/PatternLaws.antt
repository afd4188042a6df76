-- A column of patterns and its floats, and the range of a float by its pattern. Assumes nothing.
use mathlib.Core.Path.{◌≡◌, refl, sym, ap, ap₂, ◌∙◌}
use mathlib.Core.List.{List, [], ◌∷◌, ◌++◌, map, map-append}
use mathlib.Core.Bool.{Bool, true, false, ◌&&◌, ◌||◌}
use Prim.Native.Nat.{ℕ, zero, suc, ◌+◌, ◌%◌, ◌^◌, ◌≤◌, ◌<◌}
use native.Mathlib.Nat.{not-suc-le-zero, le_of_suc-le-suc}
use native.Mathlib.Omega.{arith}
use lib.Bits.{bit_or, or_lt, or_add_and, and_le_l, and_le_r}
use lib.Dec.{T, leb, ltb, eqb}
use lib.ListN.{length, get_or, take, drop, length-map}
use lib.Seq.{get_or-take, length-take-le}
use lib.IntN.{pos}
use lib.Ieee.{Float, nan, binary64, fits, le, neg, of_bits, of_int, below, level}
use lib.Ieee.Bits.{of_bits-fits}
use borrow.Author.Tests.{lt-ltb, le-ltb, ltb-true, ltb-false, eq-eqb, ne_eqb, eqb-true, eqb-false, leb-true, leb-false, le-leb, lt-leb}
use Rattle.exact.specs.Float.{bits}
use Rattle.exact.specs.Pattern.{sign}
use Rattle.numeric.specs.Order.{is_nan_pattern, pattern_of}
use Rattle.numeric.specs.Real.{in_range}
use Rattle.numeric.proofs.OrderMagnitude.{unsigned, infinity, bits-nan, eq-bits, lt-bits, is_nan_pattern-above}
use Rattle.numeric.proofs.OrderLaws.{pattern_back, pattern_same}
use Rattle.numeric.proofs.RealLaws.{between}
use Rattle.lists.specs.Walk.{every}
use Rattle.lists.proofs.Walk.{places-ext, places-map, places-take}
use Rattle.corrections_table.proofs.TableLaws.{and_left, and_right}
use Rattle.corrections_directory.specs.Directory.{Entry, Reading, block_times, column_of, entry_rows, floats, in_order, in_reach, reading_rows, tiles, timely}
use Rattle.corrections_directory.specs.Steps.{no_entry, timely_blocks}
use Rattle.corrections_directory.proofs.ColumnLaws.{entry-at, no_reading, reading-at, readings-length}
use Rattle.corrections_directory.proofs.SoundLaws.{tile_at, times-at}
use Rattle.corrections_directory.proofs.EntryLaws.{get_d_map-in}

-- ---- the range

-- the pattern of 1e9
abbrev limit : ℕ
limit = 0x41CD_CD65_0000_0000

range-by : (x : Float) → (le (bits (2 ^ 63 + limit)) x && le x (bits limit)) ≡ in_range x
unfolding in_range of_bits neg of_int
range-by x = between 1953125 (pos 9) x

nan-out : in_range nan ≡ false
unfolding in_range
nan-out = refl

least : (a b : ℕ) → (ltb a b || (eqb a b && true)) ≡ leb a b
least a b = go (ltb a b) (eqb a b) refl refl
  where
    go : (p q : Bool) → ltb a b ≡ p → eqb a b ≡ q → (p || (q && true)) ≡ leb a b
    go true q e f = sym (le-leb a b (omega (arith, ltb-true a b e)))
    go false true e f = sym (le-leb a b (omega (arith, eqb-true a b f)))
    go false false e f = sym (lt-leb a b (omega (arith, ltb-false a b e, eqb-false a b f)))

-- what the comparisons with both ends come to, by sign and magnitude
ends : (s : Bool) (r : ℕ) → ((below true limit s r || level true limit s r) && (below s r false limit || level s r false limit)) ≡ leb r limit
ends false r = rw (lt-ltb 0 (limit + r) (omega arith)) (least r limit)
ends true r = rw (lt-ltb 0 (r + limit) (omega arith)) (go (leb r limit) refl)
  where
    go : (p : Bool) → leb r limit ≡ p → ((ltb r limit || (eqb limit r && true)) && true) ≡ p
    go true e = side (ltb r limit) refl
      where
        side : (q : Bool) → ltb r limit ≡ q → ((q || (eqb limit r && true)) && true) ≡ true
        side true f = refl
        side false f = rw (eq-eqb limit r (omega (arith, leb-true r limit e, ltb-false r limit f)))
    go false e = let h : limit < r = leb-false r limit e in rw (le-ltb r limit (omega arith), ne_eqb limit r (λ (q : limit ≡ r). absurd (omega arith)))

range-numbers : (b : ℕ) → unsigned b ≤ infinity → in_range (bits b) ≡ leb (unsigned b) limit
unfolding le sign
range-numbers b h =
    sym (range-by (bits b))
    ∙ rw (lt-bits (2 ^ 63 + limit) b (omega arith) h, eq-bits (2 ^ 63 + limit) b (omega arith) h, lt-bits b limit h (omega arith), eq-bits b limit h (omega arith)) (ends (sign b) (unsigned b))

-- in range by the magnitude's bits, as the code adds them up
pub range_pattern : (b : ℕ) → ltb (b % 2 ^ 63 + 0x3E32_329A_FFFF_FFFF) (2 ^ 63) ≡ in_range (bits b)
range_pattern b = sum ∙ go (ltb infinity (unsigned b)) refl
  where
    sum : ltb (b % 2 ^ 63 + 0x3E32_329A_FFFF_FFFF) (2 ^ 63) ≡ leb (unsigned b) limit
    sum = side (leb (unsigned b) limit) refl
      where
        side : (p : Bool) → leb (unsigned b) limit ≡ p → ltb (b % 2 ^ 63 + 0x3E32_329A_FFFF_FFFF) (2 ^ 63) ≡ p
        side true e = let h : unsigned b ≤ limit = leb-true (unsigned b) limit e in lt-ltb (b % 2 ^ 63 + 0x3E32_329A_FFFF_FFFF) (2 ^ 63) (omega arith)
        side false e = let h : limit < unsigned b = leb-false (unsigned b) limit e in le-ltb (b % 2 ^ 63 + 0x3E32_329A_FFFF_FFFF) (2 ^ 63) (omega arith)

    go : (p : Bool) → ltb infinity (unsigned b) ≡ p → leb (unsigned b) limit ≡ in_range (bits b)
    go true e = let h : infinity < unsigned b = ltb-true _ _ e in lt-leb (unsigned b) limit (omega arith) ∙ sym (ap in_range (bits-nan b h) ∙ nan-out)
    go false e = sym (range-numbers b (ltb-false _ _ e))

-- the top bit of numbers taken together by their bits is set where that of one of them is
pub or-below : (a b : ℕ) → ltb (bit_or a b) (2 ^ 63) ≡ (ltb a (2 ^ 63) && ltb b (2 ^ 63))
or-below a b = go (ltb a (2 ^ 63)) (ltb b (2 ^ 63)) refl refl
  where
    go : (p q : Bool) → ltb a (2 ^ 63) ≡ p → ltb b (2 ^ 63) ≡ q → ltb (bit_or a b) (2 ^ 63) ≡ (p && q)
    go true true e f = lt-ltb (bit_or a b) (2 ^ 63) (or_lt 63 a b (ltb-true a (2 ^ 63) e) (ltb-true b (2 ^ 63) f))
    go true false e f = le-ltb (bit_or a b) (2 ^ 63) (omega (arith, ltb-false b (2 ^ 63) f, or_add_and a b, and_le_l a b))
    go false q e f = le-ltb (bit_or a b) (2 ^ 63) (omega (arith, ltb-false a (2 ^ 63) e, or_add_and a b, and_le_r a b))

-- a pattern in range is no NaN's
pub in-range-number : (b : ℕ) → in_range (bits b) ≡ true → is_nan_pattern b ≡ false
in-range-number b h =
    let k : unsigned b + 0x3E32_329A_FFFF_FFFF < 2 ^ 63 = ltb-true _ _ (range_pattern b ∙ h) in
    is_nan_pattern-above b ∙ le-ltb infinity (unsigned b) (omega arith)

-- ---- the floats of a column
pub floats_at : (ts : List ℕ) (i : ℕ) → i < length ts → get_or (floats ts) i nan ≡ bits (get_or ts i 0)
floats_at ts i h = get_d_map-in bits ts i 0 nan h

pub floats-length : (ts : List ℕ) → length (floats ts) ≡ length ts
floats-length ts = length-map ts bits

-- a float that is read from a pattern is one of its format
pub floats-fit : (ts : List ℕ) (i : ℕ) → i < length ts → T (fits binary64 (get_or (floats ts) i nan))
floats-fit ts i h = rw (floats_at ts i h) (of_bits-fits binary64 (get_or ts i 0))

-- reading patterns that are no NaNs' and writing the floats gives the patterns
pub patterns-back : (ts : List ℕ) (n : ℕ) → n ≤ length ts → ((x : ℕ) → get_or ts x 0 < 2 ^ 64) → ((x : ℕ) → x < n → is_nan_pattern (get_or ts x 0) ≡ false) → map pattern_of (take n (floats ts)) ≡ take n ts
patterns-back ts zero h b f = refl
patterns-back [] (suc n) h b f = refl
patterns-back (t ∷ ts) (suc n) h b f =
    let at : pattern_of (bits t) ≡ t = pattern_same t (b 0) (f 0 (omega arith)) in
    rw at (ap (λ (l : List ℕ). t ∷ l) (patterns-back ts n (le_of_suc-le-suc h) (λ x. b (suc x)) (λ x l. f (suc x) (omega arith))))

pub T_true : (b : Bool) → T b → b ≡ true
T_true true t = refl
T_true false t = absurd t

-- floats that are read from patterns are of their format
pub floats-fit-all : (ts : List ℕ) (n : ℕ) → every (fits binary64) (take n (floats ts)) ≡ true
unfolding every
floats-fit-all ts zero = refl
floats-fit-all [] (suc n) = refl
floats-fit-all (t ∷ ts) (suc n) = rw (T_true (fits binary64 (bits t)) (of_bits-fits binary64 t)) (floats-fit-all ts n)

pub map_of : {A B C : Type 0} (g : B → C) (f : A → B) (l : List A) → map (λ (x : A). g (f x)) l ≡ map g (map f l)
map_of g f [] = refl
map_of g f (x ∷ l) = rw (map_of g f l)

floats-drop : (k : ℕ) (ts : List ℕ) → floats (drop k ts) ≡ drop k (floats ts)
floats-drop zero ts = refl
floats-drop (suc k) [] = refl
floats-drop (suc k) (t ∷ ts) = floats-drop k ts

written_back : {R : Type 0} (f : R → Float) (l : List R) → every (λ (r : R). fits binary64 (f r)) l ≡ true → map bits (map (λ (r : R). pattern_of (f r)) l) ≡ map f l
unfolding every
written_back f [] e = refl
written_back f (r ∷ l) e =
    let at : bits (pattern_of (f r)) ≡ f r = pattern_back (f r) (rw (and_left (fits binary64 (f r)) _ e) tt) in
    rw at (ap (λ (m : List Float). f r ∷ m) (written_back f l (and_right (fits binary64 (f r)) _ e)))

-- patterns that are written are read back as the floats
pub floats-column : {R : Type 0} (f : R → Float) (l : List R) (ts : List ℕ) → every (λ (r : R). fits binary64 (f r)) l ≡ true → floats (column_of (λ (r : R). pattern_of (f r)) l ts) ≡ column_of f l (floats ts)
floats-column f l ts e = map-append bits (map (λ r. pattern_of (f r)) l) (drop (length l) ts) ∙ ap₂ ◌++◌ (written_back f l e) (floats-drop (length l) ts)

-- ---- the blocks of a sound directory
pub every_of : {A B : Type 0} (p : B → Bool) (f : A → B) (l : List A) → every p (map f l) ≡ every (λ (x : A). p (f x)) l
unfolding every
every_of p f [] = refl
every_of p f (x ∷ l) = ap (λ (b : Bool). p (f x) && b) (every_of p f l)

every-at : {A : Type 0} (p : A → Bool) (l : List A) (z : A) (i : ℕ) → every p l ≡ true → i < length l → p (get_or l i z) ≡ true
unfolding every
every-at p [] z i e h = absurd (not-suc-le-zero h)
every-at p (x ∷ l) z zero e h = and_left (p x) _ e
every-at p (x ∷ l) z (suc i) e h = every-at p l z i (and_right (p x) _ e) (le_of_suc-le-suc h)

-- the first n times and corrections that passed the range test are no NaNs' patterns
module _ (ts xs : List ℕ) (n : ℕ) (h : n ≤ length (reading_rows (floats ts) (floats xs))) (e : every in_reach (take n (reading_rows (floats ts) (floats xs))) ≡ true) (j : ℕ) (l : j < n) where
  ranges : (in_range (get_or (floats ts) j nan) && in_range (get_or (floats xs) j nan)) ≡ true
  unfolding in_reach
  ranges =
      let k : length (take n (reading_rows (floats ts) (floats xs))) ≡ n = length-take-le n _ h in
      let r = every-at in_reach (take n (reading_rows (floats ts) (floats xs))) no_reading j e (omega arith) in
      let at : ◌≡◌ {A = Reading} (record { time = get_or (floats ts) j nan; correction = get_or (floats xs) j nan }) (get_or (take n (reading_rows (floats ts) (floats xs))) j no_reading) =
      reading-at (floats ts) (floats xs) j (omega arith) ∙ sym (get_or-take n (reading_rows (floats ts) (floats xs)) j no_reading l) in
      ap in_reach at ∙ r

  pub numbers-in : is_nan_pattern (get_or ts j 0) ≡ false
  numbers-in =
      let z = readings-length (floats ts) (floats xs) in
      let zt = floats-length ts in
      in-range-number (get_or ts j 0) (ap in_range (sym (floats_at ts j (omega arith))) ∙ and_left (in_range (get_or (floats ts) j nan)) _ ranges)

  pub numbers_of : is_nan_pattern (get_or xs j 0) ≡ false
  numbers_of =
      let z = readings-length (floats ts) (floats xs) in
      let zx = floats-length xs in
      in-range-number (get_or xs j 0) (ap in_range (sym (floats_at xs j (omega arith))) ∙ and_right (in_range (get_or (floats ts) j nan)) _ ranges)

module _ (dc dv db df dn : List ℕ) (m : ℕ) (few : m ≤ length (entry_rows dc dv db df dn)) (n : ℕ) (tiled : tiles 0 n (take m (entry_rows dc dv db df dn)) ≡ true) where
  -- each block lies within the n places
  pub block_within : (j : ℕ) → j < m → (0 < get_or dn j 0) × (get_or df j 0 + get_or dn j 0 ≤ n)
  block_within j h =
      let t = tile_at (entry_rows dc dv db df dn) m few n j h tiled (entry-at dc dv db df dn j (omega arith)) in
      (t.filled, t.within)

  -- the law that joins the blocks to the table: their times are in order, block by block, where the table's are
  pub blocks-in-order : (ts xs : List Float) → n ≤ length (reading_rows ts xs) → timely_blocks df dn ts m ≡ in_order (take n (reading_rows ts xs)) (take m (entry_rows dc dv db df dn))
  unfolding timely_blocks
  blocks-in-order ts xs fits =
      let rs = take n (reading_rows ts xs) in
      let es = entry_rows dc dv db df dn in
      ap (every timely) (places-ext _ _ m (λ j h. let at = entry-at dc dv db df dn j (omega arith) in times-at ts xs n _ fits (block_within j h).1 ∙ ap (block_times rs) at))
      ∙ ap (every timely) (sym (places-map (block_times rs) (λ j. get_or es j no_entry) m))
      ∙ ap (λ (l : List Entry). every timely (map (block_times rs) l)) (places-take es no_entry m few)
      ∙ every_of timely (block_times rs) (take m es)
