-- Columns of 64-bit patterns that are moved down, and what they come to as floats. Assumes nothing.
use mathlib.Core.Path.{◌≡◌, refl, sym, ap, ap₂, ◌∙◌}
use mathlib.Core.List.{List, [], ◌∷◌, ◌++◌, map, map-append}
use mathlib.Core.Bool.{true, false}
use Prim.Native.Nat.{ℕ, zero, suc, ◌+◌, ◌-◌, ◌^◌, ◌≤◌, ◌<◌}
use native.Mathlib.Nat.{not-suc-le-zero, le_of_suc-le-suc}
use native.Mathlib.Omega.{arith}
use lib.Dec.{T}
use lib.ListN.{length, get_or, take, drop, length-append, length-drop, length-map, take-append-drop}
use lib.Seq.{drop-drop, drop-paste, get_or-drop, length-paste, take_at}
use lib.Ieee.{Float, nan, fits, binary64}
use lib.Ieee.Bits.{of_bits-fits}
use lib.Ieee.Fits.{nan-fits}
use Rattle.exact.specs.Float.{bits}
use Rattle.lists.specs.Walk.{every}
use Rattle.numeric.specs.Order.{is_nan_pattern, pattern_of}
use Rattle.numeric.specs.Real.{in_range}
use Rattle.corrections_table.proofs.TableLaws.{and_left, and_right}
use Rattle.corrections_directory.specs.Directory.{Reading, column_of, floats}
use Rattle.corrections_directory.proofs.PatternLaws.{floats_at, floats-length, in-range-number, map_of, patterns-back}
use Rattle.corrections_forget.specs.Steps.{moved_down}

-- every float of a column of patterns is of its format, and so is what a read past the end gives
pub floats-held : (ts : List ℕ) (j : ℕ) → T (fits binary64 (get_or (floats ts) j nan))
floats-held [] j = nan-fits binary64
floats-held (t ∷ ts) zero = of_bits-fits binary64 t
floats-held (t ∷ ts) (suc j) = floats-held ts j

-- ---- moving patterns moves the floats
map-take : {A B : Type 0} (f : A → B) (i : ℕ) (l : List A) → map f (take i l) ≡ take i (map f l)
map-take f zero l = refl
map-take f (suc i) [] = refl
map-take f (suc i) (x ∷ l) = rw (map-take f i l)

map-drop : {A B : Type 0} (f : A → B) (i : ℕ) (l : List A) → map f (drop i l) ≡ drop i (map f l)
map-drop f zero l = refl
map-drop f (suc i) [] = refl
map-drop f (suc i) (x ∷ l) = map-drop f i l

pub floats-moved : (to from k : ℕ) (ts : List ℕ) → floats (moved_down to from k ts) ≡ moved_down to from k (floats ts)
floats-moved to from k ts =
    map-append bits (take to ts ++ take k (drop from ts)) (drop (to + k) ts)
    ∙ ap₂ ◌++◌ (map-append bits (take to ts) (take k (drop from ts)) ∙ ap₂ ◌++◌ (map-take bits to ts) (map-take bits k (drop from ts) ∙ ap (take k) (map-drop bits from ts))) (map-drop bits (to + k) ts)

-- ---- from the place on a column is as it was
pub record Beyond (ts₀ ts : List ℕ) (place : ℕ) : Type 0 where
  pub long : length ts ≡ length ts₀
  pub rest : drop place ts ≡ drop place ts₀

pub beyond-start : (ts : List ℕ) → Beyond ts ts 0
beyond-start ts = record { long = refl; rest = refl }

module _ {ts₀ ts : List ℕ} {place : ℕ} (b : Beyond ts₀ ts place) where
  pub beyond-turn : (from k : ℕ) → place ≤ from → from + k ≤ length ts₀ → {ts' : List ℕ} → ts' ≡ moved_down place from k ts → Beyond ts₀ ts' (place + k)
  beyond-turn from k h l e =
      let n : from + k ≤ length ts = omega (arith, b.long) in
      let d : k ≤ length (drop from ts) = omega (arith, length-drop from ts) in
      rw e
      record {
        long = length-paste ts place (drop from ts) k (omega arith) d ∙ b.long;
        rest = drop-paste ts place (drop from ts) k (omega arith) d ∙ sym (drop-drop k place ts) ∙ ap (drop k) b.rest ∙ drop-drop k place ts₀;
      }

  pub beyond-at : (j : ℕ) → place ≤ j → get_or ts j 0 ≡ get_or ts₀ j 0
  beyond-at j h =
      let e : place + (j - place) ≡ j = omega arith in
      ap (λ (i : ℕ). get_or ts i 0) (sym e) ∙ sym (get_or-drop place ts (j - place) 0) ∙ ap (λ (l : List ℕ). get_or l (j - place) 0) b.rest ∙ get_or-drop place ts₀ (j - place) 0 ∙ ap (λ (i : ℕ). get_or ts₀ i 0) e

-- ---- the patterns, by the floats that they are read as
front-number : (f : Reading → Float) (rs : List Reading) (ts ts' : List ℕ) → floats ts' ≡ column_of f rs (floats ts) → every (λ (r : Reading). in_range (f r)) rs ≡ true → (x : ℕ) → x < length rs → is_nan_pattern (get_or ts' x 0) ≡ false
unfolding every
front-number f rs ts ts' e h x l = in-range-number (get_or ts' x 0) (ap in_range (sym (floats_at ts' x (omega (arith, long))) ∙ ap (λ (c : List Float). get_or c x nan) e) ∙ at rs (drop (length rs) (floats ts)) x l h)
  where
    long : length rs ≤ length ts'
    long = omega (arith, floats-length ts', ap length e ∙ length-append (map f rs) (drop (length rs) (floats ts)), length-map rs f)

    at : (rs : List Reading) (more : List Float) (x : ℕ) → x < length rs → every (λ (r : Reading). in_range (f r)) rs ≡ true → in_range (get_or (map f rs ++ more) x nan) ≡ true
    at [] more x l h = absurd (not-suc-le-zero l)
    at (r ∷ rs) more zero l h = and_left (in_range (f r)) _ h
    at (r ∷ rs) more (suc x) l h = at rs more x (le_of_suc-le-suc l) (and_right (in_range (f r)) _ h)

pub patterns-of : (f : Reading → Float) (rs : List Reading) (ts ts' : List ℕ) → floats ts' ≡ column_of f rs (floats ts) → drop (length rs) ts' ≡ drop (length rs) ts → every (λ (r : Reading). in_range (f r)) rs ≡ true
    → ((x : ℕ) → get_or ts' x 0 < 2 ^ 64) → ts' ≡ column_of (λ (r : Reading). pattern_of (f r)) rs ts
patterns-of f rs ts ts' e d h b =
    let z : length rs ≤ length ts' = omega (arith, floats-length ts', ap length e ∙ length-append (map f rs) (drop (length rs) (floats ts)), length-map rs f) in
    let front : take (length rs) ts' ≡ map (λ (r : Reading). pattern_of (f r)) rs =
    sym (patterns-back ts' (length rs) z b (front-number f rs ts ts' e h)) ∙ ap (map pattern_of) (ap (take (length rs)) e ∙ take_at (map f rs) (drop (length rs) (floats ts)) (length rs) (length-map rs f)) ∙ sym (map_of pattern_of f rs) in
    sym (take-append-drop (length rs) ts') ∙ ap₂ ◌++◌ front d
