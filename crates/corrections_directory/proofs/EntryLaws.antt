-- The entries of a sound directory place by place, and the samples of their blocks. Assumes nothing.
use mathlib.Core.Path.{◌≡◌, refl, sym, ap, ◌∙◌}
use mathlib.Core.List.{List, [], ◌∷◌, map}
use mathlib.Core.Bool.{true}
use Prim.Native.Nat.{ℕ, zero, suc, ◌+◌, ◌-◌, ◌≤◌, ◌<◌}
use native.Mathlib.Nat.{not-suc-le-zero, le_of_suc-le-suc}
use native.Mathlib.Omega.{arith}
use lib.ListN.{length, get_or, take, drop, length-drop, length-map, get_or-append}
use lib.Seq.{get_or-append-add, get_or-drop, get_or-take, length-take-le}
use Rattle.lists.specs.Walk.{collect}
use Rattle.corrections_table.specs.Table.{blank}
use Rattle.corrections_directory.specs.Directory.{Entry, Reading, ascends, block, sample_of, signal_in, tiles}
use Rattle.corrections_directory.specs.Steps.{no_entry}
use Rattle.corrections_directory.proofs.DirectoryLaws.{ascends-low, ascends-rest, tiles-start, tiles-rest}
use Rattle.corrections_directory.proofs.SoundLaws.{tiles-at}
use Rattle.corrections_directory.proofs.ColumnLaws.{no_reading}

pub get_d_map-in : {A B : Type 0} (f : A → B) (l : List A) (i : ℕ) (d : A) (z : B) → i < length l → get_or (map f l) i z ≡ f (get_or l i d)
get_d_map-in f [] i d z h = absurd (not-suc-le-zero h)
get_d_map-in f (x ∷ l) zero d z h = refl
get_d_map-in f (x ∷ l) (suc i) d z h = get_d_map-in f l i d z (le_of_suc-le-suc h)

-- ---- signals ascend
pub ascends-from : (p : ℕ) (es : List Entry) (x : ℕ) → ascends p es ≡ true → x < length es → p ≤ signal_in (get_or es x no_entry)
ascends-from p [] x a h = absurd (not-suc-le-zero h)
ascends-from p (e ∷ es) zero a h = ascends-low e es p a
ascends-from p (e ∷ es) (suc x) a h = omega (arith, ascends-low e es p a, ascends-from (suc (signal_in e)) es x (ascends-rest e es p a) (le_of_suc-le-suc h))

pub ascends-at : (p : ℕ) (es : List Entry) (x y : ℕ) → ascends p es ≡ true → x < y → y < length es → signal_in (get_or es x no_entry) < signal_in (get_or es y no_entry)
ascends-at p [] x y a l h = absurd (not-suc-le-zero h)
ascends-at p (e ∷ es) zero zero a l h = absurd (omega arith)
ascends-at p (e ∷ es) zero (suc y) a l h = ascends-from (suc (signal_in e)) es y (ascends-rest e es p a) (le_of_suc-le-suc h)
ascends-at p (e ∷ es) (suc x) zero a l h = absurd (not-suc-le-zero l)
ascends-at p (e ∷ es) (suc x) (suc y) a l h = ascends-at (suc (signal_in e)) es x y (ascends-rest e es p a) (le_of_suc-le-suc l) (le_of_suc-le-suc h)

-- ---- blocks lie one after the other
pub tiles-first : (place n : ℕ) (es : List Entry) → tiles place n es ≡ true → 0 < length es → (get_or es 0 no_entry).start ≡ place
tiles-first place n [] t h = absurd (not-suc-le-zero h)
tiles-first place n (e ∷ es) t h = tiles-start e es place n t

pub tiles-next : (place n : ℕ) (es : List Entry) (x : ℕ) → tiles place n es ≡ true → suc x < length es → (get_or es (suc x) no_entry).start ≡ (get_or es x no_entry).start + (get_or es x no_entry).count
tiles-next place n [] x t h = absurd (not-suc-le-zero h)
tiles-next place n (e ∷ es) zero t h =
    tiles-first (place + e.count) n es (tiles-rest e es place n t) (le_of_suc-le-suc h) ∙ ap (λ (k : ℕ). k + e.count) (sym (tiles-start e es place n t))
tiles-next place n (e ∷ es) (suc x) t h = tiles-next (place + e.count) n es x (tiles-rest e es place n t) (le_of_suc-le-suc h)

pub tiles-last : (place n : ℕ) (es : List Entry) (x : ℕ) → tiles place n es ≡ true → suc x ≡ length es → (get_or es x no_entry).start + (get_or es x no_entry).count ≡ n
tiles-last place n [] x t h = absurd (omega arith)
tiles-last place n (e ∷ []) zero t h = ap (λ (k : ℕ). k + e.count) (tiles-start e [] place n t) ∙ borrow.Author.Tests.eqb-true (place + e.count) n (unfold tiles in tiles-rest e [] place n t)
tiles-last place n (e ∷ f ∷ es) zero t h = absurd (omega arith)
tiles-last place n (e ∷ es) (suc x) t h = tiles-last (place + e.count) n es x (tiles-rest e es place n t) (omega arith)

-- ---- the samples of blocks
module _ (rs : List Reading) where
  pub block-length : (e : Entry) → e.start + e.count ≤ length rs → length (block rs e) ≡ e.count
  unfolding block
  block-length e h = length-map (take e.count (drop e.start rs)) (sample_of e) ∙ length-take-le e.count (drop e.start rs) (omega (arith, length-drop e.start rs))

  pub block_at : (e : Entry) (k : ℕ) → e.start + e.count ≤ length rs → k < e.count → get_or (block rs e) k blank ≡ sample_of e (get_or rs (e.start + k) no_reading)
  unfolding block
  block_at e k h l =
      get_d_map-in (sample_of e) (take e.count (drop e.start rs)) k no_reading blank (omega (arith, length-take-le e.count (drop e.start rs) (omega (arith, length-drop e.start rs))))
      ∙ ap (sample_of e) (get_or-take e.count (drop e.start rs) k no_reading l ∙ get_or-drop e.start rs k no_reading)

  -- the sample at the place k of the block x, counted from the first block's place on
  pub blocks_at : (place : ℕ) (es : List Entry) (x k : ℕ) → tiles place (length rs) es ≡ true → x < length es → k < (get_or es x no_entry).count
      → get_or (collect (block rs) es) ((get_or es x no_entry).start + k - place) blank ≡ sample_of (get_or es x no_entry) (get_or rs ((get_or es x no_entry).start + k) no_reading)
  unfolding collect
  blocks_at place [] x k t h l = absurd (not-suc-le-zero h)
  blocks_at place (e ∷ es) zero k t h l =
      let i = tiles-at place (length rs) (e ∷ es) 0 t h in
      let z : e.start + k - place ≡ k = omega (arith, tiles-start e es place (length rs) t) in
      rw z (get_or-append (block rs e) (collect (block rs) es) blank k (omega (arith, block-length e i.within)) ∙ block_at e k i.within l)
  blocks_at place (e ∷ es) (suc x) k t h l =
      let i = tiles-at place (length rs) (e ∷ es) 0 t (omega arith) in
      let j = tiles-at (place + e.count) (length rs) es x (tiles-rest e es place (length rs) t) (le_of_suc-le-suc h) in
      let z : (get_or es x no_entry).start + k - place ≡ length (block rs e) + ((get_or es x no_entry).start + k - (place + e.count)) = omega (arith, block-length e i.within, j.from) in
      rw z (get_or-append-add (block rs e) (collect (block rs) es) ((get_or es x no_entry).start + k - (place + e.count)) blank ∙ blocks_at (place + e.count) es x k (tiles-rest e es place (length rs) t) (le_of_suc-le-suc h) l)

  -- the sample at a place that lies in the block x
  pub flat-at : (es : List Entry) (x i : ℕ) → tiles 0 (length rs) es ≡ true → x < length es → (get_or es x no_entry).start ≤ i → i < (get_or es x no_entry).start + (get_or es x no_entry).count
      → get_or (collect (block rs) es) i blank ≡ sample_of (get_or es x no_entry) (get_or rs i no_reading)
  flat-at es x i t h a b =
      let z : (get_or es x no_entry).start + (i - (get_or es x no_entry).start) ≡ i = omega arith in
      let y : (get_or es x no_entry).start + (i - (get_or es x no_entry).start) - 0 ≡ i = omega arith in
      let g = blocks_at 0 es x (i - (get_or es x no_entry).start) t h (omega arith) in
      rw z at (rw y at g)
