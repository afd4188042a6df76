-- Columns whose values are moved down, and columns that are written from the front on. Assumes nothing.
use mathlib.Core.Path.{◌≡◌, refl, sym, ap, ◌∙◌}
use mathlib.Core.Bool.{Bool, true, false}
use mathlib.Core.List.{List, [], ◌∷◌, ◌++◌, append_assoc, append-nil}
use Prim.Native.Nat.{ℕ, ◌+◌, ◌-◌, ◌≤◌, ◌<◌}
use native.Mathlib.Numerals.{add-one}
use native.Mathlib.Omega.{arith}
use lib.Dec.{ltb}
use borrow.Author.Tests.{ltb-true, ltb-false}
use lib.Ieee.{Float, nan, lt}
use lib.ListN.{length, get_or, take, drop, set, length-drop, length-set, take-append-drop}
use lib.Seq.{drop-drop, drop-paste, drop-set-lt, get_or-append-add, get_or-drop, length-paste, length_paste_head, length-take-le, paste-suc, paste-zero, take-add, take-paste, take-suc-set}
use Rattle.corrections_forget.specs.Steps.{moved_down}

-- what is moved to where it lies stays as it is
pub moved_nowhere : {A : Type 0} (at n : ℕ) (l : List A) → l ≡ moved_down at at n l
moved_nowhere {A = A} at n l = sym (take-append-drop (at + n) l) ∙ ap (λ (r : List A). r ++ drop (at + n) l) (take-add at n l)

-- ---- values moved down, one after the other
module _ {A : Type 0} (to from : ℕ) (l : List A) where
  moved_none : l ≡ moved_down to from 0 l
  moved_none = paste-zero l to (drop from l)

  module _ (h : to ≤ from) (i : ℕ) where
    -- what is still to be moved is as it was
    moved-read : (z : A) → from + i < length l → get_or (moved_down to from i l) (from + i) z ≡ get_or (drop from l) i z
    moved-read z k =
        let p : length (take to l ++ take i (drop from l)) ≡ to + i = length_paste_head l to (drop from l) i (omega arith) (omega (arith, length-drop from l)) in
        let e : from + i ≡ length (take to l ++ take i (drop from l)) + (from - to) = omega (arith, p) in
        let f : to + i + (from - to) ≡ from + i = omega arith in
        ap (λ (j : ℕ). get_or (moved_down to from i l) j z) e
        ∙ get_or-append-add (take to l ++ take i (drop from l)) (drop (to + i) l) (from - to) z
        ∙ get_or-drop (to + i) l (from - to) z
        ∙ ap (λ (j : ℕ). get_or l j z) f
        ∙ sym (get_or-drop from l i z)

    moved-turn : (z v : A) → from + i < length l → v ≡ get_or (moved_down to from i l) (from + i) z → set (moved_down to from i l) (to + i) v ≡ moved_down to from (i + 1) l
    moved-turn z v k e =
        ap (λ (x : A). set (moved_down to from i l) (to + i) x) (e ∙ moved-read z k)
        ∙ paste-suc l to (drop from l) i z (omega arith) (omega (arith, length-drop from l))
        ∙ ap (λ (j : ℕ). moved_down to from j l) (sym (add-one i))

-- l₀ is the column before, l the column now, where i values are moved
pub record Moving {A : Type 0} (to from : ℕ) (l₀ l : List A) (i : ℕ) : Type 0 where
  pub is : l ≡ moved_down to from i l₀
  pub long : length l ≡ length l₀

module _ {A : Type 0} {to from : ℕ} {l₀ : List A} where
  pub moving_start : Moving to from l₀ l₀ 0
  moving_start = record { is = moved_none to from l₀; long = refl }

  module _ {l : List A} {i : ℕ} (inv : Moving to from l₀ l i) where
    pub moving_turn : (z : A) → to ≤ from → from + i < length l₀ → Moving to from l₀ (set l (to + i) (get_or l (from + i) z)) (i + 1)
    moving_turn z h k =
        record {
          is = ap (λ (m : List A). set m (to + i) (get_or l (from + i) z)) inv.is ∙ moved-turn to from l₀ h i z (get_or l (from + i) z) k (ap (λ (m : List A). get_or m (from + i) z) inv.is);
          long = length-set l (to + i) (get_or l (from + i) z) ∙ inv.long;
        }

-- ---- a column written from the front on: c₀ is the column before, c the column now; its first k values with `rest` are `whole`, and from k on it is as it was
pub record Going {A : Type 0} (c₀ c rest whole : List A) (k : ℕ) : Type 0 where
  pub long : length c ≡ length c₀
  pub front : take k c ++ rest ≡ whole
  pub back : drop k c ≡ drop k c₀

drop_more : {A : Type 0} (k j : ℕ) (l m : List A) → drop k l ≡ drop k m → drop (k + j) l ≡ drop (k + j) m
drop_more k j l m e = sym (drop-drop j k l) ∙ ap (drop j) e ∙ drop-drop j k m

module _ {A : Type 0} where
  pub going_start : (c₀ whole : List A) → Going c₀ c₀ whole whole 0
  going_start c₀ whole = record { long = refl; front = refl; back = refl }

  module _ {c₀ c rest whole : List A} {k : ℕ} (inv : Going c₀ c rest whole k) where
    -- from k on
    same : (j : ℕ) → k ≤ j → drop j c ≡ drop j c₀
    same j h = let e : k + (j - k) ≡ j = omega arith in ap (λ (i : ℕ). drop i c) (sym e) ∙ drop_more k (j - k) c c₀ inv.back ∙ ap (λ (i : ℕ). drop i c₀) e

    pub going-at : (z : A) (j : ℕ) → k ≤ j → get_or c j z ≡ get_or c₀ j z
    going-at z j h =
        let e : j + 0 ≡ j = omega arith in
        ap (λ (i : ℕ). get_or c i z) (sym e) ∙ sym (get_or-drop j c 0 z) ∙ ap (λ (l : List A). get_or l 0 z) (same j h) ∙ get_or-drop j c₀ 0 z ∙ ap (λ (i : ℕ). get_or c₀ i z) e

    -- one value more
    pub going-one : (v : A) (rest' : List A) → k < length c₀ → rest ≡ v ∷ rest' → Going c₀ (set c k v) rest' whole (k + 1)
    going-one v rest' h e =
        let n : k < length c = omega (arith, inv.long) in
        let t : take (k + 1) (set c k v) ≡ take k c ++ (v ∷ []) = ap (λ (j : ℕ). take j (set c k v)) (add-one k) ∙ take-suc-set c k v n in
        record {
          long = length-set c k v ∙ inv.long;
          front = ap (λ (l : List A). l ++ rest') t ∙ append_assoc (take k c) (v ∷ []) rest' ∙ ap (λ (l : List A). take k c ++ l) (sym e) ∙ inv.front;
          back = drop-set-lt (k + 1) c k v (omega arith) ∙ drop_more k 1 c c₀ inv.back;
        }

    -- j values more, which stood further on
    pub going-many : (from j : ℕ) (rest' : List A) → k ≤ from → from + j ≤ length c₀ → rest ≡ take j (drop from c₀) ++ rest' → Going c₀ (moved_down k from j c) rest' whole (k + j)
    going-many from j rest' h l e =
        let n : from + j ≤ length c = omega (arith, inv.long) in
        let d : j ≤ length (drop from c) = omega (arith, length-drop from c) in
        let f = same from h in
        record {
          long = length-paste c k (drop from c) j (omega arith) d ∙ inv.long;
          front =
              ap (λ (m : List A). m ++ rest') (take-paste c k (drop from c) j (omega arith) d)
              ∙ append_assoc (take k c) (take j (drop from c)) rest'
              ∙ ap (λ (m : List A). take k c ++ (take j m ++ rest')) f
              ∙ ap (λ (m : List A). take k c ++ m) (sym e)
              ∙ inv.front;
          back = drop-paste c k (drop from c) j (omega arith) d ∙ drop_more k j c c₀ inv.back;
        }

    -- nothing is left to write
    module _ (e : rest ≡ []) (h : k ≤ length c₀) where
      written : take k c ≡ whole
      written = sym (append-nil (take k c)) ∙ ap (λ (l : List A). take k c ++ l) (sym e) ∙ inv.front

      pub going-count : k ≡ length whole
      going-count = sym (length-take-le k c (omega (arith, inv.long))) ∙ ap length written

      pub going_end : c ≡ whole ++ drop (length whole) c₀
      going_end =
          sym (take-append-drop k c) ∙ ap (λ (l : List A). l ++ drop k c) written ∙ ap (λ (l : List A). whole ++ l) inv.back ∙ ap (λ (j : ℕ). whole ++ drop j c₀) going-count

-- ---- times passed from the front on
pub record PassedFront (ts : List Float) (first count : ℕ) (time : Float) (k : ℕ) : Type 0 where
  pub within : k ≤ count
  pub earlier : (j : ℕ) → j < k → lt (get_or ts (first + j) nan) time ≡ true

module _ {ts : List Float} {first count : ℕ} {time : Float} where
  module _ {k : ℕ} (inv : PassedFront ts first count time k) where
    pub passed-more : k < count → lt (get_or ts (first + k) nan) time ≡ true → PassedFront ts first count time (k + 1)
    passed-more h e = record { within = omega arith; earlier = λ j l. go j l (ltb j k) refl }
      where
        go : (j : ℕ) → j < k + 1 → (x : Bool) → ltb j k ≡ x → lt (get_or ts (first + j) nan) time ≡ true
        go j l true q = inv.earlier j (ltb-true j k q)
        go j l false q = let z : j ≡ k = omega (arith, ltb-false j k q) in rw z e
