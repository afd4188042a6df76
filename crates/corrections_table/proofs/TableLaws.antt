-- The order of the table, and the pass that tests it. Assumes nothing.
use mathlib.Core.Path.{◌≡◌, refl, sym, ap, ◌∙◌}
use mathlib.Core.List.{List, [], ◌∷◌}
use mathlib.Core.Bool.{Bool, true, false, ◌&&◌}
use Prim.Native.Nat.{ℕ, zero, suc, ◌+◌, ◌*◌, ◌^◌, ◌≤◌, ◌<◌}
use native.Mathlib.Nat.{not-suc-le-zero, le_of_suc-le-suc}
use native.Mathlib.Omega.{arith}
use lib.ListN.{length, get_or, take, drop}
use lib.Dec.{ltb, leb}
use borrow.Author.Tests.{ltb-true, ltb-false, leb-true, le-leb, lt-leb}
use Rattle.lists.specs.Walk.{every}
use Rattle.lists.proofs.Walk.{left_at, left_end}
use Rattle.numeric.specs.Real.{in_range}
use Rattle.corrections_table.specs.Table.{blank, ranged, sound_table}
use Rattle.corrections_table.specs.declared.sample.Sample.{Sample}
use Rattle.corrections_table.proofs.Places.{place_of, rises, sorted_rises}

-- ---- a table that rises
pub and_left : (a b : Bool) → (a && b) ≡ true → a ≡ true
and_left true b e = refl
and_left false b e = e

pub and_right : (a b : Bool) → (a && b) ≡ true → b ≡ true
and_right true b e = e
and_right false b e = absurd (let z : ◌≡◌ {A = ℕ} 0 1 = cc in omega arith)

rises-from : (p : ℕ) (l : List Sample) (j : ℕ) → rises p l ≡ true → j < length l → p ≤ place_of (get_or l j blank)
unfolding rises
rises-from p [] j e h = absurd (not-suc-le-zero h)
rises-from p (a ∷ l) zero e h = leb-true p (place_of a) (and_left _ _ e)
rises-from p (a ∷ l) (suc j) e h =
    let f : p ≤ place_of a = leb-true p (place_of a) (and_left _ _ e) in
    native.Mathlib.Nat.le_trans f (rises-from (place_of a) l j (and_right (leb p (place_of a)) _ e) (le_of_suc-le-suc h))

pub rises-at : (p : ℕ) (l : List Sample) (i j : ℕ) → rises p l ≡ true → i ≤ j → j < length l → place_of (get_or l i blank) ≤ place_of (get_or l j blank)
unfolding rises
rises-at p [] i j e g h = absurd (not-suc-le-zero h)
rises-at p (a ∷ l) zero zero e g h = native.Mathlib.Nat.le_refl (place_of a)
rises-at p (a ∷ l) zero (suc j) e g h = rises-from (place_of a) l j (and_right (leb p (place_of a)) _ e) (le_of_suc-le-suc h)
rises-at p (a ∷ l) (suc i) zero e g h = absurd (not-suc-le-zero g)
rises-at p (a ∷ l) (suc i) (suc j) e g h = rises-at (place_of a) l i j (and_right (leb p (place_of a)) _ e) (le_of_suc-le-suc g) (le_of_suc-le-suc h)

pub every-at : (q : Sample → Bool) (l : List Sample) (j : ℕ) → every q l ≡ true → j < length l → q (get_or l j blank) ≡ true
unfolding every
every-at q [] j e h = absurd (not-suc-le-zero h)
every-at q (a ∷ l) zero e h = and_left _ _ e
every-at q (a ∷ l) (suc j) e h = every-at q l j (and_right (q a) _ e) (le_of_suc-le-suc h)

-- a sound table, place by place
pub record SoundTable (l : List Sample) : Type 0 where
  pub rising : (i j : ℕ) → i ≤ j → j < length l → place_of (get_or l i blank) ≤ place_of (get_or l j blank)
  pub times : (j : ℕ) → j < length l → in_range (get_or l j blank).time ≡ true
  pub values : (j : ℕ) → j < length l → in_range (get_or l j blank).correction ≡ true

pub sound-at : (l : List Sample) → sound_table l ≡ true → SoundTable l
unfolding sound_table ranged
sound-at l e =
    record {
      rising = λ i j g h. rises-at 0 l i j (sym (sorted_rises l) ∙ and_right (every ranged l) _ e) g h;
      times = λ j h. and_left _ _ (every-at ranged l j (and_left _ _ e) h);
      values = λ j h. and_right (in_range (get_or l j blank).time) _ (every-at ranged l j (and_left _ _ e) h);
    }

-- ---- the pass over the table: what is left is sound, with places from p on
abbrev pub sound_from : ℕ → List Sample → Bool
sound_from p l = every ranged l && rises p l

pub sound-starts : (l : List Sample) → sound_from 0 l ≡ sound_table l
unfolding sound_table
sound-starts l = ap (λ (b : Bool). every ranged l && b) (sym (sorted_rises l))

and_no : (a b : Bool) → (a && (false && b)) ≡ false
and_no true b = refl
and_no false b = refl

module _ (l : List Sample) (n : ℕ) (fits : n ≤ length l) (i : ℕ) {w : Bool} (p : ℕ) (inv : sound_from p (drop i (take n l)) ≡ w) where
  pub pass-end : n ≤ i → true ≡ w
  unfolding every rises
  pass-end h = rw (left_end l n fits i h) at inv

  module _ (h : i < n) (g k : ℕ) (is : g * 2 ^ 64 + k ≡ place_of (get_or l i blank)) where
    pub pass-low : ltb (g * 2 ^ 64 + k) p ≡ true → false ≡ w
    unfolding every rises
    pass-low t =
        let nay : leb p (place_of (get_or l i blank)) ≡ false = rw (← is) (lt-leb p (g * 2 ^ 64 + k) (ltb-true _ _ t)) in
        sym (and_no (every ranged (get_or l i blank ∷ drop (i + 1) (take n l))) (rises (place_of (get_or l i blank)) (drop (i + 1) (take n l)))) ∙ (rw (left_at l n fits i blank h, nay) at inv)

    pub pass-out : ranged (get_or l i blank) ≡ false → false ≡ w
    unfolding every rises
    pass-out nay = rw (left_at l n fits i blank h, nay) at inv

    pub pass_on : ltb (g * 2 ^ 64 + k) p ≡ false → ranged (get_or l i blank) ≡ true → sound_from (g * 2 ^ 64 + k) (drop (i + 1) (take n l)) ≡ w
    unfolding every rises
    pass_on t r =
        let yea : leb p (place_of (get_or l i blank)) ≡ true = rw (← is) (le-leb p (g * 2 ^ 64 + k) (ltb-false _ _ t)) in
        rw is (rw (left_at l n fits i blank h, yea, r) at inv)
