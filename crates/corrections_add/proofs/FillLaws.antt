-- A column that is filled from the back: what is still to be made, and after it what was made already, are the whole; values that go up in it. Assumes nothing.
use mathlib.Core.Path.{◌≡◌, refl, sym, ap, ◌∙◌}
use mathlib.Core.List.{List, [], ◌∷◌, ◌++◌, append_assoc}
use Prim.Native.Nat.{ℕ, suc, ◌+◌, ◌-◌, ◌≤◌, ◌<◌}
use native.Mathlib.Omega.{arith}
use lib.ListN.{length, get_or, take, drop, set, length-append, length-set, take-append-drop}
use lib.Seq.{take-set-le, drop-cons, drop-set-lt, get_or-set_same, take-take}
use Rattle.corrections_add.specs.Steps.{shifted}

-- d₀ is the column before, d the column now, and w that after; of its first elements `left` are still to be made, and the first i are as they were
pub record Filling {A : Type 0} (d₀ d w left : List A) (i k : ℕ) : Type 0 where
  pub long : length d ≡ length d₀
  pub front : take i d ≡ take i d₀
  pub back : left ++ drop k d ≡ w
  pub count : length left ≡ k

module _ {A : Type 0} where
  pub filling_start : (d₀ left : List A) (i k : ℕ) → length left ≡ k → Filling d₀ d₀ (left ++ drop k d₀) left i k
  filling_start d₀ left i k h = record { long = refl; front = refl; back = refl; count = h }

  module _ (z : A) {d₀ d w left : List A} {i k : ℕ} (inv : Filling d₀ d w left i k) where
    -- v is made, at the place before what was made already
    pub filling_turn : (v : A) (less : List A) (i' : ℕ) → left ≡ less ++ (v ∷ []) → i' ≤ i → i' < k → k ≤ length d₀ → Filling d₀ (set d (k - 1) v) w less i' (k - 1)
    filling_turn v less i' e l m h =
        let n : length less + 1 ≡ k = sym (length-append less (v ∷ [])) ∙ ap length (sym e) ∙ inv.count in
        let y : k - 1 < length d = omega (arith, inv.long) in
        let u : suc (k - 1) ≡ k = omega arith in
        let at : drop (k - 1) (set d (k - 1) v) ≡ v ∷ drop k d =
        drop-cons (set d (k - 1) v) (k - 1) z (omega (arith, length-set d (k - 1) v)) ∙ rw (get_or-set_same d (k - 1) v z y, u, drop-set-lt k d (k - 1) v (omega arith)) in
        record {
          long = length-set d (k - 1) v ∙ inv.long;
          front = take-set-le i' d (k - 1) v (omega arith) ∙ sym (take-take i' i d l) ∙ ap (take i') inv.front ∙ take-take i' i d₀ l;
          back = rw at (sym (append_assoc less (v ∷ []) (drop k d)) ∙ ap (λ (m : List A). m ++ drop k d) (sym e) ∙ inv.back);
          count = omega arith;
        }

    -- nothing is left but what was there
    pub filling_end : left ≡ take i d₀ → i ≡ k → d ≡ w
    filling_end e q = sym (take-append-drop i d) ∙ ap (λ (m : List A). m ++ drop i d) (inv.front ∙ sym e) ∙ ap (λ (n : ℕ). left ++ drop n d) q ∙ inv.back

-- ---- values that go up together, the last of them first

-- d₀ is the column before, d the column now, where c of the values are still to be moved
pub record Shifting {A : Type 0} (z : A) (d₀ d : List A) (first by count c : ℕ) : Type 0 where
  pub few : c ≤ count
  pub long : length d ≡ length d₀
  pub rest : shifted first by c z d ≡ shifted first by count z d₀

module _ {A : Type 0} {z : A} {d₀ d : List A} {first by count c : ℕ} (inv : Shifting z d₀ d first by count c) where
  pub shifting_turn : 0 < c → Shifting z d₀ (set d (first + (c - 1) + by) (get_or d (first + (c - 1)) z)) first by count (c - 1)
  shifting_turn h =
      record {
        few = omega (arith, inv.few);
        long = length-set d (first + (c - 1) + by) (get_or d (first + (c - 1)) z) ∙ inv.long;
        rest = more (c - 1) ∙ ap (λ (m : ℕ). shifted first by m z d) (last h) ∙ inv.rest;
      }
    where
      last : 0 < c → suc (c - 1) ≡ c
      last h = omega arith

      more : (m : ℕ) → shifted first by m z (set d (first + m + by) (get_or d (first + m) z)) ≡ shifted first by (suc m) z d
      more m = unfold shifted in refl

  pub shifting_end : c ≤ 0 → d ≡ shifted first by count z d₀
  shifting_end h = none ∙ ap (λ (m : ℕ). shifted first by m z d) (zeros h) ∙ inv.rest
    where
      zeros : c ≤ 0 → 0 ≡ c
      zeros h = omega arith

      none : d ≡ shifted first by 0 z d
      none = unfold shifted in refl
