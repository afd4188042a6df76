-- The spot of a sample in a sound table. Assumes nothing.
use mathlib.Core.Path.{◌≡◌, refl, sym, ap, ◌∙◌}
use mathlib.Core.List.{List, [], ◌∷◌}
use mathlib.Core.Bool.{Bool, true, false}
use Prim.Native.Nat.{ℕ, zero, suc, ◌+◌, ◌-◌, ◌≤◌, ◌<◌}
use native.Mathlib.Nat.{not-suc-le-zero, le_of_suc-le-suc}
use native.Mathlib.Omega.{arith}
use lib.ListN.{length, get_or}
use lib.Dec.{ltb}
use borrow.Author.Tests.{ltb-true, ltb-false, le-ltb}
use Rattle.corrections_table.specs.Table.{blank, stands_before}
use Rattle.corrections_table.specs.Steps.{spot_of}
use Rattle.corrections_table.specs.declared.sample.Sample.{Sample}
use Rattle.corrections_table.proofs.Places.{place_of, before-place}
use Rattle.corrections_table.proofs.TableLaws.{SoundTable}

pub spot_is : (s : Sample) (l : List Sample) (p : ℕ) → p ≤ length l → ((j : ℕ) → j < p → stands_before s (get_or l j blank) ≡ false)
    → ((j : ℕ) → p ≤ j → j < length l → stands_before s (get_or l j blank) ≡ true) → p ≡ spot_of s l
unfolding spot_of
spot_is s [] zero h nay yea = refl
spot_is s [] (suc p) h nay yea = absurd (not-suc-le-zero h)
spot_is s (a ∷ l) zero h nay yea = rw (yea 0 (omega arith) (omega arith))
spot_is s (a ∷ l) (suc p) h nay yea = rw (nay 0 (omega arith)) (ap suc (spot_is s l p (le_of_suc-le-suc h) (λ j g. nay (suc j) (omega arith)) (λ j g k. yea (suc j) (omega arith) (omega arith))))

-- ---- the spot of a sample, from the end of the table down
pub record Spotting (s : Sample) (l : List Sample) (n p : ℕ) : Type 0 where
  pub whole : length l ≡ n
  pub within : p ≤ n
  pub up : (j : ℕ) → p ≤ j → j < length l → stands_before s (get_or l j blank) ≡ true

module _ (s : Sample) (l : List Sample) (n : ℕ) where
  pub spotting_start : length l ≡ n → Spotting s l n n
  spotting_start e = record { whole = e; within = omega arith; up = λ j h k. absurd (omega arith) }

  module _ (p : ℕ) (i : Spotting s l n p) where
    pub spotting_front : p ≤ 0 → 0 ≡ spot_of s l
    spotting_front h = spot_is s l 0 (omega arith) (λ j k. absurd (omega arith)) (λ j k. i.up j (omega arith))

    module _ (h : 0 < p) where
      pub spotting_found : SoundTable l → stands_before s (get_or l (p - 1) blank) ≡ false → p - 1 + 1 ≡ spot_of s l
      spotting_found v e =
          (let same : p - 1 + 1 ≡ p = omega arith in same)
          ∙ spot_is s l p (omega (arith, i))
          (λ j k. before-place s (get_or l j blank) ∙ le-ltb (place_of s) (place_of (get_or l j blank)) (native.Mathlib.Nat.le_trans (v.rising j (p - 1) (omega arith) (omega (arith, i.whole, i.within))) (ltb-false (place_of s) (place_of (get_or l (p - 1) blank)) (sym (before-place s (get_or l (p - 1) blank)) ∙ e))))
          i.up

      pub spotting_down : stands_before s (get_or l (p - 1) blank) ≡ true → Spotting s l n (p - 1)
      spotting_down e =
          record { whole = i.whole; within = omega (arith, i.within); up = λ j k b. go j b (ltb j p) refl k }
        where
          go : (j : ℕ) → j < length l → (x : Bool) → ltb j p ≡ x → p - 1 ≤ j → stands_before s (get_or l j blank) ≡ true
          go j b false q k = i.up j (ltb-false _ _ q) b
          go j b true q k = let w : j < p = ltb-true _ _ q in let z : j ≡ p - 1 = omega arith in rw z e
