-- Arrays that are filled place by place. Assumes nothing.
use mathlib.Core.Path.{◌≡◌, refl, ◌∙◌}
use mathlib.Core.List.{List}
use Prim.Native.Nat.{ℕ, ◌+◌, ◌≤◌, ◌<◌}
use native.Mathlib.Numerals.{add-one}
use native.Mathlib.Omega.{arith}
use lib.ListN.{length, take, set, length-set}
use lib.Seq.{take-suc-set}
use Rattle.lists.specs.Walk.{places}

-- an array of 64 of which the first i of n places have been stored, and its count
pub record Filling {A : Type 0} (f : ℕ → A) (n : ℕ) (array : List A) (count i : ℕ) : Type 0 where
  pub within : i ≤ n
  pub long : length array ≡ 64
  pub count-is : count ≡ n
  pub so_far : take i array ≡ places f i

module _ {A : Type 0} (f : ℕ → A) (n : ℕ) (array : List A) where
  pub filling_start : length array ≡ 64 → Filling f n array n 0
  unfolding places
  filling_start long = record { within = omega arith; long = long; count-is = refl; so_far = refl }

  pub filled : {count i : ℕ} → Filling f n array count i → n ≤ i → take n array ≡ places f n
  filled {count} {i} h t = let q : i ≡ n = omega (arith, h.within) in rw q at h.so_far

  module _ (few : n ≤ 64) {count i : ℕ} (h : Filling f n array count i) where
    pub filling_next : i < n → Filling f n (set array i (f i)) count (i + 1)
    unfolding places
    filling_next t =
        record {
          within = omega arith;
          long = length-set array i (f i) ∙ h.long;
          count-is = h.count-is;
          so_far = rw (add-one, take-suc-set array i (f i) (omega (arith, h.long)), h.so_far);
        }
