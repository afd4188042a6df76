-- How many samples at the front of a block are before a time. Assumes nothing.
use mathlib.Core.Path.{◌≡◌, refl, ap}
use mathlib.Core.List.{List, [], ◌∷◌}
use mathlib.Core.Bool.{Bool, true, false, cond}
use Prim.Native.Nat.{ℕ, zero, suc, ◌≤◌, ◌<◌}
use native.Mathlib.Nat.{not-suc-le-zero, le_of_suc-le-suc}
use native.Mathlib.Omega.{arith}
use lib.ListN.{length, get_or}
use lib.Ieee.{Float, lt}
use Rattle.corrections_table.specs.Table.{blank}
use Rattle.corrections_table.specs.declared.sample.Sample.{Sample}
use Rattle.corrections_directory.specs.Series.{front}

-- that number by a search: the first r are before the time, and the others are not
pub front-is : (time : Float) (l : List Sample) (r : ℕ) → r ≤ length l → ((j : ℕ) → j < r → lt (get_or l j blank).time time ≡ true) → ((j : ℕ) → r ≤ j → j < length l → lt (get_or l j blank).time time ≡ false) → r ≡ front time l
unfolding front
front-is time [] zero h yea nay = refl
front-is time [] (suc r) h yea nay = absurd (not-suc-le-zero h)
front-is time (s ∷ l) zero h yea nay = rw (nay 0 (omega arith) (omega arith))
front-is time (s ∷ l) (suc r) h yea nay =
    rw (yea 0 (omega arith)) (ap suc (front-is time l r (le_of_suc-le-suc h) (λ j k. yea (suc j) (omega arith)) (λ j k m. nay (suc j) (omega arith) (omega arith))))

pub front-le : (time : Float) (l : List Sample) → front time l ≤ length l
unfolding front
front-le time [] = omega arith
front-le time (s ∷ l) = go (lt s.time time) (front-le time l)
  where
    go : (x : Bool) → front time l ≤ length l → cond x (suc (front time l)) 0 ≤ suc (length l)
    go true h = omega arith
    go false h = omega arith
