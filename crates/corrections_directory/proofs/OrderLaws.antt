-- The test of the times of each block, block by block. Assumes nothing.
use mathlib.Core.Path.{◌≡◌, sym, ap, ◌∙◌}
use mathlib.Core.List.{List, []}
use mathlib.Core.Bool.{Bool, true, false, not}
use Prim.Native.Nat.{ℕ, ◌+◌, ◌≤◌, ◌<◌}
use native.Mathlib.Omega.{arith}
use borrow.Author.Tests.{not-true, not-false}
use lib.Ieee.{Float}
use lib.ListN.{length, get_or, take, drop}
use Rattle.lists.specs.Walk.{every, places}
use Rattle.lists.proofs.Walk.{every-yes, every-no, every-end, places-length, places-at, places-all}
use Rattle.corrections_directory.specs.Directory.{timely}
use Rattle.corrections_directory.specs.Steps.{timely_blocks}

-- the times of the block at j
abbrev pub times_of : List ℕ → List ℕ → List Float → ℕ → List Float
times_of firsts counts ts j = take (get_or counts j 0) (drop (get_or firsts j 0) ts)

-- the m blocks are in order where those from i on are
abbrev pub Ordering : List ℕ → List ℕ → List Float → ℕ → ℕ → Type 0
Ordering firsts counts ts m i = (i ≤ m) × (every timely (drop i (take m (places (times_of firsts counts ts) m))) ≡ timely_blocks firsts counts ts m)

module _ (firsts counts : List ℕ) (ts : List Float) (m : ℕ) where
  all_there : m ≤ length (places (times_of firsts counts ts) m)
  all_there = omega (arith, places-length (times_of firsts counts ts) m)

  pub ordering-start : Ordering firsts counts ts m 0
  unfolding timely_blocks
  ordering-start = (omega arith, ap (every timely) (places-all (times_of firsts counts ts) m))

  module _ (i : ℕ) (inv : Ordering firsts counts ts m i) where
    pub ordering-end : m ≤ i → true ≡ timely_blocks firsts counts ts m
    ordering-end h = every-end (places (times_of firsts counts ts) m) m all_there i timely inv.1 h

    -- b is whether the block at i is in order
    module _ (l : i < m) (b : Bool) (is : b ≡ timely (times_of firsts counts ts i)) where
      at : b ≡ timely (get_or (places (times_of firsts counts ts) m) i [])
      at = is ∙ ap timely (sym (places-at (times_of firsts counts ts) m i [] l))

      pub ordering-no : not b ≡ true → false ≡ timely_blocks firsts counts ts m
      ordering-no t = every-no (places (times_of firsts counts ts) m) m all_there i [] l timely inv.1 at (not-true b t)

      pub ordering-on : not b ≡ false → Ordering firsts counts ts m (i + 1)
      ordering-on t = (omega arith, every-yes (places (times_of firsts counts ts) m) m all_there i [] l timely inv.1 at (not-false b t))
