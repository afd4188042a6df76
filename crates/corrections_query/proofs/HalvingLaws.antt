-- A search by halving, for every test that falls: once it fails, it fails from there on. Assumes nothing.
use mathlib.Core.Path.{◌≡◌, refl, sym, ◌∙◌}
use mathlib.Core.Bool.{Bool, true, false, cond}
use Prim.Native.Nat.{ℕ, zero, suc, ◌+◌, ◌*◌, ◌^◌, ◌-◌, ◌/◌, ◌≤◌, ◌<◌}
use native.Mathlib.Nat.{pow-suc}
use native.Mathlib.Omega.{arith}
use lib.Dec.{ltb}
use borrow.Author.Tests.{ltb-true, ltb-false}
use Rattle.corrections_table.proofs.UnitLaws.{never}
use Rattle.corrections_query.specs.Steps.{Halving, Split, Falling}

module _ (test : ℕ → Bool) (from to : ℕ) (f : Falling test from to) where
  up : (i j : ℕ) → from ≤ i → i ≤ j → j < to → test i ≡ false → test j ≡ false
  up i j g h k e = go (test j) refl
    where
      go : (x : Bool) → test j ≡ x → x ≡ false
      go true q = never (sym e ∙ f.down i j g h k q)
      go false q = refl

  -- at first nothing is known
  pub halving_start : (hi : ℕ) → from ≤ hi → hi ≡ to → Halving test from to from hi
  halving_start hi h e =
      record {
        above = omega arith;
        ordered = h;
        within = omega arith;
        front = λ j g k. absurd (omega arith);
        back = λ j g k. absurd (omega arith);
      }

  module _ (lo len r : ℕ) (some : 0 < len) (is : r ≡ cond (test (lo + len / 2)) (lo + len / 2) lo) where
    -- the place at the middle says which half is left
    pub halving_half : Halving test from to lo (lo + len) → Halving test from to r (r + (len - len / 2))
    halving_half i = go (test (lo + len / 2)) refl is
      where
        go : (x : Bool) → test (lo + len / 2) ≡ x → r ≡ cond x (lo + len / 2) lo → Halving test from to r (r + (len - len / 2))
        go true e q =
            record {
              above = omega (arith, i.above);
              ordered = omega arith;
              within = omega (arith, i.within);
              front = λ j g h. f.down j (lo + len / 2) g (omega arith) (omega (arith, i.within)) e;
              back = λ j h k. i.back j (omega arith) k;
            }
        go false e q =
            record {
              above = omega (arith, i.above);
              ordered = omega arith;
              within = omega (arith, i.within);
              front = λ j g h. i.front j g (omega arith);
              back = λ j h k. up (lo + len / 2) j (omega (arith, i.above)) (omega arith) k e;
            }

    -- the same where the place lo itself may pass or not, and those after it are asked for
    pub halving_next : Halving test from to (lo + 1) (lo + len) → Halving test from to (r + 1) (r + (len - len / 2))
    halving_next i = go (test (lo + len / 2)) refl is (len / 2) refl
      where
        go : (x : Bool) → test (lo + len / 2) ≡ x → r ≡ cond x (lo + len / 2) lo → (h : ℕ) → len / 2 ≡ h → Halving test from to (r + 1) (r + (len - len / 2))
        go x e q zero z =
            let one : r ≡ lo = same x q in
            record {
              above = omega (arith, i.above, one);
              ordered = omega (arith, i.ordered, one);
              within = omega (arith, i.within, one);
              front = λ j g h. i.front j g (omega (arith, one));
              back = λ j h k. i.back j (omega (arith, one)) k;
            }
          where
            same : (y : Bool) → r ≡ cond y (lo + len / 2) lo → r ≡ lo
            same true p = omega arith
            same false p = p
        go true e q (suc h) z =
            record {
              above = omega (arith, i.above);
              ordered = omega (arith, i.ordered);
              within = omega (arith, i.within);
              front = λ j g k. f.down j (lo + len / 2) g (omega arith) (omega (arith, i.within)) e;
              back = λ j k w. i.back j (omega arith) w;
            }
        go false e q (suc h) z =
            record {
              above = omega (arith, i.above);
              ordered = omega (arith, i.ordered);
              within = omega (arith, i.within);
              front = λ j g k. i.front j g (omega arith);
              back = λ j k w. up (lo + len / 2) j (omega (arith, i.above)) (omega arith) w e;
            }

  -- the one that is left says the rest
  pub halving_end : (lo len r : ℕ) → Halving test from to lo (lo + len) → 0 < len → len ≤ 1 → r ≡ cond (test lo) (lo + 1) lo → Split test from to r
  halving_end lo len r i some one is = go (test lo) refl is
    where
      go : (x : Bool) → test lo ≡ x → r ≡ cond x (lo + 1) lo → Split test from to r
      go true e q =
          record {
            above = omega (arith, i.above);
            ordered = omega arith;
            within = omega (arith, i.within);
            front = λ j g h. f.down j lo g (omega arith) (omega (arith, i.within)) e;
            back = λ j h k. i.back j (omega arith) k;
          }
      go false e q =
          record {
            above = omega (arith, i.above);
            ordered = omega arith;
            within = omega (arith, i.within);
            front = λ j g h. i.front j g (omega arith);
            back = λ j h k. up lo j i.above (omega arith) k e;
          }

-- ---- what is left of a search, searched by itself
pub falling-inner : {test : ℕ → Bool} {from to : ℕ} (lo hi : ℕ) → Falling test from to → from ≤ lo → hi ≤ to → Falling test lo hi
falling-inner lo hi f a b = record { down = λ i j g h k e. f.down i j (omega arith) h (omega arith) e }

pub halving_inner : {test : ℕ → Bool} {from to lo hi r : ℕ} → Halving test from to lo hi → Split test lo hi r → Split test from to r
halving_inner {test} {from} {to} {lo} {hi} {r} h s =
    record {
      above = omega (arith, h.above, s.above);
      ordered = omega arith;
      within = omega (arith, h.within, s.within);
      front = λ j f k. low j f k (ltb j lo) refl;
      back = λ j k t. high j k t (ltb j hi) refl;
    }
  where
    low : (j : ℕ) → from ≤ j → j < r → (x : Bool) → ltb j lo ≡ x → test j ≡ true
    low j f k true e = h.front j f (ltb-true j lo e)
    low j f k false e = s.front j (ltb-false j lo e) k

    high : (j : ℕ) → r ≤ j → j < to → (x : Bool) → ltb j hi ≡ x → test j ≡ false
    high j k t true e = s.back j k (ltb-true j hi e)
    high j k t false e = h.back j (ltb-false j hi e) t

-- so many halvings leave one of so many places
pub halves : (len left : ℕ) → 0 < left → len ≤ 2 ^ left → len - len / 2 ≤ 2 ^ (left - 1)
halves len zero h k = absurd (omega arith)
halves len (suc left) h k =
    let e : suc left - 1 ≡ left = omega arith in
    let p : 2 ^ suc left ≡ 2 ^ left * 2 = pow-suc 2 left in
    rw e (omega (arith, p, k))

pub one_left : (len left : ℕ) → left ≤ 0 → len ≤ 2 ^ left → len ≤ 1
one_left len zero h k = k
one_left len (suc left) h k = absurd (omega arith)
