-- A number for each time and for each sample, in the order of the table: what the proofs compare. Assumes nothing.
use mathlib.Core.Path.{◌≡◌, refl, sym, ap, ◌∙◌}
use mathlib.Core.List.{List, [], ◌∷◌}
use mathlib.Core.Bool.{Bool, true, false, not, ◌&&◌, ◌||◌}
use Prim.Native.Nat.{ℕ, ◌+◌, ◌*◌, ◌^◌, ◌≤◌, ◌<◌}
use native.Mathlib.Omega.{arith}
use lib.Dec.{T, ltb, leb, eqb}
use borrow.Author.Tests.{ltb-true, ltb-false, leb-true, leb-false, lt-ltb, le-ltb, le-leb, lt-leb}
use lib.Ieee.{Float, binary64, fits, lt}
use Rattle.numeric.specs.Order.{total_order, pattern_of}
use Rattle.numeric.proofs.OrderLaws.{key_of, key_of-lt, total_order-key, pattern_back}
use Rattle.corrections_table.specs.Table.{signal_of, time_before, stands_before, sorted_from, sorted}
use Rattle.corrections_table.specs.declared.sample.Sample.{Sample}
use Rattle.corrections_table.proofs.Lex.{lex}

-- ---- times

unfoldable pub time_key : Float → ℕ
time_key t = key_of (pattern_of t)

pub key-lt : (x : Float) → time_key x < 2 ^ 64
unfolding time_key
key-lt x = key_of-lt (pattern_of x)

not_leb : (a b : ℕ) → not (leb a b) ≡ ltb b a
not_leb a b = go (leb a b) refl
  where
    go : (t : Bool) → leb a b ≡ t → not t ≡ ltb b a
    go true e = sym (le-ltb b a (leb-true a b e))
    go false e = sym (lt-ltb b a (leb-false a b e))

pub not_ltb : (a b : ℕ) → not (ltb a b) ≡ leb b a
not_ltb a b = go (ltb a b) refl
  where
    go : (t : Bool) → ltb a b ≡ t → not t ≡ leb b a
    go true e = sym (lt-leb b a (ltb-true a b e))
    go false e = sym (le-leb b a (ltb-false a b e))

pub earlier-key : (t u : Float) → time_before t u ≡ ltb (time_key t) (time_key u)
unfolding time_before time_key
earlier-key t u = ap not (total_order-key (pattern_of u) (pattern_of t)) ∙ not_leb (key_of (pattern_of u)) (key_of (pattern_of t))

module _ (t u : Float) where
  pub earlier-true : time_before t u ≡ true → time_key t < time_key u
  earlier-true e = ltb-true (time_key t) (time_key u) (sym (earlier-key t u) ∙ e)

  pub earlier-false : time_before t u ≡ false → time_key u ≤ time_key t
  earlier-false e = ltb-false (time_key t) (time_key u) (sym (earlier-key t u) ∙ e)

  pub lt-earlier : time_key t < time_key u → time_before t u ≡ true
  lt-earlier h = earlier-key t u ∙ lt-ltb (time_key t) (time_key u) h

  pub le-earlier : time_key u ≤ time_key t → time_before t u ≡ false
  le-earlier h = earlier-key t u ∙ le-ltb (time_key t) (time_key u) h

-- where one number is below the other, that is the order: its cases (a) and (b)
module _ (t u : Float) (ft : T (fits binary64 t)) (fu : T (fits binary64 u)) where
  pub numbers_after : lt u t ≡ true → false ≡ time_before t u
  unfolding time_before total_order
  numbers_after e = rw (pattern_back u fu, pattern_back t ft, e)

  pub numbers-before : lt u t ≡ false → lt t u ≡ true → true ≡ time_before t u
  unfolding time_before total_order
  numbers-before n e = rw (pattern_back u fu, pattern_back t ft, n, e)

-- ---- samples

abbrev pub place_of : Sample → ℕ
place_of s = signal_of s * 2 ^ 64 + time_key s.time

-- a signal and a time
pub below-place : (s : ℕ) (t : Float) (h : ℕ) (u : Float) → (ltb s h || (eqb s h && time_before t u)) ≡ ltb (s * 2 ^ 64 + time_key t) (h * 2 ^ 64 + time_key u)
below-place s t h u = rw (earlier-key t u) (lex s h (time_key t) (time_key u) (2 ^ 64) (key-lt t) (key-lt u))

pub before-place : (a b : Sample) → stands_before a b ≡ ltb (place_of a) (place_of b)
unfolding stands_before
before-place a b = below-place (signal_of a) a.time (signal_of b) b.time

-- no place is below the one before it, and the first is not below p
unfoldable pub rises : ℕ → List Sample → Bool
rises p [] = true
rises p (s ∷ ss) = leb p (place_of s) && rises (place_of s) ss

from-rises : (p : Sample) (l : List Sample) → sorted_from p l ≡ rises (place_of p) l
unfolding sorted_from rises
from-rises p [] = refl
from-rises p (s ∷ l) = rw (before-place s p, not_ltb (place_of s) (place_of p), from-rises s l)

pub sorted_rises : (l : List Sample) → sorted l ≡ rises 0 l
unfolding sorted rises
sorted_rises [] = refl
sorted_rises (s ∷ l) = from-rises s l ∙ rw (le-leb 0 (place_of s) (omega arith))
