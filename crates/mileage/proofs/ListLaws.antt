-- The mileage of a list with one epoch more at its end is what an addition makes of the mileage of the list. Assumes nothing.
use mathlib.Core.Path.{◌≡◌, refl, sym, ap, ◌∙◌}
use mathlib.Core.List.{List, [], ◌∷◌, ◌++◌}
use mathlib.Core.Bool.{Bool, true, false, cond, not, ◌&&◌, ◌||◌, or-false}
use Prim.Native.Nat.{ℕ, zero, suc, ◌+◌}
use native.Mathlib.Nat.{add-zero, zero-add}
use native.Mathlib.Omega.{arith}
use lib.Dec.{ltb}
use lib.ListN.{length, length-append}
use borrow.Author.Tests.{lt-ltb}
use lib.Ieee.{Float}
use Rattle.mileage.specs.Mileage.{is_refused, is_usable, is_aside, moves, length_of, PlacedEpoch, near_pulse, is_standing, is_counted, next_moves, no_epochs, in_places, sum, mileage_report, mileage_of, grown}
use Rattle.mileage.specs.declared.mileage.Epoch.{Epoch}
use Rattle.mileage.specs.declared.mileage.Mileage.{Mileage}

-- ---- sums

pub sum-append : (test : PlacedEpoch → Bool) (f : Epoch → ℕ) (ps qs : List PlacedEpoch) → sum test f (ps ++ qs) ≡ sum test f ps + sum test f qs
unfolding sum
sum-append test f [] qs = omega arith
sum-append test f (p ∷ ps) qs = omega (arith, sum-append test f ps qs)

-- what passes one of two tests that exclude each other
pub sum-parted : (first test : PlacedEpoch → Bool) (f : Epoch → ℕ) (ps : List PlacedEpoch) → sum test f ps ≡ sum (λ p. not (first p) && test p) f ps + sum (λ p. first p && test p) f ps
unfolding sum
sum-parted first test f [] = refl
sum-parted first test f (p ∷ ps) = omega (arith, part (first p) (cond (test p) (f p.epoch) 0), sum-parted first test f ps)
  where
    part : (b : Bool) (n : ℕ) → cond (test p) (f p.epoch) 0 ≡ cond (not b && test p) (f p.epoch) 0 + cond (b && test p) (f p.epoch) 0
    part true n = omega arith
    part false n = omega arith

-- ---- a list that is not empty: all its epochs but the last keep their places when one more comes

abbrev at : Bool → Epoch → Bool → Bool → PlacedEpoch
at before e after last = record { before = before; epoch = e; after = after; last = last }

front : Bool → Epoch → List Epoch → List PlacedEpoch
front b x [] = []
front b x (y ∷ es) = at b x (moves y) false ∷ front (moves x) y es

-- the last epoch, and whether the one before it has a pulse
final : Epoch → List Epoch → Epoch
final x [] = x
final x (y ∷ es) = final y es

earlier : Bool → Epoch → List Epoch → Bool
earlier b x [] = b
earlier b x (y ∷ es) = earlier (moves x) y es

placed-ends : (b : Bool) (x : Epoch) (es : List Epoch) → in_places b (x ∷ es) ≡ front b x es ++ (at (earlier b x es) (final x es) false true ∷ [])
unfolding in_places next_moves no_epochs front final earlier
placed-ends b x [] = refl
placed-ends b x (y ∷ es) = ap (λ (ps : List PlacedEpoch). at b x (moves y) false ∷ ps) (placed-ends (moves x) y es)

placed-more : (b : Bool) (x : Epoch) (es : List Epoch) (e : Epoch)
    → in_places b (x ∷ (es ++ (e ∷ []))) ≡ front b x es ++ (at (earlier b x es) (final x es) (moves e) false ∷ at (moves (final x es)) e false true ∷ [])
unfolding in_places next_moves no_epochs front final earlier
placed-more b x [] e = refl
placed-more b x (y ∷ es) e = ap (λ (ps : List PlacedEpoch). at b x (moves y) false ∷ ps) (placed-more (moves x) y es e)

-- none of those before the last is the last
front-none : (test : PlacedEpoch → Bool) (f : Epoch → ℕ) (b : Bool) (x : Epoch) (es : List Epoch) → sum (λ p. p.last && test p) f (front b x es) ≡ 0
unfolding sum front
front-none test f b x [] = refl
front-none test f b x (y ∷ es) = omega (arith, front-none test f (moves x) y es)

-- ---- what one epoch more does to the last one: u, it is of use; k, it or the one before it has a pulse; n, the next one has

counted-last : (u k n : Bool) (l : ℕ) → cond (u && (k || n)) l 0 ≡ cond (u && (k || false)) l 0 + cond n (cond (u && not (k || false)) l 0) 0
counted-last false k true l = refl
counted-last false k false l = refl
counted-last true true true l = omega arith
counted-last true true false l = omega arith
counted-last true false true l = omega arith
counted-last true false false l = omega arith

standing-last : (u k n : Bool) (l : ℕ) → cond (u && not (k || n)) l 0 ≡ cond (not n) (cond (u && not (k || false)) l 0) 0
standing-last false k true l = refl
standing-last false k false l = refl
standing-last true true true l = refl
standing-last true true false l = refl
standing-last true false true l = refl
standing-last true false false l = refl

nought : (t : Bool) → ◌≡◌ {A = ℕ} (cond t 0 0) 0
nought true = refl
nought false = refl

-- a standing epoch has no pulses
covered-last : (u b n : Bool) (p : ℕ) → cond (u && (b || ltb 0 p || n)) p 0 ≡ cond (u && (b || ltb 0 p || false)) p 0
covered-last u b n zero = nought (u && (b || ltb 0 0 || n)) ∙ sym (nought (u && (b || ltb 0 0 || false)))
covered-last u true n (suc p) = refl
covered-last u false n (suc p) = let h : ltb 0 (suc p) ≡ true = lt-ltb 0 (suc p) (omega arith) in rw h

-- word 8
moved-is : (b : Bool) (n : ℕ) → n ≡ 0 → ltb 0 (n + (cond b 1 0 + 0)) ≡ b
moved-is true n h = rw h
moved-is false n h = rw h

-- ---- each total of a list of at least one epoch

module _ (limit : Float) (x : Epoch) (es : List Epoch) (e : Epoch) where
  sum-before : (test : PlacedEpoch → Bool) (f : Epoch → ℕ) → sum test f (in_places false (x ∷ es)) ≡ sum test f (front false x es) + (cond (test (at (earlier false x es) (final x es) false true)) (f (final x es)) 0 + 0)
  unfolding sum
  sum-before test f = ap (sum test f) (placed-ends false x es) ∙ sum-append test f (front false x es) (at (earlier false x es) (final x es) false true ∷ [])

  sum-after : (test : PlacedEpoch → Bool) (f : Epoch → ℕ)
      → sum test f (in_places false (x ∷ (es ++ (e ∷ []))))
      ≡ sum test f (front false x es) + (cond (test (at (earlier false x es) (final x es) (moves e) false)) (f (final x es)) 0 + (cond (test (at (moves (final x es)) e false true)) (f e) 0 + 0))
  unfolding sum
  sum-after test f =
      ap (sum test f) (placed-more false x es e)
      ∙ sum-append test f (front false x es) (at (earlier false x es) (final x es) (moves e) false ∷ at (moves (final x es)) e false true ∷ [])

  m : Mileage
  m = mileage_of limit (x ∷ es)

  n : Mileage
  n = mileage_of limit (x ∷ (es ++ (e ∷ [])))

  refused-more : n.refused ≡ m.refused + cond (is_refused e) 1 0
  unfolding m n mileage_of mileage_report
  refused-more = omega (arith, sum-before (λ p. is_refused p.epoch) (λ e. 1), sum-after (λ p. is_refused p.epoch) (λ e. 1))

  aside-more : n.aside ≡ m.aside + cond (is_aside limit e) 1 0
  unfolding m n mileage_of mileage_report
  aside-more = omega (arith, sum-before (λ p. is_aside limit p.epoch) (λ e. 1), sum-after (λ p. is_aside limit p.epoch) (λ e. 1))

  pulses-more : n.pulses ≡ m.pulses + e.pulses
  unfolding m n mileage_of mileage_report
  pulses-more = omega (arith, sum-before (λ p. true) (λ e. e.pulses), sum-after (λ p. true) (λ e. e.pulses))

  moved-last : ltb 0 m.moved ≡ moves (final x es)
  unfolding m mileage_of
  moved-last =
      ap (λ (k : ℕ). ltb 0 k) (sum-before (λ p. p.last && moves p.epoch) (λ e. 1))
      ∙ moved-is (moves (final x es)) (sum (λ p. p.last && moves p.epoch) (λ e. 1) (front false x es)) (front-none (λ p. moves p.epoch) (λ e. 1) false x es)

  moved_more : n.moved ≡ cond (moves e) 1 0
  unfolding n mileage_of
  moved_more = omega (arith, sum-after (λ p. p.last && moves p.epoch) (λ e. 1), front-none (λ p. moves p.epoch) (λ e. 1) false x es)

  -- the last epoch's length where it stands so far
  waiting-is : m.waiting ≡ cond (is_usable limit (final x es) && not (earlier false x es || moves (final x es) || false)) (length_of (final x es)) 0
  unfolding m mileage_of is_standing near_pulse
  waiting-is = omega (arith, sum-before (λ p. p.last && is_standing limit p) length_of, front-none (is_standing limit) length_of false x es)

  waiting-more : n.waiting ≡ cond (is_usable limit e && not (ltb 0 m.moved || moves e)) (length_of e) 0
  unfolding n mileage_of is_standing near_pulse
  waiting-more =
      rw (moved-last, sym (or-false (moves (final x es) || moves e)))
      (omega (arith, sum-after (λ p. p.last && is_standing limit p) length_of, front-none (is_standing limit) length_of false x es))

  counted-more : n.counted ≡ m.counted + cond (moves e) m.waiting 0 + cond (is_usable limit e && (ltb 0 m.moved || moves e)) (length_of e) 0
  unfolding m n mileage_of mileage_report is_counted near_pulse
  counted-more =
      rw (moved-last, waiting-is, sym (or-false (moves (final x es) || moves e)))
      (omega (arith, sum-before (is_counted limit) length_of, sum-after (is_counted limit) length_of, counted-last (is_usable limit (final x es)) (earlier false x es || moves (final x es)) (moves e) (length_of (final x es))))

  covered_more : n.covered ≡ m.covered + cond (is_usable limit e && (ltb 0 m.moved || moves e)) e.pulses 0
  unfolding m n mileage_of mileage_report is_counted near_pulse moves
  covered_more =
      rw (moved-last, sym (or-false (moves (final x es) || moves e)))
      (omega (arith, sum-before (is_counted limit) (λ e. e.pulses), sum-after (is_counted limit) (λ e. e.pulses), covered-last (is_usable limit (final x es)) (earlier false x es) (moves e) (final x es).pulses))

  standing-more : n.standing ≡ m.standing + cond (not (moves e)) m.waiting 0
  unfolding m n mileage_of is_standing near_pulse
  standing-more =
      rw waiting-is
      (omega (arith, sum-before (λ p. not p.last && is_standing limit p) length_of, sum-after (λ p. not p.last && is_standing limit p) length_of, standing-last (is_usable limit (final x es)) (earlier false x es || moves (final x es)) (moves e) (length_of (final x es))))

  length_more : length (x ∷ (es ++ (e ∷ []))) ≡ length (x ∷ es) + 1
  length_more = simp length-append (omega arith)

  more_than_one : n ≡ grown m (is_refused e) (is_usable limit e) (length_of e) e.pulses
  unfolding m n mileage_of mileage_report grown is_aside moves
  more_than_one = rw (length_more, refused-more, aside-more, counted-more, covered_more, standing-more, pulses-more, moved_more, waiting-more)

-- ---- the first epoch

first : (limit : Float) (e : Epoch) → mileage_of limit (e ∷ []) ≡ grown (mileage_of limit []) (is_refused e) (is_usable limit e) (length_of e) e.pulses
unfolding mileage_of mileage_report in_places next_moves no_epochs sum is_counted is_standing near_pulse is_aside moves grown
first limit e = simp (or-false, nought, add-zero, zero-add)

-- one epoch more
pub more : (limit : Float) (es : List Epoch) (e : Epoch) → mileage_of limit (es ++ (e ∷ [])) ≡ grown (mileage_of limit es) (is_refused e) (is_usable limit e) (length_of e) e.pulses
unfolding m n
more limit [] e = first limit e
more limit (x ∷ es) e = more_than_one limit x es e

-- the report counts what waits as standing
pub reported-of : (limit : Float) (es : List Epoch) → (mileage_report limit es).standing ≡ (mileage_of limit es).standing + (mileage_of limit es).waiting
unfolding mileage_of mileage_report
reported-of limit es = sum-parted (λ p. p.last) (is_standing limit) length_of (in_places false es)
