-- The first and the last sample that pass a test, in a table and in the series of a signal. Assumes nothing.
use mathlib.Core.Path.{◌≡◌, refl, sym, ap, ◌∙◌}
use mathlib.Core.List.{List, [], ◌∷◌, ◌++◌}
use mathlib.Core.Bool.{Bool, true, false, cond, not, ◌&&◌}
use Prim.Native.Nat.{ℕ, zero, suc, ◌<◌}
use native.Mathlib.Nat.{not-suc-le-zero, le_of_suc-le-suc}
use native.Mathlib.Omega.{arith}
use lib.ListN.{length, get_or}
use lib.Dec.{eqb}
use lib.Ieee.{Float, lt}
use Rattle.lists.specs.Walk.{collect}
use Rattle.corrections_table.specs.Table.{blank, signal_of, series_of}
use Rattle.corrections_table.specs.declared.sample.Sample.{Sample}
use Rattle.corrections_query.specs.Query.{Found, missing, the, first_of, last_of, sample_before, since, last_before, first_since}

-- ---- by their places
pub first-at : (q : Sample → Bool) (l : List Sample) (i : ℕ) → i < length l → ((j : ℕ) → j < i → q (get_or l j blank) ≡ false) → q (get_or l i blank) ≡ true → first_of q l ≡ the (get_or l i blank)
unfolding first_of
first-at q [] i h nay yea = absurd (not-suc-le-zero h)
first-at q (a ∷ l) zero h nay yea = rw yea
first-at q (a ∷ l) (suc i) h nay yea = rw (nay 0 (omega arith)) (first-at q l i (le_of_suc-le-suc h) (λ j g. nay (suc j) (omega arith)) yea)

pub first-none : (q : Sample → Bool) (l : List Sample) → ((j : ℕ) → j < length l → q (get_or l j blank) ≡ false) → first_of q l ≡ missing
unfolding first_of
first-none q [] nay = refl
first-none q (a ∷ l) nay = rw (nay 0 (omega arith)) (first-none q l (λ j g. nay (suc j) (omega arith)))

pub last_none : (q : Sample → Bool) (f : Found) (l : List Sample) → ((j : ℕ) → j < length l → q (get_or l j blank) ≡ false) → last_of q f l ≡ f
unfolding last_of
last_none q f [] nay = refl
last_none q f (a ∷ l) nay = rw (nay 0 (omega arith)) (last_none q f l (λ j g. nay (suc j) (omega arith)))

pub last-at : (q : Sample → Bool) (f : Found) (l : List Sample) (i : ℕ) → i < length l → q (get_or l i blank) ≡ true → ((j : ℕ) → i < j → j < length l → q (get_or l j blank) ≡ false) → last_of q f l ≡ the (get_or l i blank)
unfolding last_of
last-at q f [] i h yea nay = absurd (not-suc-le-zero h)
last-at q f (a ∷ l) zero h yea nay = rw yea (last_none q (the a) l (λ j g. nay (suc j) (omega arith) (omega arith)))
last-at q f (a ∷ l) (suc i) h yea nay = last-at q (cond (q a) (the a) f) l i (le_of_suc-le-suc h) yea (λ j g k. nay (suc j) (omega arith) (omega arith))

-- ---- in a series
-- the first sample of the signal that passes a test is the first of its series
pub first_series : (test : Sample → Bool) (g : ℕ) (l : List Sample) → first_of (λ s. eqb (signal_of s) g && test s) l ≡ first_of test (series_of g l)
unfolding first_of collect
first_series test g [] = refl
first_series test g (a ∷ l) = go (eqb (signal_of a) g) (test a) refl (first_series test g l)
  where
    go : (x y : Bool) → test a ≡ y → first_of (λ s. eqb (signal_of s) g && test s) l ≡ first_of test (series_of g l)
        → cond (x && y) (the a) (first_of (λ s. eqb (signal_of s) g && test s) l) ≡ first_of test (cond x (a ∷ []) [] ++ series_of g l)
    go true true e ih = rw e
    go true false e ih = rw e ih
    go false y e ih = ih

-- and the last the last
pub last_series : (test : Sample → Bool) (g : ℕ) (f : Found) (l : List Sample) → last_of (λ s. eqb (signal_of s) g && test s) f l ≡ last_of test f (series_of g l)
unfolding last_of collect
last_series test g f [] = refl
last_series test g f (a ∷ l) = go (eqb (signal_of a) g) (test a) refl (λ h. last_series test g h l)
  where
    go : (x y : Bool) → test a ≡ y → ((h : Found) → last_of (λ s. eqb (signal_of s) g && test s) h l ≡ last_of test h (series_of g l))
        → last_of (λ s. eqb (signal_of s) g && test s) (cond (x && y) (the a) f) l ≡ last_of test f (cond x (a ∷ []) [] ++ series_of g l)
    go true y e ih = ih (cond y (the a) f) ∙ ap (λ (b : Bool). last_of test (cond b (the a) f) (series_of g l)) (sym e)
    go false y e ih = ih f

-- a sample of the signal g before the time t
abbrev pub earlier : ℕ → Float → Sample → Bool
earlier g t s = eqb (signal_of s) g && lt s.time t

-- a sample of the signal g at or after the time t
abbrev pub later : ℕ → Float → Sample → Bool
later g t s = eqb (signal_of s) g && not (lt s.time t)

pub earlier_series : (g : ℕ) (t : Float) (l : List Sample) → last_before t (series_of g l) ≡ last_of (earlier g t) missing l
earlier_series g t l = sym (last_series (sample_before t) g missing l)

pub later_series : (g : ℕ) (t : Float) (l : List Sample) → first_since t (series_of g l) ≡ first_of (later g t) l
later_series g t l = sym (first_series (since t) g l)
