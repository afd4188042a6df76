-- The table of correction samples in lent columns: its rows, its order, when it is sound, and the series of one signal. Definitions only.
use Rattle.std.specs.Prelude.{ℕ, min, Bool, true, cond, not, ◌&&◌, ◌||◌, List, [], ◌∷◌, ltb, eqb, length, take, Float}
use Rattle.std.specs.Float.{nan}
use Rattle.lists.specs.Walk.{every, collect}
use Rattle.signal.specs.Signal.{signal}
use Rattle.numeric.specs.Order.{total_order, pattern_of}
use Rattle.numeric.specs.Real.{in_range}
use Rattle.corrections_table.specs.declared.sample.Sample.{Sample}

-- ---- the columns

-- the lent columns of a table
pub record Columns : Type 0 where
  pub constellations : List ℕ
  pub svids : List ℕ
  pub bands : List ℕ
  pub times : List Float
  pub corrections : List Float

-- the columns as a call is lent them
abbrev pub lent_samples : List ℕ → List ℕ → List ℕ → List Float → List Float → Columns
lent_samples cs vs bs ts xs = record { constellations = cs; svids = vs; bands = bs; times = ts; corrections = xs }

-- the samples that lie side by side in five columns: as many as the shortest has
unfoldable pub beside : List ℕ → List ℕ → List ℕ → List Float → List Float → List Sample
beside [] vs bs ts xs = []
beside (c ∷ cs) [] bs ts xs = []
beside (c ∷ cs) (v ∷ vs) [] ts xs = []
beside (c ∷ cs) (v ∷ vs) (b ∷ bs) [] xs = []
beside (c ∷ cs) (v ∷ vs) (b ∷ bs) (t ∷ ts) [] = []
beside (c ∷ cs) (v ∷ vs) (b ∷ bs) (t ∷ ts) (x ∷ xs) =
    record { constellation = c; svid = v; band = b; time = t; correction = x } ∷ beside cs vs bs ts xs

-- the rows of the columns
unfoldable pub rows : Columns → List Sample
rows l = beside l.constellations l.svids l.bands l.times l.corrections

-- what a read past the end gives
abbrev pub blank : Sample
blank = record { constellation = 0; svid = 0; band = 0; time = nan; correction = nan }

-- docs/REFUSALS.md, 11: the capacity is the shortest lent column, at most 2,048
abbrev pub capacity : Columns → ℕ
capacity l = min 2048 (length (rows l))

-- the table: the first n rows
abbrev pub table_of : ℕ → Columns → List Sample
table_of n l = take n (rows l)

-- ---- the order by constellation, svid, band and time

abbrev pub signal_of : Sample → ℕ
signal_of s = signal s.constellation s.svid s.band

-- the time t comes before u in total_order, and is not u
unfoldable pub time_before : Float → Float → Bool
time_before t u = not (total_order (pattern_of u) (pattern_of t))

-- the sample a precedes b: by its signal, and where the signals are equal by its time
unfoldable pub stands_before : Sample → Sample → Bool
stands_before a b = ltb (signal_of a) (signal_of b) || (eqb (signal_of a) (signal_of b) && time_before a.time b.time)

-- none precedes the one ahead of it, which is p for the first
unfoldable pub sorted_from : Sample → List Sample → Bool
sorted_from p [] = true
sorted_from p (s ∷ ss) = not (stands_before s p) && sorted_from s ss

-- equals are allowed
unfoldable pub sorted : List Sample → Bool
sorted [] = true
sorted (s ∷ ss) = sorted_from s ss

-- ---- docs/REFUSALS.md, 4

-- time and correction are finite and not above 1e9 in magnitude
unfoldable pub ranged : Sample → Bool
ranged s = in_range s.time && in_range s.correction

unfoldable pub sound_table : List Sample → Bool
sound_table ss = every ranged ss && sorted ss

-- ---- one satellite's series

-- the sample where it is of the signal g
abbrev pub of_signal : ℕ → Sample → List Sample
of_signal g s = cond (eqb (signal_of s) g) (s ∷ []) []

-- the samples of the signal g, in the order in which they stand
abbrev pub series_of : ℕ → List Sample → List Sample
series_of g ss = collect (of_signal g) ss
